use Rattle.std.proofs.lemmas.Result.{on_ok_weaker}
use Rattle.rt11_squeeze.specs.Kept.{volume_disk}
use Rattle.rt11_squeeze.proofs.CallLemmas.{on-refusal}
use Rattle.rt11_copy.proofs.MakeLemmas.{makes-protected, protect-went, unprotected-fails}
use Rattle.rt11_copy.proofs.making.make_file.Goals as goal

pub returns-then-entry-clause-went : goal.returns-then-entry-clause-went
returns-then-entry-clause-went g c =
    let disk = g.D.Device.disk in
    protect-went c.args.name.now c.args.date c.args.blocks.now (volume_disk disk c.args.volume.now)
    (volume_disk disk c.make_copy.new.volume) c.in-Ok.ensures.copied c.args.entry.now.blocks _ (volume_disk disk c.protect.new.self)
    c.in-Ok.ensures.went c.protect.ensures.went

pub returns-then-entry-clause-made : goal.returns-then-entry-clause-made
returns-then-entry-clause-made g c =
    let disk = g.D.Device.disk in
    on_ok_weaker c.protect.result
    (makes-protected c.args.name.now c.args.date c.args.blocks.now (volume_disk disk c.args.volume.now)
    (volume_disk disk c.make_copy.new.volume) c.in-Ok.ensures.copied c.args.entry.now.protected _ (volume_disk disk c.protect.new.self)
    c.if-entry.true c.protect.ensures.went)
    c.protect.ensures.protected

pub returns-then-entry-clause-refused : goal.returns-then-entry-clause-refused
returns-then-entry-clause-refused g c =
    let disk = g.D.Device.disk in
    on-refusal disk _ _ c.protect.result c.make_copy.new.volume c.protect.new.self
    (λ e. unprotected-fails disk c.args.name.now c.args.date c.args.blocks.now c.args.volume.now c.make_copy.new.volume
    c.in-Ok.ensures.copied c.args.entry.now.blocks e c.protect.new.self c.in-Ok.ensures.next)
    c.protect.ensures.answers c.protect.ensures.refused
