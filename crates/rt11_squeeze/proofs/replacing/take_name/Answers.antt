use Rattle.std.proofs.Common.{sym, subst, arith}
use Rattle.std.proofs.lemmas.Result.{on_ok_weaker}
use Rattle.rt11_volume.specs.Entry.{renamed_entry}
use Rattle.rt11_squeeze.specs.Kept.{volume_disk}
use Rattle.rt11_squeeze.specs.Replacing.{TakesName}
use Rattle.rt11_squeeze.proofs.CallLemmas.{next-of, on-refusal}
use Rattle.rt11_squeeze.proofs.ReplaceLemmas.{change-went, fails-protecting, fails-renaming, take-went, takes, takes-protected}
use Rattle.rt11_squeeze.proofs.replacing.take_name.Goals as goal

pub returns-in-Err-clause-went : goal.returns-in-Err-clause-went
returns-in-Err-clause-went g c =
    change-went g.D.Device.disk c.args.name.now c.args.volume.now (renamed_entry c.args.other.now) 126 189 _ c.rename.new.self (omega arith)
    c.in-Err.ensures.went

pub returns-in-Err-clause-refused : goal.returns-in-Err-clause-refused
returns-in-Err-clause-refused g c =
    fails-renaming g.D.Device.disk c.args.name.now c.args.other.now c.args.volume.now c.in-Err.refusal c.rename.new.self c.requires.fresh
    c.in-Err.ensures.answers c.in-Err.ensures.refused

pub returns-then-protect-clause-went : goal.returns-then-protect-clause-went
returns-then-protect-clause-went g c =
    take-went g.D.Device.disk c.args.name.now c.args.other.now c.args.volume.now c.rename.new.self c.words.ensures.name
    c.in-Ok.ensures.went c.in-Ok.ensures.renamed _ c.protect.new.self c.protect.ensures.went

pub returns-then-protect-clause-taken : goal.returns-then-protect-clause-taken
returns-then-protect-clause-taken g c =
    let disk = g.D.Device.disk in
    on_ok_weaker c.protect.result
    (λ protects.
    subst (λ b. TakesName c.args.name.now c.args.other.now b (volume_disk disk c.args.volume.now) (volume_disk disk c.protect.new.self))
    (sym c.if-protect.true)
    (takes-protected disk c.args.name.now c.args.other.now c.args.volume.now c.rename.new.self c.words.ensures.name
    c.in-Ok.ensures.went c.in-Ok.ensures.renamed _ c.protect.new.self c.protect.ensures.went protects))
    c.protect.ensures.protected

pub returns-then-protect-clause-refused : goal.returns-then-protect-clause-refused
returns-then-protect-clause-refused g c =
    let disk = g.D.Device.disk in
    on-refusal disk _ _ c.protect.result c.rename.new.self c.protect.new.self
    (λ e. fails-protecting disk c.args.name.now c.args.other.now c.args.volume.now c.rename.new.self c.words.ensures.name
    c.in-Ok.ensures.went c.in-Ok.ensures.renamed e c.protect.new.self
    (next-of disk _ c.args.volume.now c.rename.new.self c.in-Ok.ensures.answers c.requires.fresh))
    c.protect.ensures.answers c.protect.ensures.refused

pub returns-else-protect-clause-went : goal.returns-else-protect-clause-went
returns-else-protect-clause-went g c =
    change-went g.D.Device.disk c.args.name.now c.args.volume.now (renamed_entry c.args.other.now) 126 189 _ c.rename.new.self (omega arith)
    c.in-Ok.ensures.went

pub returns-else-protect-clause-taken : goal.returns-else-protect-clause-taken
returns-else-protect-clause-taken g c =
    let disk = g.D.Device.disk in
    subst (λ b. TakesName c.args.name.now c.args.other.now b (volume_disk disk c.args.volume.now) (volume_disk disk c.rename.new.self))
    (sym c.if-protect.false)
    (takes disk c.args.name.now c.args.other.now c.args.volume.now c.rename.new.self c.words.ensures.name
    c.in-Ok.ensures.went c.in-Ok.ensures.renamed)
