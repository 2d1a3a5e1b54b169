use Rattle.std.proofs.Common.{false, refl, sym, subst, arith}
use Rattle.std.proofs.lemmas.Result.{on_ok_weaker}
use Rattle.rt11_volume.specs.Entry.{protected_entry}
use Rattle.rt11_squeeze.specs.Kept.{volume_disk}
use Rattle.rt11_squeeze.specs.Replacing.{FailsToRemove}
use Rattle.rt11_squeeze.proofs.CallLemmas.{next-of, on-refusal}
use Rattle.rt11_squeeze.proofs.ReplaceLemmas.{change-went, deletes, fails-deleting, fails-removing, fails-unprotecting}
use Rattle.rt11_squeeze.proofs.ReplaceLemmas.{remove-went, removes}
use Rattle.rt11_squeeze.proofs.replacing.remove.Goals as goal

pub returns-then-not-protected-clause-removed : goal.returns-then-not-protected-clause-removed
returns-then-not-protected-clause-removed g c =
    on_ok_weaker c.delete.result
    (deletes g.D.Device.disk c.args.name.now c.args.volume.now _ c.delete.new.self c.delete.ensures.went) c.delete.ensures.deleted

pub returns-then-not-protected-clause-refused : goal.returns-then-not-protected-clause-refused
returns-then-not-protected-clause-refused g c =
    let disk = g.D.Device.disk in
    on-refusal disk _ _ c.delete.result c.args.volume.now c.delete.new.self
    (λ e a why.
    subst (λ b. FailsToRemove c.args.name.now b e (volume_disk disk c.args.volume.now)) (sym c.if-not-protected.true)
    (fails-deleting disk c.args.name.now c.args.volume.now e c.delete.new.self c.requires.fresh a why))
    c.delete.ensures.answers c.delete.ensures.refused

pub returns-in-Ok-clause-went : goal.returns-in-Ok-clause-went
returns-in-Ok-clause-went g c =
    remove-went g.D.Device.disk c.args.name.now c.args.volume.now false c.protect.new.self c.in-Ok.ensures.went c.in-Ok.ensures.protected _
    c.delete-in-Ok.new.self c.delete-in-Ok.ensures.went

pub returns-in-Ok-clause-removed : goal.returns-in-Ok-clause-removed
returns-in-Ok-clause-removed g c =
    on_ok_weaker c.delete-in-Ok.result
    (removes g.D.Device.disk c.args.name.now c.args.volume.now false c.protect.new.self c.in-Ok.ensures.went c.in-Ok.ensures.protected _
    c.delete-in-Ok.new.self c.delete-in-Ok.ensures.went)
    c.delete-in-Ok.ensures.deleted

pub returns-in-Ok-clause-refused : goal.returns-in-Ok-clause-refused
returns-in-Ok-clause-refused g c =
    let disk = g.D.Device.disk in
    on-refusal disk _ _ c.delete-in-Ok.result c.protect.new.self c.delete-in-Ok.new.self
    (λ e. fails-removing disk c.args.name.now c.args.volume.now false c.protect.new.self c.in-Ok.ensures.went c.in-Ok.ensures.protected refl
    c.args.protected e c.delete-in-Ok.new.self
    (next-of disk _ c.args.volume.now c.protect.new.self c.in-Ok.ensures.answers c.requires.fresh))
    c.delete-in-Ok.ensures.answers c.delete-in-Ok.ensures.refused

pub returns-in-Err-clause-went : goal.returns-in-Err-clause-went
returns-in-Err-clause-went g c =
    change-went g.D.Device.disk c.args.name.now c.args.volume.now (protected_entry false) 63 127 _ c.protect.new.self (omega arith)
    c.in-Err.ensures.went

pub returns-in-Err-clause-refused : goal.returns-in-Err-clause-refused
returns-in-Err-clause-refused g c =
    fails-unprotecting g.D.Device.disk c.args.name.now c.args.volume.now c.args.protected c.in-Err.refusal c.protect.new.self
    c.requires.fresh c.in-Err.ensures.answers c.in-Err.ensures.refused
