use Rattle.std.proofs.Common.{◌∙◌, Ok, Err, inl, inr, refl, sym, ap, if◌then◌else◌}
use Rattle.f11_flx.proofs.RtFiles.TargetLemmas.{deletes, fails-deleting}
use Rattle.f11_commands.specs.declared.rt_file.Stop.TheVariants.{Volume, Host}
use Rattle.f11_flx.proofs.RtFiles.TargetLemmas.{transfers}
use Rattle.f11_commands.proofs.rt_put.filling.undo.Goals as goal

pub returns-in-Ok : goal.returns-in-Ok
returns-in-Ok g c =
    let e = c.in-Ok.ensures in
    record {
      undoes = inl (record {
        stop_is = refl;
        deleted = deletes g.D.Device.disk c.args.volume.now c.delete.new.self c.args.name.now _ (Ok tt) e.answers e.went e.deleted;
        went = transfers _ e.went;
      });
    }

pub returns-then-is_fault : goal.returns-then-is_fault
returns-then-is_fault g c =
    let e = c.in-Err.ensures in
    record {
      undoes = inr (record {
        e = c.in-Err.refusal;
        stop_is = ap (λ b. if b then Volume c.in-Err.refusal else Host) (sym (sym c.is_fault.ensures ∙ c.if-is_fault.true));
        refused = fails-deleting g.D.Device.disk c.args.volume.now c.delete.new.self c.args.name.now _ _ (Err c.in-Err.refusal) e.answers
            e.went e.refused e.kept;
        went = transfers _ e.went;
      });
    }

pub returns-else-is_fault : goal.returns-else-is_fault
returns-else-is_fault g c =
    let e = c.in-Err.ensures in
    record {
      undoes = inr (record {
        e = c.in-Err.refusal;
        stop_is = ap (λ b. if b then Volume c.in-Err.refusal else Host) (sym (sym c.is_fault.ensures ∙ c.if-is_fault.false));
        refused = fails-deleting g.D.Device.disk c.args.volume.now c.delete.new.self c.args.name.now _ _ (Err c.in-Err.refusal) e.answers
            e.went e.refused e.kept;
        went = transfers _ e.went;
      });
    }
