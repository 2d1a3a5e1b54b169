use Rattle.std.proofs.Common.{Bool, Ok, inl, inr, refl, subst}
use Rattle.f11_commands.specs.DirectoryRecords.{FindsRecords}
use Rattle.f11_actions.specs.Deletion.EndsDeletion.{deletes, failed, kept}
use Rattle.f11_actions.proofs.deletion.print_deletion.Goals as goal

pub returns-in-Ok-Ok-true : goal.returns-in-Ok-Ok-true
returns-in-Ok-Ok-true g c =
    let told = rw c.in-Ok-Ok-true.field-0-is at c.in-Ok-Ok-true.ensures.told in
    record {
      ends =
          kept _
          (subst
          (λ (some : Bool). FindsRecords c.args.directory c.args.name (Ok some) (g.D.Device.disk c.args.device)
          (g.D.Device.disk c.leads_to_records.new.device))
          c.in-Ok-Ok-true.field-0-0-test told)
          c.keep.ensures.ends;
    }

pub returns-in-Ok-Ok-false : goal.returns-in-Ok-Ok-false
returns-in-Ok-Ok-false g c =
    let told = rw c.in-Ok-Ok-false.field-0-is at c.in-Ok-Ok-false.ensures.told in
    record {
      ends =
          deletes _
          (inl
          (subst
          (λ (some : Bool). FindsRecords c.args.directory c.args.name (Ok some) (g.D.Device.disk c.args.device)
          (g.D.Device.disk c.leads_to_records.new.device))
          c.in-Ok-Ok-false.field-0-0-test told))
          c.print_actions.ensures.ends;
    }

pub returns-in-Ok-Err : goal.returns-in-Ok-Err
returns-in-Ok-Err g c = record {
  ends = deletes _ (inr (_, rw c.in-Ok-Err.field-0-is at c.in-Ok-Err.ensures.none)) c.print_actions-in-Ok-Err.ensures.ends;
}

pub returns-in-Err : goal.returns-in-Err
returns-in-Err g c = record { ends = failed c.in-Err.failure c.in-Err.ensures.failed refl refl }
