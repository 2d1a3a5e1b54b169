use Rattle.std.proofs.Common.{refl}
use Rattle.f11_commands.proofs.UpdateLemmas.{ends-update, verified-behind}
use Rattle.f11_commands.proofs.update.print_vfy_update.Goals as goal

pub print_updated-requires : goal.print_updated-requires
print_updated-requires g c =
    let report = rw c.in-Ok-Accepted.field-0-is at c.in-Ok-Accepted.ensures.report in
    verified-behind _ _ _ report

pub returns-in-Ok : goal.returns-in-Ok
returns-in-Ok g c =
    let report = rw c.in-Ok-Accepted.field-0-is at c.in-Ok-Accepted.ensures.report in
    record {
      ends =
          ends-update c.print_updated.result.1 (g.D.Device.disk c.args.device) (g.D.Device.disk c.print_updated.result.0)
          g.W.Write.contents c.args.writer.now c.print_updated.new.writer (record {
            between = _;
            reported = c.write_accepted.new.writer;
            report = record { faults = _; notes = _; examines = report; verdict = refl; takes = c.in-Ok.ensures.lines };
            reclaiming = c.print_updated.ensures.ends;
          });
    }
