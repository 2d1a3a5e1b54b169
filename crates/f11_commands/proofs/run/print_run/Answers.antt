use Rattle.f11_commands.proofs.RunLemmas.{ends-behind, ends-unwritten}
use Rattle.f11_commands.proofs.run.print_run.Goals as goal

pub returns-in-Ok-Accepted : goal.returns-in-Ok-Accepted
returns-in-Ok-Accepted g c =
    let report = rw c.in-Ok-Accepted.field-0-is at c.in-Ok-Accepted.ensures.judged in
    record {
      runs =
          ends-behind (g.R.Read.remaining c.args.script) g.W.Write.contents c.args.writer.now c.serve.new.writer
          (g.D.Device.disk c.args.device) _ _ report.looked.looked (g.D.Device.disk c.serve.result.0) c.serve.result.1
          c.serve.ensures.serves;
    }

pub returns-in-Ok-Faulty : goal.returns-in-Ok-Faulty
returns-in-Ok-Faulty g c =
    let report = rw c.in-Ok-Faulty.field-0-is at c.in-Ok-Faulty.ensures.judged in
    record {
      runs =
          ends-unwritten (g.R.Read.remaining c.args.script) g.W.Write.contents c.args.writer.now c.write_faulty.new.writer
          (g.D.Device.disk c.args.device) (g.D.Device.disk c.in-Ok-Faulty.device)
          c.into.result c.in-Err.failure c.into.ensures c.in-Err.ensures.failed
          (c.in-Ok-Faulty.faults, c.in-Ok-Faulty.notes, report.0, report.1);
    }
