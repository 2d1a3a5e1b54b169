use Rattle.f11_commands.specs.PutCommand.{hosts}
use Rattle.f11_commands.proofs.PutLemmas.{ends-putting}
use Rattle.f11_commands.proofs.put.print_put.Goals as goal

pub returns-in-Ok : goal.returns-in-Ok
returns-in-Ok g c = record {
  ends =
      ends-putting c.args.put.now c.args.bytes (hosts (g.R.Read.remaining c.args.host.now) (g.R.Read.remaining c.args.again.now))
      (hosts (g.R.Read.remaining c.put_accepted.new.host) (g.R.Read.remaining c.put_accepted.new.again)) c.put_accepted.result.1
      g.W.Write.contents c.args.writer.now c.accept_files.new.writer c.put_accepted.new.writer (g.D.Device.disk c.args.device)
      (g.D.Device.disk c.in-Ok.accepted.device) (g.D.Device.disk c.put_accepted.result.0) c.in-Ok.ensures.accepted
      c.put_accepted.ensures.ends;
}
