use Rattle.f11_commands.specs.PutCommand.{hosts}
use Rattle.f11_commands.proofs.PutLemmas.{ends-accepted}
use Rattle.f11_commands.proofs.put.put_accepted.Goals as goal

pub returns-in-Ok : goal.returns-in-Ok
returns-in-Ok g c = record {
  ends =
      ends-accepted c.args.put.now c.args.bytes (hosts (g.R.Read.remaining c.args.host.now) (g.R.Read.remaining c.args.again.now))
      c.put_by_name-made.result
      (hosts (g.R.Read.remaining c.put_by_name-made.new.host) (g.R.Read.remaining c.put_by_name-made.new.again))
      (g.D.Device.disk c.args.accepted.device) c.in-Ok.volume c.put_by_name-made.new.volume c.in-Ok.ensures.mounts
      (g.met.D.Device.is_image c.args.accepted.device) c.args.accepted.accepted
      c.put_by_name-made.ensures.puts c.tell_kept.result.1 g.W.Write.contents c.args.writer.now c.tell_kept.new.writer
      (g.D.Device.disk c.tell_kept.result.0) (g.D.Device.disk c.dismount.result) (λ i. g.D.Device.disk (c.dismount.ensures i))
      c.tell_kept.ensures.tells;
}
