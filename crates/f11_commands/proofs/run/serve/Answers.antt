use Rattle.f11_commands.proofs.RunLemmas.{ends-serving}
use Rattle.f11_commands.proofs.run.serve.Goals as goal

pub returns-in-Ok : goal.returns-in-Ok
returns-in-Ok g c = record {
  serves =
      ends-serving (g.D.Device.disk c.args.accepted.device) c.in-Ok.volume c.run_script-served.new.volume (g.R.Read.remaining c.args.script)
      g.W.Write.contents
      c.args.writer.now c.run_script-served.new.writer c.run_script-served.result c.in-Ok.ensures.mounts c.run_script-served.ensures.serves
      c.run_script-served.ensures.answers c.run_script-served.ensures.run
      c.run_script-served.ensures.accepted c.run_script-served.ensures.lost (g.met.D.Device.is_image c.args.accepted.device)
      c.args.accepted.accepted (g.D.Device.disk c.dismount.result.0) c.dismount.result.1 c.dismount.ensures.ends;
}
