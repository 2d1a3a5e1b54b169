use Rattle.f11_actions.proofs.CommandLemmas.{ends-actions}
use Rattle.f11_actions.proofs.command.print_actions.Goals as goal

pub returns-in-Ok : goal.returns-in-Ok
returns-in-Ok g c = record {
  ends =
      ends-actions c.args.behind c.args.actions.now c.act_on_accepted.result.1 g.W.Write.contents c.args.writer.now
      c.accept_files.new.writer
      c.act_on_accepted.new.writer (g.D.Device.disk c.args.device) (g.D.Device.disk c.in-Ok.accepted.device)
      (g.D.Device.disk c.act_on_accepted.result.0) c.in-Ok.ensures.accepted c.act_on_accepted.ensures.ends;
}
