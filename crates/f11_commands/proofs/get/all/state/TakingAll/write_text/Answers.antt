use Rattle.std.proofs.lemmas.Result.{on_ok_weaker}
use Rattle.f11_commands.proofs.AllLemmas.{leaves-text}
use Rattle.f11_commands.proofs.get.all.state.TakingAll.write_text.Goals as goal

pub returns-in-Missing-clause-takes : goal.returns-in-Missing-clause-takes
returns-in-Missing-clause-takes g c =
    on_ok_weaker c.leave_out.result
    (leaves-text c.args.found.now.place c.args.found.now.content c.args.beside g.D.Device.disk c.args.self.now _ g.H.Write.contents
    c.args.host.now g.W.Write.contents c.args.writer.now _ c.in-Missing.absence c.id.result c.in-Missing.is c.id.ensures)
    c.leave_out.ensures.leaves
