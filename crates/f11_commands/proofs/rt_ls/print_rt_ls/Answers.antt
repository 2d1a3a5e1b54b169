use Rattle.std.proofs.Common.{IfOk, Result, subst, sym}
use Rattle.f11_commands.specs.RtLs.{ListsRt}
use Rattle.f11_commands.specs.declared.outcome.Failure.{Failure}
use Rattle.f11_commands.specs.declared.rt_any.RtServed.{RtServed}
use Rattle.f11_commands.proofs.RtAnyLemmas.{unserved-lists}
use Rattle.f11_commands.proofs.rt_ls.print_rt_ls.Goals as goal

pub returns-clause-lists : goal.returns-clause-lists
returns-clause-lists g c =
    let old = g.D.Device.disk c.args.device in
    let new = g.D.Device.disk c.read_volume.new.device in
    subst (λ (r : Result RtServed Failure). IfOk r (λ (served : RtServed).
    ListsRt served old new g.W.Write.contents c.args.writer.now c.read_volume.new.writer)) (sym c.served-in-Err.ensures)
    (unserved-lists old new g.W.Write.contents c.args.writer.now c.read_volume.new.writer c.in-Err.told c.in-Err.ensures.ended)
