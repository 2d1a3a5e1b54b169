use Rattle.std.proofs.Common.{subst}
use Rattle.f11_vfy.specs.Surveying.Extent.{LieAs}
use Rattle.f11_vfy.proofs.Surveying.Extents.{scattered-behind, run-joins, run-apart}
use Rattle.f11_vfy.proofs.survey.extent.join_run.Goals as goal

pub returns-then-next-end : goal.returns-then-next-end
returns-then-next-end c = λ front back one other. run-joins front back _ _ _ _ c.if-next-end.true one (subst (LieAs back) c.in-Run.is other)

pub returns-else-next-end : goal.returns-else-next-end
returns-else-next-end c =
    λ front back one other. run-apart front back _ _ _ _ c.if-next-end.false one (subst (LieAs back) c.in-Run.is other)

pub returns-in-Scattered : goal.returns-in-Scattered
returns-in-Scattered c = λ front back one other. scattered-behind front back (subst (LieAs back) c.in-Scattered.is other)
