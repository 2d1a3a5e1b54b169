use Rattle.std.proofs.Common.{subst}
use Rattle.f11_vfy.specs.Surveying.Extent.{LieAs}
use Rattle.f11_vfy.proofs.Surveying.Extents.{scattered-front}
use Rattle.f11_vfy.proofs.survey.extent.Extent.join.Goals as goal

pub returns-in-Run : goal.returns-in-Run
returns-in-Run c = λ front back one other. c.join_run.ensures front back (subst (LieAs front) c.in-Run.is one) other

pub returns-in-Scattered : goal.returns-in-Scattered
returns-in-Scattered c = λ front back one other. scattered-front front back (subst (LieAs front) c.in-Scattered.is one)
