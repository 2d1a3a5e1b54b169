use Rattle.std.proofs.Common.{refl}
use Rattle.f11_fcp.proofs.ListLemmas.{all-answered, all-served, all-tasks, each-beside, keeps-costs, keeps-locks, serves-more, serves-run}
use Rattle.f11_fcp.proofs.volume.Volume.run.Goals as goal

pub loop-call-init : goal.loop-call-init
loop-call-init g c = (refl, refl)

pub loop-call-preserved : goal.loop-call-preserved
loop-call-preserved g c = serves-more _ _ _ _ _ _ _ _ _ c.loop-call-test.true c.loop-call.invariant refl c.serve_call.ensures

pub returns-clause-answered : goal.returns-clause-answered
returns-clause-answered g c = all-answered _ _ _ _ _ c.loop-call-test.false c.loop-call.invariant

pub returns-clause-served : goal.returns-clause-served
returns-clause-served g c = all-served _ _ _ _ _ c.loop-call-test.false c.loop-call.invariant

pub returns-clause-run : goal.returns-clause-run
returns-clause-run g c = serves-run _ _ _ _ (returns-clause-served g c)

pub returns-clause-locked : goal.returns-clause-locked
returns-clause-locked g c =
    keeps-locks _ _ _ _ (all-tasks _ _ _ _ _ c.loop-call-test.false c.loop-call.invariant) (returns-clause-served g c)

pub returns-clause-costs : goal.returns-clause-costs
returns-clause-costs g c = keeps-costs _ _ _ _ (returns-clause-served g c)

pub returns-clause-lost : goal.returns-clause-lost
returns-clause-lost g c = each-beside _ _ _ _ (returns-clause-served g c)
