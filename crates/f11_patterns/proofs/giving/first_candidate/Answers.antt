use Rattle.f11_patterns.specs.Giving.{is_free}
use Rattle.f11_patterns.proofs.GivingLemmas.{behind-none, candidate-here, candidate-later, candidate-nowhere}
use Rattle.f11_patterns.proofs.giving.first_candidate.Goals as goal

pub loop-number-init : goal.loop-number-init
loop-number-init g c = behind-none (is_free g.K.HostNaming.naming c.args.there.now c.args.part.now)

pub returns-then-not-is_there : goal.returns-then-not-is_there
returns-then-not-is_there g c =
    candidate-here g.K.HostNaming.naming c.args.there.now c.args.part.now c.loop-number.number c.candidate-name.result c.is_there.result
    c.loop-number-test.true c.candidate-name.ensures.candidate c.is_there.ensures c.if-not-is_there.true c.loop-number.invariant

pub loop-number-preserved : goal.loop-number-preserved
loop-number-preserved g c =
    candidate-later g.K.HostNaming.naming c.args.there.now c.args.part.now c.loop-number.number c.candidate-name.result c.is_there.result
    c.loop-number-test.true c.candidate-name.ensures.candidate c.is_there.ensures c.if-not-is_there.false c.loop-number.invariant

pub returns : goal.returns
returns g c =
    candidate-nowhere g.K.HostNaming.naming c.args.there.now c.args.part.now c.loop-number.number c.loop-number-test.false
    c.loop-number.invariant
