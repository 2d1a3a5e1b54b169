use Rattle.f11_findings.proofs.FoundLemmas.{among-none, among-all, among-more}
use Rattle.f11_vfy.proofs.findings.contiguous.add_apart.Goals as goal

pub loop-k-init : goal.loop-k-init
loop-k-init c = λ t keeps knows. among-none _ _ _

pub loop-k-preserved : goal.loop-k-preserved
loop-k-preserved c =
    λ t keeps knows. among-more _ _ c.loop-k.k c.is_apart-holds.result _ _ _ (c.loop-k.invariant t keeps knows)
    (c.is_apart-holds.ensures t keeps knows) c.in_ok-add_if.ensures.adds

pub returns : goal.returns
returns c = λ t keeps knows. among-all _ _ c.loop-k.k _ _ _ c.loop-k.auto.k-end c.loop-k-test.false (c.loop-k.invariant t keeps knows)
