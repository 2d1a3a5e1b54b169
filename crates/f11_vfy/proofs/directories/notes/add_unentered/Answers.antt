use Rattle.f11_findings.proofs.FoundLemmas.{among-none, among-all, among-more}
use Rattle.f11_vfy.proofs.directories.notes.add_unentered.Goals as goal

pub loop-k-init : goal.loop-k-init
loop-k-init c = among-none _ _ _

pub loop-k-preserved : goal.loop-k-preserved
loop-k-preserved c =
    among-more _ _ c.loop-k.k c.is_unentered-holds.result _ _ _ c.loop-k.invariant c.is_unentered-holds.ensures c.in_ok-add_if.ensures.adds

pub returns : goal.returns
returns c = among-all _ _ c.loop-k.k _ _ _ c.loop-k.auto.k-end c.loop-k-test.false c.loop-k.invariant
