use Rattle.std.proofs.Common.{◌∙◌, arith}
use Rattle.std.proofs.lemmas.List.{get_or_default}
use Rattle.f11_findings.proofs.FoundLemmas.{among-none, among-all, among-more}
use Rattle.f11_vfy.proofs.findings.scans.add_headers.Goals as goal

pub loop-k-init : goal.loop-k-init
loop-k-init c = among-none _ _ _

pub loop-k-preserved : goal.loop-k-preserved
loop-k-preserved c =
    let next = c.index.ensures
    ∙ get_or_default c.args.chains.now.nexts.items c.loop-k.k c.index.result.now 0
    (omega (arith, c.requires.sized.nexts, c.loop-k-test.true)) in
    among-more _ _ c.loop-k.k c.holds-holds.result _ _ _ c.loop-k.invariant (rw (c.contains.ensures, next) at c.holds-holds.ensures)
    (rw c.code.ensures at c.in_ok-add_if.ensures.adds)

pub returns : goal.returns
returns c = among-all _ _ c.loop-k.k _ _ _ c.loop-k.auto.k-end c.loop-k-test.false c.loop-k.invariant
