use Rattle.std.proofs.Common.{◌∙◌, refl, sym, true, arith, ◌∷◌, [], subst}
use Rattle.std.proofs.lemmas.Option.{get_or_from_slice_get}
use Rattle.f11_findings.specs.Finding.{finding, AddsFindings}
use Rattle.f11_findings.proofs.FoundLemmas.{among-none, among-more, among-list}
use Rattle.f11_vfy.proofs.findings.scans.add_each.Goals as goal

pub loop-i-init : goal.loop-i-init
loop-i-init c = among-none _ _ _

pub loop-i-preserved : goal.loop-i-preserved
loop-i-preserved c =
    let here = get_or_from_slice_get c.args.more.now c.loop-i.i c.in-Some.finding (finding 0 0 0) (sym c.get.ensures ∙ c.in-Some.is) in
    among-more _ _ c.loop-i.i true _ _ _ c.loop-i.invariant (λ _. tt, λ _. refl)
    (subst (λ f. AddsFindings c.loop-i.found c.add.new.self (f ∷ [])) (sym here) c.in_ok-add.ensures.adds)

pub returns : goal.returns
returns c =
    among-list c.args.more.now _ _ (finding 0 0 0) c.loop-i.i (omega (arith, c.len-i-end.ensures, c.loop-i-test.false))
    (omega (arith, c.len-i-end.ensures, c.loop-i.auto.i-end)) c.loop-i.invariant
