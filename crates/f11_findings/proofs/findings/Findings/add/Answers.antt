use Rattle.std.proofs.Common.{subst, sym, List, [], ◌∷◌}
use Rattle.f11_findings.specs.declared.finding.Finding.{Finding}
use Rattle.f11_findings.specs.Finding.{AddsFindings, IsInOrder, IsPlaceFor}
use Rattle.f11_findings.proofs.FindingLemmas.{Adds-insert}
use Rattle.f11_findings.proofs.findings.Findings.add.Goals as goal

pub invariant_of-self : goal.invariant_of-self
invariant_of-self c =
    let place = subst (λ (xs : List Finding). IsPlaceFor xs c.args.finding c.in-Some.at) c.deref.ensures.value c.in-Some.ensures in
    subst IsInOrder (sym c.in_ok-insert.ensures.items)
    ((Adds-insert c.self.inside.list.items c.args.finding c.in-Some.at place).order c.self.invariant)

pub returns-in_ok-insert-clause-adds : goal.returns-in_ok-insert-clause-adds
returns-in_ok-insert-clause-adds c =
    let place = subst (λ (xs : List Finding). IsPlaceFor xs c.args.finding c.in-Some.at) c.deref.ensures.value c.in-Some.ensures in
    let adds = Adds-insert c.self.inside.list.items c.args.finding c.in-Some.at place in
    subst (λ (old : List Finding). AddsFindings old c.insert.new.self.items (c.args.finding ∷ [])) c.self.view_is
    (subst (λ (new : List Finding). AddsFindings c.self.inside.list.items new (c.args.finding ∷ [])) (sym c.in_ok-insert.ensures.items)
    adds)
