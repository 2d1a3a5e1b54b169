use Rattle.std.proofs.Common.{ap, ◌∙◌, refl, sym}
use Rattle.std.proofs.lemmas.Bool.{both_ways}
use Rattle.f11_findings.specs.Finding.{finding}
use Rattle.f11_findings.proofs.FoundLemmas.{finds-none, finds-both, finds-where, finds-given}
use Rattle.rt11_volume.specs.declared.directory.Visited.{Visited}
use Rattle.rt11_volume.proofs.Walking.Places.{at-place}
use Rattle.rt11_volume.proofs.verifier.faults.add_visit_faults.Goals as goal

pub returns-then-is_wrong_at : goal.returns-then-is_wrong_at
returns-then-is_wrong_at c = λ image is size.
    let at = at-place image c.args.visited.now c.args.j is c.requires in
    let wrong = sym (c.is_wrong_at.ensures image is) ∙ c.if-is_wrong_at.true in
    finds-both
    (finds-where (λ _. wrong, λ _. refl) (c.finding.ensures ∙ ap (λ (v : Visited). finding 4 v.number 0)
    (c.visit_at.ensures ∙ at.here)) c.in_ok-add.ensures.adds)
    (finds-none _ _ (λ code a b f. both_ways _ f.0 wrong))

pub returns : goal.returns
returns c = λ image is size.
    let right = sym (c.is_wrong_at.ensures image is) ∙ c.if-is_wrong_at.false in
    finds-both (finds-none _ _ (λ code a b f. both_ways _ right f.0))
    (finds-given right (finds-both (c.in_ok-add_link_faults.ensures image is) (c.in_ok-add_area_faults.ensures image is size)))
