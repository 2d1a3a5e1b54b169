use Rattle.std.proofs.Common.{ap, ◌∙◌, sym}
use Rattle.std.proofs.lemmas.Bool.{both_ways}
use Rattle.f11_findings.specs.Finding.{finding}
use Rattle.f11_findings.proofs.FoundLemmas.{finds-none, finds-both, finds-where, finds-given}
use Rattle.rt11_volume.specs.Segment.{first_block}
use Rattle.rt11_volume.specs.declared.directory.Visited.{Visited}
use Rattle.rt11_volume.proofs.Verifying.Tests.{less-tells}
use Rattle.rt11_volume.proofs.Walking.Places.{at-place}
use Rattle.rt11_volume.proofs.verifier.notes.add_visit_notes.Goals as goal

pub returns-then-is_wrong_at-clause-notes : goal.returns-then-is_wrong_at-clause-notes
returns-then-is_wrong_at-clause-notes c = λ image is known. finds-none _ _
    (λ code a b f. both_ways _ f.0 (sym (c.is_wrong_at.ensures image is) ∙ c.if-is_wrong_at.true))

pub returns-clause-notes : goal.returns-clause-notes
returns-clause-notes c = λ image is known.
    let at = at-place image c.args.visited.now c.args.j is c.requires in
    let here = c.visit_at-here.ensures ∙ at.here in
    let first = c.from.ensures ∙ c.first.ensures ∙ ap (λ (v : Visited). first_block v.segment) here in
    finds-given (sym (c.is_wrong_at.ensures image is) ∙ c.if-is_wrong_at.false)
    (finds-both
    (finds-where (less-tells (c.end_ahead.ensures image is) first)
    (c.finding.ensures ∙ ap (λ (v : Visited). finding 4 v.number 0) here) c.in_ok-add_if.ensures.adds)
    (c.in_ok-add_notes_of_entries.ensures.notes image is known))
