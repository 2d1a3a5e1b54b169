use Rattle.std.proofs.Common.{◌↔◌, IsTrue, ap, ◌∙◌, subst, ℕ}
use Rattle.f11_findings.specs.Finding.{finding}
use Rattle.f11_findings.proofs.FoundLemmas.{finds-both, finds-where}
use Rattle.rt11_volume.specs.Verifying.Scans.{number_at}
use Rattle.rt11_volume.specs.Segment.{first_block, extra_bytes, HasEnd}
use Rattle.rt11_volume.specs.declared.directory.Visited.{Visited}
use Rattle.rt11_volume.proofs.Verifying.Tests.{less-tells, not-tells, entries-found}
use Rattle.rt11_volume.proofs.Walking.Places.{at-place}
use Rattle.rt11_volume.proofs.verifier.faults.add_area_faults.Goals as goal

pub returns : goal.returns
returns c = λ image is size.
    let at = at-place image c.args.visited.now c.args.j is c.requires in
    let here = c.visit_at-here.ensures ∙ at.here in
    let k : ℕ = number_at image c.args.j in
    let ends = subst (λ (v : Visited). IsTrue c.has_end.result ↔ HasEnd (extra_bytes v.segment) v.segment) here c.has_end.ensures in
    let first = c.from.ensures ∙ c.first.ensures ∙ ap (λ (v : Visited). first_block v.segment) here in
    finds-both (finds-where (not-tells ends)
    (c.finding.ensures ∙ ap (λ (v : Visited). finding 5 v.number 0) here) c.in_ok-add_if.ensures.adds)
    (finds-both
    (finds-where (less-tells first (c.end_ahead.ensures image is))
    (c.finding-2.ensures ∙ ap (λ (v : Visited). finding 8 v.number 0) here) c.in_ok-add_if-2.ensures.adds)
    (entries-found image c.args.blocks k c.visit_at-here.result.now _ _ here size c.in_ok-add_entry_faults.ensures))
