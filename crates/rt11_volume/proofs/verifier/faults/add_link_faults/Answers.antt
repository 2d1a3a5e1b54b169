use Rattle.std.proofs.Common.{ap, ◌∙◌}
use Rattle.f11_findings.specs.Finding.{finding}
use Rattle.f11_findings.proofs.FoundLemmas.{finds-both, finds-where}
use Rattle.rt11_volume.specs.Verifying.Scans.{number_at}
use Rattle.rt11_volume.specs.Segment.{segment_count, next_segment}
use Rattle.rt11_volume.specs.declared.directory.Visited.{Visited}
use Rattle.rt11_volume.proofs.Verifying.Tests.{less-tells, back-tells}
use Rattle.rt11_volume.proofs.Walking.Places.{at-place}
use Rattle.rt11_volume.proofs.verifier.faults.add_link_faults.Goals as goal

pub returns : goal.returns
returns c = λ image is.
    let at = at-place image c.args.visited.now c.args.j is c.requires in
    let here = c.visit_at-here.ensures ∙ at.here in
    let next = c.next-next.ensures ∙ ap (λ (v : Visited). next_segment v.segment) here in
    let count = c.count.ensures ∙ ap (λ (v : Visited). segment_count v.segment) (c.visit_at.ensures ∙ at.first) in
    finds-both
    (finds-where (less-tells count next) (c.finding.ensures ∙ ap (λ (v : Visited). finding 2 v.number 0) here) c.in_ok-add_if.ensures.adds)
    (finds-where (back-tells image c.args.visited.now c.args.j (number_at image c.args.j) _ _ is next c.has_number-back.ensures)
    (c.finding-2.ensures ∙ ap (λ (v : Visited). finding 3 v.number 0) here) c.in_ok-add_if-2.ensures.adds)
