use Rattle.std.proofs.Common.{ap, ◌∙◌}
use Rattle.rt11_volume.specs.Directory.{are_extra_wrong}
use Rattle.rt11_volume.specs.Segment.{extra_bytes}
use Rattle.rt11_volume.specs.declared.directory.Visited.{Visited}
use Rattle.rt11_volume.proofs.Walking.Places.{at-place}
use Rattle.rt11_volume.proofs.verifier.faults.is_wrong_at.Goals as goal

pub returns : goal.returns
returns c = λ image is.
    let at = at-place image c.args.visited.now c.args.j is c.requires in
    let first = c.extra.ensures ∙ ap (λ (v : Visited). extra_bytes v.segment) (c.visit_at.ensures ∙ at.first) in
    let here = c.extra-2.ensures ∙ ap (λ (v : Visited). extra_bytes v.segment) (c.visit_at-2.ensures ∙ at.here) in
    c.are_extra_wrong.ensures ∙ (λ i. are_extra_wrong (first i) (here i))
