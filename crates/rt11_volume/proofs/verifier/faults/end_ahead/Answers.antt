use Rattle.std.proofs.Common.{◌*◌, ◌+◌, ◌-◌, ap, ◌∙◌, arith}
use Rattle.rt11_volume.specs.Segment.{segment_count, segment_with, areas_end}
use Rattle.rt11_volume.specs.declared.directory.Visited.{Visited}
use Rattle.rt11_volume.proofs.Walking.Places.{at-place, end-first, end-next}
use Rattle.rt11_volume.proofs.verifier.faults.end_ahead.Goals as goal

pub returns-then-j-eq0 : goal.returns-then-j-eq0
returns-then-j-eq0 c = λ image is.
    let at = at-place image c.args.visited.now c.args.j is c.requires in
    ap (λ n. 6 + 2 * n) (c.from.ensures ∙ c.count.ensures ∙ ap (λ (v : Visited). segment_count v.segment) (c.visit_at.ensures ∙ at.first))
    ∙ end-first image c.args.j (omega arith)

pub returns-else-j-eq0 : goal.returns-else-j-eq0
returns-else-j-eq0 c = λ image is.
    let at = at-place image c.args.visited.now (c.args.j - 1) is (omega arith) in
    c.areas_end.ensures.end ∙ ap (λ (v : Visited). areas_end (segment_with 0 v.segment)) (c.visit_at-else-j-eq0.ensures ∙ at.here)
    ∙ end-next image c.args.j (omega arith)
