use Rattle.std.proofs.Common.{ap, ◌∙◌, subst, length, get_or, [], arith}
use Rattle.rt11_volume.specs.InHand.{SaysEntry}
use Rattle.rt11_volume.specs.Segment.{entries, extra_bytes}
use Rattle.rt11_volume.specs.declared.directory.Visited.{Visited}
use Rattle.rt11_volume.proofs.Verifying.Names.{names-more, names-next}
use Rattle.rt11_volume.proofs.Walking.Places.{at-place}
use Rattle.rt11_volume.proofs.verifier.names.take_names.Goals as goal

pub loop-i-init : goal.loop-i-init
loop-i-init c = λ image is known. known

pub loop-i-preserved : goal.loop-i-preserved
loop-i-preserved c = λ image is known.
    let at = at-place image c.args.visited.now c.args.j is c.requires in
    let here = c.visit_at.ensures ∙ at.here in
    let count = c.entry_count-i-end.ensures.count ∙ ap (λ (v : Visited). length (entries (extra_bytes v.segment) v.segment)) here in
    names-more image c.args.j c.loop-i.i _ _ _ at.visited_at (omega (arith, c.loop-i-test.true, count))
    (c.in_ok-take_name.ensures _ (subst (λ (v : Visited). SaysEntry c.entry.result
    (get_or (entries (extra_bytes v.segment) v.segment) c.loop-i.i [])) here c.entry.ensures)) (c.loop-i.invariant image is known)

pub returns : goal.returns
returns c = λ image is known.
    let at = at-place image c.args.visited.now c.args.j is c.requires in
    let count = c.entry_count-i-end.ensures.count ∙ ap
    (λ (v : Visited). length (entries (extra_bytes v.segment) v.segment)) (c.visit_at.ensures ∙ at.here) in
    names-next image c.args.j c.loop-i.i c.loop-i.names (omega (arith, count)) (c.loop-i.invariant image is known)
