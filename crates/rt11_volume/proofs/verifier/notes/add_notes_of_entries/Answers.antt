use Rattle.std.proofs.Common.{ap, ◌∙◌, length, arith}
use Rattle.f11_findings.proofs.FoundLemmas.{each-none, each-more, each-all}
use Rattle.rt11_volume.specs.Segment.{entries, extra_bytes}
use Rattle.rt11_volume.specs.declared.directory.Visited.{Visited}
use Rattle.rt11_volume.proofs.Verifying.Names.{names-next}
use Rattle.rt11_volume.proofs.Walking.Places.{at-place}
use Rattle.rt11_volume.proofs.verifier.notes.add_notes_of_entries.Goals as goal

pub loop-i-init : goal.loop-i-init
loop-i-init c = λ image is known. (each-none _ _, known)

pub add_entry_notes-requires : goal.add_entry_notes-requires
add_entry_notes-requires c =
    let count = c.entry_count-count.ensures.count ∙ ap
    (λ (v : Visited). length (entries (extra_bytes v.segment) v.segment)) c.visit_at.ensures in
    omega (arith, count)

pub loop-i-preserved : goal.loop-i-preserved
loop-i-preserved c = λ image is known.
    let so_far = c.loop-i.invariant image is known in (
      each-more c.loop-i.i so_far.0 (c.in_ok-add_entry_notes.ensures.notes image is so_far.1),
      c.in_ok-add_entry_notes.ensures.names image is so_far.1,
    )

pub returns-clause-notes : goal.returns-clause-notes
returns-clause-notes c = λ image is known.
    let at = at-place image c.args.visited.now c.args.j is c.requires in
    let count = c.entry_count-count.ensures.count ∙ ap (λ (v : Visited). length (entries (extra_bytes v.segment) v.segment))
    (c.visit_at.ensures ∙ at.here) in
    each-all (omega (arith, count)) (c.loop-i.invariant image is known).0

pub returns-clause-names : goal.returns-clause-names
returns-clause-names c = λ image is known.
    let at = at-place image c.args.visited.now c.args.j is c.requires in
    let count = c.entry_count-count.ensures.count ∙ ap (λ (v : Visited). length (entries (extra_bytes v.segment) v.segment))
    (c.visit_at.ensures ∙ at.here) in
    names-next image c.args.j c.loop-i.i c.loop-i.names (omega (arith, count)) (c.loop-i.invariant image is known).1
