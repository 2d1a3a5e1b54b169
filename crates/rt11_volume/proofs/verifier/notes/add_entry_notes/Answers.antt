use Rattle.std.proofs.Common.{[], ap, ◌∙◌, subst, arith, ◌&&◌, ◌<◌, length, slice_index_or}
use Rattle.f11_findings.specs.Finding.{finding}
use Rattle.f11_findings.proofs.FoundLemmas.{finds-both, finds-where}
use Rattle.rt11_volume.specs.Directory.{segment_of}
use Rattle.rt11_volume.specs.Entry.{is_one_kind, has_bit}
use Rattle.rt11_volume.specs.InHand.{SaysEntry, visit_at}
use Rattle.rt11_volume.specs.Segment.{entries, extra_bytes}
use Rattle.rt11_volume.specs.Verifying.Scans.{number_at, entry_of}
use Rattle.rt11_volume.specs.declared.directory.Visited.{Visited}
use Rattle.rt11_volume.proofs.Rewriting.Entries.{entries-few, entry_room-few}
use Rattle.rt11_volume.proofs.Verifying.Names.{name-repeats, names-more}
use Rattle.rt11_volume.proofs.Verifying.Tests.{same-tells}
use Rattle.rt11_volume.proofs.Walking.Places.{at-place}
use Rattle.rt11_volume.proofs.verifier.notes.add_entry_notes.Goals as goal

pub finding-requires : goal.finding-requires
finding-requires c =
    let s = (visit_at c.args.visited.now c.args.j).segment in
    omega (arith, c.requires.entry, entries-few (extra_bytes s) s, entry_room-few (extra_bytes s))

pub returns-clause-notes : goal.returns-clause-notes
returns-clause-notes c = λ image is known.
    let at = at-place image c.args.visited.now c.args.j is c.requires.place in
    let here = c.visit_at-here.ensures ∙ at.here in
    let k = number_at image c.args.j in
    let words = entry_of (segment_of image k) c.args.i in
    let says = subst (λ (v : Visited). SaysEntry c.entry-entry.result
    (slice_index_or (entries (extra_bytes v.segment) v.segment) c.args.i [])) here c.entry-entry.ensures in
    finds-both
    (finds-where (same-tells (c.is_tentative.ensures ∙ (λ n. is_one_kind (says.status n) && has_bit (says.status n) 8)))
    (c.finding.ensures ∙ ap (λ (v : Visited). finding 1 v.number c.args.i) here) c.in_ok-add_if.ensures.adds)
    (finds-both
    (finds-where (c.is_unnamed.ensures words says)
    (c.finding-2.ensures ∙ ap (λ (v : Visited). finding 2 v.number c.args.i) here) c.in_ok-add_if-2.ensures.adds)
    (finds-where (name-repeats image c.args.j c.args.i _ _ _ at.visited_at
    (subst (λ (v : Visited). c.args.i < length (entries (extra_bytes v.segment) v.segment)) at.here c.requires.entry)
    (c.in_ok-repeated.ensures words says) known)
    (c.finding-3.ensures ∙ ap (λ (v : Visited). finding 3 v.number c.args.i) here)
    c.in_ok-add_if-3.ensures.adds))

pub returns-clause-names : goal.returns-clause-names
returns-clause-names c = λ image is known.
    let at = at-place image c.args.visited.now c.args.j is c.requires.place in
    names-more image c.args.j c.args.i _ _ _ at.visited_at
    (subst (λ (v : Visited). c.args.i < length (entries (extra_bytes v.segment) v.segment)) at.here c.requires.entry)
    (c.in_ok-repeated.ensures _ (subst (λ (v : Visited). SaysEntry c.entry-entry.result
    (slice_index_or (entries (extra_bytes v.segment) v.segment) c.args.i [])) (c.visit_at-here.ensures ∙ at.here) c.entry-entry.ensures))
    known
