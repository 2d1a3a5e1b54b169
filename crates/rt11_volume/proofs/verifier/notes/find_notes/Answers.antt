use Rattle.std.proofs.Common.{[], sym, subst, arith}
use Rattle.f11_findings.specs.Found.{Finds, FoundOfEach}
use Rattle.f11_findings.proofs.FoundLemmas.{finds-same, each-none, each-more, each-all}
use Rattle.rt11_volume.specs.Verifying.Scans.{number_at, SegmentNotes}
use Rattle.rt11_volume.proofs.Verifying.Exact.{notes-sound, notes-complete}
use Rattle.rt11_volume.proofs.Verifying.Names.{names-none}
use Rattle.rt11_volume.proofs.Walking.Places.{as-many}
use Rattle.rt11_volume.proofs.verifier.notes.find_notes.Goals as goal

pub loop-j-init : goal.loop-j-init
loop-j-init c = λ image is. (
  subst (Finds (FoundOfEach (λ j. SegmentNotes image j (number_at image j)) 0) []) (sym c.new-notes.ensures) (each-none _ _),
  names-none image c.new-names.result c.new-names.ensures.empty,
)

pub loop-j-preserved : goal.loop-j-preserved
loop-j-preserved c = λ image is.
    let so_far = c.loop-j.invariant image is in (
      each-more c.loop-j.j so_far.0 (c.in_ok-add_visit_notes.ensures.notes image is so_far.1),
      c.in_ok-add_visit_notes.ensures.names image is so_far.1,
    )

pub returns : goal.returns
returns c = λ image is.
    finds-same _ _ _ _ (each-all (omega (arith, as-many image c.args.visited.now is)) (c.loop-j.invariant image is).0) (notes-sound image)
    (notes-complete image)
