use Rattle.std.proofs.Common.{[], sym, subst, arith}
use Rattle.f11_findings.specs.Found.{Finds, FoundOfEach}
use Rattle.f11_findings.proofs.FoundLemmas.{finds-both, finds-where, finds-same, each-none, each-more, each-all}
use Rattle.rt11_volume.specs.Verifying.Scans.{number_at, SegmentFaults}
use Rattle.rt11_volume.proofs.Verifying.Exact.{faults-sound, faults-complete}
use Rattle.rt11_volume.proofs.Walking.Places.{as-many}
use Rattle.rt11_volume.proofs.verifier.faults.find_faults.Goals as goal

pub loop-j-init : goal.loop-j-init
loop-j-init c = λ image is size. subst (Finds (FoundOfEach (λ j. SegmentFaults image j (number_at image j)) 0) [])
    (sym c.new-faults.ensures) (each-none _ _)

pub loop-j-preserved : goal.loop-j-preserved
loop-j-preserved c = λ image is size. each-more c.loop-j.j (c.loop-j.invariant image is size)
    (c.in_ok-add_visit_faults.ensures image is size)

pub returns : goal.returns
returns c = λ image is size.
    let all = each-all (omega (arith, as-many image c.args.visited.now is)) (c.loop-j.invariant image is size) in
    finds-same _ _ _ _ (finds-both all (finds-where (c.is_highest_wrong.ensures image is) c.finding.ensures c.in_ok-add_if.ensures.adds))
    (faults-sound image) (faults-complete image)
