use Rattle.std.proofs.Common.{arith}
use Rattle.f11_chain.proofs.AlongLemmas.{handed-on}
use Rattle.f11_vfy.specs.Frames.Read.{frame_index, frame_bitmap}
use Rattle.f11_vfy.specs.Scanning.Reading.{most_read}
use Rattle.f11_vfy.proofs.Reclaiming.Behind.{reads-failed, goes-behind, gives-behind, read-as}
use Rattle.f11_vfy.proofs.reclaimer.whole.reclaim_volume.Goals as goal

pub returns-in_err-reading-clause-failed : goal.returns-in_err-reading-clause-failed
returns-in_err-reading-clause-failed g c is =
    reads-failed _ _ (most_read (frame_index c.args.frame) (frame_bitmap c.args.frame)) _ _ (λ honest home framed. omega arith)
    (rw c.places.ensures at c.in_err-reading.ensures.failed (handed-on _ _ _ c.from_residual.ensures.1 is))

pub returns-in_err-give_back-clause-failed : goal.returns-in_err-give_back-clause-failed
returns-in_err-give_back-clause-failed g c is =
    let reads = rw c.places.ensures at c.in_ok-reading.ensures.reads in
    goes-behind _ _ _ _ (most_read (frame_index c.args.frame) (frame_bitmap c.args.frame)) _ _ _ reads.looked
    (read-as (frame_index c.args.frame) (frame_bitmap c.args.frame) _ c.all-kept.result _ _ _ reads
    (rw c.places.ensures at c.in_ok-reading.ensures.keeps) c.requires.lie.sized c.all-kept.ensures) (λ honest home framed. omega arith)
    c.in_err-give_back.ensures.failed

pub returns-clause-reclaimed : goal.returns-clause-reclaimed
returns-clause-reclaimed g c =
    let reads = rw c.places.ensures at c.in_ok-reading.ensures.reads in
    gives-behind _ _ _ _ (most_read (frame_index c.args.frame) (frame_bitmap c.args.frame)) _ _ _ reads.looked
    (read-as (frame_index c.args.frame) (frame_bitmap c.args.frame) _ c.all-kept.result _ _ _ reads
    (rw c.places.ensures at c.in_ok-reading.ensures.keeps) c.requires.lie.sized c.all-kept.ensures) (λ honest home framed. omega arith)
    c.in_ok-give_back.ensures.reclaimed
