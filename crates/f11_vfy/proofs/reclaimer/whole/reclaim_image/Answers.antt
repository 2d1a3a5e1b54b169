use Rattle.std.proofs.Common.{arith}
use Rattle.f11_chain.proofs.AlongLemmas.{handed-on}
use Rattle.f11_vfy.specs.Frames.Frame.{frame_reads}
use Rattle.f11_vfy.proofs.Reclaiming.Behind.{reads-failed, goes-behind, gives-behind, lacks-behind, frame-of, frame-cost}
use Rattle.f11_vfy.proofs.Reclaiming.Behind.{no-fault}
use Rattle.f11_vfy.proofs.reclaimer.whole.reclaim_image.Goals as goal

pub returns-in_err-frame-clause-failed : goal.returns-in_err-frame-clause-failed
returns-in_err-frame-clause-failed g c is =
    reads-failed _ _ (frame_reads (g.D.Device.disk c.args.device.now)) _ _ (λ honest home sound. omega arith)
    (c.in_err-frame.ensures.failed (handed-on _ _ _ c.from_residual.ensures.1 is))

pub returns-in_err-reclaim_volume-in-Framed-clause-failed : goal.returns-in_err-reclaim_volume-in-Framed-clause-failed
returns-in_err-reclaim_volume-in-Framed-clause-failed g c is =
    let reads = rw c.in-Framed.is at c.in_ok-frame.ensures.frames in
    goes-behind _ _ _ _ (frame_reads (g.D.Device.disk c.args.device.now)) _ _ _ reads.looked (frame-of _ _ _ _ reads)
    (frame-cost _ _ _ _ reads)
    (c.in_err-reclaim_volume-in-Framed.ensures.failed (handed-on _ _ _ c.from_residual-in_err-reclaim_volume-in-Framed.ensures.1 is))

pub returns-in_err-reclaim_volume-in-Framed-clause-no_memory : goal.returns-in_err-reclaim_volume-in-Framed-clause-no_memory
returns-in_err-reclaim_volume-in-Framed-clause-no_memory g c is =
    let reads = rw c.in-Framed.is at c.in_ok-frame.ensures.frames in
    lacks-behind _ _ _ _ (frame_reads (g.D.Device.disk c.args.device.now)) _ _ _ reads.looked (frame-of _ _ _ _ reads)
    (frame-cost _ _ _ _ reads)
    (c.in_err-reclaim_volume-in-Framed.ensures.no_memory (handed-on _ _ _ c.from_residual-in_err-reclaim_volume-in-Framed.ensures.1 is))

pub returns-in_ok-reclaim_volume-in-Framed-clause-reclaimed : goal.returns-in_ok-reclaim_volume-in-Framed-clause-reclaimed
returns-in_ok-reclaim_volume-in-Framed-clause-reclaimed g c =
    let reads = rw c.in-Framed.is at c.in_ok-frame.ensures.frames in
    gives-behind _ _ _ _ (frame_reads (g.D.Device.disk c.args.device.now)) _ _ _ reads.looked (frame-of _ _ _ _ reads)
    (frame-cost _ _ _ _ reads) c.in_ok-reclaim_volume-in-Framed.ensures.reclaimed

pub returns-in-Faulty-clause-reclaimed : goal.returns-in-Faulty-clause-reclaimed
returns-in-Faulty-clause-reclaimed g c = no-fault _ _ _ _ c.requires.accepted (rw c.in-Faulty.is at c.in_ok-frame.ensures.frames)
