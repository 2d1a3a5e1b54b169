use Rattle.f11_bytes.proofs.ResultLemmas.{OnErr-given}
use Rattle.f11_vfy.specs.Frames.Read.{frame_index, frame_bitmap}
use Rattle.f11_vfy.proofs.Reclaiming.Whole.{fails-first, fails-second, fails-third, gives-back}
use Rattle.f11_vfy.proofs.reclaimer.whole.give_back.Goals as goal

pub returns-in_err-kill_orphans-clause-failed : goal.returns-in_err-kill_orphans-clause-failed
returns-in_err-kill_orphans-clause-failed g c =
    OnErr-given _ (fails-first (frame_index c.args.frame) (frame_bitmap c.args.frame) c.args.reading.now c.args.kept.now c.args.unreferenced
    _ _
    c.in_err-kill_orphans.ensures.failed)

pub returns-in_err-clear_idle-clause-failed : goal.returns-in_err-clear_idle-clause-failed
returns-in_err-clear_idle-clause-failed g c =
    OnErr-given _
    (fails-second (frame_index c.args.frame) (frame_bitmap c.args.frame) c.args.reading.now c.args.kept.now c.args.unreferenced _ _ _
    c.in_ok-kill_orphans.ensures.killed _ c.in_err-clear_idle.ensures.failed)

pub returns-in_err-free_unnamed-clause-failed : goal.returns-in_err-free_unnamed-clause-failed
returns-in_err-free_unnamed-clause-failed g c =
    OnErr-given _
    (fails-third (frame_index c.args.frame) (frame_bitmap c.args.frame) c.args.reading.now c.args.kept.now c.args.unreferenced _ _ _
    c.in_ok-kill_orphans.ensures.killed _ _ c.in_ok-clear_idle.ensures.cleared
    c.requires.unreferenced.1 c.requires.unreferenced.0 _ (rw c.places.ensures at c.in_err-free_unnamed.ensures.failed))

pub returns-clause-reclaimed : goal.returns-clause-reclaimed
returns-clause-reclaimed g c =
    gives-back (frame_index c.args.frame) (frame_bitmap c.args.frame) c.args.reading.now c.args.kept.now c.args.unreferenced _ _ _
    c.in_ok-kill_orphans.ensures.killed _ _ c.in_ok-clear_idle.ensures.cleared
    c.requires.unreferenced.1 c.requires.unreferenced.0 _ c.requires.lie.covered (rw c.places.ensures at c.in_ok-free_unnamed.ensures.freed)
