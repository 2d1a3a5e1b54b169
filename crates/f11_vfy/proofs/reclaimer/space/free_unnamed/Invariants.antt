use Rattle.f11_vfy.specs.Reclaiming.Steps.{FreesUnnamed}
use Rattle.f11_vfy.specs.Scanning.Reading.{bitmap_at}
use Rattle.f11_vfy.proofs.reclaimer.space.free_unnamed.Given as goal

-- the blocks so far
abbrev pub invariant-loop-i : goal.invariant-loop-i
invariant-loop-i g l =
    FreesUnnamed (bitmap_at l.places l.size) l.reading.free l.reading.survey.tally.once l.unreferenced l.last l.i
    (g.D.Device.disk l.fn.device)
    (g.D.Device.disk l.device)
