use Rattle.f11_index.specs.Kept.{index_kept}
use Rattle.f11_vfy.specs.Reclaiming.Steps.{ClearsIdle}
use Rattle.f11_vfy.proofs.reclaimer.idle.clear_idle.Given as goal

-- the idle slots so far left use
abbrev pub invariant-loop-k : goal.invariant-loop-k
invariant-loop-k g l =
    ClearsIdle (index_kept l.initial.index) l.reading l.k (index_kept l.index) (g.D.Device.disk l.fn.device) (g.D.Device.disk l.device)
