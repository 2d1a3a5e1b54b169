use Rattle.f11_index.specs.Kept.{index_kept}
use Rattle.f11_catalog.specs.Walking.{entered_left}
use Rattle.f11_catalog.proofs.FollowingLemmas.{Followed}
use Rattle.f11_catalog.proofs.walk.state.EnteredFiles.follow.Given as goal

-- the numbers are met to which that leads which was gone over
abbrev pub invariant-loop-found : goal.invariant-loop-found
invariant-loop-found g l =
    Followed (index_kept l.index) (index_kept l.wide) l.initial.self l.self l.initial.seen l.seen (g.D.Device.disk l.initial.device)
    (g.D.Device.disk l.device)

abbrev pub decreases-loop-found : goal.decreases-loop-found
decreases-loop-found g l = entered_left l.self
