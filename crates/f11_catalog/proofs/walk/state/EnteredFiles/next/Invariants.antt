use Rattle.f11_index.specs.Kept.{index_kept}
use Rattle.f11_catalog.specs.GoingOver.{directories_left}
use Rattle.f11_catalog.specs.Walking.{IsWalkingDirectories, StaysToCome}
use Rattle.f11_catalog.proofs.walk.state.EnteredFiles.next.Given as goal

-- the same files are to come
abbrev pub invariant-loop-found : goal.invariant-loop-found
invariant-loop-found g l = record {
  stays : StaysToCome (index_kept l.index) (index_kept l.wide) l.initial.self l.self (g.D.Device.disk l.initial.device)
      (g.D.Device.disk l.device);
  walking : IsWalkingDirectories (index_kept l.index) (index_kept l.wide) l.self (g.D.Device.disk l.device);
}

abbrev pub decreases-loop-found : goal.decreases-loop-found
decreases-loop-found g l = directories_left l.self.directories
