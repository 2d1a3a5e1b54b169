use Rattle.std.proofs.Common.{◌≡◌, ◌-◌}
use Rattle.f11_index.specs.Kept.{index_kept}
use Rattle.f11_catalog.specs.AllFiles.{place_lost}
use Rattle.f11_catalog.specs.Steps.{is_met}
use Rattle.f11_catalog.proofs.ScanLemmas.{SeesNone}
use Rattle.f11_catalog.proofs.walk.state.Numbers.next_lost.Given as goal

-- no slot that was looked at has a file that wasn't met
abbrev pub invariant-loop-self : goal.invariant-loop-self
invariant-loop-self g l = record {
  seen : SeesNone (λ image t. place_lost t (is_met l.initial.self)) (index_kept l.index) l.initial.self l.self
      (g.D.Device.disk l.initial.device) (g.D.Device.disk l.device);
  met : l.self.met ≡ l.initial.self.met;
}

abbrev pub decreases-loop-self : goal.decreases-loop-self
decreases-loop-self g l = 65536 - l.self.next
