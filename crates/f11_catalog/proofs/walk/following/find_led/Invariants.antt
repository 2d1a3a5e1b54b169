use Rattle.f11_index.specs.Kept.{index_kept}
use Rattle.f11_catalog.specs.Steps.{unmet}
use Rattle.f11_catalog.proofs.FollowingLemmas.{LeadsOn}
use Rattle.f11_catalog.proofs.walk.following.find_led.Given as goal

-- all that were found are led to
abbrev pub invariant-loop-led : goal.invariant-loop-led
invariant-loop-led g l =
    LeadsOn (index_kept l.index) (index_kept l.wide) l.master l.led (g.D.Device.disk l.fn.device) (g.D.Device.disk l.device)

abbrev pub decreases-loop-led : goal.decreases-loop-led
decreases-loop-led g l = unmet l.led
