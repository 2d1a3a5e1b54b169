-- What an answer tells of a volume that was asked, on any device (profile).
use Rattle.std.specs.Prelude.{◌≡◌, ◌+◌, ◌||◌, Bool, true, IsTrue, if◌then◌else◌}
use Rattle.f11_dev.specs.declared.device.Device.{Ghosts}
use Rattle.f11_fcp.specs.Lists.{failures_of}
use Rattle.f11_fcp.specs.Serving.{RequestsSpareLost, StaysAccepted, is_spent, state_in}
use Rattle.f11_fcp.specs.declared.volume.Volume.{Volume}

-- By whether it is a device fault, and whether it is that or Damaged, which fail the volume: a transfer failed exactly where it is a device
-- fault, and none followed; its home block is the same; the volume is failed by these two, and by nothing else. Where its disk is honest
-- its image is accepted then, its blocks were written in order, and no block that was lost before has changed.
pub record Fares {D : Type 0} {met : Ghosts D} (fault fatal : Bool) (old new : Volume D met) : Type 0 where
  pub failures : failures_of new ≡ failures_of old + (if fault then 1 else 0)
  pub quiet : fault ≡ true → (state_in new).disk.calm ≡ 0
  pub honest : (state_in new).disk.honest ≡ (state_in old).disk.honest
  pub home : (state_in new).home ≡ (state_in old).home
  pub next : is_spent new ≡ (is_spent old || fatal)
  pub accepted : StaysAccepted (state_in new)
  pub lost : RequestsSpareLost old new

-- The same where the answer may be Damaged for a reply of another kind than the request's, which no honest device gives, and which fails no
-- volume: so a device fault and Damaged fail one whose disk is honest, and on any disk nothing else does.
pub record FaresAs {D : Type 0} {met : Ghosts D} (fault fatal : Bool) (old new : Volume D met) : Type 0 where
  pub failures : failures_of new ≡ failures_of old + (if fault then 1 else 0)
  pub quiet : fault ≡ true → (state_in new).disk.calm ≡ 0
  pub honest : (state_in new).disk.honest ≡ (state_in old).disk.honest
  pub home : (state_in new).home ≡ (state_in old).home
  pub next : IsTrue (state_in old).disk.honest → is_spent new ≡ (is_spent old || fatal)
  pub spent : is_spent new ≡ true → (is_spent old || fatal) ≡ true
  pub accepted : StaysAccepted (state_in new)
  pub lost : RequestsSpareLost old new
