-- What stands at each moment on an image whose blocks are written in order (profile).
use Rattle.std.specs.Prelude.{◌≡◌, Bool, false, IsTrue, List, ◌++◌, All}
use Rattle.f11_dev.specs.Disk.{Disk}
use Rattle.f11_dev.specs.Image.{Image, IsImage}
use Rattle.f11_volume.specs.home.Home.{HomeFields}
use Rattle.f11_volume.specs.Sound.{HasSoundVolume}
use Rattle.f11_volume.specs.Verdict.{IsAccepted}
use Rattle.f11_writes.specs.Fixed.{KeepsFixed}
use Rattle.f11_writes.specs.Lost.{KeepsLost, SparesLost, StayLost}
use Rattle.f11_writes.specs.Order.{WritesInOrder}

-- What is fixed on a volume, and what is lost there, is in another image as it was.
pub record LeavesAlone (home : HomeFields) (old new : Image) : Type 0 where
  pub fixed : KeepsFixed home old new
  pub lost : KeepsLost home old new

-- Where the disk is honest, no image that stood meanwhile has a fault, and each leaves alone the fixed and the lost blocks of the sound
-- volume before, as the last image does, where the latter are lost still if no transfer failed; and blocks were written in order.
pub record StandsAccepted (old new : Disk) : Type 0 where
  pub accepted : IsTrue old.honest → (since : List Image) → new.history ≡ since ++ old.history → All IsAccepted since
  pub each : IsTrue old.honest → (home : HomeFields) → HasSoundVolume old.image home → (since : List Image) →
      new.history ≡ since ++ old.history → All (LeavesAlone home old.image) since
  pub last : IsTrue old.honest → (home : HomeFields) → HasSoundVolume old.image home → LeavesAlone home old.image new.image
  pub still : new.failures ≡ old.failures → IsTrue old.honest → (home : HomeFields) → HasSoundVolume old.image home →
      StayLost home old.image new.image
  pub ordered : WritesInOrder old new

-- so it is where calls on a volume without faults spare what is lost, of which a transfer failed where they have failed it
abbrev pub SparingLostIsAccepted : Type 0
SparingLostIsAccepted =
    (failed_before failed_after : Bool) (old new : Disk) → IsImage old.image → (IsTrue old.honest → IsAccepted old.image) →
    (IsTrue old.honest → new.failures ≡ old.failures → failed_after ≡ false) → SparesLost failed_before failed_after old new →
    StandsAccepted old new
