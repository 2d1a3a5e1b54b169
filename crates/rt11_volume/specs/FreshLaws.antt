-- Laws of fresh RT-11 volumes, which show that their definitions say what is meant (profile).
use Rattle.std.specs.Prelude.{◌⊎◌, ℕ, length}
use Rattle.f11_dev.specs.Image.{Image, IsImage}
use Rattle.rt11_volume.specs.Directory.{IsSized}
use Rattle.rt11_volume.specs.Fresh.{HasRoom, MayStand}
use Rattle.rt11_volume.specs.Verifying.Verdict.{IsRtAccepted}

-- What stands while a fresh directory is made on an image whose directory has a wrong size has one of a wrong size, or is accepted.
abbrev pub StoppedIsUnsized : Type 0
StoppedIsUnsized =
    (segments : ℕ) (old image : Image) → IsImage old → HasRoom segments (length old) → ¬ IsSized old → MayStand segments old image
    → ¬ IsSized image ⊎ IsRtAccepted image
