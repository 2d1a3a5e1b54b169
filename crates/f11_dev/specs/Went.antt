-- What calls did to a disk that they may have written (profile).
use Rattle.std.specs.Prelude.{◌≡◌, ℕ, ◌+◌, ◌<◌, ◌≤◌, List, [], ◌∷◌, ◌++◌, All, length}
use Rattle.f11_dev.specs.Image.{Image}
use Rattle.f11_dev.specs.Disk.{Disk}

-- the first of these images, or else this one
abbrev pub newest : List Image → Image → Image
newest [] image = image
newest (last ∷ earlier) image = last

-- P holds of each image that stood meanwhile: of `since`, the newest first, whose newest stands at the end.
-- There are as many blocks as before. At most so many transfers were made, exactly so many failed, and none followed the last
-- that failed.
pub record Went (P : Image → Type 0) (old new : Disk) (most faults : ℕ) : Type 0 where
  pub since : List Image
  pub history : new.history ≡ since ++ old.history
  pub image : new.image ≡ newest since old.image
  pub each : All P since
  pub size : length new.image ≡ length old.image
  pub honest : new.honest ≡ old.honest
  pub transfers : new.transfers ≤ old.transfers + most
  pub failures : new.failures ≡ old.failures + faults
  pub quiet : 0 < faults → new.calm ≡ 0
