-- What calls did to a disk that they only read (profile).
use Rattle.std.specs.Prelude.{◌≡◌, ℕ, ◌+◌, ◌<◌, ◌≤◌}
use Rattle.f11_dev.specs.Disk.{Disk}

-- No block changed. At most so many transfers were made, exactly so many failed, and none followed the last that failed.
pub record Looked (old new : Disk) (most faults : ℕ) : Type 0 where
  pub image : new.image ≡ old.image
  pub history : new.history ≡ old.history
  pub honest : new.honest ≡ old.honest
  pub transfers : new.transfers ≤ old.transfers + most
  pub failures : new.failures ≡ old.failures + faults
  pub quiet : 0 < faults → new.calm ≡ 0
