-- What a command leaves that did its work, and whose device couldn't keep it; and one that ended by a failure (profile).
use Rattle.std.specs.Prelude.{◌≡◌, ◌⊎◌, ℕ, Bool, true, false, List, Option}
use Rattle.std.specs.Io.KnownBytes.{Keeps}
use Rattle.f11_dev.specs.Disk.{Disk, with_transfer}
use Rattle.f11_commands.specs.declared.outcome.Failure.{Failure}
use Rattle.f11_commands.specs.declared.outcome.Failure.TheVariants.{DeviceFault}

-- It was done, as this says of the disk then, and the sync behind it failed: a transfer that failed, and no block is another. Nothing was
-- written.
pub record FailsToSync {W : Type 0} (Does : Disk → Type 0) (new : Disk) (contents : W → Option (List ℕ)) (before after : W) : Type 0 where
  pub done : Disk
  pub does : Does done
  pub failed : new ≡ with_transfer false done
  pub unwritten : Keeps (contents before) (contents after)

-- whether nothing is to be transferred any more: a transfer has failed, as is known of the volume or told by the failure
abbrev pub is_behind_fault : (failed : Bool) → Failure → Bool
is_behind_fault true failure = true
is_behind_fault false DeviceFault = true
is_behind_fault false failure = false

-- How the device is given back behind a failure, and what is told. Behind a fault nothing is transferred, and it is told by that failure.
-- Else it is as it was, and told by that failure; or a sync failed, which is a device fault, and no block is another.
abbrev pub GivesBack : (behind_fault : Bool) → Failure → (told : Failure) → (old new : Disk) → Type 0
GivesBack true failure told old new = (new ≡ old) × (told ≡ failure)
GivesBack false failure told old new =
    ((new ≡ old) × (told ≡ failure)) ⊎ ((new ≡ with_transfer false old) × (told ≡ DeviceFault))
