-- A file that couldn't be read.
use Rattle.std.proofs.Common.{◌≡◌, ℕ, Err, refl, sym, subst, arith}
use Rattle.f11_dev.specs.Disk.{Disk}
use Rattle.f11_dev.specs.Image.{Image}
use Rattle.f11_dev.specs.Went.{Went}
use Rattle.f11_dev.proofs.LookedLemmas.{looked_none, looked_within}
use Rattle.f11_dev.proofs.WentLemmas.{went_looked}
use Rattle.rt11_volume.specs.declared.directory.LookFault.{LookFault}
use Rattle.rt11_volume.specs.declared.directory.LookFault.TheVariants.{DeviceFault, NoMemory}
use Rattle.rt11_copy.specs.Copying.{unread, volume_faults}

-- no transfer to the volume failed
unread-writes : (fault : LookFault) → volume_faults {T = Unit} (Err (unread fault)) ≡ 0
unread-writes DeviceFault = refl
unread-writes NoMemory = refl

-- nothing was done to it
pub unread-went : (P : Image → Type 0) (disk : Disk) (most : ℕ) (fault : LookFault)
    → Went P disk disk most (volume_faults {T = Unit} (Err (unread fault)))
unread-went P disk most fault =
    subst (Went P disk disk most) (sym (unread-writes fault)) (went_looked P (looked_within (looked_none disk) (omega arith)))
