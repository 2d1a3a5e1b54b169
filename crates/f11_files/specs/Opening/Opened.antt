-- What opening an accepted volume answers.
use Rattle.std.specs.Prelude.{◌≡◌, false, IsTrue}
use Rattle.f11_dev.specs.Disk.{Disk}
use Rattle.f11_dev.specs.Looked.{Looked}
use Rattle.f11_dev.specs.declared.device.Device.{Ghosts}
use Rattle.f11_home.specs.Home.{IsHomeOf}
use Rattle.f11_vfy.specs.Accepted.{device_of}
use Rattle.f11_files.specs.Open.{has_failed, disk_in, home_in}
use Rattle.f11_files.specs.Opening.Opens.{opening_reads, MeetsDamage}
use Rattle.f11_files.specs.declared.files.Files.{Files}
use Rattle.f11_files.specs.declared.open.OpenFault.{OpenFault}
use Rattle.f11_files.specs.declared.open.OpenFault.TheVariants.{DeviceFault, Damaged, NoMemory}

-- It was opened, and no block was written: no call on it has failed, and where the disk is honest its home block is the image's.
pub record Opens {D : Type 0} {met : Ghosts D} (old : Disk) (files : Files D met) : Type 0 where
  pub fresh : has_failed files ≡ false
  pub home : IsTrue old.honest → IsHomeOf old.image (home_in files)
  pub looked : Looked old (disk_in files) (opening_reads old) 0

-- It was not. The device comes back, and for want of memory the volume.
abbrev pub FailsToOpen : {D : Type 0} {G : Ghosts D} → (D → Disk) → Disk → OpenFault D G → Type 0
FailsToOpen disk old (DeviceFault device) = Looked old (disk device) (opening_reads old) 1
FailsToOpen disk old (Damaged device) = MeetsDamage old (disk device)
FailsToOpen disk old (NoMemory accepted) = Looked old (disk (device_of accepted)) (opening_reads old) 0
