-- What every value of `Files` says of the volume that is open.
use Rattle.std.proofs.Common.{◌≡◌, false}
use Rattle.f11_dev.specs.Image.{IsImage}
use Rattle.f11_dev.specs.declared.device.Device.{Ghosts}
use Rattle.f11_files.specs.Open.{has_failed, disk_in}
use Rattle.f11_files.specs.Structure.{IsStructureFor}
use Rattle.f11_files.specs.declared.files.Files.{Files}
use Rattle.f11_files.proofs.Opening.Kept.{kept-for}

-- unless a call has failed the volume, what is kept is for the disk
pub files-for : {D : Type 0} {met : Ghosts D} (files : Files D met) → IsImage (disk_in files).image → has_failed files ≡ false
    → IsStructureFor files.structure (disk_in files)
files-for files image_is not =
    kept-for files.structure (disk_in files) image_is (files.lies not) files.accepted files.home (λ honest. files.keeps honest not)
