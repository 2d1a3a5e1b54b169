-- Laws of files.
use Rattle.std.specs.Prelude.{◌≡◌, ◌≤◌, Bool, length}
use Rattle.f11_dev.specs.Disk.{fresh}
use Rattle.f11_dev.specs.FileImage.{IsOpened}
use Rattle.f11_dev.specs.Image.{Image}
use Rattle.f11_dev.specs.Written.{written_image}
use Rattle.f11_dev.specs.declared.file_image.TheConstants.{MAX_BLOCKS}
use Rattle.f11_dev.specs.declared.written.Written.{Written}

-- a file that is opened may hold any image of so many blocks, and be honest or not
abbrev pub AnyImageIsOpened : Type 0
AnyImageIsOpened = (honest : Bool) (image : Image) → length image ≤ MAX_BLOCKS → IsOpened (fresh honest image)

-- any image comes of some writes over zeros
abbrev pub AnyImageIsWritten : Type 0
AnyImageIsWritten = (image : Image) → (writes : Written) × (written_image (length image) writes ≡ image)
