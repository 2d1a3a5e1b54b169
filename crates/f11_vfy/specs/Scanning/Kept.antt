-- Blocks that are kept as a volume is read, to be written (profile).
use Rattle.std.specs.Prelude.{◌<◌, IsTrue}
use Rattle.f11_bits.specs.Bitmap.{Bitmap}
use Rattle.f11_dev.specs.Disk.{Disk}
use Rattle.f11_dev.specs.Image.{Image}
use Rattle.f11_index.specs.IndexFile.{Index}
use Rattle.f11_index.specs.Table.{Table, table_in}
use Rattle.f11_vfy.specs.Surveying.Extensions.{HasExtensions, IsToKeep}
use Rattle.f11_vfy.specs.Surveying.Free.{IsLastBlock}
use Rattle.f11_vfy.specs.declared.findings.kept.Kept.{Kept}

-- what is kept of an image: the extension headers of a table, and the last block of a bitmap that has a bit of the volume
pub record HasKept (t : Table) (bitmap : Bitmap) (image : Image) (kept : Kept) : Type 0 where
  pub extensions : HasExtensions t kept.extensions
  pub last : IsLastBlock image bitmap kept.last

-- Where extension headers are to be kept, the disk's were kept, and so was the last block of its bitmap.
abbrev pub KeepsBlocks : Index → Bitmap → Disk → Kept → Kept → Type 0
KeepsBlocks index bitmap disk old new =
    IsTrue disk.honest → 0 < bitmap.size → IsToKeep old.extensions → HasKept (table_in disk.image index) bitmap disk.image new
