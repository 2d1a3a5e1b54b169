-- Which images stand while a volume is reclaimed (profile).
use Rattle.std.specs.Prelude.{◌≡◌, ◌⊎◌, ℕ, ◌*◌, ◌<◌, ◌≤◌, Bool, true, [], IsTrue, length}
use Rattle.f11_bits.specs.Bitmap.{Bitmap, bitmap_bit, KeepsBitmap}
use Rattle.f11_dev.specs.Disk.{Disk}
use Rattle.f11_dev.specs.Image.{Image}
use Rattle.f11_home.specs.Home.{HomeFields}
use Rattle.f11_index.specs.IndexFile.{index_of}
use Rattle.f11_index.specs.Table.{table_of}
use Rattle.f11_image_store.specs.Confines.{Spares, AreAlike}
use Rattle.f11_image_store.specs.Freeing.{IsFreeing}
use Rattle.f11_image_store.specs.StoreOf.{store_of}
use Rattle.f11_vfy.specs.Reclaiming.Slots.{KeepsOrKills, LeavesDead, HasNoOrphan, UsedAreOfFiles}
use Rattle.f11_volume.specs.Space.{storage_bitmap}

-- any header may be changed
abbrev pub any_header : ℕ → Bool
any_header n = true

-- the bits of a storage bitmap past the volume's size are as they were
abbrev pub KeepsPast : Bitmap → Image → Image → Type 0
KeepsPast bitmap old image =
    (k : ℕ) → bitmap.size ≤ k → k < 4096 * length bitmap.places → bitmap_bit image bitmap k ≡ bitmap_bit old bitmap k

-- The parts come one after another: the index bitmap is as it was, or no header is an orphan any more; and the storage bitmap is as it was,
-- or the slots in use are those of files.
pub record IsInOrder (home : HomeFields) (old image : Image) : Type 0 where
  pub kills_first : ((index_of image home).bitmap ≡ (index_of old home).bitmap) ⊎ HasNoOrphan (table_of image home)
  pub clears_first : KeepsBitmap (storage_bitmap old home) old image ⊎ UsedAreOfFiles (table_of image home)

-- An image that stands meanwhile: its volume is sound, its store has the files of this one, with no less free, and no block is changed but
-- headers, and blocks of the index bitmap and of the storage bitmap. Each header is as it was, but for orphans that are killed, and where a
-- slot has left use its header is dead. The bits of the storage bitmap past the volume's size are as they were. Orphans are killed before
-- a slot leaves use, and that before a block becomes free.
pub record IsReclaiming (home : HomeFields) (old image : Image) : Type 0 where
  pub freeing : IsFreeing home (store_of old home) image
  pub spares : Spares any_header (index_of old home) (storage_bitmap old home) [] old image
  pub headers : KeepsOrKills (table_of old home) (table_of image home)
  pub left : LeavesDead (table_of old home) (table_of image home)
  pub past : KeepsPast (storage_bitmap old home) old image
  pub order : IsInOrder home old image

-- One in which index file and storage bitmap are where they were.
pub record KeepsPlaces (home : HomeFields) (old new : Image) : Type 0 where
  pub reclaiming : IsReclaiming home old new
  pub alike : AreAlike (index_of old home) (index_of new home) (storage_bitmap old home) (storage_bitmap new home)
  pub bitmap : storage_bitmap new home ≡ storage_bitmap old home

-- where a disk is honest, and this is known of its image and of a home block
abbrev pub Where : (HomeFields → Image → Type 0) → Disk → (HomeFields → Type 0) → Type 0
Where K old P = IsTrue old.honest → (home : HomeFields) → K home old.image → P home

-- there each image that stands meanwhile is such a one
abbrev pub Moment : (HomeFields → Image → Type 0) → Disk → Image → Type 0
Moment K old image = Where K old (λ home. IsReclaiming home old.image image)
