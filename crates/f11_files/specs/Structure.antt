-- What is kept of an open volume, and when it is that of a disk.
use Rattle.std.specs.Prelude.{◌≡◌, ℕ, ◌≤◌, Bool, false, IsTrue, List, [], length}
use Rattle.f11_bits.specs.Bitmap.{Bitmap, LiesWithin as BitmapLiesWithin}
use Rattle.f11_bits.specs.Storage.{bitmap_of, count_of, Keeps}
use Rattle.f11_dev.specs.Disk.{Disk}
use Rattle.f11_dev.specs.Image.{Image}
use Rattle.f11_home.specs.Home.{HomeFields, IsHomeOf}
use Rattle.f11_index.specs.IndexFile.{Index, index_of, free_slots_in, slots}
use Rattle.f11_index.specs.Kept.{index_kept, IndexLiesWithin}
use Rattle.f11_store.specs.Changes.{is_in}
use Rattle.f11_store.specs.Store.{Store}
use Rattle.f11_volume.specs.Sound.{HasSoundVolume}
use Rattle.f11_volume.specs.Space.{storage_bitmap}
use Rattle.f11_image_store.specs.Confines.{IsNoPart, AreAlike}
use Rattle.f11_image_store.specs.StoreOf.{store_of}
use Rattle.f11_files.specs.Confined.{ConfinesInOrder}
use Rattle.f11_files.specs.declared.structure.Structure.{Structure}

-- the home block, the index file and the storage bitmap that are kept
abbrev pub home_of : Structure → HomeFields
home_of s = s.home

abbrev pub index_in : Structure → Index
index_in s = index_kept s.index

abbrev pub bitmap_in : Structure → Bitmap
bitmap_in s = bitmap_of s.storage

-- the store of a disk's image with that home block
abbrev pub store_on : Structure → Disk → Store
store_on s disk = store_of disk.image (home_of s)

-- the counts that are kept: of free blocks, of free headers, and of slots
abbrev pub counts_of : Structure → ℕ × ℕ × ℕ
counts_of s = (count_of s.storage, length (free_slots_in (index_in s)), slots (index_in s))

-- They are on a device of so many blocks.
pub record FitsOn (s : Structure) (blocks : ℕ) : Type 0 where
  pub index : IndexLiesWithin (index_in s) blocks
  pub bitmap : BitmapLiesWithin (bitmap_in s) blocks
  pub volume : (bitmap_in s).size ≤ blocks

-- They are those of an image.
pub record IsStructureOf (s : Structure) (image : Image) : Type 0 where
  pub index_is : index_in s ≡ index_of image (home_of s)
  pub bitmap_is : bitmap_in s ≡ storage_bitmap image (home_of s)
  pub storage : Keeps s.storage image

-- An image's home block is this, if it has one.
abbrev pub HasNoOtherHome : Image → HomeFields → Type 0
HasNoOtherHome image home = (other : HomeFields) → IsHomeOf image other → other ≡ home

-- It is for this disk: it lies there, and where the disk is honest the volume is sound, and this is its structure.
pub record IsStructureFor (s : Structure) (disk : Disk) : Type 0 where
  pub lies : FitsOn s (length disk.image)
  pub sound : IsTrue disk.honest → HasSoundVolume disk.image (home_of s)
  pub keeps : IsTrue disk.honest → IsStructureOf s disk.image

-- It is for the disk after a call, unless that failed the volume: the home block is the same, and where the disk is honest the volume
-- is sound even so. Of what is kept nothing more is known once a call has failed.
pub record StaysFor (failed : Bool) (old new : Structure) (disk : Disk) : Type 0 where
  pub home : home_of new ≡ home_of old
  pub lies : failed ≡ false → FitsOn new (length disk.image)
  pub sound : IsTrue disk.honest → HasSoundVolume disk.image (home_of new)
  pub keeps : failed ≡ false → IsTrue disk.honest → IsStructureOf new disk.image

-- Calls changed no block but these headers, the bitmaps, and these, and wrote them in order.
abbrev pub ConfinesTo : Structure → (ℕ → Bool) → List ℕ → Disk → Disk → Type 0
ConfinesTo s headers others old new = ConfinesInOrder headers (index_in s) (bitmap_in s) others old new

-- They changed these headers and the bitmaps alone.
abbrev pub WritesParts : Structure → (ℕ → Bool) → Disk → Disk → Type 0
WritesParts s headers old new = ConfinesTo s headers [] old new

-- A block that is neither one of those headers, of the bitmaps nor one of these is none of the headers and the bitmaps that may be changed
-- afterwards.
abbrev pub StandsWithin : Structure → (ℕ → Bool) → List ℕ → Structure → (ℕ → Bool) → Type 0
StandsWithin s headers others after later =
    (lbn : ℕ) → IsNoPart headers (index_in s) (bitmap_in s) lbn → is_in others lbn ≡ false →
    IsNoPart later (index_in after) (bitmap_in after) lbn

-- Its parts are where they were.
abbrev pub StandsAlike : Structure → Structure → Type 0
StandsAlike s after = AreAlike (index_in s) (index_in after) (bitmap_in s) (bitmap_in after)
