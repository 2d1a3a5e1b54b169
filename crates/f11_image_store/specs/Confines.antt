-- Which blocks calls on files change: those of the volume's structure, and others that are told (Files-11 On-Disk Structure Level
-- 1, "Index File" and "Storage Bitmap File").
use Rattle.std.specs.Prelude.{◌≡◌, ◌≢◌, ℕ, ◌+◌, ◌<◌, ◌≤◌, ◌==◌, ◌||◌, Bool, true, false, not, List, ◌++◌, All, length, slice_index}
use Rattle.std.specs.List.{slice_get}
use Rattle.f11_bits.specs.Bitmap.{Bitmap}
use Rattle.f11_dev.specs.Disk.{Disk}
use Rattle.f11_dev.specs.Image.{Image}
use Rattle.f11_dev.specs.Went.{newest}
use Rattle.f11_index.specs.IndexFile.{Index, slots, slot_bit, header_lbn}
use Rattle.f11_store.specs.Changes.{is_in}

-- A call may change the headers that a test tells by their numbers: none,
abbrev pub no_header : ℕ → Bool
no_header n = false

-- this one,
abbrev pub only_header : ℕ → ℕ → Bool
only_header number n = n == number

-- those that are new, whose slots aren't in use,
abbrev pub new_header : Index → ℕ → Bool
new_header index n = not (slot_bit index n)

-- or those that these tests tell.
abbrev pub either : (ℕ → Bool) → (ℕ → Bool) → ℕ → Bool
either one other n = one n || other n

-- A block is none of those that a call changes on its own account: none of these headers, and none of the index bitmap or of the storage
-- bitmap.
pub record IsNoPart (headers : ℕ → Bool) (index : Index) (bitmap : Bitmap) (lbn : ℕ) : Type 0 where
  pub header : (n : ℕ) → headers n ≡ true → 0 < n → n ≤ slots index → header_lbn index n ≢ lbn
  pub index_bitmap : (k : ℕ) → k < length index.bitmap → index.bitmap_lbn + k ≢ lbn
  pub storage : (i : ℕ) → i < length bitmap.places → slice_index bitmap.places i ≢ lbn

-- Each block of an image that is none of them, and none of these, is as it was.
abbrev pub Spares : (ℕ → Bool) → Index → Bitmap → List ℕ → Image → Image → Type 0
Spares headers index bitmap others old image =
    (lbn : ℕ) → IsNoPart headers index bitmap lbn → is_in others lbn ≡ false → slice_get image lbn ≡ slice_get old lbn

-- No other block was changed: each image that stood meanwhile spares them, and so does the last.
pub record Confines (headers : ℕ → Bool) (index : Index) (bitmap : Bitmap) (others : List ℕ) (old new : Disk) : Type 0 where
  pub since : List Image
  pub history : new.history ≡ since ++ old.history
  pub image : new.image ≡ newest since old.image
  pub each : All (Spares headers index bitmap others old.image) since

-- Two index files and bitmaps are at the same places.
pub record AreAlike (index after : Index) (bitmap later : Bitmap) : Type 0 where
  pub headers : after.headers ≡ index.headers
  pub bitmap_lbn : after.bitmap_lbn ≡ index.bitmap_lbn
  pub bitmap_blocks : length after.bitmap ≡ length index.bitmap
  pub places : later.places ≡ bitmap.places
