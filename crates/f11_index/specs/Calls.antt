-- What each call of an index file does to a disk, by its outcome.
use Rattle.std.specs.Prelude.{◌≡◌, ◌≢◌, ℕ, ◌+◌, ◌-◌, ◌*◌, ◌/◌, ◌<◌, ◌≤◌, Bool, IsTrue, List, [], ◌++◌}
use Rattle.std.specs.Prelude.{length, take, slice_set, slice_index_or, min}
use Rattle.std.specs.List.{range_with_len}
use Rattle.f11_dev.specs.Disk.{Disk}
use Rattle.f11_dev.specs.Image.{Image}
use Rattle.f11_dev.specs.Looked.{Looked}
use Rattle.f11_dev.specs.Went.{Went}
use Rattle.f11_home.specs.Home.{HomeFields}
use Rattle.f11_index.specs.Headers.{headers_of}
use Rattle.f11_index.specs.IndexFile.{Index, index_of, slot_bit, is_in_use, IsFirstPast, HasNonePast}
use Rattle.f11_index.specs.Kept.{IsIndexFor}
use Rattle.f11_index.specs.Sound.{IsIndexFile}
use Rattle.f11_index.specs.Table.{table_of}

-- So many other blocks were read, and then headers of file 1, each once at most; so many transfers failed.
pub record LooksAlong (home : HomeFields) (others : ℕ) (old new : Disk) (faults : ℕ) : Type 0 where
  pub headers : ℕ
  pub few : headers ≤ 256
  pub each_once : IsTrue old.honest → headers ≤ length (headers_of (table_of old.image home) 1)
  pub looked : Looked old new (others + headers) faults

-- Blocks of the index bitmap and headers of file 1 were read, each once at most; so many transfers failed.
abbrev pub LooksThrough : HomeFields → Disk → Disk → ℕ → Type 0
LooksThrough home old new faults = LooksAlong home home.index_blocks old new faults

-- The index file was read: it is as it should be where the disk is honest, whatever its bits past the slots are.
pub record ReadsIndex (home : HomeFields) (index : Index) (old new : Disk) : Type 0 where
  pub sound : IsTrue old.honest → IsIndexFile old.image home
  pub is_for : IsIndexFor index home new
  pub looked : LooksThrough home old new 0

-- The index file was loaded: it is as it should be where the disk is honest, and no bit past the slots is 1.
pub record LoadsIndex (home : HomeFields) (index : Index) (old new : Disk) : Type 0 where
  pub sound : IsTrue old.honest → IsIndexFile old.image home
  pub none_past : HasNonePast index
  pub is_for : IsIndexFor index home new
  pub looked : LooksThrough home old new 0

-- It is not as it should be.
pub record FindsMisplaced (home : HomeFields) (old new : Disk) : Type 0 where
  pub misplaced : IsTrue old.honest → ¬ IsIndexFile old.image home
  pub looked : LooksThrough home old new 0

-- It is, but the bit of n, past the slots, is 1, and n is the least.
pub record FindsPast (home : HomeFields) (n : ℕ) (old new : Disk) : Type 0 where
  pub sound : IsTrue old.honest → IsIndexFile old.image home
  pub first : IsTrue old.honest → IsFirstPast (index_of old.image home) n
  pub looked : LooksThrough home old new 0

-- A transfer failed.
abbrev pub FailsToLoad : HomeFields → Disk → Disk → Type 0
FailsToLoad home old new = LooksThrough home old new 1

-- There was no memory, and no transfer failed.
abbrev pub LacksMemory : HomeFields → Disk → Disk → Type 0
LacksMemory home old new = LooksThrough home old new 0

-- the number of the bitmap block that has the bit of slot n, from 0
abbrev pub bitmap_place : ℕ → ℕ
bitmap_place n = (n - 1) / 4096

-- that block
abbrev pub bitmap_block : Index → ℕ → List ℕ
bitmap_block index n = slice_index_or index.bitmap (bitmap_place n) []

-- The bit of slot n is this, and all else is as it was.
pub record SetsBit (value : Bool) (n : ℕ) (old new : Index) : Type 0 where
  pub one_block : new ≡ record old { bitmap = slice_set old.bitmap (bitmap_place n) (bitmap_block new n) }
  pub bit : slot_bit new n ≡ value
  pub others : (m : ℕ) → 0 < m → m ≢ n → slot_bit new m ≡ slot_bit old m

-- the image with the bitmap block of slot n as this index has it
abbrev pub with_bitmap_block : Image → Index → ℕ → Image
with_bitmap_block image index n = slice_set image (index.bitmap_lbn + bitmap_place n) (bitmap_block index n)

-- An image in which the bit of slot n is this in the bitmap block that was written, and no other bit of it changed.
pub record HasBitWritten (value : Bool) (n : ℕ) (index : Index) (old image : Image) : Type 0 where
  pub written : Index
  pub bit : SetsBit value n index written
  pub image_is : image ≡ with_bitmap_block old written n

-- The bit of slot n was written, in one transfer: the image has the bitmap block that is kept.
pub record WritesBit (value : Bool) (n : ℕ) (before after : Index) (old new : Disk) : Type 0 where
  pub bit : SetsBit value n before after
  pub in_use : is_in_use after n ≡ value
  pub image : new.image ≡ with_bitmap_block old.image after n
  pub went : Went (HasBitWritten value n before old.image) old new 1 0

-- The transfer failed, and the bitmap block was written or wasn't.
abbrev pub FailsToWriteBit : Bool → ℕ → Index → Disk → Disk → Type 0
FailsToWriteBit value n before old new = Went (HasBitWritten value n before old.image) old new 1 1

-- The index file has these blocks too, behind its others, as far as there can be headers.
abbrev pub with_blocks_behind : Index → ℕ → ℕ → Index
with_blocks_behind index lbn count = record index {
  headers = take (min (4096 * length index.bitmap) 65535)
      (index.headers ++ range_with_len lbn count);
}
