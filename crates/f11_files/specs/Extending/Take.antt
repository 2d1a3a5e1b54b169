-- A run of free blocks is marked used, for a file that is to have it (Files-11 On-Disk Structure Level 1, "Storage Bitmap File";
-- profile: the lowest first, 256 at most).
use Rattle.std.specs.Prelude.{◌≡◌, ℕ, ◌+◌, ◌-◌, ◌<◌, false, IsTrue, ◌++◌}
use Rattle.std.specs.List.{range_with_len}
use Rattle.f11_bits.specs.Bitmap.{Bitmap, is_free}
use Rattle.f11_bits.specs.Run.{IsRunWithin}
use Rattle.f11_bits.specs.Transfers.{blocks_to, blocks_touched}
use Rattle.f11_dev.specs.Disk.{Disk}
use Rattle.f11_dev.specs.Image.{Image}
use Rattle.f11_index.specs.Kept.{room}
use Rattle.f11_store.specs.Store.{Store}
use Rattle.f11_volume.specs.Volume.{volume_of}
use Rattle.f11_writes.specs.Kept.{KeepsButFree}
use Rattle.f11_writes.specs.NameLaws.{AreUnreferenced}
use Rattle.f11_image_store.specs.Allocation.{free_list}
use Rattle.f11_files.specs.Answers.{WritesAtMost}
use Rattle.f11_files.specs.Extending.Growing.{WhileTaking}
use Rattle.f11_image_store.specs.StoreOf.{store_of}
use Rattle.f11_files.specs.Structure.{index_in, bitmap_in, home_of, store_on}
use Rattle.f11_files.specs.declared.structure.Structure.{Structure}

-- no block below this one is free
abbrev pub NoneFreeBelow : Image → Bitmap → ℕ → Type 0
NoneFreeBelow image bitmap end = (k : ℕ) → k < end → is_free image bitmap k ≡ false

-- a store with so many blocks fewer free
abbrev pub with_fewer_free : Store → ℕ → Store
with_fewer_free s count = record s { free = s.free - count }

-- A run was marked used, no block before it is free, and none of it is named by a header.
pub record TakesNextRun (s after : Structure) (from most lbn count : ℕ) (old new : Disk) : Type 0 where
  pub index : index_in after ≡ index_in s
  pub bitmap : bitmap_in after ≡ bitmap_in s
  pub left : room after.index ≡ room s.index
  pub within : IsRunWithin (bitmap_in s).size from most lbn count
  pub keeps : IsTrue old.honest → KeepsButFree (home_of s) old.image new.image
  pub unreferenced : IsTrue old.honest → AreUnreferenced (volume_of new.image (home_of s)) lbn count
  pub none_below : IsTrue old.honest → NoneFreeBelow new.image (bitmap_in s) (lbn + count)
  pub lowest : IsTrue old.honest →
      free_list (volume_of old.image (home_of s)) ≡ range_with_len lbn count ++ free_list (volume_of new.image (home_of s))
  pub store : IsTrue old.honest → store_of new.image (home_of s) ≡ with_fewer_free (store_on s old) count
  pub writes :
      WritesAtMost (WhileTaking (home_of s) most 0 (store_on s old) old)
      (blocks_to (bitmap_in s) from (lbn + count) + blocks_touched lbn count) old new 0
