-- A whole run of free blocks is marked used, for a file that is to have it (Files-11 On-Disk Structure Level 1, "Storage Bitmap File";
-- profile: the lowest place that has so many in a row).
use Rattle.std.specs.Prelude.{◌≡◌, ℕ, ◌+◌, ◌*◌, ◌≤◌, ◌&&◌, IsTrue, length, not}
use Rattle.std.specs.List.{range_with_len}
use Rattle.f11_bits.specs.Run.{IsFirstRunOf, NoRunOf}
use Rattle.f11_bits.specs.Transfers.{run_transfers}
use Rattle.f11_dev.specs.Disk.{Disk}
use Rattle.f11_dev.specs.Looked.{Looked}
use Rattle.f11_dev.specs.Went.{Went}
use Rattle.f11_index.specs.Kept.{room}
use Rattle.f11_store.specs.Changes.{is_in}
use Rattle.f11_volume.specs.Volume.{Volume, volume_of}
use Rattle.f11_writes.specs.Kept.{KeepsButFree}
use Rattle.f11_writes.specs.NameLaws.{AreUnreferenced}
use Rattle.f11_files.specs.Answers.{WritesAtMost}
use Rattle.f11_files.specs.Extending.Growing.{WhileTaking}
use Rattle.f11_files.specs.Extending.Take.{with_fewer_free}
use Rattle.f11_image_store.specs.StoreOf.{store_of}
use Rattle.f11_files.specs.Structure.{index_in, bitmap_in, home_of, store_on}
use Rattle.f11_files.specs.declared.structure.Structure.{Structure}

-- These blocks aren't free now, and the others as they were.
pub record UsesRun (lbn n : ℕ) (old new : Volume) : Type 0 where
  pub size : new.size ≡ old.size
  pub free : (k : ℕ) → new.free k ≡ (old.free k && not (is_in (range_with_len lbn n) k))

-- n blocks from the lowest place on that had so many free in a row were marked used. None of them is named by a header.
pub record TakesWholeRun (s after : Structure) (n lbn : ℕ) (old new : Disk) : Type 0 where
  pub index : index_in after ≡ index_in s
  pub bitmap : bitmap_in after ≡ bitmap_in s
  pub left : room after.index ≡ room s.index
  pub within : lbn + n ≤ (bitmap_in s).size
  pub first : IsTrue old.honest → IsFirstRunOf (volume_of old.image (home_of s)).free n lbn
  pub uses : IsTrue old.honest → UsesRun lbn n (volume_of old.image (home_of s)) (volume_of new.image (home_of s))
  pub keeps : IsTrue old.honest → KeepsButFree (home_of s) old.image new.image
  pub unreferenced : IsTrue old.honest → AreUnreferenced (volume_of new.image (home_of s)) lbn n
  pub store : IsTrue old.honest → store_of new.image (home_of s) ≡ with_fewer_free (store_on s old) n
  pub writes : WritesAtMost (WhileTaking (home_of s) n 0 (store_on s old) old) (run_transfers lbn n) old new 0

-- Nowhere are so many free in a row, and nothing was written.
pub record HasNoRun (s : Structure) (n : ℕ) (old new : Disk) : Type 0 where
  pub none : IsTrue old.honest → NoRunOf (volume_of old.image (home_of s)).free n
  pub looked : Looked old new (length (bitmap_in s).places) 0

-- A transfer failed.
abbrev pub FailsToTakeWholeRun : Structure → ℕ → Disk → Disk → Type 0
FailsToTakeWholeRun s n old new = Went (WhileTaking (home_of s) n 0 (store_on s old) old) old new (3 * length (bitmap_in s).places) 1
