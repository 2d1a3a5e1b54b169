-- Blocks of a run that was marked used come to a file that had none, header by header (profile).
use Rattle.std.specs.Prelude.{◌≡◌, ℕ, ◌+◌, ◌*◌, IsTrue}
use Rattle.std.specs.List.{range_with_len}
use Rattle.f11_dev.specs.Disk.{Disk}
use Rattle.f11_dev.specs.Image.{Image}
use Rattle.f11_home.specs.Home.{HomeFields}
use Rattle.f11_index.specs.Table.{table_of}
use Rattle.f11_store.specs.File.{run_need, run_pointers, zero_blocks}
use Rattle.f11_store.specs.Lags.{blocks_work, LagsBy}
use Rattle.f11_store.specs.Pieces.{file_numbered, with_more_free, AddsBlocks}
use Rattle.f11_store.specs.Store.{Store}
use Rattle.f11_volume.specs.Sound.{HasSoundVolume}
use Rattle.f11_image_store.specs.Allocation.{AddsZeroSlots, NamesMore}
use Rattle.f11_image_store.specs.StoreOf.{store_of}
use Rattle.f11_files.specs.Answers.{WritesAtMost}
use Rattle.f11_files.specs.Extending.Growing.{SameFree}
use Rattle.f11_files.specs.Extending.Tail.{ownership_of}
use Rattle.f11_files.specs.Structure.{bitmap_in, home_of, store_on}
use Rattle.f11_files.specs.declared.structure.Structure.{Structure}
use Rattle.f11_files.specs.declared.extend.tail.Tail.{Tail}

-- An image that stands meanwhile: its volume is sound, and its store lags the one with the run free, by blocks that come.
pub record IsLaying (home : HomeFields) (k n : ℕ) (free : Store) (image : Image) : Type 0 where
  pub sound : HasSoundVolume image home
  pub lags : LagsBy (blocks_work k n (run_need (file_numbered free k).room n)) (store_of image home) free

-- the store of a disk with a run of n blocks free that was marked used
abbrev pub run_free : Structure → ℕ → Disk → Store
run_free s n disk = with_more_free (store_on s disk) n

-- that of an honest disk
abbrev pub LayingRun : Structure → ℕ → ℕ → Disk → Image → Type 0
LayingRun s k n old image = IsTrue old.honest → IsLaying (home_of s) k n (run_free s n old) image

-- so many transfers make n blocks zeros and name them: a write of the last header, and four transfers for each that is added
abbrev pub laying_cost : Structure → ℕ → ℕ → Disk → ℕ
laying_cost s k n disk = n + 4 * run_need (file_numbered (store_on s disk) k).room n + 1

-- The file has the run, from `lbn` on, in no more pointers than it needs.
pub record LaysRun (s after : Structure) (tail : Tail) (lbn n : ℕ) (old new : Disk) : Type 0 where
  pub bitmap : bitmap_in after ≡ bitmap_in s
  pub free : IsTrue old.honest → SameFree (home_of s) old.image new.image
  pub names :
      IsTrue old.honest →
      NamesMore tail.file.number (ownership_of tail) (range_with_len lbn n) (table_of old.image (home_of s))
      (table_of new.image (home_of s))
  pub slots : IsTrue old.honest → AddsZeroSlots (table_of old.image (home_of s)) (table_of new.image (home_of s))
  pub adds :
      IsTrue old.honest →
      AddsBlocks (run_free s n old) tail.file.number n (run_pointers n) (zero_blocks n) (store_of new.image (home_of s))
  pub writes : WritesAtMost (LayingRun s tail.file.number n old) (laying_cost s tail.file.number n old) old new 0
