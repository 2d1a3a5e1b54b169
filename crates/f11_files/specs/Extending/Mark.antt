-- The contiguous mark of a file is cleared, before it grows (Files-11 On-Disk Structure Level 1, "File Header", H.UCHA).
use Rattle.std.specs.Prelude.{◌≡◌, ℕ, IsTrue, List}
use Rattle.f11_dev.specs.Disk.{Disk}
use Rattle.f11_dev.specs.Image.{Image}
use Rattle.f11_dev.specs.Went.{Went}
use Rattle.f11_map.specs.HeaderBlock.{link_of}
use Rattle.f11_index.specs.Headers.{IsLastOf}
use Rattle.f11_index.specs.Table.{table_of}
use Rattle.f11_store.specs.Changes.{with_change}
use Rattle.f11_store.specs.Lags.{with_no_mark}
use Rattle.f11_store.specs.declared.files.FileId.{FileId}
use Rattle.f11_writes.specs.OtherSlots.{KeepsOtherSlots}
use Rattle.f11_volume.specs.Volume.{volume_of}
use Rattle.f11_image_store.specs.Allocation.{AddsZeroSlots, GainsBlocks}
use Rattle.f11_files.specs.Finding.First.{HoldsFile}
use Rattle.f11_files.specs.Structure.{index_in, home_of, store_on, IsStructureFor}
use Rattle.f11_files.specs.Extending.Tail.{HasStore}
use Rattle.f11_files.specs.declared.structure.Structure.{Structure}

-- where the disk is honest, in an image that stands meanwhile the file has no contiguous mark
abbrev pub Clearing : Structure → FileId → Disk → Image → Type 0
Clearing s f old image = IsTrue old.honest → HasStore (home_of s) (with_change (store_on s old) f.number with_no_mark) image

-- It has none: its first header was written where it had one, and all else is as it was, the file's last header too.
pub record ClearsMark (s : Structure) (f : FileId) (was block : List ℕ) (old new : Disk) : Type 0 where
  pub holds : HoldsFile (index_in s) f block new
  pub link : link_of block ≡ link_of was
  pub slots : IsTrue old.honest → KeepsOtherSlots f.number (table_of old.image (home_of s)) (table_of new.image (home_of s))
  pub last : IsTrue old.honest → (n : ℕ) → IsLastOf (table_of old.image (home_of s)) f.number n →
      IsLastOf (table_of new.image (home_of s)) f.number n
  pub is_for : IsStructureFor s new
  pub gains : IsTrue old.honest → GainsBlocks f.number 0 (volume_of old.image (home_of s)) (volume_of new.image (home_of s))
  pub zeros : IsTrue old.honest → AddsZeroSlots (table_of old.image (home_of s)) (table_of new.image (home_of s))
  pub store : Clearing s f old new.image
  pub went : Went (Clearing s f old) old new 1 0
