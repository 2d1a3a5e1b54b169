-- A file's last header links on to a new one (Files-11 On-Disk Structure Level 1, "File Header" and "Map Area").
use Rattle.std.specs.Prelude.{◌≡◌, ◌≢◌, ℕ, ◌+◌, ◌≤◌, ◌==◌, ◌++◌, List, true, IsTrue}
use Rattle.std.specs.List.{range_with_len}
use Rattle.f11_dev.specs.Disk.{Disk}
use Rattle.f11_dev.specs.Image.{Image}
use Rattle.f11_dev.specs.Went.{Went}
use Rattle.f11_header.specs.Fields.{file_sequence}
use Rattle.f11_map.specs.HeaderBlock.{segment_number, blocks_named, LinksToNone}
use Rattle.f11_index.specs.Headers.{IsInFile, IsLastOf}
use Rattle.f11_index.specs.IndexFile.{is_in_use}
use Rattle.f11_index.specs.Kept.{room}
use Rattle.f11_index.specs.Table.{Table, table_of, IsLive, IsNext}
use Rattle.f11_store.specs.Changes.{with_change}
use Rattle.f11_store.specs.File.{File}
use Rattle.f11_store.specs.Pieces.{new_blocks, with_slots_if}
use Rattle.f11_store.specs.Store.{Store}
use Rattle.f11_store.specs.declared.files.FileId.{FileId}
use Rattle.f11_image_store.specs.Allocation.{AddsZeroSlots, LinksFileless}
use Rattle.f11_image_store.specs.FileLaws.{with_header_linked}
use Rattle.f11_files.specs.Extending.Growing.{SameFree}
use Rattle.f11_files.specs.Structure.{index_in, bitmap_in, home_of, store_on}
use Rattle.f11_files.specs.Extending.Tail.{HasStore}
use Rattle.f11_files.specs.declared.structure.Structure.{Structure}
use Rattle.f11_files.specs.declared.extend.tail.Tail.{Tail}

-- A header may follow the last one: it is live, with the next segment number, it links to none, and none of a file links to it.
pub record MayFollow (t : Table) (tail : Tail) (id : FileId) : Type 0 where
  pub live : IsLive t id.number
  pub other : id.number ≢ tail.number
  pub sequence : file_sequence (t.header id.number) ≡ id.sequence
  pub segment : segment_number (t.header id.number) ≡ segment_number tail.block + 1
  pub no_link : LinksToNone (t.header id.number)
  pub no_other : (n : ℕ) → IsInFile t n → ¬ IsNext t n id.number

-- a file with this header more, and blocks that hold these
abbrev pub with_header_of : Table → ℕ → List (List ℕ) → File → File
with_header_of t m blocks f = record (with_header_linked t m f) { blocks = f.blocks ++ blocks }

-- a store in which file k has this header more, which names n blocks of zeros
abbrev pub with_run_linked : Structure → ℕ → FileId → ℕ → Disk → Store
with_run_linked s k id n old = with_slots_if (k == 1) n
    (with_change (store_on s old) k (with_header_of (table_of old.image (home_of s)) id.number (new_blocks (k == 1) n)))

-- where the disk is honest, in an image that stands meanwhile the last header links to it
abbrev pub Linking : Structure → Tail → FileId → ℕ → Disk → Image → Type 0
Linking s tail id count old image = IsTrue old.honest → HasStore (home_of s) (with_run_linked s tail.file.number id count old) image

-- A header that may follow names these blocks alone.
abbrev pub NamesThese : Structure → FileId → ℕ → ℕ → Disk → Type 0
NamesThese s id lbn count disk = IsTrue disk.honest →
    blocks_named ((table_of disk.image (home_of s)).header id.number) ≡ range_with_len lbn count

-- The link was written: the header is the file's last one then, and as it was.
pub record LinksTail (s after : Structure) (tail : Tail) (id : FileId) (count : ℕ) (old new : Disk) : Type 0 where
  pub is_last : IsTrue old.honest → IsLastOf (table_of new.image (home_of s)) tail.file.number id.number
  pub header_stays : IsTrue old.honest →
      (table_of new.image (home_of s)).header id.number ≡ (table_of old.image (home_of s)).header id.number
  pub in_use : (m : ℕ) → is_in_use (index_in s) m ≡ true → is_in_use (index_in after) m ≡ true
  pub bitmap : bitmap_in after ≡ bitmap_in s
  pub left : room s.index ≤ room after.index + count
  pub links : IsTrue old.honest → LinksFileless tail.file.number id.number (table_of old.image (home_of s)) (table_of new.image (home_of s))
  pub slots : IsTrue old.honest → AddsZeroSlots (table_of old.image (home_of s)) (table_of new.image (home_of s))
  pub store : Linking s tail id count old new.image
  pub free : IsTrue old.honest → SameFree (home_of s) old.image new.image
  pub went : Went (Linking s tail id count old) old new 1 0
