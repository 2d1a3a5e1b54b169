-- What stands while headers go, each in three steps (profile): it is killed, its slot leaves use, and its blocks are marked free.
use Rattle.std.specs.Prelude.{◌≡◌, ℕ, ◌+◌, ◌-◌, ◌*◌, ◌<◌, ◌≤◌, true, false, IsTrue, List, [], ◌∷◌, length, None, sum_by, Some}
use Rattle.std.specs.List.{slice_get}
use Rattle.f11_bits.specs.Bitmap.{Marks}
use Rattle.f11_dev.specs.Disk.{Disk}
use Rattle.f11_header.specs.Writing.{dead_header}
use Rattle.f11_home.specs.Home.{HomeFields}
use Rattle.f11_map.specs.HeaderBlock.{segment_number, link_of, blocks_named, LinksToNone}
use Rattle.f11_index.specs.Headers.{headers_from, IsInFile}
use Rattle.f11_index.specs.Sound.{AreApart}
use Rattle.f11_index.specs.Table.{Table, table_of, IsNext}
use Rattle.f11_chain.specs.Calls.{IsNextOf}
use Rattle.f11_chain.specs.FileHeaders.{blocks_by}
use Rattle.f11_store.specs.Changes.{is_in, with_file, without_slots}
use Rattle.f11_store.specs.Store.{Store}
use Rattle.f11_store.specs.declared.refusals.Refusal.{Refusal}
use Rattle.f11_volume.specs.Contents.{pointer_count}
use Rattle.f11_volume.specs.Space.{storage_bitmap}
use Rattle.f11_volume.specs.Volume.{Volume, volume_of, IsNamed}
use Rattle.f11_writes.specs.OtherSlots.{KeepsOtherSlots}
use Rattle.f11_image_store.specs.Allocation.{FreesBlocks, LosesHeaders}
use Rattle.f11_files.specs.Answers.{WritesAtMost, Breaks}
use Rattle.f11_image_store.specs.FileLaws.{pointers_in}
use Rattle.f11_files.specs.Extending.Growing.{SameFree}
use Rattle.f11_image_store.specs.SlotLaws.{with_use, KeepsOtherBlocks}
use Rattle.f11_image_store.specs.StoreOf.{store_of}
use Rattle.f11_store.specs.Pieces.{with_more_free}
use Rattle.f11_image_store.specs.Freeing.{Freeing}

-- it broke off
abbrev pub BreaksOff : HomeFields → Store → ℕ → Refusal → Disk → Disk → Type 0
BreaksOff home s most refusal old new = Breaks (Freeing home s old) most refusal old new

-- So many blocks from an LBN on were marked free.
pub record GivesRun (home : HomeFields) (lbn count : ℕ) (old new : Disk) : Type 0 where
  pub marks : IsTrue old.honest → Marks true (storage_bitmap old.image home) lbn count old.image new.image
  pub none : count ≡ 0 → new ≡ old
  pub writes : WritesAtMost (Freeing home (store_of old.image home) old) 4 old new 0

-- These blocks are unreferenced: in the volume, used, named by no header, and none of them stands twice here.
pub record AreAllUnreferenced (v : Volume) (lbns : List ℕ) : Type 0 where
  pub inside : (i lbn : ℕ) → slice_get lbns i ≡ Some lbn → lbn < v.size
  pub used : (i lbn : ℕ) → slice_get lbns i ≡ Some lbn → v.free lbn ≡ false
  pub unnamed : (i lbn : ℕ) → slice_get lbns i ≡ Some lbn → ¬ IsNamed v.table lbn
  pub apart : AreApart lbns

-- These blocks were marked free, those of so many pointers at most.
pub record GivesBlocks (home : HomeFields) (lbns : List ℕ) (pointers : ℕ) (old new : Disk) : Type 0 where
  pub table : IsTrue old.honest → table_of new.image home ≡ table_of old.image home
  pub store : IsTrue old.honest → store_of new.image home ≡ with_more_free (store_of old.image home) (length lbns)
  pub frees : IsTrue old.honest → FreesBlocks lbns (volume_of old.image home) (volume_of new.image home)
  pub writes : WritesAtMost (Freeing home (store_of old.image home) old) (4 * pointers) old new 0

-- Header n may go: it is none of the volume's own, and no header of a file links to it.
pub record MayDrop (t : Table) (n : ℕ) : Type 0 where
  pub late : 5 ≤ n
  pub unlinked : (m : ℕ) → IsInFile t m → ¬ IsNext t m n

-- Header n was killed, which is this block, and its slot left use. All other slots stay, and the blocks that it named are unreferenced.
pub record FreesSlot (home : HomeFields) (n : ℕ) (block : List ℕ) (old new : Disk) : Type 0 where
  pub others : IsTrue old.honest → KeepsOtherSlots n (table_of old.image home) (table_of new.image home)
  pub unused : IsTrue old.honest → (table_of new.image home).in_use n ≡ false
  pub dead : IsTrue old.honest → (table_of new.image home).header n ≡ dead_header block
  pub blocks : IsTrue old.honest → KeepsOtherBlocks n (table_of old.image home) (table_of new.image home)
  pub size : IsTrue old.honest → (volume_of new.image home).size ≡ (volume_of old.image home).size
  pub free : IsTrue old.honest → SameFree home old.image new.image
  pub unreferenced : IsTrue old.honest → AreAllUnreferenced (volume_of new.image home) (blocks_named block)
  pub store : IsTrue old.honest → store_of new.image home ≡ with_use (with_file (store_of old.image home) n None) n false
  pub writes : WritesAtMost (Freeing home (with_file (store_of old.image home) n None) old) 2 old new 0

-- a store without header n, which named so many blocks: they are free, its slot isn't in use, and where it was a file's first, that is gone
abbrev pub without_header : Store → ℕ → ℕ → Store
without_header s n blocks = with_more_free (with_use (with_file s n None) n false) blocks

-- how many transfers a header costs that goes and has so many pointers
abbrev pub drop_cost : List ℕ → ℕ
drop_cost block = 2 + 4 * pointers_in block

-- Header n went, which is this block.
pub record DropsHeader (home : HomeFields) (n : ℕ) (block : List ℕ) (old new : Disk) : Type 0 where
  pub others : IsTrue old.honest → KeepsOtherSlots n (table_of old.image home) (table_of new.image home)
  pub unused : IsTrue old.honest → (table_of new.image home).in_use n ≡ false
  pub dead : IsTrue old.honest → (table_of new.image home).header n ≡ dead_header block
  pub blocks : IsTrue old.honest → KeepsOtherBlocks n (table_of old.image home) (table_of new.image home)
  pub frees : IsTrue old.honest → FreesBlocks (blocks_named block) (volume_of old.image home) (volume_of new.image home)
  pub store : IsTrue old.honest → store_of new.image home ≡ without_header (store_of old.image home) n (length (blocks_named block))
  pub writes : WritesAtMost (Freeing home (with_file (store_of old.image home) n None) old) (drop_cost block) old new 0

-- the headers behind one in hand, along the links
abbrev pub headers_behind : Table → List ℕ → List ℕ
headers_behind t block = headers_from (255 - segment_number block) t (link_of block).number

-- These headers hang behind one in hand: each is the next of the one before, the last has no link, and no header of a file links to any.
abbrev pub HangsBehind : Table → List ℕ → List ℕ → Type 0
HangsBehind t before [] = LinksToNone before
HangsBehind t before (n ∷ ns) = IsNextOf t before n × ((m : ℕ) → IsInFile t m → ¬ IsNext t m n) × HangsBehind t (t.header n) ns

-- a store without these headers, which are of no file
abbrev pub without_headers : Store → Table → List ℕ → Store
without_headers s t headers = with_more_free (without_slots s headers) (length (blocks_by t headers))

-- how many transfers they cost
abbrev pub tail_cost : Table → List ℕ → ℕ
tail_cost t headers = 3 * length headers + 4 * sum_by (pointer_count t) headers

-- There are as many slots, and each but these keeps its block.
pub record KeepsBlocksBut (headers : List ℕ) (old new : Table) : Type 0 where
  pub slots : new.slots ≡ old.slots
  pub header : (m : ℕ) → 0 < m → m ≤ old.slots → is_in headers m ≡ false → new.header m ≡ old.header m

-- All headers behind the one in hand went.
pub record DropsBehind (home : HomeFields) (block : List ℕ) (old new : Disk) : Type 0 where
  pub store :
      IsTrue old.honest →
      store_of new.image home ≡ without_headers (store_of old.image home) (table_of old.image home)
      (headers_behind (table_of old.image home) block)
  pub loses : IsTrue old.honest →
      LosesHeaders (headers_behind (table_of old.image home) block) (volume_of old.image home) (volume_of new.image home)
  pub blocks :
      IsTrue old.honest →
      KeepsBlocksBut (headers_behind (table_of old.image home) block) (table_of old.image home) (table_of new.image home)
  pub writes :
      WritesAtMost (Freeing home (store_of old.image home) old)
      (tail_cost (table_of old.image home) (headers_behind (table_of old.image home) block)) old new 0
