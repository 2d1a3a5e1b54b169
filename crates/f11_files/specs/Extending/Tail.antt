-- A file's last header in hand, and the blocks that it is to name (Files-11 On-Disk Structure Level 1, "File Header" and "Map Area").
use Rattle.std.specs.Prelude.{◌≡◌, ℕ, ◌^◌, ◌+◌, ◌<◌, ◌≤◌, ◌==◌, Bool, IsTrue, List, ◌++◌, if◌then◌else◌}
use Rattle.std.specs.List.{range_with_len}
use Rattle.f11_dev.specs.Disk.{Disk}
use Rattle.f11_dev.specs.Image.{Image}
use Rattle.f11_dev.specs.Went.{Went}
use Rattle.f11_header.specs.Fields.{map_area}
use Rattle.f11_home.specs.Home.{HomeFields}
use Rattle.f11_map.specs.InHand.{RewritesMap}
use Rattle.f11_map.specs.MapArea.{blocks_of}
use Rattle.f11_map.specs.MapWriting.{WritesPointers}
use Rattle.f11_map.specs.HeaderBlock.{segment_number, LinksToNone}
use Rattle.f11_index.specs.Headers.{IsLastOf}
use Rattle.f11_index.specs.Table.{table_of}
use Rattle.f11_chain.specs.Calls.{HoldsHeader}
use Rattle.f11_store.specs.File.{run_pointers}
use Rattle.f11_store.specs.Store.{Store}
use Rattle.f11_store.specs.declared.callers.Uic.{Uic}
use Rattle.f11_store.specs.declared.files.FileId.{FileId}
use Rattle.f11_volume.specs.Sound.{HasSoundVolume}
use Rattle.f11_volume.specs.Volume.{volume_of}
use Rattle.f11_writes.specs.NameLaws.{AreUnreferenced}
use Rattle.f11_image_store.specs.Allocation.{AddsZeroSlots, NamesMore}
use Rattle.f11_image_store.specs.FileLaws.{pointers_in, room_in}
use Rattle.f11_index.specs.Kept.{room}
use Rattle.f11_store.specs.Pieces.{with_blocks_named}
use Rattle.f11_files.specs.Extending.Growing.{SameFree}
use Rattle.f11_image_store.specs.StoreOf.{store_of}
use Rattle.f11_image_store.specs.Confines.{only_header, new_header, either}
use Rattle.f11_files.specs.Structure.{index_in, bitmap_in, home_of, store_on, ConfinesTo, StandsWithin}
use Rattle.f11_files.specs.Extending.Zeros.{HoldsZeros}
use Rattle.f11_files.specs.declared.structure.Structure.{Structure}
use Rattle.f11_files.specs.declared.extend.tail.Tail.{Tail}

-- the file that a header in hand is of, and what each header that it gets says of it
abbrev pub whose : Tail → FileId × Uic × ℕ
whose tail = (tail.file, tail.owner, tail.protection)

abbrev pub ownership_of : Tail → Uic × ℕ
ownership_of tail = (tail.owner, tail.protection)

-- the headers that may be changed where it gets blocks: its last one, and new ones
abbrev pub growth_headers : Structure → Tail → ℕ → Bool
growth_headers s tail = either (only_header tail.number) (new_header (index_in s))

-- No block was changed but those headers, the bitmaps, and these.
abbrev pub ConfinesGrowth : Structure → Tail → List ℕ → Disk → Disk → Type 0
ConfinesGrowth s tail others old new = ConfinesTo s (growth_headers s tail) others old new

-- A block that is neither of those headers, of the bitmaps nor one of these is none of those headers, nor of the bitmaps, afterwards; and
-- each header is where it was, or is one of these.
pub record GrowthStandsWithin (s : Structure) (tail : Tail) (others : List ℕ) (after : Structure) (later : Tail) : Type 0 where
  pub grown : StandsWithin s (growth_headers s tail) others after (growth_headers after later)
  pub all : (headers : ℕ → Bool) → StandsWithin s headers others after headers

-- The block is a valid header in use, which links to none; it is the last of the file where the disk is honest.
pub record HoldsLast (s : Structure) (tail : Tail) (disk : Disk) : Type 0 where
  pub header : HoldsHeader (index_in s) tail.number tail.block disk
  pub no_link : LinksToNone tail.block
  pub few : segment_number tail.block < 256
  pub is_last : IsTrue disk.honest → IsLastOf (table_of disk.image (home_of s)) tail.file.number tail.number

-- A header may name so many blocks from `lbn` on: no other does, they are in use, and they hold zeros.
pub record MayBeGiven (home : HomeFields) (lbn count : ℕ) (disk : Disk) : Type 0 where
  pub some : 0 < count
  pub low : lbn + count ≤ 2 ^ 24
  pub unreferenced : IsTrue disk.honest → AreUnreferenced (volume_of disk.image home) lbn count
  pub zeros : IsTrue disk.honest → HoldsZeros disk.image lbn count

-- An image's volume is sound, and its store is this one.
pub record HasStore (home : HomeFields) (s : Store) (image : Image) : Type 0 where
  pub sound : HasSoundVolume image home
  pub store : store_of image home ≡ s

-- A header in hand names these blocks too, behind its others, in so many pointers more.
pub record NamesInHand (old new : List ℕ) (more lbn count : ℕ) : Type 0 where
  pub header : RewritesMap old new
  pub pointers : pointers_in new ≡ pointers_in old + more
  pub blocks : blocks_of (map_area new) ≡ blocks_of (map_area old) ++ range_with_len lbn count
  pub rest : WritesPointers (map_area old) (map_area new)

-- It names them in no more pointers than one run takes: a pointer of 256 blocks after another, and the rest in one more.
pub record NamesAll (old new : List ℕ) (lbn count : ℕ) : Type 0 where
  pub more : ℕ
  pub few : more ≤ run_pointers count
  pub names : NamesInHand old new more lbn count

-- the places for pointers of the header that gets the next blocks: those left in the last one, or else all of a new one
abbrev pub places_next : List ℕ → ℕ
places_next block = if room_in block == 0 then 102 else room_in block

-- where the disk is honest, in an image that stands meanwhile the header names the blocks in so many pointers more
abbrev pub Naming : Structure → Tail → ℕ → ℕ → Disk → Image → Type 0
Naming s tail more count old image =
    IsTrue old.honest → HasStore (home_of s) (with_blocks_named tail.file.number more count (store_on s old)) image

-- The header names these blocks too, and was written.
pub record NamesRun (s after : Structure) (tail later : Tail) (lbn count : ℕ) (old new : Disk) : Type 0 where
  pub file_is : whose later ≡ whose tail
  pub more : ℕ
  pub few : more ≤ run_pointers count
  pub fits : more ≤ room_in tail.block
  pub holds : HoldsLast after later new
  pub bitmap : bitmap_in after ≡ bitmap_in s
  pub left : room s.index ≤ room after.index + count
  pub names :
      IsTrue old.honest →
      NamesMore tail.file.number (ownership_of tail) (range_with_len lbn count) (table_of old.image (home_of s))
      (table_of new.image (home_of s))
  pub slots : IsTrue old.honest → AddsZeroSlots (table_of old.image (home_of s)) (table_of new.image (home_of s))
  pub store : Naming s tail more count old new.image
  pub free : IsTrue old.honest → SameFree (home_of s) old.image new.image
  pub went : Went (Naming s tail more count old) old new 1 0

-- The transfer failed.
pub record FailsToName (s : Structure) (tail : Tail) (lbn count : ℕ) (old new : Disk) : Type 0 where
  pub more : ℕ
  pub few : more ≤ run_pointers count
  pub fits : more ≤ room_in tail.block
  pub went : Went (Naming s tail more count old) old new 1 1

-- The header has too few places for these blocks: nothing was done.
pub record HasNoPlace (tail after : Tail) (count : ℕ) (old new : Disk) : Type 0 where
  pub tail_is : after ≡ tail
  pub disk_is : new ≡ old
  pub lacks : room_in tail.block < run_pointers count
