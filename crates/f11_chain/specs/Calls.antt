-- What each call along a file's headers does, by its outcome. The headers are those of an index file that was loaded.
use Rattle.std.specs.Prelude.{◌≡◌, ◌≢◌, ℕ, ◌+◌, ◌-◌, ◌*◌, ◌<◌, ◌≤◌, min, Bool, true, false, IsTrue, List, length, Contains, Some}
use Rattle.std.specs.List.{slice_get}
use Rattle.f11_dev.specs.Disk.{Disk}
use Rattle.f11_dev.specs.Looked.{Looked}
use Rattle.f11_index.specs.header.Fields.{file_sequence}
use Rattle.f11_index.specs.header.Header.{IsHeader}
use Rattle.f11_index.specs.map.HeaderBlock.{segment_number, link_of, blocks_named, LinksToNone}
use Rattle.f11_index.specs.Headers.{headers_of, IsLastOf}
use Rattle.f11_index.specs.IndexFile.{Index, is_in_use}
use Rattle.f11_index.specs.Table.{Table, table_in, IsLive, IsFile, IsHeaderOf, IsWholeFile}
use Rattle.f11_chain.specs.FileHeaders.{file_blocks, blocks_before, block_by_vbn, IsSoundFile}
use Rattle.f11_chain.specs.declared.blocks.FileEnd.{FileEnd}
use Rattle.f11_chain.specs.declared.blocks.HeaderAt.{HeaderAt}
use Rattle.f11_chain.specs.declared.blocks.Place.{Place}

-- the headers that a disk has by this index
abbrev pub table : Index → Disk → Table
table index disk = table_in disk.image index

-- The block is header n, as a valid one in a slot in use; it is the disk's where that is honest.
pub record HoldsHeader (index : Index) (n : ℕ) (block : List ℕ) (disk : Disk) : Type 0 where
  pub in_use : is_in_use index n ≡ true
  pub valid : IsHeader block n
  pub block_is : IsTrue disk.honest → block ≡ (table index disk).header n

-- Slot n's header was read where it is in use; it is live, or isn't.
pub record ReadsHeader (index : Index) (n : ℕ) (live : Bool) (block : List ℕ) (old new : Disk) : Type 0 where
  pub holds : IsTrue live → HoldsHeader index n block old
  pub not_live : live ≡ false → IsTrue old.honest → ¬ IsLive (table index old) n
  pub looked : Looked old new 1 0

-- The first header of file n was read.
pub record ReadsFirst (index : Index) (n : ℕ) (block : List ℕ) (old new : Disk) : Type 0 where
  pub header : HoldsHeader index n block old
  pub first : segment_number block ≡ 0
  pub looked : Looked old new 1 0

-- Slot n has no file's first header.
pub record FindsNoFile (index : Index) (n : ℕ) (old new : Disk) : Type 0 where
  pub no_file : IsTrue old.honest → ¬ IsFile (table index old) n
  pub looked : Looked old new 1 0

-- Header m was read, which the header before it links to.
pub record ReadsNext (index : Index) (m : ℕ) (before block : List ℕ) (old new : Disk) : Type 0 where
  pub number : (link_of before).number ≡ m
  pub sequence : (link_of before).sequence ≡ file_sequence block
  pub segment : segment_number block ≡ segment_number before + 1
  pub not_last : segment_number before < 255
  pub header : HoldsHeader index m block old
  pub looked : Looked old new 1 0

-- The header links to none, and nothing was read.
pub record FindsLast (before block : List ℕ) (old new : Disk) : Type 0 where
  pub no_link : LinksToNone before
  pub block_stays : block ≡ before
  pub disk_stays : new ≡ old

-- how many headers are read for the next one: none for that of a header of the last segment, 255
abbrev pub next_reads : List ℕ → ℕ
next_reads before = min 1 (255 - segment_number before)

-- Header m is the next of a header in hand.
pub record IsNextOf (t : Table) (before : List ℕ) (m : ℕ) : Type 0 where
  pub to : IsLive t m
  pub number : (link_of before).number ≡ m
  pub sequence : (link_of before).sequence ≡ file_sequence (t.header m)
  pub segment : segment_number (t.header m) ≡ segment_number before + 1

-- The header links to one that isn't its next.
pub record FindsWrongLink (index : Index) (before : List ℕ) (old new : Disk) : Type 0 where
  pub some_link : (link_of before).number ≢ 0
  pub wrong : IsTrue old.honest → (m : ℕ) → ¬ IsNextOf (table index old) before m
  pub looked : Looked old new (next_reads before) 0

-- The header links to one that couldn't be read.
pub record FailsToReadNext (before : List ℕ) (old new : Disk) : Type 0 where
  pub some_link : (link_of before).number ≢ 0
  pub looked : Looked old new (next_reads before) 1

-- The block holds the first header of file n.
pub record HoldsFirst (index : Index) (n : ℕ) (block : List ℕ) (disk : Disk) : Type 0 where
  pub header : HoldsHeader index n block disk
  pub first : segment_number block ≡ 0

-- A header is one of its file, behind so many blocks.
pub record IsHeaderAt (t : Table) (at : HeaderAt) : Type 0 where
  pub of_file : IsHeaderOf t at.file at.number
  pub before_is : at.before ≡ blocks_before t at.file at.number

-- Headers of file n were read beside those in hand, 0 or 1 of them, each once at most; so many transfers failed.
pub record LooksAlongFile (index : Index) (n in_hand : ℕ) (old new : Disk) (faults : ℕ) : Type 0 where
  pub headers : ℕ
  pub few : headers + in_hand ≤ 256
  pub each_once : IsTrue old.honest → headers + in_hand ≤ length (headers_of (table index old) n)
  pub looked : Looked old new headers faults

-- A header names this block in this place, from 0, and it is on a device of so many blocks.
pub record HasBlockAt (block : List ℕ) (left blocks lbn : ℕ) : Type 0 where
  pub named : slice_get (blocks_named block) left ≡ Some lbn
  pub within : lbn < blocks

-- Block `vbn` of file n was found, which a header of the file names: that header was read, and those before it.
pub record Locates (index : Index) (n vbn lbn : ℕ) (old new : Disk) : Type 0 where
  pub header : ℕ
  pub of_file : IsTrue old.honest → IsHeaderOf (table index old) n header
  pub named : IsTrue old.honest → Contains (blocks_named ((table index old).header header)) lbn
  pub block_is : IsTrue old.honest → block_by_vbn (table index old) n vbn ≡ Some lbn
  pub within : lbn < length old.image
  pub looked : LooksAlongFile index n 0 old new 0
  pub no_further : IsTrue old.honest → looked.headers ≤ segment_number ((table index old).header header) + 1

-- The header of file n that names block number `at` of the file, from 0, is in hand; no header was read behind it.
pub record Seeks (index : Index) (n in_hand at : ℕ) (place : Place) (block : List ℕ) (old new : Disk) : Type 0 where
  pub header : HoldsHeader index place.number block old
  pub segment : place.segment ≡ segment_number block
  pub left_within : place.left < length (blocks_named block)
  pub left_low : place.left ≤ at
  pub of_file : IsTrue old.honest → IsHeaderOf (table index old) n place.number
  pub at_is : IsTrue old.honest → at ≡ blocks_before (table index old) n place.number + place.left
  pub block_is : IsTrue old.honest → slice_get (file_blocks (table index old) n) at ≡ slice_get (blocks_named block) place.left
  pub looked : LooksAlongFile index n in_hand old new 0
  pub no_further : looked.headers + in_hand ≤ place.segment + 1

-- File n is whole and has fewer blocks.
pub record FindsEnd (index : Index) (n in_hand vbn : ℕ) (old new : Disk) : Type 0 where
  pub whole : IsTrue old.honest → IsWholeFile (table index old) n
  pub fewer : IsTrue old.honest → length (file_blocks (table index old) n) < vbn
  pub looked : LooksAlongFile index n in_hand old new 0

-- File n isn't whole.
pub record FindsBreak (index : Index) (n in_hand : ℕ) (old new : Disk) : Type 0 where
  pub broken : IsTrue old.honest → ¬ IsWholeFile (table index old) n
  pub looked : LooksAlongFile index n in_hand old new 0

-- File n isn't whole, or has a block off the device.
pub record FindsDamage (index : Index) (n : ℕ) (old new : Disk) : Type 0 where
  pub damaged : IsTrue old.honest → ¬ IsSoundFile (table index old) n (length old.image)
  pub looked : LooksAlongFile index n 0 old new 0

-- The last header of file n is in hand, and the file's headers and blocks were counted; no header was read behind the last.
pub record ReadsLast (index : Index) (n in_hand : ℕ) (last : FileEnd) (block : List ℕ) (old new : Disk) : Type 0 where
  pub header : HoldsHeader index last.number block old
  pub no_link : LinksToNone block
  pub segment : last.headers ≡ segment_number block + 1
  pub few : last.headers ≤ 256
  pub few_blocks : last.blocks ≤ 32512 * last.headers
  pub is_last : IsTrue old.honest → IsLastOf (table index old) n last.number
  pub whole : IsTrue old.honest → IsWholeFile (table index old) n
  pub headers_are : IsTrue old.honest → last.headers ≡ length (headers_of (table index old) n)
  pub blocks_are : IsTrue old.honest → last.blocks ≡ length (file_blocks (table index old) n)
  pub looked : LooksAlongFile index n in_hand old new 0
  pub no_further : looked.headers + in_hand ≤ last.headers

-- A transfer failed.
abbrev pub FailsAlong : Index → ℕ → ℕ → Disk → Disk → Type 0
FailsAlong index n in_hand old new = LooksAlongFile index n in_hand old new 1
