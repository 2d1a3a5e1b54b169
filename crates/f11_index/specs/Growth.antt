-- How the index file grows (Files-11 On-Disk Structure Level 1, "Index File" and "File Header"): its last header is written anew
-- with blocks more, or with a link to a header that names them.
use Rattle.std.specs.Prelude.{◌≡◌, ◌≢◌, ℕ, ◌+◌, ◌<◌, ◌≤◌, Bool, false, IsTrue, List, ◌++◌, length, slice_set}
use Rattle.std.specs.List.{range_with_len}
use Rattle.f11_dev.specs.Disk.{Disk, with_transfer, with_block_at}
use Rattle.f11_dev.specs.Image.{Image}
use Rattle.f11_map.specs.header.Fields.{file_sequence}
use Rattle.f11_map.specs.header.Header.{IsHeader}
use Rattle.f11_home.specs.Home.{HomeFields}
use Rattle.f11_index.specs.Calls.{with_blocks_behind}
use Rattle.f11_map.specs.HeaderBlock.{segment_number, link_of, blocks_named, LinksToNone}
use Rattle.f11_index.specs.Headers.{IsLastOf}
use Rattle.f11_index.specs.IndexFile.{Index, index_of, index_file_blocks, slots, header_lbn, HasNonePast}
use Rattle.f11_index.specs.Kept.{IsIndexFor}
use Rattle.f11_index.specs.Sound.{IsIndexFile, AreApart}
use Rattle.f11_index.specs.Table.{Table, table_of, IsLive}

-- A block is as good a header n as the one there: valid, and with the same sequence number and segment number.
pub record IsGoodFor (t : Table) (n : ℕ) (block : List ℕ) : Type 0 where
  pub valid : IsHeader block n
  pub sequence : file_sequence block ≡ file_sequence (t.header n)
  pub segment : segment_number block ≡ segment_number (t.header n)

-- Header n, the last of file 1, may become this block, which names these blocks more and links to none too.
pub record MayNameMore (t : Table) (n : ℕ) (block : List ℕ) (lbn count : ℕ) : Type 0 where
  pub last : IsLastOf t 1 n
  pub few : segment_number (t.header n) < 256
  pub good : IsGoodFor t n block
  pub no_link : LinksToNone block
  pub blocks : blocks_named block ≡ blocks_named (t.header n) ++ range_with_len lbn count

-- It may become this block, which names the blocks that it named, and links to header m: m names these blocks more, and is the next
-- then, and the last.
pub record MayLinkOn (t : Table) (n m : ℕ) (block : List ℕ) (lbn count : ℕ) : Type 0 where
  pub last : IsLastOf t 1 n
  pub few : segment_number (t.header n) < 255
  pub good : IsGoodFor t n block
  pub blocks : blocks_named block ≡ blocks_named (t.header n)
  pub number : (link_of block).number ≡ m
  pub sequence : (link_of block).sequence ≡ file_sequence (t.header m)
  pub to : IsLive t m
  pub next_segment : segment_number (t.header m) ≡ segment_number (t.header n) + 1
  pub no_link : LinksToNone (t.header m)
  pub next_blocks : blocks_named (t.header m) ≡ range_with_len lbn count

-- The index file has these blocks too, behind its others, and header n is this block: all else that it says stays.
pub record AddsIndexBlocks (home : HomeFields) (n : ℕ) (block : List ℕ) (lbn count : ℕ) (old new : Image) : Type 0 where
  pub file : index_file_blocks new home ≡ index_file_blocks old home ++ range_with_len lbn count
  pub index : index_of new home ≡ with_blocks_behind (index_of old home) lbn count
  pub header : (table_of new home).header n ≡ block
  pub others : (m : ℕ) → 0 < m → m ≤ slots (index_of old home) → m ≢ n → (table_of new home).header m ≡ (table_of old home).header m
  pub in_use : (m : ℕ) → m ≤ slots (index_of old home) → (table_of new home).in_use m ≡ (table_of old home).in_use m
  pub unused : HasNonePast (index_of old home) → (m : ℕ) → slots (index_of old home) < m → (table_of new home).in_use m ≡ false
  pub none_past : HasNonePast (index_of old home) → HasNonePast (index_of new home)
  pub sound : IsIndexFile new home

-- the image with this as header n
abbrev pub with_header : Image → HomeFields → ℕ → List ℕ → Image
with_header image home n block = slice_set image (header_lbn (index_of image home) n) block

-- the index file grows where its last header names more blocks, on the device
abbrev pub IndexFileGrows : Type 0
IndexFileGrows =
    (image : Image) (home : HomeFields) (n : ℕ) (block : List ℕ) (lbn count : ℕ) → IsIndexFile image home →
    AreApart (index_file_blocks image home) →
    MayNameMore (table_of image home) n block lbn count → lbn + count ≤ length image →
    AddsIndexBlocks home n block lbn count image (with_header image home n block)

-- and where it links to a header that does
abbrev pub IndexFileGrowsByHeader : Type 0
IndexFileGrowsByHeader =
    (image : Image) (home : HomeFields) (n m : ℕ) (block : List ℕ) (lbn count : ℕ) → IsIndexFile image home →
    AreApart (index_file_blocks image home) →
    MayLinkOn (table_of image home) n m block lbn count → lbn + count ≤ length image →
    AddsIndexBlocks home n block lbn count image (with_header image home n block)

-- so what is kept of a disk's index file, with these blocks behind, is for the disk
abbrev pub GrownStaysFor : Type 0
GrownStaysFor =
    (index : Index) (home : HomeFields) (disk : Disk) (passed : Bool) (n : ℕ) (block : List ℕ) (lbn count : ℕ) →
    (IsTrue disk.honest → AddsIndexBlocks home n block lbn count disk.image (with_header disk.image home n block)) →
    lbn + count ≤ length disk.image → IsIndexFor index home disk →
    IsIndexFor (with_blocks_behind index lbn count) home (with_transfer passed (with_block_at (header_lbn index n) block disk))
