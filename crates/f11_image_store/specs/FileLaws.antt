-- How a file changes where one of its headers is written (Files-11 On-Disk Structure Level 1, "File Header" and "Map Area").
use Rattle.std.specs.Prelude.{◌≡◌, ◌≢◌, ℕ, ◌+◌, ◌-◌, ◌<◌, ◌≤◌, List, [], ◌∷◌, ◌++◌, length, map, take, sum_by}
use Rattle.std.specs.List.{range_with_len}
use Rattle.f11_dev.specs.Image.{Image}
use Rattle.f11_header.specs.Fields.{file_sequence, owner, protection, characteristics, attributes, ident_area, ident_room, map_area}
use Rattle.f11_header.specs.MapFields.{places}
use Rattle.f11_volume.specs.home.Home.{HomeFields}
use Rattle.f11_volume.specs.map.MapArea.{runs_of}
use Rattle.f11_index.specs.Growth.{IsGoodFor, with_header}
use Rattle.f11_volume.specs.map.HeaderBlock.{segment_number, link_of, blocks_named, LinksToNone}
use Rattle.f11_index.specs.Headers.{headers_of, IsInFile}
use Rattle.f11_index.specs.Table.{Table, table_of, last_sequence, IsLive, IsNext, IsHeaderOf}
use Rattle.f11_volume.specs.chain.FileHeaders.{blocks_before}
use Rattle.f11_store.specs.Changes.{with_change, with_more_slots}
use Rattle.f11_store.specs.File.{File}
use Rattle.f11_volume.specs.Contents.{block_or_zeros, pointer_count}
use Rattle.f11_volume.specs.Sound.{HasSoundVolume}
use Rattle.f11_volume.specs.Volume.{volume_of}
use Rattle.f11_writes.specs.Kept.{file_in, WritesHeader, WritesGrowth}
use Rattle.f11_writes.specs.NameLaws.{AreUnreferenced}
use Rattle.f11_image_store.specs.StoreOf.{store_of}
use Rattle.f11_store.specs.Pieces.{with_more_blocks}

-- A header says what another does of its file, but for its map.
pub record SaysAlike (old new : List ℕ) : Type 0 where
  pub owner_is : owner new ≡ owner old
  pub protection_is : protection new ≡ protection old
  pub characteristics_are : characteristics new ≡ characteristics old
  pub ident_is : ident_area new ≡ ident_area old
  pub ident_room_is : ident_room new ≡ ident_room old
  pub attributes_are : attributes new ≡ attributes old

-- It has so many retrieval pointers more, in as many places.
pub record HasPointersMore (more : ℕ) (old new : List ℕ) : Type 0 where
  pub pointers : length (runs_of (map_area new)) ≡ length (runs_of (map_area old)) + more
  pub places_are : places (map_area new) ≡ places (map_area old)

-- This block may stand as header n of file f: it is as good, and says what that does of the file.
pub record MayStand (t : Table) (f n : ℕ) (block : List ℕ) : Type 0 where
  pub of : IsHeaderOf t f n
  pub few : segment_number (t.header n) < 256
  pub good : IsGoodFor t n block
  pub alike : SaysAlike (t.header n) block

-- It may stand there, the last one, with so many blocks from `lbn` on more, in so many pointers more.
pub record NamesMoreOf (t : Table) (f n : ℕ) (block : List ℕ) (more lbn count : ℕ) : Type 0 where
  pub stands : MayStand t f n block
  pub last : LinksToNone (t.header n)
  pub no_link : LinksToNone block
  pub pointers : HasPointersMore more (t.header n) block
  pub blocks : blocks_named block ≡ blocks_named (t.header n) ++ range_with_len lbn count

-- It may stand there, the last one, with a link to header m, which links to none.
pub record LinksOnTo (t : Table) (f n m : ℕ) (block : List ℕ) : Type 0 where
  pub stands : MayStand t f n block
  pub last : LinksToNone (t.header n)
  pub early : segment_number (t.header n) < 255
  pub number : (link_of block).number ≡ m
  pub other : m ≢ n
  pub to : IsLive t m
  pub sequence : (link_of block).sequence ≡ file_sequence (t.header m)
  pub next_segment : segment_number (t.header m) ≡ segment_number (t.header n) + 1
  pub no_link : LinksToNone (t.header m)
  pub pointers : HasPointersMore 0 (t.header n) block
  pub blocks : blocks_named block ≡ blocks_named (t.header n)

-- It may stand there with the first of the blocks that it names, so many, and no link: the file ends there.
pub record EndsThere (t : Table) (f n : ℕ) (block : List ℕ) (left : ℕ) : Type 0 where
  pub stands : MayStand t f n block
  pub no_link : LinksToNone block
  pub blocks : blocks_named block ≡ take left (blocks_named (t.header n))
  pub within : left ≤ length (blocks_named (t.header n))

-- what the blocks from this one on hold, so many
abbrev pub held_from : Image → ℕ → ℕ → List (List ℕ)
held_from image lbn count = map (block_or_zeros image) (range_with_len lbn count)

-- a file with this header more
abbrev pub with_header_linked : Table → ℕ → File → File
with_header_linked t m f = record f {
  held = f.held ++ m ∷ [];
  pointers = f.pointers + pointer_count t m;
  room = places (map_area (t.header m)) - pointer_count t m;
}

-- and what its blocks hold
abbrev pub with_header_more : Image → Table → ℕ → File → File
with_header_more image t m f = record
    (with_header_linked t m f) { blocks = f.blocks ++ map (block_or_zeros image) (blocks_named (t.header m)) }

-- a file with the first of its headers, so many pointers and places, and the first of its blocks
abbrev pub with_first_headers : ℕ → ℕ → ℕ → ℕ → File → File
with_first_headers headers pointers room blocks f = record f {
  held = take headers f.held;
  pointers = pointers;
  room = room;
  blocks = take blocks f.blocks;
}

-- how many pointers the headers of file f before header n have
abbrev pub pointers_before : Table → ℕ → ℕ → ℕ
pointers_before t f n = sum_by (pointer_count t) (take (segment_number (t.header n)) (headers_of t f))

-- the pointers and the places left of a header
abbrev pub pointers_in : List ℕ → ℕ
pointers_in block = length (runs_of (map_area block))

abbrev pub room_in : List ℕ → ℕ
room_in block = places (map_area block) - pointers_in block

-- a file whose last header is written so has those blocks more, with what they hold
abbrev pub FileHasMore : Type 0
FileHasMore =
    (old new : Image) (home : HomeFields) (f n : ℕ) (block : List ℕ) (more lbn count : ℕ) → 2 ≤ f → WritesHeader n block home old new →
    NamesMoreOf (table_of old home) f n block more lbn count →
    file_in home f new ≡ with_more_blocks more (held_from old lbn count) (file_in home f old)

-- and so has the store's, where requests reach it
abbrev pub FileGrows : Type 0
FileGrows =
    (old new : Image) (home : HomeFields) (f n : ℕ) (block : List ℕ) (more lbn count : ℕ) → 4 ≤ f → WritesHeader n block home old new →
    NamesMoreOf (table_of old home) f n block more lbn count →
    store_of new home ≡ with_change (store_of old home) f (with_more_blocks more (held_from old lbn count))

-- a file whose last header links on has that header more
abbrev pub FileHasHeaderMore : Type 0
FileHasHeaderMore =
    (old new : Image) (home : HomeFields) (f n m : ℕ) (block : List ℕ) → 2 ≤ f → WritesHeader n block home old new →
    LinksOnTo (table_of old home) f n m block → file_in home f new ≡ with_header_more old (table_of old home) m (file_in home f old)

-- and one that ends at a header has those up to it
abbrev pub FileEndsThere : Type 0
FileEndsThere =
    (old new : Image) (home : HomeFields) (f n : ℕ) (block : List ℕ) (left : ℕ) → 2 ≤ f → WritesHeader n block home old new →
    HasSoundVolume old home →
    EndsThere (table_of old home) f n block left →
    file_in home f new ≡
    with_first_headers (segment_number ((table_of old home).header n) + 1) (pointers_before (table_of old home) f n + pointers_in block)
    (room_in block)
    (blocks_before (table_of old home) f n + left) (file_in home f old)

-- This was written as header n of file f: the volume is sound, and its store has the file with this change.
pub record ChangesFileAt (f n : ℕ) (block : List ℕ) (change : File → File) (home : HomeFields) (old new : Image) : Type 0 where
  pub header : WritesHeader n block home old new
  pub store : store_of new home ≡ with_change (store_of old home) f change

-- a block that names unreferenced blocks more may be written over the last header of a file from 4 on
abbrev pub LastMayNameMore : Type 0
LastMayNameMore =
    (image : Image) (home : HomeFields) (f n : ℕ) (block : List ℕ) (more lbn count : ℕ) → HasSoundVolume image home → 4 ≤ f →
    NamesMoreOf (table_of image home) f n block more lbn count → AreUnreferenced (volume_of image home) lbn count →
    ChangesFileAt f n block (with_more_blocks more (held_from image lbn count)) home image (with_header image home n block)

-- and so may one that links on to a header which is no other's next
abbrev pub LastMayLinkOn : Type 0
LastMayLinkOn =
    (image : Image) (home : HomeFields) (f n m : ℕ) (block : List ℕ) → HasSoundVolume image home → 4 ≤ f →
    LinksOnTo (table_of image home) f n m block →
    (link_of block).volume ≡ 0 → ((other : ℕ) → IsInFile (table_of image home) other → ¬ IsNext (table_of image home) other m) →
    ChangesFileAt f n block (with_header_more image (table_of image home) m) home image (with_header image home n block)

-- and one that ends the file over any of its headers
abbrev pub HeaderMayEnd : Type 0
HeaderMayEnd =
    (image : Image) (home : HomeFields) (f n : ℕ) (block : List ℕ) (left : ℕ) → HasSoundVolume image home → 4 ≤ f →
    EndsThere (table_of image home) f n block left →
    ChangesFileAt f n block
    (with_first_headers (segment_number ((table_of image home).header n) + 1)
    (pointers_before (table_of image home) f n + pointers_in block) (room_in block)
    (blocks_before (table_of image home) f n + left))
    home image (with_header image home n block)

-- There are so many slots more, none of which was given a sequence number.
pub record HasSlotsMore (count : ℕ) (old new : Table) : Type 0 where
  pub slots : new.slots ≡ old.slots + count
  pub unnumbered : (m : ℕ) → old.slots < m → m ≤ old.slots + count → last_sequence new m ≡ 0

-- an index file whose last header names more blocks gives as many slots, and has so many pointers more
abbrev pub IndexFileHasMore : Type 0
IndexFileHasMore =
    (old new : Image) (home : HomeFields) (n : ℕ) (block : List ℕ) (more lbn count : ℕ) → WritesGrowth n block lbn count home old new →
    HasSlotsMore count (table_of old home) (table_of new home) → NamesMoreOf (table_of old home) 1 n block more lbn count →
    store_of new home ≡ with_more_slots (with_change (store_of old home) 1 (with_more_blocks more [])) count

-- and one whose last header links on to a header that names them has that header more
abbrev pub IndexFileHasHeaderMore : Type 0
IndexFileHasHeaderMore =
    (old new : Image) (home : HomeFields) (n m : ℕ) (block : List ℕ) (lbn count : ℕ) → WritesGrowth n block lbn count home old new →
    HasSlotsMore count (table_of old home) (table_of new home) → LinksOnTo (table_of old home) 1 n m block →
    store_of new home ≡ with_more_slots (with_change (store_of old home) 1 (with_header_linked (table_of old home) m)) count
