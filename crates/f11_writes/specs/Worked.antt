-- Worked examples: the writes that add a block of zeros to a file, make an empty file, give a file one more header, and delete
-- one, and what stands after each.
use Rattle.std.specs.Prelude.{◌≡◌, ◌≢◌, ℕ, ◌+◌, ◌<◌, ◌≤◌, true, false, List, [], ◌∷◌, ◌++◌, slice_set}
use Rattle.std.specs.List.{range_with_len}
use Rattle.f11_bytes.specs.Block.{zero_block}
use Rattle.f11_bits.specs.Bitmap.{is_free, Marks}
use Rattle.f11_dev.specs.Image.{Image}
use Rattle.f11_volume.specs.header.Fields.{file_sequence}
use Rattle.f11_volume.specs.header.Header.{IsHeader, IsDead}
use Rattle.f11_volume.specs.home.Home.{HomeFields}
use Rattle.f11_index.specs.Calls.{SetsBit, with_bitmap_block}
use Rattle.f11_index.specs.Growth.{IsGoodFor, with_header}
use Rattle.f11_volume.specs.map.HeaderBlock.{segment_number, link_of, blocks_named, LinksToNone}
use Rattle.f11_index.specs.Headers.{headers_of, IsLastOf}
use Rattle.f11_index.specs.IndexFile.{Index, index_of, slots, is_in_use}
use Rattle.f11_index.specs.Table.{Table, table_of, IsFile}
use Rattle.f11_volume.specs.Sound.{HasSoundVolume}
use Rattle.f11_volume.specs.Space.{storage_bitmap}
use Rattle.f11_writes.specs.Kept.{file_in}

-- Header n, the last of a file from 4 on, may become this block, which names block lbn more.
pub record NamesOneMore (t : Table) (f n lbn : ℕ) (header : List ℕ) : Type 0 where
  pub late : 4 ≤ f
  pub last : IsLastOf t f n
  pub few : segment_number (t.header n) < 256
  pub good : IsGoodFor t n header
  pub no_link : LinksToNone header
  pub names : blocks_named header ≡ blocks_named (t.header n) ++ range_with_len lbn 1

-- the free block was marked used, zeros were written to it, and then the header
abbrev pub zeroed : Image → ℕ → Image
zeroed marked lbn = slice_set marked lbn zero_block

abbrev pub with_block_added : Image → HomeFields → ℕ → ℕ → List ℕ → Image
with_block_added marked home n lbn header = with_header (zeroed marked lbn) home n header

-- The volume is sound after each write, and at the end the file has a block of zeros more, and each other from 2 on is as it was
-- but the storage bitmap file.
pub record AddsBlock (f n lbn : ℕ) (header : List ℕ) (home : HomeFields) (old marked : Image) : Type 0 where
  pub first : HasSoundVolume marked home
  pub second : HasSoundVolume (zeroed marked lbn) home
  pub third : HasSoundVolume (with_block_added marked home n lbn header) home
  pub file : (file_in home f (with_block_added marked home n lbn header)).blocks ≡ (file_in home f old).blocks ++ zero_block ∷ []
  pub others : (g : ℕ) → IsFile (table_of old home) g → g ≢ f → 3 ≤ g →
      file_in home g (with_block_added marked home n lbn header) ≡ file_in home g old

abbrev pub BlockIsAdded : Type 0
BlockIsAdded =
    (old marked : Image) (home : HomeFields) (f n lbn : ℕ) (header : List ℕ) → HasSoundVolume old home →
    NamesOneMore (table_of old home) f n lbn header →
    is_free old (storage_bitmap old home) lbn ≡ true → Marks false (storage_bitmap old home) lbn 1 old marked →
    AddsBlock f n lbn header home old marked

-- This block is the header of slot n, which isn't in use: it names no blocks and links to none.
pub record IsNewHeader (index : Index) (n : ℕ) (header : List ℕ) : Type 0 where
  pub some : 0 < n
  pub slot : n ≤ slots index
  pub unused : is_in_use index n ≡ false
  pub valid : IsHeader header n
  pub no_link : LinksToNone header
  pub no_blocks : blocks_named header ≡ []

-- the header was written, and then its bit set
abbrev pub with_new_header : Image → HomeFields → ℕ → List ℕ → Index → Image
with_new_header image home n header after = with_bitmap_block (with_header image home n header) after n

-- The volume is sound after each write, and at the end it has the empty file, and each other from 2 on is as it was.
pub record WritesNewFile (n : ℕ) (header : List ℕ) (after : Index) (home : HomeFields) (old : Image) : Type 0 where
  pub written : HasSoundVolume (with_header old home n header) home
  pub entered : HasSoundVolume (with_new_header old home n header after) home
  pub file : IsFile (table_of (with_new_header old home n header after) home) n
  pub empty : (file_in home n (with_new_header old home n header after)).blocks ≡ []
  pub others : (g : ℕ) → IsFile (table_of old home) g → 2 ≤ g →
      file_in home g (with_new_header old home n header after) ≡ file_in home g old

abbrev pub FileIsMade : Type 0
FileIsMade =
    (old : Image) (home : HomeFields) (n : ℕ) (header : List ℕ) (after : Index) → HasSoundVolume old home →
    IsNewHeader (index_of old home) n header →
    segment_number header ≡ 0 → SetsBit true n (index_of old home) after → WritesNewFile n header after home old

-- Header n, the last of a file from 4 on, may become this block, which names what it names and links to this header m.
pub record LinksToNew (t : Table) (f n m : ℕ) (last header : List ℕ) : Type 0 where
  pub late : 4 ≤ f
  pub is_last : IsLastOf t f n
  pub few : segment_number (t.header n) < 255
  pub good : IsGoodFor t n last
  pub names : blocks_named last ≡ blocks_named (t.header n)
  pub link : link_of last ≡ record { number = m; sequence = file_sequence header; volume = 0 }
  pub segment : segment_number header ≡ segment_number (t.header n) + 1

-- The new header was written, its bit was set, and the last header of the file was written: the volume is sound after each write,
-- and at the end the file has the header m more and the blocks that it had.
pub record LinksHeader (f m : ℕ) (header : List ℕ) (after : Index) (home : HomeFields) (old new : Image) : Type 0 where
  pub written : HasSoundVolume (with_header old home m header) home
  pub entered : HasSoundVolume (with_new_header old home m header after) home
  pub linked : HasSoundVolume new home
  pub headers : headers_of (table_of new home) f ≡ headers_of (table_of old home) f ++ m ∷ []
  pub blocks : (file_in home f new).blocks ≡ (file_in home f old).blocks

abbrev pub HeaderIsLinked : Type 0
HeaderIsLinked =
    (old : Image) (home : HomeFields) (f n m : ℕ) (last header : List ℕ) (after : Index) → HasSoundVolume old home →
    IsNewHeader (index_of old home) m header →
    LinksToNew (table_of old home) f n m last header → SetsBit true m (index_of old home) after →
    LinksHeader f m header after home old (with_header (with_new_header old home m header after) home n last)

-- File n is one from 5 on whose first header names these blocks, and this block is a dead header.
pub record MayDelete (t : Table) (n lbn count : ℕ) (dead : List ℕ) : Type 0 where
  pub late : 5 ≤ n
  pub file : IsFile t n
  pub blocks : blocks_named (t.header n) ≡ range_with_len lbn count
  pub is_dead : IsDead dead

-- That header was killed, its blocks were marked free, and its bit was cleared: the volume is sound after each write, and at the
-- end there is no file n, and each other from 3 on is as it was.
pub record DeletesFile (n : ℕ) (dead : List ℕ) (after : Index) (home : HomeFields) (old freed : Image) : Type 0 where
  pub killed : HasSoundVolume (with_header old home n dead) home
  pub given : HasSoundVolume freed home
  pub cleared : HasSoundVolume (with_bitmap_block freed after n) home
  pub gone : ¬ IsFile (table_of (with_bitmap_block freed after n) home) n
  pub others : (g : ℕ) → IsFile (table_of old home) g → g ≢ n → 3 ≤ g →
      file_in home g (with_bitmap_block freed after n) ≡ file_in home g old

abbrev pub FileIsDeleted : Type 0
FileIsDeleted =
    (old freed : Image) (home : HomeFields) (n lbn count : ℕ) (dead : List ℕ) (after : Index) → HasSoundVolume old home →
    MayDelete (table_of old home) n lbn count dead → Marks true (storage_bitmap old home) lbn count (with_header old home n dead) freed →
    SetsBit false n (index_of old home) after → DeletesFile n dead after home old freed
