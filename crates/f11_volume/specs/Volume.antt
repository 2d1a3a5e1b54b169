-- A volume as the verifier sees it: its headers, its blocks, and which blocks the headers name.
-- A section in parentheses is one of the Files-11 On-Disk Structure Level 1 specification; 'profile' is a rule of this project.
use Rattle.std.specs.Prelude.{◌≡◌, ◌≢◌, ◌⊎◌, ℕ, Bool, Some}
use Rattle.std.specs.List.{slice_get}
use Rattle.f11_dev.specs.Image.{Image}
use Rattle.f11_chain.specs.bits.Bitmap.{is_free}
use Rattle.f11_chain.specs.home.Home.{HomeFields}
use Rattle.f11_chain.specs.header.Fields.{map_area}
use Rattle.f11_chain.specs.map.MapArea.{runs_of}
use Rattle.f11_chain.specs.map.HeaderBlock.{link_of, blocks_named}
use Rattle.f11_chain.specs.index.Headers.{IsInFile}
use Rattle.f11_chain.specs.index.Table.{Table, table_of, IsLive}
use Rattle.f11_volume.specs.Space.{storage_bitmap}

pub record Volume : Type 0 where
  -- its headers
  pub table : Table
  -- its number of blocks
  pub size : ℕ
  -- a block is free (storage bitmap file)
  pub free : ℕ → Bool

-- the volume of an image whose home block this is
unfoldable pub volume_of : Image → HomeFields → Volume
volume_of image home = record {
  table = table_of image home;
  size = (storage_bitmap image home).size;
  free = is_free image (storage_bitmap image home);
}

-- a header that is live names block `lbn` as the block of this place of its retrieval pointers laid end to end, from 0 (map area)
pub record IsCell (t : Table) (n place lbn : ℕ) : Type 0 where
  pub live : IsLive t n
  pub names : slice_get (blocks_named (t.header n)) place ≡ Some lbn

-- a header names block `lbn`
pub record IsNamed (t : Table) (lbn : ℕ) : Type 0 where
  pub header : ℕ
  pub place : ℕ
  pub cell : IsCell t header place lbn

-- two headers, or one at two places, name block `lbn`
pub record IsNamedTwice (t : Table) (lbn : ℕ) : Type 0 where
  pub one : ℕ
  pub place : ℕ
  pub other : ℕ
  pub other_place : ℕ
  pub cell : IsCell t one place lbn
  pub other_cell : IsCell t other other_place lbn
  pub apart : (one ≢ other) ⊎ (place ≢ other_place)

-- retrieval pointer i of a live header, from 0, is this run: an LBN and a count (retrieval pointers)
pub record HasPointer (t : Table) (n i : ℕ) (run : ℕ × ℕ) : Type 0 where
  pub live : IsLive t n
  pub pointer : slice_get (runs_of (map_area (t.header n))) i ≡ Some run

-- a header of a file has a link (map area)
pub record IsLinked (t : Table) (n : ℕ) : Type 0 where
  pub in_file : IsInFile t n
  pub link : (link_of (t.header n)).number ≢ 0
