-- The plain store of an image, without accesses: what its headers and its storage bitmap say of files, free blocks and slots (Files-11
-- On-Disk Structure Level 1, "Index File", "File Header" and "Storage Bitmap File").
use Rattle.std.specs.Prelude.{ℕ, ◌==◌, ◌&&◌, Bool, nat_lt, nat_le, min, [], length, Option, Some, None, if◌then◌else◌}
use Rattle.f11_bits.specs.Bitmap.{free_blocks}
use Rattle.f11_dev.specs.Image.{Image}
use Rattle.f11_volume.specs.home.Home.{HomeFields}
use Rattle.f11_volume.specs.map.HeaderBlock.{segment_number}
use Rattle.f11_index.specs.Headers.{is_live}
use Rattle.f11_index.specs.IndexFile.{most_slots}
use Rattle.f11_index.specs.Table.{Table, table_of, last_sequence}
use Rattle.f11_store.specs.File.{File}
use Rattle.f11_store.specs.Store.{Store}
use Rattle.f11_volume.specs.Contents.{file_of}
use Rattle.f11_volume.specs.Space.{storage_bitmap}

-- header n is a file's first
unfoldable pub is_first : Table → ℕ → Bool
is_first t n = is_live t n && (segment_number (t.header n) == 0)

-- file n as requests see it: no request reaches what files 1 to 3 hold (profile)
abbrev pub as_seen : ℕ → File → File
as_seen n f = if nat_le n 3 then record f { blocks = [] } else f

-- file n, if there is one
unfoldable pub file_at : Image → Table → ℕ → Option File
file_at image t n = if is_first t n then Some (as_seen n (file_of image t n)) else None

-- the sequence number that slot n was last given, which its header keeps; 0 where there is no such slot
unfoldable pub last_given : Table → ℕ → ℕ
last_given t n = if nat_lt 0 n && nat_le n t.slots then last_sequence t n else 0

-- the most slots that a volume may have: H.FMAX of its home block bounds them too
abbrev pub slot_limit : HomeFields → ℕ
slot_limit home = min home.max_files (most_slots home)

-- the store of an image whose home block this is
unfoldable pub store_of : Image → HomeFields → Store
store_of image home =
    let t = table_of image home in
    let bitmap = storage_bitmap image home in
    record {
      file = file_at image t;
      free = free_blocks image bitmap;
      slots = t.slots;
      in_use = t.in_use;
      last = last_given t;
      access = λ task lun. None;
      bitmap_blocks = length bitmap.places;
      index_bitmap_blocks = home.index_blocks;
      limit = slot_limit home;
    }
