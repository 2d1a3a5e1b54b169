-- The files of a volume, read off its image (Files-11 On-Disk Structure Level 1, "File Header" and "Directories").
use Rattle.std.specs.Prelude.{ℕ, zero, suc, ◌-◌, List, [], ◌∷◌, length, map, sum_by, slice_index_or, Option, Some, None}
use Rattle.f11_bytes.specs.Block.{zero_block}
use Rattle.f11_dev.specs.Image.{Image}
use Rattle.f11_chain.specs.header.Fields.{owner, protection, characteristics, attributes, ident_area, map_area}
use Rattle.f11_chain.specs.header.MapFields.{places}
use Rattle.f11_chain.specs.map.MapArea.{runs_of}
use Rattle.f11_chain.specs.index.Headers.{next_of}
use Rattle.f11_chain.specs.index.Table.{Table, last_sequence}
use Rattle.f11_chain.specs.FileHeaders.{blocks_by}
use Rattle.f11_chain.specs.store.File.{File}

-- this header and those that follow it, each the next of the one before, so many at most
unfoldable pub following : ℕ → Table → Option ℕ → List ℕ
following zero t at = []
following (suc most) t None = []
following (suc most) t (Some n) = n ∷ following most t (next_of t n)

-- the headers of file n: those that are reached from its first, whatever else a link may name
abbrev pub headers_reached : Table → ℕ → List ℕ
headers_reached t n = following 256 t (Some n)

-- the LBNs of the blocks of file n, in the order of its headers
abbrev pub blocks_reached : Table → ℕ → List ℕ
blocks_reached t n = blocks_by t (headers_reached t n)

-- a block of an image, which past the device's end counts as zeros (profile)
abbrev pub block_or_zeros : Image → ℕ → List ℕ
block_or_zeros image lbn = slice_index_or image lbn zero_block

-- the number of retrieval pointers of header n
abbrev pub pointer_count : Table → ℕ → ℕ
pointer_count t n = length (runs_of (map_area (t.header n)))

-- the places for pointers that the last of these headers has left
abbrev pub room_left : Table → List ℕ → ℕ
room_left t headers =
    let last = slice_index_or headers (length headers - 1) 0 in
    places (map_area (t.header last)) - pointer_count t last

-- file n, as its headers and blocks say, files 1 to 3 with their blocks too
unfoldable pub file_of : Image → Table → ℕ → File
file_of image t n =
    let headers = headers_reached t n in
    record {
      sequence = last_sequence t n;
      owner = owner (t.header n);
      protection = protection (t.header n);
      characteristics = characteristics (t.header n);
      ident = ident_area (t.header n);
      attr = attributes (t.header n);
      held = headers;
      pointers = sum_by (pointer_count t) headers;
      room = room_left t headers;
      blocks = map (block_or_zeros image) (blocks_reached t n);
    }
