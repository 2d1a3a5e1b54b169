-- The blocks of a file laid end to end (Files-11 On-Disk Structure Level 1, "File Header" and "Map Area").
use Rattle.std.specs.Prelude.{ℕ, ◌-◌, ◌<◌, List, length, take, flat_map, Option, All}
use Rattle.std.specs.List.{slice_get}
use Rattle.f11_index.specs.map.HeaderBlock.{segment_number, blocks_named}
use Rattle.f11_index.specs.Headers.{headers_of}
use Rattle.f11_index.specs.Table.{Table, IsWholeFile}

-- the LBNs of the blocks that headers name, laid end to end
abbrev pub blocks_by : Table → List ℕ → List ℕ
blocks_by t headers = flat_map (λ n. blocks_named (t.header n)) headers

-- the LBNs of the blocks of file f, from VBN 1 on
unfoldable pub file_blocks : Table → ℕ → List ℕ
file_blocks t f = blocks_by t (headers_of t f)

-- how many blocks the headers of file f before header n name
abbrev pub blocks_before : Table → ℕ → ℕ → ℕ
blocks_before t f n = length (blocks_by t (take (segment_number (t.header n)) (headers_of t f)))

-- the LBN of block `vbn` of file f, from 1, where the file has so many
abbrev pub block_by_vbn : Table → ℕ → ℕ → Option ℕ
block_by_vbn t f vbn = slice_get (file_blocks t f) (vbn - 1)

-- File f is as it should be on a device of so many blocks: its headers link rightly, and its blocks are there.
pub record IsSoundFile (t : Table) (f blocks : ℕ) : Type 0 where
  pub whole : IsWholeFile t f
  pub within : All (λ lbn. lbn < blocks) (file_blocks t f)
