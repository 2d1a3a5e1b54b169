-- The records of one block of a directory (Files-11 On-Disk Structure Level 1, directories).
use Rattle.std.specs.Prelude.{ℕ, List, map, Option}
use Rattle.std.specs.List.{position, range_with_len}
use Rattle.f11_store.specs.Directory.{has_name, record_in, record_id, record_name}
use Rattle.f11_store.specs.declared.files.FileId.{FileId}
use Rattle.f11_dir.specs.declared.record.Record.{Record}

-- the first n records of a block, which has 32
unfoldable pub records_in : List ℕ → ℕ → List (List ℕ)
records_in block n = map (record_in block) (range_with_len 0 n)

-- the record of an identification under five words of a name
abbrev pub record_under : FileId → List ℕ → Record
record_under id words = record { id = id; words = words }

-- the place of the first record with the name among the first so many of a block
abbrev pub place_of_name : List ℕ → List ℕ → ℕ → Option ℕ
place_of_name name block upto = position (has_name name) (records_in block upto)

-- what the 16 bytes of a record say: an identification and five words of a name
abbrev pub record_of_bytes : List ℕ → Record
record_of_bytes r = record_under (record_id r) (record_name r)
