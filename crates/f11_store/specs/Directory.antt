-- Directories of the plain store (Files-11 On-Disk Structure Level 1, directories).
-- A section in parentheses is one of the Files-11 On-Disk Structure Level 1 specification; 'profile' is a rule of this project.
use Rattle.std.specs.Prelude.{ℕ, ◌+◌, ◌*◌, ◌/◌, ◌%◌, ◌==◌, ◌&&◌, nat_eq, nat_le, Bool, not, List, [], ◌∷◌, ◌++◌, map, take, drop, Option}
use Rattle.std.specs.Prelude.{unwrap_or, find, position, is_none, slice_index, slice_index_or, slice_set, replicate}
use Rattle.std.specs.List.{range_with_len, flat_map, list_any}
use lib.Pointwise.{pointwise}
use Rattle.f11_store.specs.declared.files.FileId.{FileId}
pub use Rattle.f11_bytes.specs.Words.{word_bytes, long_bytes}
pub use Rattle.f11_bytes.specs.Part.{with_bytes}
use Rattle.f11_bytes.specs.Words.{word}
use Rattle.f11_store.specs.File.{File, length_of, end_of}

-- a directory: ident type DIR (6778 in Radix-50), record type 1, record size 16 (directories)
unfoldable pub is_directory : File → Bool
is_directory f = (word f.ident 6 == 6778) && (slice_index f.attr 0 == 1) && (word f.attr 2 == 16)

-- the 16 bytes of a record in a block
abbrev pub record_in : List ℕ → ℕ → List ℕ
record_in block i = take 16 (drop (16 * i) block)

-- record i of the blocks, 32 a block (directories)
unfoldable pub record_at : List (List ℕ) → ℕ → List ℕ
record_at blocks i = record_in (slice_index_or blocks (i / 32) []) (i % 32)

-- the number of whole records below the end
abbrev pub entry_count : File → ℕ
entry_count f = end_of f / 16

-- the records below the end, in order
unfoldable pub entries_of : File → List (List ℕ)
entries_of f = map (record_at f.blocks) (range_with_len 0 (entry_count f))

-- the identification in a record (directories)
abbrev pub record_id : List ℕ → FileId
record_id r = record { number = word r 0; sequence = word r 2; volume = word r 4 }

-- the five words of a record's name: three of the name, type, version (directories)
abbrev pub record_name : List ℕ → List ℕ
record_name r = word r 6 ∷ word r 8 ∷ word r 10 ∷ word r 12 ∷ word r 14 ∷ []

-- an empty record has the file number 0, whatever its other bytes (directories)
abbrev pub is_empty : List ℕ → Bool
is_empty r = word r 0 == 0

-- the record isn't empty and has the name
unfoldable pub has_name : List ℕ → List ℕ → Bool
has_name name r = not (is_empty r) && pointwise nat_eq (record_name r) name

-- the place of the first record with the name, where there is one
abbrev pub index_of_name : List ℕ → File → Option ℕ
index_of_name name f = position (has_name name) (entries_of f)

-- the first record with the name
abbrev pub record_of : List ℕ → File → List ℕ
record_of name f = unwrap_or (find (has_name name) (entries_of f)) []

-- some record has the name
abbrev pub is_entered : List ℕ → File → Bool
is_entered name f = list_any (has_name name) (entries_of f)

-- the place of the first empty record
abbrev pub index_of_empty : File → Option ℕ
index_of_empty f = position is_empty (entries_of f)

-- one more record needs one more block: no record is empty and the records fill the allocation (profile)
abbrev pub needs_block : File → Bool
needs_block f = is_none (index_of_empty f) && nat_le (512 * length_of f) (16 * entry_count f)

-- the record of a file under a name (directories)
unfoldable pub record_bytes : FileId → List ℕ → List ℕ
record_bytes id name = flat_map word_bytes (id.number ∷ id.sequence ∷ id.volume ∷ name)

-- an empty record
abbrev pub empty_record : List ℕ
empty_record = replicate 16 0

-- the blocks with record i replaced
unfoldable pub with_record : List (List ℕ) → ℕ → List ℕ → List (List ℕ)
with_record blocks i r = slice_set blocks (i / 32) (with_bytes (slice_index_or blocks (i / 32) []) (16 * (i % 32)) r)

-- the attributes with the end moved: F.HIBK (byte 4) the allocation in blocks, F.EFBK (byte 8) the
-- block that the end is in, F.FFBY (byte 12) the byte in it (file attributes)
unfoldable pub with_end : List ℕ → ℕ → ℕ → List ℕ
with_end attr allocation end =
    with_bytes attr 4 (long_bytes allocation ++ (long_bytes (end / 512 + 1) ++ word_bytes (end % 512)))
