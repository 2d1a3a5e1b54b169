-- How a copy's records and attributes are written (Files-11 On-Disk Structure Level 1, file attributes; RSX-11M Utilities
-- manual, FLX).
use Rattle.std.specs.Prelude.{ℕ, ◌+◌, ◌*◌, ◌/◌, ◌%◌, List, [], ◌∷◌, ◌++◌, length, take, replicate, flat_map, max}
use Rattle.f11_bytes.specs.Words.{word_bytes}
use Rattle.f11_store.specs.File.{File, end_of}
use Rattle.f11_store.specs.Directory.{with_end}

-- a variable record: its length word, its bytes, and a pad byte where the length is odd
unfoldable pub variable_record : List ℕ → List ℕ
variable_record bytes = word_bytes (length bytes) ++ (bytes ++ replicate (length bytes % 2) 0)

-- one after another
abbrev pub variable_records : List (List ℕ) → List ℕ
variable_records records = flat_map variable_record records

-- the length of the longest
abbrev pub longest_of : List (List ℕ) → ℕ
longest_of [] = 0
longest_of (first ∷ records) = max (length first) (longest_of records)

-- The attributes of a text: variable records, each a line for a printer (record attribute 2), the longest of so many
-- bytes. The end is behind the last pad byte.
abbrev pub text_attributes : ℕ → ℕ → ℕ → List ℕ
text_attributes longest allocation end = with_end (2 ∷ 2 ∷ (word_bytes longest ++ replicate 28 0)) allocation end

-- the attributes of so many blocks copied as they are, which end behind so many bytes: fixed records of a block each
abbrev pub image_attributes_to : ℕ → ℕ → List ℕ
image_attributes_to blocks end = with_end (1 ∷ 0 ∷ (word_bytes 512 ++ replicate 28 0)) blocks end

-- those that end with the last block
abbrev pub image_attributes : ℕ → List ℕ
image_attributes blocks = image_attributes_to blocks (512 * blocks)

-- the blocks that a copy as they are takes: up to the end of the file, rounded up
abbrev pub image_of : File → List (List ℕ)
image_of file = take ((end_of file + 511) / 512) file.blocks
