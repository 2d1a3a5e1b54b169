-- A file that is read along its headers, on any volume: it has the blocks that are reached from its first header, and ends where a link
-- isn't to a next header (Files-11 On-Disk Structure Level 1, "File Header" and "Map Area"; profile: a block past the device's end counts
-- as zeros).
use Rattle.f11_store.specs.File.{most_blocks}
use Rattle.std.specs.Prelude.{◌≡◌, ℕ, ◌+◌, ◌-◌, ◌≤◌, IsTrue, List, [], ◌∷◌, ◌++◌, length, drop, map}
use Rattle.f11_chain.specs.Calls.{HoldsHeader, table}
use Rattle.f11_chain.specs.FileHeaders.{blocks_by}
use Rattle.f11_dev.specs.Disk.{Disk}
use Rattle.f11_dev.specs.Looked.{Looked}
use Rattle.f11_header.specs.Fields.{file_sequence}
use Rattle.f11_index.specs.Headers.{next_of}
use Rattle.f11_index.specs.IndexFile.{Index}
use Rattle.f11_index.specs.Table.{Table}
use Rattle.f11_map.specs.HeaderBlock.{segment_number, blocks_named}
use Rattle.f11_store.specs.declared.files.FileId.{FileId}
use Rattle.f11_volume.specs.Contents.{block_or_zeros, blocks_reached, following}
use Rattle.f11_volume.specs.Notes.{IsIdOf}
use Rattle.f11_reader.specs.declared.file.FileReader.{FileReader}

-- the number of the header in hand, and that header
abbrev pub number_in_hand : FileReader → ℕ
number_in_hand file = file.number

abbrev pub header_in_hand : FileReader → List ℕ
header_in_hand file = file.header

-- the identification of the file whose first header is in hand
abbrev pub id_in_hand : FileReader → FileId
id_in_hand file = record { number = file.number; sequence = file_sequence file.header; volume = 0 }

-- how many headers may still be read: a file has 256 at most
abbrev pub headers_left : FileReader → ℕ
headers_left file = 255 - segment_number file.header

-- the headers that follow the one in hand
abbrev pub headers_to_come : Table → FileReader → List ℕ
headers_to_come t file = following (headers_left file) t (next_of t file.number)

-- the LBNs of the blocks still to come: those that the header in hand names behind those that were read, and those of the headers that
-- follow it
unfoldable pub blocks_to_come : Table → FileReader → List ℕ
blocks_to_come t file = drop file.place (blocks_named file.header) ++ blocks_by t (headers_to_come t file)

-- what they hold
abbrev pub contents_to_come : Index → Disk → FileReader → List (List ℕ)
contents_to_come index disk file = map (block_or_zeros disk.image) (blocks_to_come (table index disk) file)

-- A file of this disk is read: its header in hand is one of the disk's.
abbrev pub IsReading : Index → FileReader → Disk → Type 0
IsReading index file disk = HoldsHeader index file.number file.header disk

-- The file with an identification was found: its first header is in hand, and all its blocks are to come.
pub record OpensFile (index : Index) (id : FileId) (file : FileReader) (old new : Disk) : Type 0 where
  pub reading : IsReading index file new
  pub number : number_in_hand file ≡ id.number
  pub first : segment_number (header_in_hand file) ≡ 0
  pub is_id : IsTrue old.honest → IsIdOf (table index old) id (number_in_hand file)
  pub header_is : IsTrue old.honest → header_in_hand file ≡ (table index old).header (number_in_hand file)
  pub blocks : IsTrue old.honest → blocks_to_come (table index old) file ≡ blocks_reached (table index old) (number_in_hand file)
  pub looked : Looked old new 1 0

-- The file whose first header is in this slot was found.
pub record OpensSlot (index : Index) (n : ℕ) (file : FileReader) (old new : Disk) : Type 0 where
  pub number : number_in_hand file ≡ n
  pub opens : OpensFile index (id_in_hand file) file old new

-- No file has that identification.
pub record FindsNone (index : Index) (id : FileId) (old new : Disk) : Type 0 where
  pub none : IsTrue old.honest → (n : ℕ) → ¬ IsIdOf (table index old) id n
  pub looked : Looked old new 1 0

-- So many blocks are still to come; headers alone were read.
pub record CountsBlocks (index : Index) (file : FileReader) (blocks : ℕ) (old new : Disk) : Type 0 where
  pub count : IsTrue old.honest → blocks ≡ length (blocks_to_come (table index old) file)
  pub few : blocks ≤ most_blocks
  pub looked : Looked old new (headers_left file) 0

-- later the same blocks are to come
abbrev pub HasToCome : Index → FileReader → FileReader → Disk → Type 0
HasToCome index file later disk = IsTrue disk.honest → blocks_to_come (table index disk) later ≡ blocks_to_come (table index disk) file

-- The next block was read, and those headers that lead to it.
pub record ReadsOn (index : Index) (file later : FileReader) (block : List ℕ) (old new : Disk) : Type 0 where
  pub next : IsTrue old.honest → contents_to_come index old file ≡ block ∷ contents_to_come index old later
  pub forward : segment_number (header_in_hand file) ≤ segment_number (header_in_hand later)
  pub few : segment_number later.header ≤ segment_number file.header + headers_left file
  pub looked : Looked old new (segment_number later.header - segment_number file.header + 1) 0

-- No block is to come, nor will one; headers alone were read.
pub record HasEnded (index : Index) (file later : FileReader) (old new : Disk) : Type 0 where
  pub none : IsTrue old.honest → blocks_to_come (table index old) file ≡ []
  pub same : HasToCome index file later old
  pub looked : Looked old new (headers_left file) 0

-- A transfer failed, and no block was passed.
pub record FailsToReadOn (index : Index) (file later : FileReader) (old new : Disk) : Type 0 where
  pub same : HasToCome index file later old
  pub looked : Looked old new (headers_left file + 1) 1
