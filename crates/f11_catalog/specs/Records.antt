-- A directory of any volume, whose records are read one after another (Files-11 On-Disk Structure Level 1, "Directories").
use Rattle.std.specs.Prelude.{◌≡◌, ℕ, ◌/◌, ◌<◌, ◌==◌, ◌&&◌, Bool, true, IsTrue, List, [], ◌∷◌, ◌++◌, drop, take}
use Rattle.std.specs.Prelude.{Option, Some, None, unwrap_or, if◌then◌else◌}
use Rattle.std.specs.List.{flat_map}
use Rattle.std.specs.Option.{option_or}
use Rattle.f11_chain.specs.Calls.{table}
use Rattle.f11_dev.specs.Disk.{Disk}
use Rattle.f11_dev.specs.Image.{Image}
use Rattle.f11_dev.specs.Looked.{Looked}
use Rattle.f11_dir.specs.Records.{records_in, record_of_bytes}
use Rattle.f11_dir.specs.declared.record.Record.{Record}
use Rattle.f11_header.specs.Fields.{attributes}
use Rattle.f11_image_store.specs.StoreOf.{is_first}
use Rattle.f11_index.specs.IndexFile.{Index}
use Rattle.f11_index.specs.Table.{Table, last_sequence, table_in}
use Rattle.f11_reader.specs.Reading.{IsReading, contents_to_come, header_in_hand}
use Rattle.f11_reader.specs.declared.file.FileReader.{FileReader}
use Rattle.f11_store.specs.Directory.{entries_of, is_directory}
use Rattle.f11_store.specs.File.{File, no_file, stated_end}
use Rattle.f11_store.specs.declared.files.FileId.{FileId}
use Rattle.f11_store.specs.declared.refusals.Refusal.{Refusal}
use Rattle.f11_store.specs.declared.refusals.Refusal.TheVariants.{NoSuchFile, NotDirectory}
use Rattle.f11_volume.specs.Contents.{file_of}
use Rattle.f11_catalog.specs.Facts.{is_directory_header}
use Rattle.f11_catalog.specs.declared.directory.DirectoryReader.{DirectoryReader}
use Rattle.f11_catalog.specs.declared.found.FoundDirectory.{FoundDirectory}

-- an identification is that of a file: its number, its sequence number, and no other volume
unfoldable pub is_id_of_file : Table → FileId → Bool
is_id_of_file t id = (id.volume == 0) && (is_first t id.number && (last_sequence t id.number == id.sequence))

-- the file with an identification, as its headers say, if there is one
abbrev pub file_named : Image → Table → FileId → Option File
file_named image t id = if is_id_of_file t id then Some (file_of image t id.number) else None

-- some blocks were read, and so many transfers failed
abbrev pub Reads : Disk → Disk → ℕ → Type 0
Reads old new faults = (most : ℕ) × Looked old new most faults

-- the 32 records of each block, in order
abbrev pub all_records : List (List ℕ) → List (List ℕ)
all_records blocks = flat_map (λ block. records_in block 32) blocks

-- the records still to come: those of the block in hand behind those that were read, and those of the blocks to come, up to the stated end
unfoldable pub records_to_come : Index → Disk → DirectoryReader → List (List ℕ)
records_to_come index disk directory =
    take directory.left (drop directory.at (records_in directory.block 32) ++ all_records (contents_to_come index disk directory.file))

-- a directory of this disk is read
abbrev pub IsReadingRecords : Index → DirectoryReader → Disk → Type 0
IsReadingRecords index directory disk = IsReading index directory.file disk

-- why a directory can't be read, if there is a reason: there is no such file, or it is no directory
abbrev pub directory_refusal : Option File → Option Refusal
directory_refusal None = Some NoSuchFile
directory_refusal (Some file) = if is_directory file then None else Some NotDirectory

-- the records of the file with an identification, none where there is no such file
abbrev pub records_of : Image → Table → FileId → List (List ℕ)
records_of image t id = entries_of (unwrap_or (file_named image t id) no_file)

-- the file with an identification: one whose slot is in use, else the one that the index file has which takes each slot as in use
abbrev pub file_found : Index → Image → Table → FileId → Option File
file_found wide image t id = option_or (file_named image t id) (file_named image (table_in image wide) id)

-- that of these whose slot isn't in use
abbrev pub file_unused : Index → Image → Table → FileId → Option File
file_unused wide image t id = if is_id_of_file t id then None else file_named image (table_in image wide) id

-- its records, none where there is no such file
abbrev pub records_found : Index → Image → Table → FileId → List (List ℕ)
records_found wide image t id = entries_of (unwrap_or (file_found wide image t id) no_file)

-- the index file by which a directory is read: its slot is in use, or isn't
abbrev pub index_by : Bool → Index → Index → Index
index_by in_use index wide = if in_use then index else wide

-- so the directory is read that was found, and these of its records are to come
abbrev pub IsReadingFound : Index → Index → FoundDirectory → Disk → Type 0
IsReadingFound index wide found disk = IsReadingRecords (index_by found.in_use index wide) found.directory disk

abbrev pub found_to_come : Index → Index → Disk → FoundDirectory → List (List ℕ)
found_to_come index wide disk found = records_to_come (index_by found.in_use index wide) disk found.directory

-- A file whose first header is in hand is a directory, none of whose records was read.
pub record BeginsDirectory (file : FileReader) (directory : DirectoryReader) : Type 0 where
  pub is : is_directory_header (header_in_hand file) ≡ true
  pub same : directory.file ≡ file
  pub at : directory.at ≡ 32
  pub left : directory.left ≡ stated_end (attributes (header_in_hand file)) / 16

-- A block in hand has more records: the same are to come.
pub record HasBlockInHand (index : Index) (directory later : DirectoryReader) (old new : Disk) : Type 0 where
  pub some : later.at < 32
  pub same : IsTrue old.honest → records_to_come index old later ≡ records_to_come index old directory
  pub left : later.left ≡ directory.left
  pub reads : Reads old new 0

-- The next record was read.
pub record ReadsRecord (index : Index) (directory later : DirectoryReader) (r : Record) (old new : Disk) : Type 0 where
  pub bytes : List ℕ
  pub record_is : r ≡ record_of_bytes bytes
  pub next : IsTrue old.honest → records_to_come index old directory ≡ bytes ∷ records_to_come index old later
  pub shorter : later.left < directory.left
  pub reads : Reads old new 0

-- No record is to come.
pub record HasNoRecord (index : Index) (directory : DirectoryReader) (old new : Disk) : Type 0 where
  pub none : IsTrue old.honest → records_to_come index old directory ≡ []
  pub reads : Reads old new 0

-- The directory with an identification was found, whether or not its slot is in use: all its records are to come.
pub record FindsDirectory (index wide : Index) (id : FileId) (found : FoundDirectory) (old new : Disk) : Type 0 where
  pub reading : IsReadingFound index wide found new
  pub readable : IsTrue old.honest → directory_refusal (file_found wide old.image (table index old) id) ≡ None
  pub records : IsTrue old.honest → found_to_come index wide old found ≡ records_found wide old.image (table index old) id
  pub looked : Looked old new 2 0

-- It can't be read.
pub record LacksDirectory (index wide : Index) (id : FileId) (refusal : Refusal) (old new : Disk) : Type 0 where
  pub refused : IsTrue old.honest → directory_refusal (file_found wide old.image (table index old) id) ≡ Some refusal
  pub looked : Looked old new 2 0
