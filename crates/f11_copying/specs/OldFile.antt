-- What contracts know of a file of a volume that is copied, and what its blocks are (Files-11 On-Disk Structure Level 1, "File Header" and
-- "Map Area").
use Rattle.std.specs.Prelude.{◌≡◌, ◌⊎◌, ℕ, ◌+◌, ◌*◌, ◌||◌, Bool, true, not, nat_lt, IsTrue, List, ◌++◌, length, take}
use Rattle.std.specs.Prelude.{Option, Some, None, Ok}
use Rattle.f11_chain.specs.Calls.{table}
use Rattle.f11_dev.specs.Disk.{Disk}
use Rattle.f11_dev.specs.Looked.{Looked}
use Rattle.f11_dev.specs.declared.device.Device.{Ghosts}
use Rattle.f11_index.specs.Kept.{index_kept}
use Rattle.f11_index.specs.declared.index_file.IndexFile.{IndexFile}
use Rattle.f11_index.specs.Table.{Table}
use Rattle.f11_reader.specs.Missing.{blocks_there, last_to_come, links_to_none}
use Rattle.f11_reader.specs.Reading.{FailsToReadOn, HasEnded, ReadsOn, blocks_to_come, contents_to_come, header_in_hand, headers_left}
use Rattle.f11_reader.specs.declared.file.FileReader.{FileReader}
use Rattle.f11_index.specs.map.HeaderBlock.{segment_number}
use Rattle.f11_making.specs.Asking.{Who, plain}
use Rattle.f11_store.specs.Store.{Store}
use Rattle.f11_store.specs.declared.files.FileId.{FileId}
use Rattle.f11_copying.specs.Copies.{copies}
use Rattle.f11_copying.specs.Courses.{Runs, both}
use Rattle.f11_copying.specs.Made.{HasMadeCopy, IsGiven}
use Rattle.f11_copying.specs.OldHeader.{file_told}
use Rattle.f11_copying.specs.declared.file.FileToMake.{FileToMake}
use Rattle.f11_copying.specs.declared.old_file.OldFile.{OldFile}

abbrev pub behind_file : {D : Type 0} {met : Ghosts D} → OldFile D met → D
behind_file f = f.device

abbrev pub index_in : {D : Type 0} {met : Ghosts D} → OldFile D met → IndexFile
index_in f = f.index

abbrev pub reader_in : {D : Type 0} {met : Ghosts D} → OldFile D met → FileReader
reader_in f = f.reader

-- it was begun so
pub record IsBegun {D : Type 0} {met : Ghosts D} (device : D) (index : IndexFile) (reader : FileReader) (f : OldFile D met) : Type 0 where
  pub device_is : behind_file f ≡ device
  pub index_is : index_in f ≡ index
  pub reader_is : reader_in f ≡ reader

-- its first header is in hand
abbrev pub is_first : {D : Type 0} {met : Ghosts D} → OldFile D met → Type 0
is_first f = segment_number (header_in_hand (reader_in f)) ≡ 0

-- it is cut: its headers break off, or a block isn't there that they name
abbrev pub is_cut : Table → ℕ → FileReader → Bool
is_cut t size file =
    not (links_to_none (t.header (last_to_come t file))) || nat_lt (blocks_there size (blocks_to_come t file))
    (length (blocks_to_come t file))

-- what is to be made of it: as its first header says, with the blocks that are there
abbrev pub old_told : Table → ℕ → FileReader → FileToMake
old_told t size file = file_told (header_in_hand file) (blocks_there size (blocks_to_come t file)) (is_cut t size file)

-- It was told what is to be made of it; headers alone were read.
pub record TellsOld {D : Type 0} {met : Ghosts D} (disk : D → Disk) (size : ℕ) (old new : OldFile D met) (file : FileToMake) : Type 0 where
  pub reader_is : reader_in new ≡ reader_in old
  pub index_is : index_in new ≡ index_in old
  pub file_is : IsTrue (disk (behind_file old)).honest
      → file ≡ old_told (table (index_kept (index_in old)) (disk (behind_file old))) size (reader_in old)
  pub looked : Looked (disk (behind_file old)) (disk (behind_file new)) (3 * headers_left (reader_in old)) 0

-- A transfer failed.
pub record FailsToTell {D : Type 0} {met : Ghosts D} (disk : D → Disk) (old new : OldFile D met) : Type 0 where
  pub reader_is : reader_in new ≡ reader_in old
  pub index_is : index_in new ≡ index_in old
  pub looked : Looked (disk (behind_file old)) (disk (behind_file new)) (3 * headers_left (reader_in old) + 1) 1

-- its blocks that are still to come
abbrev pub old_blocks : {D : Type 0} {met : Ghosts D} → (D → Disk) → OldFile D met → List (List ℕ)
old_blocks disk f = contents_to_come (index_kept (index_in f)) (disk (behind_file f)) (reader_in f)

-- The next block came, and the index file is the same;
pub record ComesNext {D : Type 0} {met : Ghosts D} (disk : D → Disk) (block : List ℕ) (old new : OldFile D met) : Type 0 where
  pub index_is : index_in new ≡ index_in old
  pub reads : ReadsOn (index_kept (index_in old)) (reader_in old) (reader_in new) block (disk (behind_file old)) (disk (behind_file new))

-- or none, since there is none, or a transfer failed.
pub record ComesNoMore {D : Type 0} {met : Ghosts D} (disk : D → Disk) (old new : OldFile D met) : Type 0 where
  pub index_is : index_in new ≡ index_in old
  pub why : (HasEnded (index_kept (index_in old)) (reader_in old) (reader_in new) (disk (behind_file old)) (disk (behind_file new)))
      ⊎ (FailsToReadOn (index_kept (index_in old)) (reader_in old) (reader_in new) (disk (behind_file old)) (disk (behind_file new)))

abbrev pub GivesOld : {D : Type 0} {met : Ghosts D} → (D → Disk) → OldFile D met → Option (List ℕ) → OldFile D met → Type 0
GivesOld disk old (Some block) new = ComesNext disk block old new
GivesOld disk old None new = ComesNoMore disk old new

-- On an honest device the blocks that were given are those that were to come, in order, and no block of its image is another.
pub record GivesItsBlocks {D : Type 0} {met : Ghosts D} (disk : D → Disk) (blocks : List (List ℕ)) (old new : OldFile D met) : Type 0 where
  pub are : old_blocks disk old ≡ blocks ++ old_blocks disk new
  pub image : (disk (behind_file new)).image ≡ (disk (behind_file old)).image
  pub honest : (disk (behind_file new)).honest ≡ (disk (behind_file old)).honest

abbrev pub OldFileGives : {D : Type 0} {met : Ghosts D} → (D → Disk) → OldFile D met → Type 0
OldFileGives {D} {met} disk old = (blocks : List (List ℕ)) (new : OldFile D met) → IsGiven (GivesOld disk) blocks old new
    → IsTrue (disk (behind_file old)).honest → GivesItsBlocks disk blocks old new

-- So a file that was made of it has its blocks, as many as it was to have, in a directory that was there before.
abbrev pub OldFileIsCopied : {D : Type 0} {met : Ghosts D} → (D → Disk) → OldFile D met → Type 0
OldFileIsCopied {D} {met} disk old = (who : Who) (file : FileToMake) (lun : ℕ) (dir : FileId) (name : List ℕ) (id : FileId) (s s' : Store)
    (new : OldFile D met) → IsTrue (disk (behind_file old)).honest
    → Runs plain (GivesOld disk) who (copies file lun dir name) (Ok id) (both s old) (both s' new) → s.in_use dir.number ≡ true
    → HasMadeCopy file dir name id (take file.blocks (old_blocks disk old)) s s'
