-- Laws of the blocks of a file that is read along its headers (Files-11 On-Disk Structure Level 1, "File Header" and "Map Area").
use Rattle.std.specs.Prelude.{◌≡◌, ℕ, IsTrue}
use Rattle.f11_chain.specs.Calls.{table}
use Rattle.f11_chain.specs.FileHeaders.{file_blocks}
use Rattle.f11_dev.specs.Disk.{Disk}
use Rattle.f11_index.specs.IndexFile.{Index}
use Rattle.f11_index.specs.Table.{Table, IsWholeFile}
use Rattle.f11_store.specs.declared.files.FileId.{FileId}
use Rattle.f11_volume.specs.Contents.{blocks_reached, file_of}
use Rattle.f11_reader.specs.Reading.{OpensFile, contents_to_come, number_in_hand}
use Rattle.f11_reader.specs.declared.file.FileReader.{FileReader}

-- what an opened file has to come is what the image's file holds
abbrev pub OpenedHasItsBlocks : Type 0
OpenedHasItsBlocks =
    (index : Index) (id : FileId) (file : FileReader) (old new : Disk) → OpensFile index id file old new → IsTrue old.honest →
    contents_to_come index old file ≡ (file_of old.image (table index old) (number_in_hand file)).blocks

-- the blocks that are reached from the first header of a whole file are the file's
abbrev pub ReachedAreTheBlocks : Type 0
ReachedAreTheBlocks = (t : Table) (f : ℕ) → IsWholeFile t f → blocks_reached t f ≡ file_blocks t f
