-- What stands under the identification that a record has (Files-11 On-Disk Structure Level 1, "File Header"; profile: a valid header is
-- read all the same where the bit of its slot is 0, and a record names it).
use Rattle.std.specs.Prelude.{◌≡◌, ℕ, ◌<◌, ◌≤◌, Bool, true, false, IsTrue}
use Rattle.f11_chain.specs.Calls.{table}
use Rattle.f11_dev.specs.Disk.{Disk}
use Rattle.f11_dev.specs.Looked.{Looked}
use Rattle.f11_header.specs.Header.{IsDead, IsHeader}
use Rattle.f11_index.specs.IndexFile.{Index}
use Rattle.f11_index.specs.Table.{Table}
use Rattle.f11_reader.specs.Reading.{OpensFile, header_in_hand}
use Rattle.f11_reader.specs.declared.file.FileReader.{FileReader}
use Rattle.f11_store.specs.declared.files.FileId.{FileId}
use Rattle.f11_volume.specs.Notes.{IsIdOf}
use Rattle.f11_volume.specs.map.HeaderBlock.{segment_number}
use Rattle.f11_catalog.specs.Facts.{is_directory_header}
use Rattle.f11_catalog.specs.Records.{Reads}
use Rattle.f11_catalog.specs.declared.walk.content.Absence.{Absence}
use Rattle.f11_catalog.specs.declared.walk.content.Absence.TheVariants.{BadHeader, NoFile}
use Rattle.f11_catalog.specs.declared.walk.content.Content.{Content}
use Rattle.f11_catalog.specs.declared.walk.content.Content.TheVariants.{File, Missing, OutOfUse}

-- it is a file whose slot is in use
abbrev pub is_file : Content → Bool
is_file (File file) = true
is_file (OutOfUse file) = false
is_file (Missing absence) = false

-- it is a directory whose slot isn't in use
abbrev pub is_unused_directory : Content → Bool
is_unused_directory (File file) = false
is_unused_directory (OutOfUse file) = is_directory_header (header_in_hand file)
is_unused_directory (Missing absence) = false

-- where it is a file whose slot isn't in use the header in hand is its first
abbrev pub HasFirstHeader : Content → Type 0
HasFirstHeader (File file) = Unit {0}
HasFirstHeader (OutOfUse file) = segment_number (header_in_hand file) ≡ 0
HasFirstHeader (Missing absence) = Unit {0}

-- header n is bad: there is such a slot, and its block is neither a dead header nor a valid one
pub record IsBadHeader (t : Table) (n : ℕ) : Type 0 where
  pub some : 0 < n
  pub slot : n ≤ t.slots
  pub alive : ¬ IsDead (t.header n)
  pub invalid : ¬ IsHeader (t.header n) n

-- why an identification is that of no file: its header is bad, or there is none that has it
abbrev pub IsMissingAs : Table → FileId → Absence → Type 0
IsMissingAs t id BadHeader = (id.volume ≡ 0) × IsBadHeader t id.number
IsMissingAs t id NoFile = ¬ ((id.volume ≡ 0) × IsBadHeader t id.number)

-- It was found why.
pub record TellsAbsence (index : Index) (id : FileId) (absence : Absence) (old new : Disk) : Type 0 where
  pub why : IsTrue old.honest → IsMissingAs (table index old) id absence
  pub looked : Looked old new 1 0

-- The file with an identification was found behind other reads.
pub record OpensBehind (index : Index) (id : FileId) (file : FileReader) (old new : Disk) : Type 0 where
  pub mid : Disk
  pub before : Reads old mid 0
  pub opens : OpensFile index id file mid new

-- no file has this identification
abbrev pub HasNoFile : Index → FileId → Disk → Type 0
HasNoFile index id disk = IsTrue disk.honest → (n : ℕ) → ¬ IsIdOf (table index disk) id n

-- No file whose slot is in use has it, but one whose slot isn't: that was found.
pub record OpensOutOfUse (index wide : Index) (id : FileId) (file : FileReader) (old new : Disk) : Type 0 where
  pub none : HasNoFile index id old
  pub opens : OpensBehind wide id file old new

-- Neither has: it was found why.
pub record LacksFile (index wide : Index) (id : FileId) (absence : Absence) (old new : Disk) : Type 0 where
  pub none : HasNoFile index id old
  pub none_else : HasNoFile wide id old
  pub why : IsTrue old.honest → IsMissingAs (table index old) id absence
  pub reads : Reads old new 0

-- This stands under an identification, by the volume's index file and by the one that takes each slot as in use.
abbrev pub Holds : Index → Index → FileId → Content → Disk → Disk → Type 0
Holds index wide id (File file) old new = OpensBehind index id file old new
Holds index wide id (OutOfUse file) old new = OpensOutOfUse index wide id file old new
Holds index wide id (Missing absence) old new = LacksFile index wide id absence old new

-- By the latter alone a file was found, or none was.
abbrev pub HoldsElse : Index → Index → FileId → Content → Disk → Disk → Type 0
HoldsElse index wide id (File file) old new = ⊥
HoldsElse index wide id (OutOfUse file) old new = OpensFile wide id file old new
HoldsElse index wide id (Missing absence) old new =
    HasNoFile wide id old × ((IsTrue old.honest → IsMissingAs (table index old) id absence) × Reads old new 0)
