-- The names that a directory has (Files-11 On-Disk Structure Level 1, "Directories").
use Rattle.std.specs.Prelude.{◌≡◌, ℕ, IsTrue, List, [], ◌∷◌, ◌++◌, Option, Some, None, if◌then◌else◌}
use Rattle.std.specs.List.{flat_map}
use Rattle.f11_chain.specs.Calls.{table}
use Rattle.f11_dev.specs.Disk.{Disk}
use Rattle.f11_index.specs.IndexFile.{Index}
use Rattle.f11_store.specs.Directory.{is_empty, record_name}
use Rattle.f11_store.specs.declared.files.FileId.{FileId}
use Rattle.f11_catalog.specs.Lines.{name_found}
use Rattle.f11_catalog.specs.Records.{Reads, directory_refusal, file_found, records_found, records_to_come}
use Rattle.f11_catalog.specs.declared.directory.DirectoryReader.{DirectoryReader}
use Rattle.f11_catalog.specs.declared.fault.WalkFault.{WalkFault}
use Rattle.f11_catalog.specs.declared.fault.WalkFault.TheVariants.{DeviceFault, NoMemory}

-- a name alone, where there is one
abbrev pub name_alone : Option (List ℕ) → List (List ℕ)
name_alone (Some words) = words ∷ []
name_alone None = []

-- the name that a record has which isn't empty, if its five words are one ("Directories")
abbrev pub record_names : List ℕ → List (List ℕ)
record_names r = if is_empty r then [] else name_alone (name_found (record_name r))

-- those of a directory's records, in their order ("Directories")
abbrev pub names_in : List (List ℕ) → List (List ℕ)
names_in records = flat_map record_names records

-- The names of a directory's records were told.
pub record ListsNames (index wide : Index) (id : FileId) (names : List (List ℕ)) (old new : Disk) : Type 0 where
  pub readable : IsTrue old.honest → directory_refusal (file_found wide old.image (table index old) id) ≡ None
  pub names_are : IsTrue old.honest → names ≡ names_in (records_found wide old.image (table index old) id)
  pub reads : Reads old new 0

-- Those of the records that were still to come were put behind others, of a directory that is read by this index file.
pub record AddsNames (by : Index) (directory : DirectoryReader) (before after : List (List ℕ)) (old new : Disk) : Type 0 where
  pub added : IsTrue old.honest → after ≡ before ++ names_in (records_to_come by old directory)
  pub reads : Reads old new 0

-- They couldn't be: a transfer failed, or there was no memory.
abbrev pub FailsToName : WalkFault → Disk → Disk → Type 0
FailsToName DeviceFault old new = Reads old new 1
FailsToName NoMemory old new = Reads old new 0
