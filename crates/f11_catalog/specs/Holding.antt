-- Whether a directory has records (Files-11 On-Disk Structure Level 1, "Directories").
use Rattle.std.specs.Prelude.{◌≡◌, ℕ, Bool, not, IsTrue, List, None}
use Rattle.std.specs.List.{list_any}
use Rattle.f11_chain.specs.Calls.{table}
use Rattle.f11_dev.specs.Disk.{Disk}
use Rattle.f11_index.specs.IndexFile.{Index}
use Rattle.f11_store.specs.Directory.{is_empty}
use Rattle.f11_store.specs.declared.files.FileId.{FileId}
use Rattle.f11_catalog.specs.Records.{Reads, directory_refusal, file_found, records_found, records_to_come}
use Rattle.f11_catalog.specs.declared.directory.DirectoryReader.{DirectoryReader}

-- a record isn't empty: its file number isn't 0
abbrev pub is_used : List ℕ → Bool
is_used r = not (is_empty r)

-- one of these records isn't
abbrev pub has_some : List (List ℕ) → Bool
has_some records = list_any is_used records

-- Whether a directory has one was told.
pub record TellsSome (index wide : Index) (id : FileId) (some : Bool) (old new : Disk) : Type 0 where
  pub readable : IsTrue old.honest → directory_refusal (file_found wide old.image (table index old) id) ≡ None
  pub some_is : IsTrue old.honest → some ≡ has_some (records_found wide old.image (table index old) id)
  pub reads : Reads old new 0

-- Whether one is of those that were still to come, of a directory that is read by this index file.
pub record FindsSome (by : Index) (directory : DirectoryReader) (some : Bool) (old new : Disk) : Type 0 where
  pub some_is : IsTrue old.honest → some ≡ has_some (records_to_come by old directory)
  pub reads : Reads old new 0
