-- What a listing does, and a look for a name (profile).
use Rattle.std.specs.Prelude.{◌≡◌, ℕ, Bool, IsTrue, List, length, Option, Some, None, option_map, find, Result, Ok, Err}
use Rattle.std.specs.Io.KnownBytes.{Appends}
use Rattle.f11_chain.specs.Calls.{table}
use Rattle.f11_dev.specs.Disk.{Disk}
use Rattle.f11_dev.specs.Image.{Image}
use Rattle.f11_index.specs.IndexFile.{Index}
use Rattle.f11_index.specs.Table.{Table}
use Rattle.f11_reader.specs.Reading.{blocks_to_come}
use Rattle.f11_reader.specs.declared.file.FileReader.{FileReader}
use Rattle.f11_store.specs.Directory.{has_name, record_id}
use Rattle.f11_store.specs.declared.files.FileId.{FileId}
use Rattle.f11_store.specs.declared.refusals.Refusal.{Refusal}
use Rattle.f11_store.specs.declared.refusals.Refusal.TheVariants.{NoSuchEntry}
use Rattle.f11_catalog.specs.Facts.{facts_in}
use Rattle.f11_catalog.specs.Lines.{file_line}
use Rattle.f11_catalog.specs.Records.{Reads, directory_refusal, file_found, records_found, records_to_come}
use Rattle.f11_catalog.specs.declared.directory.DirectoryReader.{DirectoryReader}
use Rattle.f11_catalog.specs.declared.fault.ListFault.{ListFault}
use Rattle.f11_catalog.specs.declared.fault.ListFault.TheVariants.{DeviceFault, CannotWrite}
use Rattle.f11_catalog.specs.declared.line_form.LineForm.{LineForm}

-- A text was written, which on an honest device is this one of its image and its headers.
pub record Writes {W : Type 0} (text : Image → Table → List ℕ) (index : Index) (old new : Disk) (contents : W → Option (List ℕ))
    (before after : W) : Type 0 where
  pub written : List ℕ
  pub is : IsTrue old.honest → written ≡ text old.image (table index old)
  pub takes : Appends (contents before) (contents after) written
  pub reads : Reads old new 0

-- A directory was listed: what this makes of its records was written.
pub record Lists {W : Type 0} (text : Image → Table → List (List ℕ) → List ℕ) (index wide : Index) (id : FileId) (old new : Disk)
    (contents : W → Option (List ℕ)) (before after : W) : Type 0 where
  pub readable : IsTrue old.honest → directory_refusal (file_found wide old.image (table index old) id) ≡ None
  pub writes : Writes (λ image t. text image t (records_found wide image t id)) index old new contents before after

-- The line of a file was written whose first header is in hand, with so many blocks as are to come.
pub record WritesFile {W : Type 0} (form : LineForm) (index : Index) (in_use : Bool) (name : List ℕ) (id : FileId) (file : FileReader)
    (old new : Disk)
    (contents : W → Option (List ℕ)) (before after : W) : Type 0 where
  pub blocks : ℕ
  pub count : IsTrue old.honest → blocks ≡ length (blocks_to_come (table index old) file)
  pub takes : Appends (contents before) (contents after) (file_line form in_use name id (facts_in file.header blocks))
  pub reads : Reads old new 0

-- The text of the records that were still to come was written, of a directory that is read by this index file.
abbrev pub WritesRest : {W : Type 0} → (Image → Table → List (List ℕ) → List ℕ) → Index → Index → DirectoryReader → Disk → Disk
    → (W → Option (List ℕ)) → W → W → Type 0
WritesRest text index by directory old new contents before after =
    Writes (λ image t. text image t (records_to_come by old directory)) index old new contents before after

-- It breaks off: a transfer failed, or the writer takes no more.
abbrev pub BreaksOff : ListFault → Disk → Disk → Type 0
BreaksOff DeviceFault old new = Reads old new 1
BreaksOff CannotWrite old new = Reads old new 0

-- A directory can't be listed, and nothing was written.
pub record IsRefused (index wide : Index) (id : FileId) (refusal : Refusal) (old new : Disk) : Type 0 where
  pub refused : IsTrue old.honest → directory_refusal (file_found wide old.image (table index old) id) ≡ Some refusal
  pub reads : Reads old new 0

-- the identification that the first of these records with a name has, if there is one
abbrev pub id_under : List ℕ → List (List ℕ) → Option FileId
id_under name records = option_map record_id (find (has_name name) records)

-- the identification under a name, where its directory can be read, or why there is none: none of its records has the name
abbrev pub id_or : Option Refusal → Option FileId → Result FileId Refusal
id_or (Some refusal) found = Err refusal
id_or None (Some id) = Ok id
id_or None None = Err NoSuchEntry

-- the identification that a directory has under a name, or why it has none
abbrev pub id_entered : Index → Image → Table → FileId → List ℕ → Result FileId Refusal
id_entered wide image t directory name =
    id_or (directory_refusal (file_found wide image t directory)) (id_under name (records_found wide image t directory))

-- The first record with the name was found, of those still to come, if there is one.
pub record FindsUnder (by : Index) (directory : DirectoryReader) (name : List ℕ) (found : Option FileId) (old new : Disk) : Type 0 where
  pub found_is : IsTrue old.honest → id_under name (records_to_come by old directory) ≡ found
  pub reads : Reads old new 0

-- A directory's first record with the name has this identification.
pub record FindsId (index wide : Index) (directory : FileId) (name : List ℕ) (id : FileId) (old new : Disk) : Type 0 where
  pub found : IsTrue old.honest → id_entered wide old.image (table index old) directory name ≡ Ok id
  pub reads : Reads old new 0

-- It isn't found.
pub record FindsNoId (index wide : Index) (directory : FileId) (name : List ℕ) (refusal : Refusal) (old new : Disk) : Type 0 where
  pub refused : IsTrue old.honest → id_entered wide old.image (table index old) directory name ≡ Err refusal
  pub reads : Reads old new 0
