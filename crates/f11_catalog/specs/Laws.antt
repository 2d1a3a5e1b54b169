-- Laws of directories and files (Files-11 On-Disk Structure Level 1, "Index File" and "Directories").
use Rattle.std.specs.Prelude.{◌≡◌, ◌↔◌, ◌<◌, ◌≤◌, ℕ, ◌==◌, Bool, false, true, Contains, List, Option, Some, None, nat_le, option_map}
use Rattle.std.specs.Prelude.{if◌then◌else◌}
use Rattle.f11_dev.specs.Image.{Image}
use Rattle.f11_volume.specs.home.Home.{HomeFields}
use Rattle.f11_header.specs.Fields.{ident_area}
use Rattle.f11_header.specs.Header.{IsHeader}
use Rattle.f11_image_store.specs.StoreOf.{as_seen, is_first, store_of}
use Rattle.f11_index.specs.IndexFile.{Index, IsIndex, all_in_use, slots}
use Rattle.f11_index.specs.Table.{Table, last_sequence, table_in, table_of}
use Rattle.f11_store.specs.Directory.{entries_of, is_directory, is_empty, record_id, record_name}
use Rattle.f11_store.specs.File.{File}
use Rattle.f11_store.specs.Store as store
use Rattle.f11_store.specs.Store.{Store}
use Rattle.f11_store.specs.declared.files.FileId.{FileId}
use Rattle.f11_volume.specs.Contents.{file_of}
use Rattle.f11_volume.specs.map.HeaderBlock.{segment_number}
use Rattle.f11_catalog.specs.AllDirectories.{DirectoryAt, all_directories, id_at, is_named, name_in}
use Rattle.f11_catalog.specs.AllFiles.{AreLed, all_files, is_among, is_led}
use Rattle.f11_catalog.specs.Lines.{name_found, name_shown, named_line, names_directory, record_line}
use Rattle.f11_catalog.specs.declared.line_form.LineForm.{LineForm}
use Rattle.f11_catalog.specs.Records.{file_found, file_named, file_unused, is_id_of_file, records_found, records_of}
use Rattle.f11_catalog.specs.declared.walk.place.Place.TheVariants.{Entered}

-- An identification is that of a valid first header in one of these slots.
pub record IsFirstHeader (index : Index) (t : Table) (id : FileId) : Type 0 where
  pub some : 0 < id.number
  pub slot : id.number ≤ slots index
  pub valid : IsHeader (t.header id.number) id.number
  pub first : segment_number (t.header id.number) ≡ 0
  pub sequence : id.sequence ≡ last_sequence t id.number
  pub here : id.volume ≡ 0

-- each file of a volume is one of all its files
abbrev pub NoFileIsLeftOut : Type 0
NoFileIsLeftOut =
    (wide : Index) (image : Image) (index : Index) (master : FileId) (led : ℕ → Bool) (n : ℕ) →
    is_first (table_in image index) n ≡ true →
    is_among (table_in image index) (all_files wide image (table_in image index) master led) n ≡ true

-- each record that isn't empty, of a directory that is gone over, has its place among all files
abbrev pub NoRecordIsLeftOut : Type 0
NoRecordIsLeftOut =
    (wide : Index) (image : Image) (t : Table) (master : FileId) (led : ℕ → Bool) (directory : DirectoryAt) (r : List ℕ) →
    Contains (all_directories wide image t master led) directory → Contains (records_found wide image t directory.id) r →
    is_empty r ≡ false →
    Contains (all_files wide image t master led) (Entered directory.name (name_found (record_name r)) (record_id r))

-- each directory is gone over whose slot is in use and whose own header has a name
abbrev pub NoDirectoryIsLeftOut : Type 0
NoDirectoryIsLeftOut =
    (wide : Index) (image : Image) (index : Index) (master : FileId) (led : ℕ → Bool) (n : ℕ) (name : List ℕ) →
    is_first (table_in image index) n ≡ true → is_directory (file_of image (table_in image index) n) ≡ true →
    name_in (ident_area ((table_in image index).header n)) ≡ Some name →
    is_named (all_directories wide image (table_in image index) master led) n ≡ true

-- nor is one whose slot isn't in use, and whose own header has a name, if one that is gone over leads to it, or it is the master file
-- directory
abbrev pub NoUnusedDirectoryIsLeftOut : Type 0
NoUnusedDirectoryIsLeftOut =
    (wide : Index) (image : Image) (t : Table) (master : FileId) (led : ℕ → Bool) (n : ℕ) (name : List ℕ) →
    AreLed wide image t master led → is_led wide image t master led n ≡ true →
    names_directory (file_unused wide image t (id_at (table_in image wide) n)) ≡ true →
    name_in (ident_area ((table_in image wide).header n)) ≡ Some name →
    is_named (all_directories wide image t master led) n ≡ true

-- by the index file that takes each slot as in use each valid first header is a file, whatever the bit of its slot, under its own number
-- and sequence number; and no other identification is one of a file
abbrev pub FindsEachFirstHeader : Type 0
FindsEachFirstHeader =
    (index : Index) (image : Image) (id : FileId) → IsIndex index →
    let t = table_in image (all_in_use index) in
    (is_id_of_file t id ≡ true) ↔ IsFirstHeader index t id

-- the file that the plain store has with an identification on this volume is the one that it names, as requests see it: files 1 to 3
-- without their blocks
abbrev pub NamesTheStoresFile : Type 0
NamesTheStoresFile =
    (image : Image) (home : HomeFields) (id : FileId) → id.volume ≡ 0 →
    store.file_of (store_of image home) id ≡ option_map (as_seen id.number) (file_named image (table_of image home) id)

-- a file of the store with the blocks of files 1 to 3, which no request reaches
abbrev pub with_own_blocks : Image → Table → ℕ → File → File
with_own_blocks image t n f = if nat_le n 3 then record f { blocks = (file_of image t n).blocks } else f

-- the file that the plain store has with an identification, with these, if that is one of this volume
abbrev pub file_stored : Image → Table → Store → FileId → Option File
file_stored image t s id = if id.volume == 0 then option_map (with_own_blocks image t id.number) (store.file_of s id) else None

-- whatever is listed or taken out is read off the files that identifications name: these are the store's
abbrev pub FilesAreTheStores : Type 0
FilesAreTheStores =
    (image : Image) (home : HomeFields) (id : FileId) →
    file_named image (table_of image home) id ≡ file_stored image (table_of image home) (store_of image home) id

-- from file 4 on the records of a directory are the entries that the plain store has of it
abbrev pub ListsTheStoresEntries : Type 0
ListsTheStoresEntries =
    (image : Image) (home : HomeFields) (id : FileId) → id.volume ≡ 0 → nat_le id.number 3 ≡ false →
    records_of image (table_of image home) id ≡ entries_of (store.file_named (store_of image home) id)

-- a file that the plain store has is found, whatever else the index file has that takes each slot as in use
abbrev pub FindsTheStoresFile : Type 0
FindsTheStoresFile =
    (wide : Index) (image : Image) (home : HomeFields) (id : FileId) (f : File) → id.volume ≡ 0 → nat_le id.number 3 ≡ false →
    store.file_of (store_of image home) id ≡ Some f → file_found wide image (table_of image home) id ≡ Some f

-- and the line of a record that names one of these is that of the store's file, else that of one whose slot isn't in use
abbrev pub ShowsTheStoresFile : Type 0
ShowsTheStoresFile =
    (form : LineForm) (wide : Index) (image : Image) (home : HomeFields) (r : List ℕ) → is_empty r ≡ false → (record_id r).volume ≡ 0 →
    nat_le (record_id r).number 3 ≡ false →
    record_line form wide image (table_of image home) r
    ≡ named_line form (name_shown (record_name r)) (record_id r) (store.file_of (store_of image home) (record_id r))
    (file_named image (table_in image wide) (record_id r))
