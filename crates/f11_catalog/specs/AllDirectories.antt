-- The directories of a volume that are gone over: those that the master file directory names, record after record; behind them by their
-- numbers those that it doesn't name; and then, by their numbers, too, those whose slots aren't in use and to which other directories lead.
-- The latter two are called as their own headers say (Files-11 On-Disk Structure Level 1, "Index File", "Directories" and "Ident Area";
-- profile: the order, and that these are gone over).
use Rattle.std.specs.Prelude.{ℕ, ◌==◌, ◌&&◌, Bool, not, List, [], ◌∷◌, ◌++◌, Option, Some, None, if◌then◌else◌}
use Rattle.std.specs.List.{flat_map, list_any, range_with_len}
use Rattle.f11_dev.specs.Image.{Image}
use Rattle.f11_header.specs.Fields.{ident_area}
use Rattle.f11_index.specs.IndexFile.{Index}
use Rattle.f11_index.specs.Table.{Table, last_sequence, table_in}
use Rattle.f11_store.specs.Directory.{is_empty, record_id, record_name}
use Rattle.f11_store.specs.File.{File, name_words}
use Rattle.f11_store.specs.declared.files.FileId.{FileId}
use Rattle.f11_catalog.specs.DirectoryNames.{directory_called}
use Rattle.f11_catalog.specs.Lines.{name_found, names_directory}
use Rattle.f11_catalog.specs.Records.{file_found, file_named, file_unused, records_found}
use Rattle.f11_catalog.specs.declared.directory_name.DirectoryName.{DirectoryName}

-- a directory: what it is called, and its identification
pub record DirectoryAt : Type 0 where
  pub name : DirectoryName
  pub id : FileId

-- the identification of file n
abbrev pub id_at : Table → ℕ → FileId
id_at t n = record { number = n; sequence = last_sequence t n; volume = 0 }

-- the name in an ident area, if its words are one ("Ident Area")
abbrev pub name_in : List ℕ → Option (List ℕ)
name_in ident = name_found (name_words ident)

-- the file that was found under an identification as a directory, called so, if it is one
abbrev pub directory_in : Option File → FileId → DirectoryName → List DirectoryAt
directory_in found id name = if names_directory found then record { name = name; id = id } ∷ [] else []

-- under this name, if that is one
abbrev pub directory_by : Option File → FileId → Option (List ℕ) → List DirectoryAt
directory_by found id (Some words) = directory_in found id (directory_called words)
directory_by found id None = []

-- the directory that a record names, if it names one, whether or not its slot is in use
abbrev pub directory_under : Index → Image → Table → List ℕ → List DirectoryAt
directory_under wide image t r =
    if is_empty r then [] else directory_by (file_found wide image t (record_id r)) (record_id r) (name_found (record_name r))

-- those that records name, in their order
abbrev pub directories_under : Index → Image → Table → List (List ℕ) → List DirectoryAt
directories_under wide image t records = flat_map (directory_under wide image t) records

-- those that the master file directory names, where it can be read
abbrev pub named_directories : Index → Image → Table → FileId → List DirectoryAt
named_directories wide image t master = if names_directory (file_found wide image t master)
    then directories_under wide image t (records_found wide image t master) else []

-- file n is one of these
abbrev pub is_named : List DirectoryAt → ℕ → Bool
is_named directories n = list_any (λ d. d.id.number == n) directories

-- the directory that file n is, whose slot is in use, under its own name, if it is one, has one, and isn't known from elsewhere
abbrev pub own_directory : Image → Table → (ℕ → Bool) → ℕ → List DirectoryAt
own_directory image t known n =
    if known n then [] else directory_by (file_named image t (id_at t n)) (id_at t n) (name_in (ident_area (t.header n)))

-- those of so many files from a number on, in the order of their numbers
abbrev pub own_directories : Image → Table → (ℕ → Bool) → ℕ → ℕ → List DirectoryAt
own_directories image t known first count = flat_map (own_directory image t known) (range_with_len first count)

-- the directory that file n is, whose slot isn't in use, under its own name, if it is one and has one
abbrev pub unused_directory : Index → Image → Table → ℕ → List DirectoryAt
unused_directory wide image t n = let u = table_in image wide in
    directory_by (file_unused wide image t (id_at u n)) (id_at u n) (name_in (ident_area (u.header n)))

-- it, if it is one of those to which others lead, and isn't known from elsewhere
abbrev pub led_directory : Index → Image → Table → (ℕ → Bool) → (ℕ → Bool) → ℕ → List DirectoryAt
led_directory wide image t led known n = if led n && not (known n) then unused_directory wide image t n else []

-- those of so many files from a number on, in the order of their numbers
abbrev pub led_directories : Index → Image → Table → (ℕ → Bool) → (ℕ → Bool) → ℕ → ℕ → List DirectoryAt
led_directories wide image t led known first count = flat_map (led_directory wide image t led known) (range_with_len first count)

-- those that aren't known from elsewhere
abbrev pub other_directories : Index → Image → Table → (ℕ → Bool) → (ℕ → Bool) → List DirectoryAt
other_directories wide image t led known =
    own_directories image t known 1 t.slots ++ led_directories wide image t led known 1 (table_in image wide).slots

-- all directories: what the master file directory names, one that it names twice in both places, and then the others
abbrev pub all_directories : Index → Image → Table → FileId → (ℕ → Bool) → List DirectoryAt
all_directories wide image t master led =
    named_directories wide image t master ++ other_directories wide image t led (is_named (named_directories wide image t master))
