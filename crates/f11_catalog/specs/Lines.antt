-- The lines that list a directory (profile).
use Rattle.std.specs.Prelude.{ℕ, ◌==◌, Bool, List, [], ◌∷◌, ◌++◌, codes, Option, Some, None, if◌then◌else◌}
use Rattle.std.specs.Prelude.{false, not, true}
use Rattle.std.specs.Fmt.{decimal}
use Rattle.std.specs.Int.{bit_at}
use Rattle.std.specs.List.{concat, flat_map}
use Rattle.f11_dev.specs.Image.{Image}
use Rattle.f11_index.specs.IndexFile.{Index}
use Rattle.f11_index.specs.Table.{Table, table_in}
use Rattle.f11_rad50.specs.Name.{is_name, name_text}
use Rattle.f11_store.specs.Directory.{is_directory, is_empty, record_id, record_name}
use Rattle.f11_store.specs.File.{File, end_of, length_of}
use Rattle.f11_store.specs.Text.{id_text, octal_digits, uic_text}
use Rattle.f11_store.specs.declared.files.FileId.{FileId}
use Rattle.f11_numbers.specs.Rights.{rights_text}
use Rattle.f11_catalog.specs.DirectoryNames.{directory_called, directory_text}
use Rattle.f11_catalog.specs.LongLine.{dates_in, dates_shown, records_in, records_shown}
use Rattle.f11_catalog.specs.Records.{file_found, file_named, records_found}
use Rattle.f11_catalog.specs.declared.directory_name.DirectoryName.{DirectoryName}
use Rattle.f11_catalog.specs.declared.facts.FileFacts.{FileFacts}
use Rattle.f11_catalog.specs.declared.line_form.LineForm.{LineForm}
use Rattle.f11_catalog.specs.declared.line_form.LineForm.TheVariants.{Short, Long}
use Rattle.f11_catalog.specs.declared.walk.place.Place.{Place}
use Rattle.f11_catalog.specs.declared.walk.place.Place.TheVariants.{Entered, Lost}

-- a name, and a question mark where there is none
abbrev pub found_shown : Option (List ℕ) → List ℕ
found_shown (Some words) = name_text words
found_shown None = codes "?"

-- where a file stands: the directory and the name there, or that it is in none, and the name that its own header has
abbrev pub place_text : Place → List ℕ
place_text (Entered directory name id) = directory_text directory ++ (codes " " ++ found_shown name)
place_text (Lost None id) = codes "lost " ++ id_text id
place_text (Lost (Some words) id) = codes "lost " ++ (id_text id ++ (codes " " ++ name_text words))

-- the name that five words are, if they are one
abbrev pub name_found : List ℕ → Option (List ℕ)
name_found words = if is_name words then Some words else None

-- the name with five words
abbrev pub name_shown : List ℕ → List ℕ
name_shown words = found_shown (name_found words)

-- a word that is shown or isn't
abbrev pub shown_if : Bool → List ℕ → List ℕ
shown_if shown text = if shown then text else []

-- what its characteristics say of a file: contiguous (UC.CON, bit 7), marked for delete (SC.MDL, bit 15), or not closed properly (UC.DLK,
-- bit 6) (file header, H.UCHA and H.SCHA)
abbrev pub marks_shown : ℕ → List ℕ
marks_shown c = shown_if (bit_at c 7 == 1) (codes " contiguous")
    ++ (shown_if (bit_at c 15 == 1) (codes " marked") ++ shown_if (bit_at c 6 == 1) (codes " open"))

-- what a file's line shows: its allocation in blocks, its end in bytes, its owner, protection word and characteristics, its dates, and how
-- its records are kept
abbrev pub facts_of : File → FileFacts
facts_of f = record {
  blocks = length_of f;
  bytes = end_of f;
  owner = f.owner;
  protection = f.protection;
  characteristics = f.characteristics;
  dates = dates_in f.ident;
  records = records_in f.attr;
}

-- the protection word, in octal or by what each class is granted
abbrev pub protection_shown : LineForm → ℕ → List ℕ
protection_shown Short word = octal_digits word
protection_shown Long word = rights_text word

-- what the long line tells beside
abbrev pub more_shown : LineForm → FileFacts → List ℕ
more_shown Short facts = []
more_shown Long facts = dates_shown facts.dates ++ records_shown facts.records

-- the bit of its slot is 0
abbrev pub use_shown : Bool → List ℕ
use_shown in_use = shown_if (not in_use) (codes " out of use")

-- the line of a file under a name, whose slot is in use or isn't: owner, the short line's protection word and the name's version in octal,
-- all else in decimal
abbrev pub file_line : LineForm → Bool → List ℕ → FileId → FileFacts → List ℕ
file_line form in_use name id facts = concat (codes "file " ∷ name ∷ codes " " ∷ id_text id
    ∷ codes " blocks " ∷ decimal facts.blocks
    ∷ codes " bytes " ∷ decimal facts.bytes
    ∷ codes " owner " ∷ uic_text facts.owner
    ∷ codes " prot " ∷ protection_shown form facts.protection ∷ more_shown form facts
    ∷ marks_shown facts.characteristics ∷ use_shown in_use ∷ (10 ∷ []) ∷ [])

-- the line of a record that names no file
abbrev pub entry_line : List ℕ → FileId → List ℕ
entry_line name id = concat (codes "entry " ∷ name ∷ codes " " ∷ id_text id ∷ codes " no file" ∷ (10 ∷ []) ∷ [])

-- the line of a name with the file that it names, else with the one that it names whose slot isn't in use, if it names one
abbrev pub named_line : LineForm → List ℕ → FileId → Option File → Option File → List ℕ
named_line form name id (Some f) other = file_line form true name id (facts_of f)
named_line form name id None (Some f) = file_line form false name id (facts_of f)
named_line form name id None None = entry_line name id

-- the line of a record, by the volume's index file and by the one that takes each slot as in use; an empty one has none
abbrev pub record_line : LineForm → Index → Image → Table → List ℕ → List ℕ
record_line form wide image t r =
    if is_empty r then []
    else named_line form (name_shown (record_name r)) (record_id r) (file_named image t (record_id r))
    (file_named image (table_in image wide) (record_id r))

-- the lines of records, in their order
abbrev pub record_lines : LineForm → Index → Image → Table → List (List ℕ) → List ℕ
record_lines form wide image t records = flat_map (record_line form wide image t) records

-- the lines of a directory under its heading, what it is called
abbrev pub lines_under : LineForm → Index → Image → Table → DirectoryName → FileId → List ℕ
lines_under form wide image t name id = directory_text name ++ (10 ∷ record_lines form wide image t (records_found wide image t id))

-- the file that a record names is a directory
abbrev pub names_directory : Option File → Bool
names_directory (Some f) = is_directory f
names_directory None = false

-- the lines of the directory with an identification, if it is one
abbrev pub lines_in : LineForm → Index → Image → Table → FileId → DirectoryName → List ℕ
lines_in form wide image t id name = if names_directory (file_found wide image t id) then lines_under form wide image t name id else []

-- those of the directory that has this name, if that is one
abbrev pub lines_by : LineForm → Index → Image → Table → FileId → Option (List ℕ) → List ℕ
lines_by form wide image t id (Some words) = lines_in form wide image t id (directory_called words)
lines_by form wide image t id None = []

-- the lines that a record of the master file directory stands for: where it names a directory, those of that one
abbrev pub directory_lines : LineForm → Index → Image → Table → List ℕ → List ℕ
directory_lines form wide image t r = if is_empty r then [] else lines_by form wide image t (record_id r) (name_found (record_name r))

-- the lines of all directories that records name, in their order
abbrev pub all_directory_lines : LineForm → Index → Image → Table → List (List ℕ) → List ℕ
all_directory_lines form wide image t records = flat_map (directory_lines form wide image t) records
