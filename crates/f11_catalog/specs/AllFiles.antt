-- All files of a volume, in the order in which they are gone over: what directories name, record after record, and behind it the files
-- that none of them names, so that none is left out (Files-11 On-Disk Structure Level 1, "Index File" and "Directories"; profile: order).
use Rattle.std.specs.Prelude.{◌≡◌, ℕ, ◌==◌, ◌&&◌, ◌||◌, Bool, true, not, List, [], ◌∷◌, ◌++◌, if◌then◌else◌}
use Rattle.std.specs.List.{flat_map, list_any, range_with_len}
use Rattle.f11_dev.specs.Image.{Image}
use Rattle.f11_header.specs.Fields.{ident_area}
use Rattle.f11_image_store.specs.StoreOf.{is_first}
use Rattle.f11_index.specs.IndexFile.{Index}
use Rattle.f11_index.specs.Table.{Table}
use Rattle.f11_store.specs.Directory.{is_empty, record_id, record_name}
use Rattle.f11_store.specs.declared.files.FileId.{FileId}
use Rattle.f11_catalog.specs.AllDirectories.{DirectoryAt, all_directories, id_at, name_in}
use Rattle.f11_catalog.specs.Lines.{name_found, names_directory}
use Rattle.f11_catalog.specs.Records.{file_unused, is_id_of_file, records_found}
use Rattle.f11_catalog.specs.declared.directory_name.DirectoryName.{DirectoryName}
use Rattle.f11_catalog.specs.declared.walk.place.Place.{Place}
use Rattle.f11_catalog.specs.declared.walk.place.Place.TheVariants.{Entered, Lost}

-- the identification of the file that stands in a place
abbrev pub id_of : Place → FileId
id_of (Entered directory name id) = id
id_of (Lost name id) = id

-- the place that a record of a directory gives, if it isn't empty
abbrev pub place_entered : DirectoryName → List ℕ → List Place
place_entered directory r = if is_empty r then [] else Entered directory (name_found (record_name r)) (record_id r) ∷ []

-- the places that records of a directory give, in their order
abbrev pub places_entered : DirectoryName → List (List ℕ) → List Place
places_entered directory records = flat_map (place_entered directory) records

-- the places in a directory
abbrev pub places_in : Index → Image → Table → DirectoryAt → List Place
places_in wide image t directory = places_entered directory.name (records_found wide image t directory.id)

-- the places in all directories, where these numbers are those to which others lead
abbrev pub entered_files : Index → Image → Table → FileId → (ℕ → Bool) → List Place
entered_files wide image t master led = flat_map (places_in wide image t) (all_directories wide image t master led)

-- an identification is that of file n, which is a directory whose slot isn't in use
abbrev pub is_unused : Index → Image → Table → ℕ → FileId → Bool
is_unused wide image t n id = names_directory (file_unused wide image t id) && (id.number == n)

-- a place leads to file n, which is such a directory
abbrev pub leads_to : Index → Image → Table → ℕ → Place → Bool
leads_to wide image t n place = is_unused wide image t n (id_of place)

-- a place in a directory leads to file n, where these numbers are those to which others lead
abbrev pub is_led_by : Index → Image → Table → FileId → (ℕ → Bool) → ℕ → Bool
is_led_by wide image t master led n = list_any (leads_to wide image t n) (entered_files wide image t master led)

-- directories lead to file n then: it is the master file directory, with its slot not in use, or a place in one of them leads to it
abbrev pub is_led : Index → Image → Table → FileId → (ℕ → Bool) → ℕ → Bool
is_led wide image t master led n = is_unused wide image t n master || is_led_by wide image t master led n

-- all numbers to which directories lead are among these
abbrev pub HasAllLed : Index → Image → Table → FileId → (ℕ → Bool) → Type 0
HasAllLed wide image t master led = (n : ℕ) → is_led wide image t master led n ≡ true → led n ≡ true

-- only such numbers are among these: each is among any numbers among which all are
abbrev pub HasOnlyLed : Index → Image → Table → FileId → (ℕ → Bool) → Type 0
HasOnlyLed wide image t master led =
    (any : ℕ → Bool) → HasAllLed wide image t master any → (n : ℕ) → led n ≡ true → any n ≡ true

-- These are the numbers to which directories lead: the fewest among which all are.
pub record AreLed (wide : Index) (image : Image) (t : Table) (master : FileId) (led : ℕ → Bool) : Type 0 where
  pub all : HasAllLed wide image t master led
  pub only : HasOnlyLed wide image t master led

-- file n stands in one of these places
abbrev pub is_among : Table → List Place → ℕ → Bool
is_among t places n = list_any (λ p. is_id_of_file t (id_of p) && ((id_of p).number == n)) places

-- the place of file n, if there is one and it isn't known from elsewhere
abbrev pub place_lost : Table → (ℕ → Bool) → ℕ → List Place
place_lost t known n = if is_first t n && not (known n) then Lost (name_in (ident_area (t.header n))) (id_at t n) ∷ [] else []

-- those of so many files from a number on, in the order of their numbers
abbrev pub lost_files : Table → (ℕ → Bool) → ℕ → ℕ → List Place
lost_files t known first count = flat_map (place_lost t known) (range_with_len first count)

-- all files: what directories name, a file that is entered twice in both places, and then the files that none names
abbrev pub all_files : Index → Image → Table → FileId → (ℕ → Bool) → List Place
all_files wide image t master led =
    entered_files wide image t master led ++ lost_files t (is_among t (entered_files wide image t master led)) 1 t.slots
