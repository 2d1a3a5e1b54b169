-- What the steps of a walk over all files tell, and what is still to come (profile).
use Rattle.std.specs.Prelude.{◌≡◌, ℕ, ◌+◌, ◌-◌, ◌*◌, ◌^◌, ◌<◌, ◌≤◌, ◌||◌, Bool, IsTrue, List, [], ◌∷◌, ◌++◌}
use Rattle.std.specs.Prelude.{Option, Some, None, IfSome, false, true, if◌then◌else◌}
use Rattle.std.specs.List.{flat_map, list_any}
use Rattle.f11_chain.specs.Calls.{table}
use Rattle.f11_dev.specs.Disk.{Disk}
use Rattle.f11_dev.specs.Image.{Image}
use Rattle.f11_dev.specs.Looked.{Looked}
use Rattle.f11_index.specs.IndexFile.{Index}
use Rattle.f11_index.specs.Table.{Table}
use Rattle.f11_reader.specs.declared.file.FileReader.{FileReader}
use Rattle.f11_store.specs.declared.files.FileId.{FileId}
use Rattle.f11_catalog.specs.AllFiles.{HasAllLed, HasOnlyLed, all_files, entered_files, id_of, is_among, is_led_by, leads_to}
use Rattle.f11_catalog.specs.AllFiles.{lost_files, place_entered, places_entered, places_in}
use Rattle.f11_catalog.specs.Contents.{Holds, OpensBehind}
use Rattle.f11_catalog.specs.GoingOver.{IsReadingMaster, directories_left, directories_to_come}
use Rattle.f11_catalog.specs.Records.{IsReadingFound, Reads, found_to_come}
use Rattle.f11_catalog.specs.Steps.{ComesTo, is_met}
use Rattle.f11_catalog.specs.declared.directory.DirectoryReader.{DirectoryReader}
use Rattle.f11_catalog.specs.declared.directory_name.DirectoryName.{DirectoryName}
use Rattle.f11_catalog.specs.declared.fault.WalkFault.{WalkFault}
use Rattle.f11_catalog.specs.declared.fault.WalkFault.TheVariants.{DeviceFault, NoMemory}
use Rattle.f11_catalog.specs.declared.walk.content.Content.TheVariants.{File}
use Rattle.f11_catalog.specs.declared.walk.place.FileAt.{FileAt}
use Rattle.f11_catalog.specs.declared.walk.place.Place.{Place}
use Rattle.f11_catalog.specs.declared.walk.state.AllFiles.{AllFiles}
use Rattle.f11_catalog.specs.declared.walk.state.EnteredFiles.{EnteredFiles}
use Rattle.f11_catalog.specs.declared.walk.state.OpenDirectory.{OpenDirectory}
use Rattle.f11_catalog.specs.declared.walk.state.Numbers.{Numbers}

-- what the rest of a directory names
abbrev pub hand_to_come : Index → Index → Disk → Option OpenDirectory → List Place
hand_to_come index wide disk None = []
hand_to_come index wide disk (Some hand) = places_entered hand.name (found_to_come index wide disk hand.found)

-- what directories name that is still to come
abbrev pub entered_to_come : Index → Index → Disk → EnteredFiles → List Place
entered_to_come index wide disk files =
    hand_to_come index wide disk files.hand
    ++ flat_map (places_in wide disk.image (table index disk)) (directories_to_come index wide disk files.directories)

-- those of other files that are still to come, where these are known
abbrev pub others_to_come : Table → (ℕ → Bool) → Numbers → List Place
others_to_come t known others = lost_files t known others.next (t.slots + 1 - others.next)

-- file n was met, or will be
abbrev pub is_known : Index → Index → Disk → AllFiles → ℕ → Bool
is_known index wide disk files n =
    is_met files.others n || is_among (table index disk) (entered_to_come index wide disk files.entered) n

-- all files that are still to come
unfoldable pub files_to_come : Index → Index → Disk → AllFiles → List Place
files_to_come index wide disk files =
    entered_to_come index wide disk files.entered ++ others_to_come (table index disk) (is_known index wide disk files) files.others

-- directories of this disk are read
abbrev pub IsWalkingDirectories : Index → Index → EnteredFiles → Disk → Type 0
IsWalkingDirectories index wide files disk =
    IfSome files.hand (λ hand. IsReadingFound index wide hand.found disk) × IsReadingMaster index wide files.directories.master disk

abbrev pub IsWalking : Index → Index → AllFiles → Disk → Type 0
IsWalking index wide files disk = IsWalkingDirectories index wide files.entered disk

-- how many more files may come at most from what is in hand, and from directories: none has more than 2^38 records
abbrev pub hand_left : Option OpenDirectory → ℕ
hand_left None = 0
hand_left (Some hand) = hand.found.directory.left

abbrev pub entered_left : EnteredFiles → ℕ
entered_left files = directories_left files.directories * 2 ^ 38 + hand_left files.hand

-- how many more files may come at most
unfoldable pub files_left : AllFiles → ℕ
files_left files = entered_left files.entered + (65536 - files.others.next)

-- What stands in a place was found, behind other reads.
pub record HoldsAt (index wide : Index) (found : FileAt) (old new : Disk) : Type 0 where
  pub mid : Disk
  pub before : Reads old mid 0
  pub holds : Holds index wide (id_of found.place) found.content mid new

-- These places are one, and what stands there was found.
pub record EntersOne (places : Image → Table → List Place) (index wide : Index) (found : FileAt) (old new : Disk) : Type 0 where
  pub one : IsTrue old.honest → places old.image (table index old) ≡ found.place ∷ []
  pub holds : HoldsAt index wide found old new

-- The file in a place was found: its first header is in hand, and all its blocks are to come.
pub record OpensAt (index : Index) (found : FileAt) (old new : Disk) : Type 0 where
  pub file : FileReader
  pub content : found.content ≡ File file
  pub opens : OpensBehind index (id_of found.place) file old new

-- These places are one, that of a file which was found.
pub record FindsLost (places : Image → Table → List Place) (index : Index) (found : FileAt) (old new : Disk) : Type 0 where
  pub one : IsTrue old.honest → places old.image (table index old) ≡ found.place ∷ []
  pub opens : OpensAt index found old new

-- The next record of a directory that isn't empty was read, by this index file, and what it names was found.
pub record ComesToFile (by index wide : Index) (name : DirectoryName) (directory later : DirectoryReader) (found : FileAt) (old new : Disk)
    : Type 0 where
  pub comes : ComesTo (λ image t. place_entered name) by (found.place ∷ []) directory later old new
  pub holds : HoldsAt index wide found old new

-- What the next record names was found.
pub record EntersFile (index wide : Index) (files later : EnteredFiles) (found : FileAt) (old new : Disk) : Type 0 where
  pub next : IsTrue old.honest → entered_to_come index wide old files ≡ found.place ∷ entered_to_come index wide old later
  pub fewer : entered_left later < entered_left files
  pub holds : HoldsAt index wide found old new

-- The same files are to come, and no more records are left than were.
pub record StaysToCome (index wide : Index) (files later : EnteredFiles) (old new : Disk) : Type 0 where
  pub same : IsTrue old.honest → entered_to_come index wide old later ≡ entered_to_come index wide old files
  pub no_more : entered_left later ≤ entered_left files
  pub reads : Reads old new 0

-- The next directory was taken in hand.
pub record TakesDirectory (index wide : Index) (files later : EnteredFiles) (old new : Disk) : Type 0 where
  pub stays : StaysToCome index wide files later old new
  pub fewer : directories_left later.directories < directories_left files.directories

-- Directories name no more.
pub record EntersNoMore (index wide : Index) (files later : EnteredFiles) (old new : Disk) : Type 0 where
  pub none : IsTrue old.honest → entered_to_come index wide old files ≡ []
  pub ended : IsTrue old.honest → entered_to_come index wide old later ≡ []
  pub no_more : entered_left later ≤ entered_left files
  pub reads : Reads old new 0

-- The next file that isn't known was found.
pub record FindsOther (known : ℕ → Bool) (index : Index) (others later : Numbers) (found : FileAt) (old new : Disk) : Type 0 where
  pub next : IsTrue old.honest →
      others_to_come (table index old) known others ≡ found.place ∷ others_to_come (table index old) known later
  pub forward : others.next < later.next
  pub opens : OpensAt index found old new

-- There is none.
pub record FindsNoOther (known : ℕ → Bool) (index : Index) (others later : Numbers) (old new : Disk) : Type 0 where
  pub none : IsTrue old.honest → others_to_come (table index old) known others ≡ []
  pub ended : IsTrue old.honest → others_to_come (table index old) known later ≡ []
  pub reads : Reads old new 0

-- It was begun with what directories name: all of it is to come, where these numbers are those to which others lead.
pub record BeginsEntered (index wide : Index) (master : FileId) (led : ℕ → Bool) (files : EnteredFiles) (old new : Disk) : Type 0 where
  pub walking : IsWalkingDirectories index wide files new
  pub all : IsTrue old.honest → entered_to_come index wide old files ≡ entered_files wide old.image (table index old) master led
  pub reads : Reads old new 0

-- All that was still to come was gone over: the numbers to which it leads are met.
pub record FollowsAll (index wide : Index) (files : EnteredFiles) (seen later : Numbers) (old new : Disk) : Type 0 where
  pub met : IsTrue old.honest → (n : ℕ) → is_met later n
      ≡ (is_met seen n || list_any (leads_to wide old.image (table index old) n) (entered_to_come index wide old files))
  pub reads : Reads old new 0

-- A part of it was, before a transfer failed: it leads to no number that is met but those that were.
pub record FollowsPart (index wide : Index) (files : EnteredFiles) (seen later : Numbers) (old new : Disk) : Type 0 where
  pub met : IsTrue old.honest → (n : ℕ) → is_met later n ≡ true
      → (is_met seen n || list_any (leads_to wide old.image (table index old) n) (entered_to_come index wide old files)) ≡ true
  pub reads : Reads old new 1

-- one transfer failed, or none
abbrev pub one_if : Bool → ℕ
one_if failed = if failed then 1 else 0

-- What directories name was gone over: these are the numbers to which it leads; or some of them, since a transfer failed.
pub record FollowsEntered (index wide : Index) (master : FileId) (led : ℕ → Bool) (seen : Numbers) (failed : Bool) (old new : Disk) : Type 0
  where
    pub only : IsTrue old.honest → (n : ℕ) → is_met seen n ≡ true → is_led_by wide old.image (table index old) master led n ≡ true
    pub whole : failed ≡ false → IsTrue old.honest → (n : ℕ) → is_led_by wide old.image (table index old) master led n ≡ true
        → is_met seen n ≡ true
    pub reads : Reads old new (one_if failed)

-- The numbers were found to which directories lead, or a transfer failed before all were; none of them was looked at.
pub record FindsAllLed (index wide : Index) (master : FileId) (led : Numbers) (failed : Bool) (old new : Disk) : Type 0 where
  pub only : IsTrue old.honest → HasOnlyLed wide old.image (table index old) master (is_met led)
  pub whole : failed ≡ false → IsTrue old.honest → HasAllLed wide old.image (table index old) master (is_met led)
  pub first : led.next ≡ 1
  pub reads : Reads old new (one_if failed)

-- A walk has begun: all files are to come, where these are the numbers to which directories lead; or some of these, since a transfer
-- failed.
pub record BeginsWalk (index wide : Index) (master : FileId) (files : AllFiles) (failed : Bool) (old new : Disk) : Type 0 where
  pub walking : IsWalking index wide files new
  pub led : ℕ → Bool
  pub only : IsTrue old.honest → HasOnlyLed wide old.image (table index old) master led
  pub whole : failed ≡ false → IsTrue old.honest → HasAllLed wide old.image (table index old) master led
  pub all : IsTrue old.honest → files_to_come index wide old files ≡ all_files wide old.image (table index old) master led
  pub reads : Reads old new (one_if failed)

-- It hasn't: a transfer failed, or there was no memory.
abbrev pub FailsToBegin : WalkFault → Disk → Disk → Type 0
FailsToBegin DeviceFault old new = Looked old new 2 1
FailsToBegin NoMemory old new = Reads old new 0

-- What stands in the next place was found.
pub record GivesFile (index wide : Index) (files later : AllFiles) (found : FileAt) (old new : Disk) : Type 0 where
  pub next : IsTrue old.honest → files_to_come index wide old files ≡ found.place ∷ files_to_come index wide old later
  pub fewer : files_left later < files_left files
  pub holds : HoldsAt index wide found old new

-- No file is left, and none comes any more.
pub record HasNoFile (index wide : Index) (files later : AllFiles) (old new : Disk) : Type 0 where
  pub none : IsTrue old.honest → files_to_come index wide old files ≡ []
  pub ended : IsTrue old.honest → files_to_come index wide old later ≡ []
  pub reads : Reads old new 0
