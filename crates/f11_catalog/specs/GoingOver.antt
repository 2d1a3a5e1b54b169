-- What the steps from one directory to the next tell, and which directories are still to come (profile).
use Rattle.std.specs.Prelude.{◌≡◌, ℕ, ◌+◌, ◌-◌, ◌<◌, ◌≤◌, ◌||◌, Bool, IsTrue, List, [], ◌∷◌, ◌++◌}
use Rattle.std.specs.Prelude.{Option, Some, None, IfSome}
use Rattle.f11_chain.specs.Calls.{table}
use Rattle.f11_dev.specs.Disk.{Disk}
use Rattle.f11_dev.specs.Image.{Image}
use Rattle.f11_dev.specs.Looked.{Looked}
use Rattle.f11_header.specs.Fields.{ident_area}
use Rattle.f11_index.specs.IndexFile.{Index}
use Rattle.f11_index.specs.Table.{Table, table_in}
use Rattle.f11_reader.specs.Reading.{header_in_hand, id_in_hand}
use Rattle.f11_reader.specs.declared.file.FileReader.{FileReader}
use Rattle.f11_store.specs.declared.files.FileId.{FileId}
use Rattle.f11_catalog.specs.AllDirectories.{DirectoryAt, directories_under, directory_under, is_named, name_in, named_directories}
use Rattle.f11_catalog.specs.AllDirectories.{led_directories, own_directories}
use Rattle.f11_catalog.specs.DirectoryNames.{directory_called}
use Rattle.f11_catalog.specs.Records.{BeginsDirectory, IsReadingFound, Reads, found_to_come, records_found}
use Rattle.f11_catalog.specs.Steps.{ComesTo, is_met}
use Rattle.f11_catalog.specs.declared.directory.DirectoryReader.{DirectoryReader}
use Rattle.f11_catalog.specs.declared.found.FoundDirectory.{FoundDirectory}
use Rattle.f11_catalog.specs.declared.walk.state.Directories.{Directories}
use Rattle.f11_catalog.specs.declared.walk.state.OpenDirectory.{OpenDirectory}
use Rattle.f11_catalog.specs.declared.walk.state.Numbers.{Numbers}

-- the directories that the rest of the master file directory names
abbrev pub named_to_come : Index → Index → Disk → Option FoundDirectory → List DirectoryAt
named_to_come index wide disk None = []
named_to_come index wide disk (Some master) =
    directories_under wide disk.image (table index disk) (found_to_come index wide disk master)

-- those of other numbers that are still to come, where these are known
abbrev pub unnamed_to_come : Image → Table → (ℕ → Bool) → Numbers → List DirectoryAt
unnamed_to_come image t known others = own_directories image t known others.next (t.slots + 1 - others.next)

-- those to which others lead that are still to come, where these are known
abbrev pub led_to_come : Index → Image → Table → (ℕ → Bool) → Numbers → List DirectoryAt
led_to_come wide image t known led =
    led_directories wide image t (is_met led) known led.next ((table_in image wide).slots + 1 - led.next)

-- all that are still to come and that the master file directory doesn't name, where these are known
abbrev pub rest_to_come : Index → Image → Table → (ℕ → Bool) → Directories → List DirectoryAt
rest_to_come wide image t known directories =
    unnamed_to_come image t known directories.others ++ led_to_come wide image t known directories.led

-- file n is a directory that the master file directory names: it was gone over under that name, or will be
abbrev pub is_masters : Index → Index → Disk → Directories → ℕ → Bool
is_masters index wide disk directories n = is_met directories.others n || is_named (named_to_come index wide disk directories.master) n

-- all directories that are still to come
unfoldable pub directories_to_come : Index → Index → Disk → Directories → List DirectoryAt
directories_to_come index wide disk directories =
    named_to_come index wide disk directories.master
    ++ rest_to_come wide disk.image (table index disk) (is_masters index wide disk directories) directories

-- the master file directory of this disk is read, where it can be
abbrev pub IsReadingMaster : Index → Index → Option FoundDirectory → Disk → Type 0
IsReadingMaster index wide master disk = IfSome master (λ found. IsReadingFound index wide found disk)

-- how many more directories may come at most
abbrev pub master_left : Option FoundDirectory → ℕ
master_left None = 0
master_left (Some master) = master.directory.left

unfoldable pub directories_left : Directories → ℕ
directories_left directories =
    master_left directories.master + ((65536 - directories.others.next) + (65536 - directories.led.next))

-- the directory in hand
abbrev pub at_hand : OpenDirectory → DirectoryAt
at_hand hand = record { name = hand.name; id = hand.id }

-- all its records are to come
abbrev pub HasAllRecords : Index → Index → OpenDirectory → Disk → Type 0
HasAllRecords index wide hand disk =
    IsTrue disk.honest → found_to_come index wide disk hand.found ≡ records_found wide disk.image (table index disk) hand.id

-- A directory was taken in hand.
pub record TakesInHand (index wide : Index) (hand : OpenDirectory) (old new : Disk) : Type 0 where
  pub reading : IsReadingFound index wide hand.found new
  pub records : HasAllRecords index wide hand old
  pub reads : Reads old new 0

-- A directory is in hand under the name that its own header has, which is in hand, too; its slot is in use, or isn't.
pub record IsUnderItsName (file : FileReader) (used : Bool) (hand : OpenDirectory) : Type 0 where
  pub words : List ℕ
  pub named : name_in (ident_area (header_in_hand file)) ≡ Some words
  pub name : hand.name ≡ directory_called words
  pub id : hand.id ≡ id_in_hand file
  pub in_use : hand.found.in_use ≡ used
  pub begins : BeginsDirectory file hand.found.directory

-- A directory was found, by its identification or in its slot.
pub record OpensNamed (given : Image → Table → List DirectoryAt) (index wide : Index) (hand : OpenDirectory) (old new : Disk) : Type 0 where
  pub one : IsTrue old.honest → given old.image (table index old) ≡ at_hand hand ∷ []
  pub takes : TakesInHand index wide hand old new

-- The next directory was found that the master file directory names, which is read by this index file.
pub record ComesToDirectory (by index wide : Index) (master later : DirectoryReader) (hand : OpenDirectory) (old new : Disk) : Type 0 where
  pub comes : ComesTo (λ image _. directory_under wide image (table_in image index)) by (at_hand hand ∷ []) master later old new
  pub takes : TakesInHand index wide hand old new

-- So it was, where the master file directory can be read.
pub record FindsNamed (index wide : Index) (master later : Option FoundDirectory) (hand : OpenDirectory) (old new : Disk) : Type 0 where
  pub next : IsTrue old.honest → named_to_come index wide old master ≡ at_hand hand ∷ named_to_come index wide old later
  pub fewer : master_left later < master_left master
  pub takes : TakesInHand index wide hand old new

-- It names no more.
pub record FindsNoNamed (index wide : Index) (master later : Option FoundDirectory) (old new : Disk) : Type 0 where
  pub none : IsTrue old.honest → named_to_come index wide old master ≡ []
  pub ended : IsTrue old.honest → named_to_come index wide old later ≡ []
  pub no_more : master_left later ≤ master_left master
  pub reads : Reads old new 0

-- The next directory was found that isn't known.
pub record FindsUnnamed (known : ℕ → Bool) (index wide : Index) (others later : Numbers) (hand : OpenDirectory) (old new : Disk) : Type 0
  where
    pub next : IsTrue old.honest → unnamed_to_come old.image (table index old) known others
        ≡ at_hand hand ∷ unnamed_to_come old.image (table index old) known later
    pub forward : others.next < later.next
    pub takes : TakesInHand index wide hand old new

-- There is none.
pub record FindsNoUnnamed (known : ℕ → Bool) (index : Index) (others later : Numbers) (old new : Disk) : Type 0 where
  pub none : IsTrue old.honest → unnamed_to_come old.image (table index old) known others ≡ []
  pub ended : IsTrue old.honest → unnamed_to_come old.image (table index old) known later ≡ []
  pub forward : others.next ≤ later.next
  pub reads : Reads old new 0

-- The next one was found to which others lead and that isn't known.
pub record FindsLed (known : ℕ → Bool) (index wide : Index) (led later : Numbers) (hand : OpenDirectory) (old new : Disk) : Type 0 where
  pub next : IsTrue old.honest → led_to_come wide old.image (table index old) known led
      ≡ at_hand hand ∷ led_to_come wide old.image (table index old) known later
  pub forward : led.next < later.next
  pub takes : TakesInHand index wide hand old new

-- There is none.
pub record FindsNoLed (known : ℕ → Bool) (index wide : Index) (led later : Numbers) (old new : Disk) : Type 0 where
  pub none : IsTrue old.honest → led_to_come wide old.image (table index old) known led ≡ []
  pub ended : IsTrue old.honest → led_to_come wide old.image (table index old) known later ≡ []
  pub forward : led.next ≤ later.next
  pub reads : Reads old new 0

-- The next of all directories was found.
pub record GivesDirectory (index wide : Index) (directories later : Directories) (hand : OpenDirectory) (old new : Disk) : Type 0 where
  pub next : IsTrue old.honest → directories_to_come index wide old directories ≡ at_hand hand ∷ directories_to_come index wide old later
  pub fewer : directories_left later < directories_left directories
  pub takes : TakesInHand index wide hand old new

-- None is left.
pub record HasNoDirectory (index wide : Index) (directories later : Directories) (old new : Disk) : Type 0 where
  pub none : IsTrue old.honest → directories_to_come index wide old directories ≡ []
  pub ended : IsTrue old.honest → directories_to_come index wide old later ≡ []
  pub no_more : directories_left later ≤ directories_left directories
  pub reads : Reads old new 0

-- The master file directory is to be read, where it is a directory.
pub record OpensMaster (index wide : Index) (id : FileId) (master : Option FoundDirectory) (old new : Disk) : Type 0 where
  pub reading : IsReadingMaster index wide master new
  pub come : IsTrue old.honest → named_to_come index wide old master ≡ named_directories wide old.image (table index old) id
  pub looked : Looked old new 2 0
