-- Which names a directory has that the master file directory has under a name, of a volume that is faulty or not (Files-11 On-Disk
-- Structure Level 1, "Directories"; profile).
use Rattle.std.specs.Prelude.{ℕ, List, Option, Some, None, Result, Ok, Err}
use Rattle.f11_catalog.specs.Names.{names_in}
use Rattle.f11_catalog.specs.Records.{directory_refusal, file_found, records_found}
use Rattle.f11_dev.specs.Disk.{Disk}
use Rattle.f11_dev.specs.Image.{Image}
use Rattle.f11_index.specs.IndexFile.{Index}
use Rattle.f11_index.specs.Table.{Table}
use Rattle.f11_store.specs.declared.files.FileId.{FileId}
use Rattle.f11_store.specs.declared.refusals.Refusal.{Refusal}
use Rattle.f11_commands.specs.AnyVolume.{directory_named, unless_refused}
use Rattle.f11_commands.specs.Looking.{Ask, LookFails, FindsNothing, FindsTold, LooksFor}
use Rattle.f11_commands.specs.declared.name_list.NoNames.{NoNames}
use Rattle.f11_commands.specs.declared.outcome.Failure.{Failure}

-- this, where nothing stands against it
abbrev pub unless : {T : Type 0} → Option Refusal → T → Result T Refusal
unless None x = Ok x
unless (Some refusal) x = Err refusal

-- the names that the directory with an identification has: those of its records
abbrev pub names_with : Index → Image → Table → FileId → Result (List (List ℕ)) Refusal
names_with wide image t id = unless (directory_refusal (file_found wide image t id)) (names_in (records_found wide image t id))

-- those that the directory has which the master file directory has under a name
abbrev pub names_under : List ℕ → Ask (List (List ℕ))
names_under directory wide image t = unless_refused (names_with wide image t) (directory_named wide image t directory)

-- A look for names in the files that an index file has came to these, or to why there are none; and one in a volume.
abbrev pub LooksForNames : Index → Index → List ℕ → Result (List (List ℕ)) Refusal → Disk → Disk → Type 0
LooksForNames index wide directory told old new = LooksFor (names_under directory) index wide told old new

abbrev pub FindsNames : List ℕ → Result (List (List ℕ)) Refusal → Disk → Disk → Type 0
FindsNames directory told old new = FindsTold (names_under directory) told old new

-- There are none, or the look broke off.
abbrev pub HasNoNames : NoNames → List ℕ → Disk → Disk → Type 0
HasNoNames why directory old new = FindsNothing (names_under directory) why old new

abbrev pub FailsToFindNames : Failure → Disk → Disk → Type 0
FailsToFindNames failure old new = LookFails failure old new
