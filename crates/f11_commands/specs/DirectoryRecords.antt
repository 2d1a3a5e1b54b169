-- Whether the file that a directory has under a name is a directory with records, of a volume that is faulty or not (Files-11 On-Disk
-- Structure Level 1, "Directories"; profile).
use Rattle.std.specs.Prelude.{ℕ, Bool, List, Result}
use Rattle.f11_catalog.specs.Holding.{has_some}
use Rattle.f11_catalog.specs.Listing.{id_entered}
use Rattle.f11_catalog.specs.Records.{directory_refusal, file_found, records_found}
use Rattle.f11_dev.specs.Disk.{Disk}
use Rattle.f11_dev.specs.Image.{Image}
use Rattle.f11_index.specs.IndexFile.{Index}
use Rattle.f11_index.specs.Table.{Table}
use Rattle.f11_store.specs.declared.files.FileId.{FileId}
use Rattle.f11_store.specs.declared.refusals.Refusal.{Refusal}
use Rattle.f11_commands.specs.AnyVolume.{directory_named, unless_refused}
use Rattle.f11_commands.specs.DirectoryNames.{unless}
use Rattle.f11_commands.specs.Looking.{Ask, FindsNothing, FindsTold, LooksFor}
use Rattle.f11_commands.specs.declared.name_list.NoNames.{NoNames}

-- whether the directory with an identification has a record that isn't empty
abbrev pub some_with : Index → Image → Table → FileId → Result Bool Refusal
some_with wide image t id = unless (directory_refusal (file_found wide image t id)) (has_some (records_found wide image t id))

-- the file that a directory has under a name, the directory being the one that the master file directory has under its own
abbrev pub file_under : List ℕ → List ℕ → Ask FileId
file_under directory name wide image t =
    unless_refused (λ dir. id_entered wide image t dir name) (directory_named wide image t directory)

-- whether that one has
abbrev pub some_under : List ℕ → List ℕ → Ask Bool
some_under directory name wide image t = unless_refused (some_with wide image t) (file_under directory name wide image t)

-- A look at the files that an index file has came to this, or to why there is none; and one at a volume.
abbrev pub LooksForRecords : Index → Index → List ℕ → List ℕ → Result Bool Refusal → Disk → Disk → Type 0
LooksForRecords index wide directory name told old new = LooksFor (some_under directory name) index wide told old new

abbrev pub FindsRecords : List ℕ → List ℕ → Result Bool Refusal → Disk → Disk → Type 0
FindsRecords directory name told old new = FindsTold (some_under directory name) told old new

-- It can't be told.
abbrev pub HasNoRecords : NoNames → List ℕ → List ℕ → Disk → Disk → Type 0
HasNoRecords why directory name old new = FindsNothing (some_under directory name) why old new
