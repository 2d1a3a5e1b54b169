-- Under which name the master file directory has a directory (Files-11 On-Disk Structure Level 1, directories), and who owns one that is
-- made.
use Rattle.std.specs.Prelude.{ℕ, List}
use Rattle.f11_commands.specs.Copying.{directory_name}
use Rattle.f11_store.specs.declared.callers.Uic.{Uic}
use Rattle.f11_words.specs.declared.directory.Directory.{Directory}
use Rattle.f11_words.specs.declared.directory.Directory.TheVariants.{Named, Of}

-- that of a user's code, or its own
abbrev pub entry_name : Directory → List ℕ
entry_name (Of user) = directory_name user
entry_name (Named name) = name

-- the user whose it is, and [1,1] where it has a name
abbrev pub owner_in : Directory → Uic
owner_in (Of user) = user
owner_in (Named name) = record { group = 1; member = 1 }
