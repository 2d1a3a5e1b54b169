-- Which file a word names in a directory of a volume that is faulty or not, and which name a new one gets by it (profile).
use Rattle.std.specs.Prelude.{◌≡◌, ℕ, List, [], Option, Some, None, Ok}
use Rattle.f11_dev.specs.Disk.{Disk}
use Rattle.f11_commands.specs.DirectoryNames.{FindsNames, HasNoNames}
use Rattle.f11_commands.specs.declared.name_list.NoNames.{NoNames}
use Rattle.f11_patterns.specs.Giving.{GetNames}
use Rattle.f11_patterns.specs.Naming.{IsFound, IsNextName, file_naming}
use Rattle.f11_patterns.specs.declared.names.HostNames.{HostNames}
use Rattle.f11_patterns.specs.declared.naming.OneName.{OneName}
use Rattle.f11_patterns.specs.declared.naming.OneName.TheVariants as one

-- A directory has these names; or it can't be read, for this, and none are there.
abbrev pub ThereAre : Option NoNames → List ℕ → List (List ℕ) → Disk → Disk → Type 0
ThereAre None directory names old new = FindsNames directory (Ok names) old new
ThereAre (Some why) directory names old new = (names ≡ []) × HasNoNames why directory old new

-- Such a name is told, of the names that are there.
pub record ToldAmong (Is : List (List ℕ) → List ℕ → Type 0) (directory name : List ℕ) (old new : Disk) : Type 0 where
  pub names : List (List ℕ)
  pub why : Option NoNames
  pub there : ThereAre why directory names old new
  pub is : Is names name

-- a whole name is told as it is, with nothing read; any other among the names that are there
abbrev pub TellsName : (List (List ℕ) → OneName → List ℕ → Type 0) → List ℕ → OneName → List ℕ → Disk → Disk → Type 0
TellsName Is directory (one.Whole whole) name old new = (name ≡ whole) × (new ≡ old)
TellsName Is directory (one.Highest first) name old new = ToldAmong (λ names. Is names (one.Highest first)) directory name old new

-- which file it is, and which name a new one gets
abbrev pub TellsFound : List ℕ → OneName → List ℕ → Disk → Disk → Type 0
TellsFound directory named name old new = TellsName IsFound directory named name old new

abbrev pub TellsNext : List ℕ → OneName → List ℕ → Disk → Disk → Type 0
TellsNext directory named name old new = TellsName IsNextName directory named name old new

-- Files of the host with these paths get these names in a directory, beside those that are there.
pub record TellsNew (fitting : HostNames) (directory : List ℕ) (paths : List (List ℕ)) (names : List (Option (List ℕ)))
    (why : Option NoNames) (old new : Disk) : Type 0 where
  pub there : List (List ℕ)
  pub are : ThereAre why directory there old new
  pub get : GetNames file_naming fitting there paths names
