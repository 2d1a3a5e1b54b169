-- Which one file a word names, and which name a new file gets by it (RSX-11M-PLUS MCR Operations Manual, file specifications; profile).
use Rattle.std.specs.Prelude.{◌≡◌, ◌≢◌, ◌⊎◌, ℕ, List, Option, Some, None}
use Rattle.f11_rad50.specs.Name.{version_of}
use Rattle.f11_patterns.specs.Fitting.{candidate, has_some}
use Rattle.f11_patterns.specs.Giving.{Naming}
use Rattle.f11_patterns.specs.declared.naming.OneName.{OneName}
use Rattle.f11_patterns.specs.declared.naming.OneName.TheVariants as one
use Rattle.f11_patterns.specs.declared.versions.Versions.TheVariants.{Highest}
use Rattle.f11_patterns.specs.Meant.{IsHighestVersion, are_alike}
use Rattle.f11_patterns.specs.Next.{HasLast, IsNext, with_version}
use Rattle.f11_patterns.specs.Parts.{Parts}
use Rattle.f11_patterns.specs.Pattern.{Fits, IsOne, IsPattern, with_versions}

-- A name fits a pattern, whatever its version, and this is its version.
pub record FitsWith (parts : Parts) (version : ℕ) (name : List ℕ) : Type 0 where
  pub fits : Fits (with_versions Highest parts) name
  pub version_is : version_of name ≡ version

-- What asks for one version means the name with that; what asks for the highest, the name with version 1 until that is found.
abbrev pub IsNamedBy : Parts → OneName → Type 0
IsNamedBy parts (one.Whole name) = (parts.versions ≢ Highest) × Fits parts name
IsNamedBy parts (one.Highest first) = (parts.versions ≡ Highest) × FitsWith parts 1 first

-- A word names one file: it is a pattern that means one name at most, and so is its name.
pub record NamesOne (word : List ℕ) (named : OneName) : Type 0 where
  pub parts : Parts
  pub is : IsPattern word parts
  pub one : IsOne parts
  pub named_by : IsNamedBy parts named

-- It names none: it is no pattern, or one that may mean several.
abbrev pub NamesNone : List ℕ → Type 0
NamesNone word = (parts : Parts) → IsPattern word parts → ¬ IsOne parts

-- Which of the names of a directory it is: its own, or the highest version, and version 1 where there is none.
abbrev pub IsFound : List (List ℕ) → OneName → List ℕ → Type 0
IsFound names (one.Whole name) found = found ≡ name
IsFound names (one.Highest first) found = IsHighestVersion names first found

-- The name that a new file gets by it: its own, or the next version of those that are there, and where the last one is there, that.
abbrev pub IsNextName : List (List ℕ) → OneName → List ℕ → Type 0
IsNextName names (one.Whole name) next = next ≡ name
IsNextName names (one.Highest first) next =
    (IsNext names first next) ⊎ ((HasLast names first) × (next ≡ with_version first 32767))

-- Beside these names a new file gets this one by a word that names one file; or none, by one that names none.
abbrev pub GetsByWord : List (List ℕ) → Option (List ℕ) → List ℕ → Type 0
GetsByWord there (Some name) word = (named : OneName) × NamesOne word named × IsNextName there named name
GetsByWord there None word = NamesNone word

-- The names of Files-11: a part is one as a word is, and two count as the same that have the same name and type.
abbrev pub file_naming : Naming (List ℕ)
file_naming = record { IsNamed = GetsByWord; candidate = candidate; has_some = has_some; are_alike = are_alike }
