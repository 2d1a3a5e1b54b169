-- What a step of a walk tells: along the records of a directory, or along the numbers of files (profile).
use Rattle.std.specs.Prelude.{◌≡◌, ℕ, zero, suc, ◌+◌, ◌<◌, if◌then◌else◌, Bool, false, IsTrue, List, [], ◌++◌, get_or}
use Rattle.std.specs.List.{flat_map}
use Rattle.f11_chain.specs.Calls.{table}
use Rattle.f11_dev.specs.Disk.{Disk}
use Rattle.f11_dev.specs.Image.{Image}
use Rattle.f11_index.specs.IndexFile.{Index}
use Rattle.f11_index.specs.Table.{Table}
use Rattle.f11_catalog.specs.Records.{Reads, records_to_come}
use Rattle.f11_catalog.specs.declared.directory.DirectoryReader.{DirectoryReader}
use Rattle.f11_catalog.specs.declared.walk.state.Numbers.{Numbers}

-- number n was met
abbrev pub is_met : Numbers → ℕ → Bool
is_met numbers n = get_or numbers.met.items n false

-- how many of so many numbers from 0 on weren't met
abbrev pub unmet_below : Numbers → ℕ → ℕ
unmet_below numbers zero = 0
unmet_below numbers (suc n) = (if is_met numbers n then 0 else 1) + unmet_below numbers n

-- how many weren't
unfoldable pub unmet : Numbers → ℕ
unmet numbers = unmet_below numbers 65536

-- All numbers are to come.
pub record IsNew (numbers : Numbers) : Type 0 where
  pub none : (n : ℕ) → is_met numbers n ≡ false
  pub first : numbers.next ≡ 1

-- A record, or a number, gives none.
pub record EntersNone {X : Type 0} (given : Image → Table → List X) (index : Index) (old new : Disk) : Type 0 where
  pub none : IsTrue old.honest → given old.image (table index old) ≡ []
  pub reads : Reads old new 0

-- Records were read of a directory: this comes first, and what the rest gives behind.
pub record ComesTo {X : Type 0} (given : Image → Table → List ℕ → List X) (index : Index) (front : List X)
    (directory later : DirectoryReader) (old new : Disk) : Type 0 where
  pub next : IsTrue old.honest → flat_map (given old.image (table index old)) (records_to_come index old directory)
      ≡ front ++ flat_map (given old.image (table index old)) (records_to_come index old later)
  pub fewer : later.left < directory.left
  pub reads : Reads old new 0

-- The rest gives none.
pub record HasNoneLeft {X : Type 0} (given : Image → Table → List ℕ → List X) (index : Index) (directory : DirectoryReader)
    (old new : Disk) : Type 0 where
  pub none : IsTrue old.honest → flat_map (given old.image (table index old)) (records_to_come index old directory) ≡ []
  pub reads : Reads old new 0
