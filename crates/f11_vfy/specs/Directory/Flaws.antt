-- What may be wrong with a record of a directory (Files-11 On-Disk Structure Level 1, "Directories").
use Rattle.std.specs.Prelude.{◌≡◌, ◌↔◌, ◌<◌, ℕ, Bool, false, true, List}
use Rattle.std.specs.BTreeSet.{BTreeSet, contains}
use Rattle.std.specs.Cmp.Lexicographic.{slice_cmp}
use Rattle.std.specs.Ordering.{nat_cmp}
use Rattle.f11_index.specs.Table.{Table}
use Rattle.f11_rad50.specs.Name.{IsName}
use Rattle.f11_store.specs.Directory.{is_empty, record_at, record_id, record_name}
use Rattle.f11_volume.specs.Notes.{IsIdOf}
use Rattle.f11_vfy.specs.declared.directories.flaws.Flaw.{Flaw}
use Rattle.f11_vfy.specs.declared.directories.flaws.Flaw.TheVariants.{NoFile, Repeated, NoName}

-- the code of each
abbrev pub flaw_code : Flaw → ℕ
flaw_code NoFile = 7
flaw_code Repeated = 8
flaw_code NoName = 9

-- one of the first so many records of a directory's blocks isn't empty and has this name
pub record HasNameIn (blocks : List (List ℕ)) (count : ℕ) (name : List ℕ) : Type 0 where
  pub place : ℕ
  pub earlier : place < count
  pub not_empty : is_empty (record_at blocks place) ≡ false
  pub same : record_name (record_at blocks place) ≡ name

-- what each says of record i
abbrev pub IsFlawed : Flaw → Table → List (List ℕ) → ℕ → Type 0
IsFlawed NoFile t blocks i = ¬ IsIdOf t (record_id (record_at blocks i)) (record_id (record_at blocks i)).number
IsFlawed Repeated t blocks i = HasNameIn blocks i (record_name (record_at blocks i))
IsFlawed NoName t blocks i = ¬ IsName (record_name (record_at blocks i))

-- and the record isn't empty
abbrev pub HasFlaw : Flaw → Table → List (List ℕ) → ℕ → Type 0
HasFlaw flaw t blocks i = (is_empty (record_at blocks i) ≡ false) × IsFlawed flaw t blocks i

-- a set of names has this one
abbrev pub has_name : BTreeSet (List ℕ) → List ℕ → Bool
has_name names name = contains (slice_cmp nat_cmp) names name

-- the set has the names of the first so many records, and no others
abbrev pub KeepsNames : List (List ℕ) → ℕ → BTreeSet (List ℕ) → Type 0
KeepsNames blocks count names = (name : List ℕ) → has_name names name ≡ true ↔ HasNameIn blocks count name

-- record i names file n
abbrev pub NamesFileAt : Table → List (List ℕ) → ℕ → ℕ → Type 0
NamesFileAt t blocks i n = (is_empty (record_at blocks i) ≡ false) × IsIdOf t (record_id (record_at blocks i)) n

-- one of the first so many records names file n
pub record EntersIn (t : Table) (blocks : List (List ℕ)) (count n : ℕ) : Type 0 where
  pub place : ℕ
  pub below : place < count
  pub enters : NamesFileAt t blocks place n
