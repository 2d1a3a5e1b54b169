-- What is found of the directories so far (Files-11 On-Disk Structure Level 1, "Directories").
use Rattle.std.specs.Prelude.{◌≡◌, ◌≤◌, ◌⊎◌, ◌↔◌, ℕ, false, true, List, []}
use Rattle.f11_dev.specs.Image.{Image}
use Rattle.f11_findings.specs.Finding.{finding}
use Rattle.f11_findings.specs.declared.finding.Finding.{Finding}
use Rattle.f11_index.specs.Table.{Table}
use Rattle.f11_vfy.specs.Surveying.Bits.{has, limit_of}
use Rattle.f11_vfy.specs.Chain.{KeepsTable}
use Rattle.f11_vfy.specs.Directory.Blank.{HoldNoRecord}
use Rattle.f11_vfy.specs.Directory.Flaws.{EntersIn, HasFlaw, KeepsNames, flaw_code}
use Rattle.f11_findings.specs.Found.{Finds, FoundAmong}
use Rattle.f11_volume.specs.Notes.{IsEntered, IsVolumeNote}
use Rattle.f11_volume.specs.Volume.{Volume}
use Rattle.f11_vfy.specs.declared.directories.flaws.Flaw.{Flaw}
use Rattle.f11_vfy.specs.declared.directories.flaws.Flaw.TheVariants.{NoFile, Repeated, NoName}
use Rattle.f11_vfy.specs.declared.directories.gathered.Gathered.{Gathered}
use Rattle.f11_vfy.specs.declared.survey.slot.Slot.{Slot}

-- a directory up to k has a record that names file n
pub record IsEnteredUpTo (image : Image) (t : Table) (k n : ℕ) : Type 0 where
  pub entered : IsEntered image t n
  pub within : entered.directory ≤ k

-- a note of a record's flaw, of a directory up to k
abbrev pub FlawsUpTo : Image → Volume → Flaw → ℕ → ℕ → ℕ → ℕ → Type 0
FlawsUpTo image v flaw k code a b = (code ≡ flaw_code flaw) × ((a ≤ k) × IsVolumeNote image v code a b)

-- what is found of the directories up to k
pub record ShowsGathered (image : Image) (v : Volume) (k : ℕ) (l : Gathered) : Type 0 where
  pub entered : (n : ℕ) → has l.entered n ≡ true ↔ IsEnteredUpTo image v.table k n
  pub no_file : Finds (FlawsUpTo image v NoFile k) [] l.no_file
  pub repeated : Finds (FlawsUpTo image v Repeated k) [] l.repeated
  pub no_name : Finds (FlawsUpTo image v NoName k) [] l.no_name
  pub blank : HoldNoRecord l.blank image

-- the flaws of one kind of the first n records of directory d are added
abbrev pub FindsFlaws : Table → ℕ → List (List ℕ) → ℕ → Flaw → List Finding → List Finding → Type 0
FindsFlaws t d blocks n flaw old new = Finds (FoundAmong (λ i. HasFlaw flaw t blocks i) (λ i. finding (flaw_code flaw) d i) n) old new

-- The first n records of directory d were taken, whose blocks these are, and no block that is kept as blank holds one.
pub record TakesRecords (image : Image) (t : Table) (d : ℕ) (blocks : List (List ℕ)) (n : ℕ) (old new : Gathered) : Type 0 where
  pub entered : (m : ℕ) → has new.entered m ≡ true ↔ ((has old.entered m ≡ true) ⊎ EntersIn t blocks n m)
  pub no_file : FindsFlaws t d blocks n NoFile old.no_file new.no_file
  pub repeated : FindsFlaws t d blocks n Repeated old.repeated new.repeated
  pub no_name : FindsFlaws t d blocks n NoName old.no_name new.no_name
  pub names : KeepsNames blocks n new.names
  pub blank : HoldNoRecord new.blank image

-- Where its first records are taken, so many, those up to another were taken too, if the image and its blocks are as P says.
pub record TakesOn (slots : List Slot) (d : ℕ) (P : Image → List (List ℕ) → Type 0) (from to : ℕ) (old new : Gathered) : Type 0 where
  pub limit : limit_of new.entered ≡ limit_of old.entered
  pub takes : (image : Image) → (t : Table) → (blocks : List (List ℕ)) → (first : Gathered) → KeepsTable t slots → P image blocks →
      TakesRecords image t d blocks from first old → TakesRecords image t d blocks to first new

-- nothing is found yet
pub record HasGatheredNothing (l : Gathered) : Type 0 where
  pub entered : (n : ℕ) → has l.entered n ≡ false
  pub no_file : l.no_file ≡ []
  pub repeated : l.repeated ≡ []
  pub no_name : l.no_name ≡ []
  pub blank : (lbn : ℕ) → has l.blank lbn ≡ false

-- The next directory is in hand, and none of its records is taken.
pub record Begins (old new : Gathered) : Type 0 where
  pub entered : new.entered ≡ old.entered
  pub no_file : new.no_file ≡ old.no_file
  pub repeated : new.repeated ≡ old.repeated
  pub no_name : new.no_name ≡ old.no_name
  pub no_names : new.names.keys ≡ []
  pub blank : new.blank ≡ old.blank
