-- How the files of a frame are judged, one after another (profile).
use Rattle.std.specs.Prelude.{◌≡◌, ◌↔◌, ℕ, ◌<◌, ◌≤◌, Bool, true, false, IsTrue, List, ◌++◌, length, take, All}
use Rattle.f11_dev.specs.Disk.{Disk}
use Rattle.f11_dev.specs.Looked.{Looked}
use Rattle.f11_index.specs.IndexFile.{Index}
use Rattle.f11_index.specs.Table.{table_in}
use Rattle.f11_chain.specs.FileHeaders.{IsSoundFile}
use Rattle.f11_volume.specs.Faults.{IsOwnFile, IsFirstNoFile}
use Rattle.f11_volume.specs.Space.{bitmap_file}

-- It was judged whether header n is the first of the file n,n.
pub record JudgesOwnFile (index : Index) (n : ℕ) (own : Bool) (old new : Disk) : Type 0 where
  pub right : IsTrue old.honest → IsTrue own ↔ IsOwnFile (table_in old.image index) n
  pub looked : Looked old new 1 0

-- Headers 2, 3 and 4 are the first of files 2,2, 3,3 and 4,4.
pub record FindsOwnFiles (index : Index) (old new : Disk) : Type 0 where
  pub own : IsTrue old.honest → (n : ℕ) → 2 ≤ n → n ≤ 4 → IsOwnFile (table_in old.image index) n
  pub looked : Looked old new 3 0

-- Header n isn't, and it is the least.
pub record FindsNoOwnFile (index : Index) (n : ℕ) (old new : Disk) : Type 0 where
  pub first : IsTrue old.honest → IsFirstNoFile (table_in old.image index) n
  pub looked : Looked old new 3 0

-- the first blocks of the storage bitmap file: as many as it can need, the control block and 126 bitmap blocks
abbrev pub needed : List ℕ → List ℕ
needed blocks = take 127 blocks

-- These blocks were kept behind others, as far as they are needed, if each is on a device of so many; else one isn't.
abbrev pub KeepsIf : Bool → List ℕ → ℕ → List ℕ → List ℕ → Type 0
KeepsIf true more blocks old new = All (λ lbn. lbn < blocks) more × (new ≡ needed (old ++ more))
KeepsIf false more blocks old new = ¬ All (λ lbn. lbn < blocks) more

-- The headers of file 2 were read, each once at most: they link rightly, its blocks are on the device, and its first ones are these.
pub record ReadsBitmapFile (index : Index) (first : List ℕ) (old new : Disk) : Type 0 where
  pub sound : IsTrue old.honest → IsSoundFile (table_in old.image index) 2 (length old.image)
  pub first_are : IsTrue old.honest → first ≡ needed (bitmap_file (table_in old.image index))
  pub within : All (λ lbn. lbn < length old.image) first
  pub few : length first ≤ 127
  pub looked : Looked old new 256 0

-- They don't link rightly, or a block isn't on the device.
pub record FindsNoBitmapFile (index : Index) (old new : Disk) : Type 0 where
  pub not : IsTrue old.honest → ¬ IsSoundFile (table_in old.image index) 2 (length old.image)
  pub looked : Looked old new 256 0
