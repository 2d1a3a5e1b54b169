-- Where the file of a name lies, which a volume keeps of the file that was found last.
use Rattle.std.specs.Prelude.{◌≡◌, ℕ, ◌+◌, ◌<◌, ◌≤◌, List, Option, Result, OnOk, IfSome, IsSomeAnd}
use Rattle.f11_dev.specs.Disk.{Disk}
use Rattle.f11_dev.specs.Image.{Image}
use Rattle.rt11_volume.specs.Files.{IsLocated}
use Rattle.rt11_volume.specs.Verifying.Verdict.{IsSoundDisk}
use Rattle.rt11_volume.specs.declared.lookup.file.Located.{Located}

-- the file that was found last lies there still
abbrev pub LiesThere : Option Located → Disk → Image → Type 0
LiesThere last disk image = IfSome last (λ file. IsSoundDisk disk → IsLocated file image)

-- it is the file of this name
abbrev pub IsLastFound : List ℕ → Option Located → Type 0
IsLastFound name last = IsSomeAnd last (λ file. file.name ≡ name)

-- A file that was found is known to the next call, which then doesn't look for it: it makes so many transfers at most.
pub record Knows {T E : Type 0} (name : List ℕ) (most : ℕ) (result : Result T E) (last next : Option Located)
    (old new : Disk) : Type 0 where
  pub known : OnOk result (IsLastFound name next)
  pub again : IsLastFound name last → new.transfers ≤ old.transfers + most

-- The file of the name lies there.
pub record Locates (name : List ℕ) (file : Located) (disk : Disk) : Type 0 where
  pub named : file.name ≡ name
  pub lies : IsSoundDisk disk → IsLocated file disk.image

-- Its block at a place, from 0, on a device of so many blocks.
pub record IsPlaceOf (file : Located) (place lbn blocks : ℕ) : Type 0 where
  pub inside : place < file.length
  pub lbn_is : lbn ≡ file.start + place
  pub within : lbn < blocks
