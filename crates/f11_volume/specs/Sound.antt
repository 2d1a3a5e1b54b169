-- A volume without faults, by what holds of it (profile: the verifier's faults, turned round).
-- A section in parentheses is one of the Files-11 On-Disk Structure Level 1 specification.
use Rattle.std.specs.Prelude.{◌≡◌, ◌⊎◌, ℕ, ◌<◌, true, false}
use Rattle.f11_dev.specs.Image.{Image}
use Rattle.f11_chain.specs.header.Header.{IsHeader, IsDead}
use Rattle.f11_chain.specs.home.Home.{HomeFields}
use Rattle.f11_chain.specs.map.HeaderBlock.{segment_number, link_of}
use Rattle.f11_chain.specs.index.Table.{Table, IsNext}
use Rattle.f11_volume.specs.Faults.{IsFramed}
use Rattle.f11_volume.specs.Volume.{Volume, volume_of, IsCell, IsLinked}
use Rattle.f11_chain.specs.index.Headers.{IsInFile}

-- the link of header n is to its next one, on this volume, and another segment can follow (map area)
pub record LinksOn (t : Table) (n : ℕ) : Type 0 where
  pub not_last : segment_number (t.header n) < 255
  pub here : (link_of (t.header n)).volume ≡ 0
  pub next : IsNext t n (link_of (t.header n)).number

-- A volume is sound.
pub record IsSoundVolume (v : Volume) : Type 0 where
  -- each header in use is dead or valid (file header)
  pub headers : (n : ℕ) → v.table.in_use n ≡ true → IsDead (v.table.header n) ⊎ IsHeader (v.table.header n) n
  -- each block that is named is in the volume (retrieval pointers)
  pub inside : (n place lbn : ℕ) → IsCell v.table n place lbn → lbn < v.size
  -- it is named at one place of one header
  pub apart : (n place m other lbn : ℕ) → IsCell v.table n place lbn → IsCell v.table m other lbn → (n ≡ m) × (place ≡ other)
  -- and isn't free (storage bitmap file)
  pub taken : (n place lbn : ℕ) → IsCell v.table n place lbn → v.free lbn ≡ false
  -- each header of a file that has a link links to its next one
  pub links : (n : ℕ) → IsLinked v.table n → LinksOn v.table n
  -- which is the next of that one alone
  pub once : (n one other : ℕ) → IsInFile v.table one → IsInFile v.table other → IsNext v.table one n → IsNext v.table other n → one ≡ other

-- The frame of an image with this home block is as it should be, and so is the volume in it.
pub record HasSoundVolume (image : Image) (home : HomeFields) : Type 0 where
  pub framed : IsFramed image home
  pub sound : IsSoundVolume (volume_of image home)

-- An image is sound: it has a home block, and a sound volume with it.
pub record IsSoundImage (image : Image) : Type 0 where
  pub home : HomeFields
  pub volume : HasSoundVolume image home
  pub open volume use *
