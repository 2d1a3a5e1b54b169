-- What reading and writing all blocks of a file tells (profile).
use Rattle.std.specs.Prelude.{◌≡◌, ◌≢◌, ℕ, ◌+◌, ◌≤◌, false, List, ◌∷◌, length, take}
use Rattle.f11_dev.specs.Disk.{Disk}
use Rattle.f11_dev.specs.Image.{Image}
use Rattle.rt11_volume.specs.Files.{is_fault}
use Rattle.rt11_volume.specs.Laws.{KeepsOtherNames}
use Rattle.rt11_volume.specs.Named.{files_named}
use Rattle.rt11_volume.specs.Store.{Area, RtStore, rt_store_of}
use Rattle.rt11_volume.specs.Verifying.Verdict.{IsRtAccepted, IsSoundDisk}
use Rattle.rt11_volume.specs.declared.refusal.RtRefusal.{RtRefusal}
use Rattle.rt11_volume.specs.declared.refusal.RtRefusal.TheVariants.{Failed, NoMemory}

-- so many transfers are made at most: the file is looked for once
abbrev pub blocks_transfers : ℕ → ℕ
blocks_transfers blocks = 62 + blocks

-- The first file of a name has so many blocks at least.
pub record HasBlocks (name : List ℕ) (blocks : ℕ) (store : RtStore) : Type 0 where
  pub file : Area
  pub more : List Area
  pub named : files_named name store ≡ file ∷ more
  pub few : blocks ≤ length file.contents

-- the first file of a name, if there is one, begins with these blocks
abbrev pub BeginsWith : List ℕ → List (List ℕ) → RtStore → Type 0
BeginsWith name blocks store =
    (file : Area) (more : List Area) → files_named name store ≡ file ∷ more → take (length blocks) file.contents ≡ blocks

-- The blocks were read.
pub record ReadsBlocks (name : List ℕ) (count : ℕ) (blocks : List (List ℕ)) (old : Disk) : Type 0 where
  pub count_is : length blocks ≡ count
  pub begins : IsSoundDisk old → BeginsWith name blocks (rt_store_of old.image)

-- They weren't: on a sound disk, of a file that has them, for want of memory, unless a transfer failed.
pub record FailsToRead (name : List ℕ) (count : ℕ) (e : RtRefusal) (old : Disk) : Type 0 where
  pub fresh : e ≢ Failed
  pub why : IsSoundDisk old → HasBlocks name count (rt_store_of old.image) → is_fault e ≡ false → e ≡ NoMemory

-- The blocks were written over those of the first file of a name, which has as many; each other file is as it was.
pub record WritesBlocks (name : List ℕ) (blocks : List (List ℕ)) (old new : RtStore) : Type 0 where
  pub others : KeepsOtherNames name old new
  pub named : (file : Area) (more : List Area) → files_named name old ≡ file ∷ more → length file.contents ≡ length blocks →
      files_named name new ≡ record file { contents = blocks } ∷ more

-- an image that stands meanwhile is accepted, and each other file is as it was
abbrev pub SparesOthers : List ℕ → Disk → Image → Type 0
SparesOthers name old image =
    IsSoundDisk old → IsRtAccepted image × KeepsOtherNames name (rt_store_of old.image) (rt_store_of image)

-- They weren't written: on a sound disk, into a file that has so many, since a transfer failed.
pub record FailsToWrite (name : List ℕ) (count : ℕ) (e : RtRefusal) (old : Disk) : Type 0 where
  pub fresh : e ≢ Failed
  pub why : IsSoundDisk old → HasBlocks name count (rt_store_of old.image) → is_fault e ≢ false
