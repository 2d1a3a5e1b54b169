-- What making a copy of a file tells (profile).
use Rattle.std.specs.Prelude.{◌≡◌, ◌≢◌, ℕ, ◌+◌, false, List, [], ◌∷◌, length, Some}
use Rattle.f11_dev.specs.Disk.{Disk}
use Rattle.rt11_volume.specs.Files.{FailsToCreate, is_fault}
use Rattle.rt11_volume.specs.Laws.{KeepsOtherNames}
use Rattle.rt11_volume.specs.Named.{files_named}
use Rattle.rt11_volume.specs.Store.{Area, RtStore, rt_store_of}
use Rattle.rt11_volume.specs.Verifying.Verdict.{IsSoundDisk}
use Rattle.rt11_volume.specs.declared.refusal.RtRefusal.{RtRefusal}
use Rattle.rt11_volume.specs.declared.refusal.RtRefusal.TheVariants.{Failed}
use Rattle.rt11_squeeze.specs.Blocks.{blocks_transfers}
use Rattle.rt11_squeeze.specs.Rooms.{areas_listed, room_in}

-- so many transfers are made at most: the file is made, and its blocks are written
abbrev pub copy_transfers : ℕ → ℕ
copy_transfers blocks = 70 + blocks_transfers blocks

-- A file was made of these blocks, of this date and unprotected, the only one of its name, in the front of the first empty area that is
-- as long; each other file is as it was.
pub record HasCopy (name : List ℕ) (day : ℕ) (blocks : List (List ℕ)) (old new : RtStore) : Type 0 where
  pub file : Area
  pub none : files_named name old ≡ []
  pub one : files_named name new ≡ file ∷ []
  pub place : room_in (areas_listed old) (length blocks) ≡ Some file.start
  pub blocks_are : file.contents ≡ blocks
  pub date_is : file.date ≡ day
  pub unprotected : file.protected ≡ false
  pub others : KeepsOtherNames name old new

-- It was made, and the volume is sound still.
pub record Copies (name : List ℕ) (day : ℕ) (blocks : List (List ℕ)) (old new : Disk) : Type 0 where
  pub sound : IsSoundDisk old → IsSoundDisk new
  pub copy : IsSoundDisk old → HasCopy name day blocks (rt_store_of old.image) (rt_store_of new.image)

-- It wasn't: on a sound disk no file of so many blocks can be made, and nothing was written, unless a transfer failed.
pub record FailsToCopy (name : List ℕ) (count : ℕ) (e : RtRefusal) (old new : Disk) : Type 0 where
  pub fresh : e ≢ Failed
  pub why : IsSoundDisk old → is_fault e ≡ false → FailsToCreate e name count old
  pub stays : IsSoundDisk old → is_fault e ≡ false → new.image ≡ old.image
