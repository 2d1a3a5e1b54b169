-- What moving a file of an RT-11 volume tells (RT-11 System User's Guide, SQUEEZE; profile: by a copy under a scratch name).
use Rattle.std.specs.Prelude.{◌≡◌, ◌≢◌, ◌⊎◌, ℕ, ◌+◌, Bool, false, List, [], ◌∷◌, ◌++◌, length, Some}
use Rattle.f11_dev.specs.Disk.{Disk}
use Rattle.f11_dev.specs.Image.{Image}
use Rattle.rt11_volume.specs.Entry.{is_same_name}
use Rattle.rt11_volume.specs.Files.{FailsToCreate, is_fault}
use Rattle.rt11_volume.specs.Named.{files_named}
use Rattle.rt11_volume.specs.Store.{Area, RtStore, rt_store_of}
use Rattle.rt11_volume.specs.Verifying.Verdict.{IsSoundDisk}
use Rattle.rt11_volume.specs.declared.refusal.RtRefusal.{RtRefusal}
use Rattle.rt11_volume.specs.declared.refusal.RtRefusal.TheVariants.{Failed, NoMemory}
use Rattle.rt11_squeeze.specs.Blocks.{blocks_transfers}
use Rattle.rt11_squeeze.specs.Copying.{copy_transfers}
use Rattle.rt11_squeeze.specs.Kept.{SparesFiles, facts_of}
use Rattle.rt11_squeeze.specs.Rooms.{areas_listed, room_in}
use Rattle.rt11_squeeze.specs.Replacing.{naming_transfers, removal_transfers}

-- so many transfers are made at most: a file's blocks are read, a copy of them is made, and takes the place of the file
abbrev pub move_transfers : ℕ → ℕ
move_transfers blocks = blocks_transfers blocks + copy_transfers blocks + removal_transfers + naming_transfers

-- There is one file of a name, of so many blocks, protected or not.
pub record IsOnlyFile (name : List ℕ) (count : ℕ) (protected : Bool) (store : RtStore) : Type 0 where
  pub file : Area
  pub named : files_named name store ≡ file ∷ []
  pub count_is : length file.contents ≡ count
  pub protected_is : file.protected ≡ protected

-- each image that stands while it is moved has the blocks of each file that there was
abbrev pub SparesWhile : List ℕ → ℕ → Bool → Disk → Image → Type 0
SparesWhile name count protected old image =
    IsOnlyFile name count protected (rt_store_of old.image) → SparesFiles old image

-- The file was moved to the front of the first empty area that is as long: it has this date, and all else is as it was; there is no file
-- of the scratch name, as before, and each other file is as it was.
pub record HasMoved (name scratch : List ℕ) (day : ℕ) (old new : RtStore) : Type 0 where
  pub file : Area
  pub moved : Area
  pub was : files_named name old ≡ file ∷ []
  pub is : files_named name new ≡ moved ∷ []
  pub facts : facts_of moved ≡ record (facts_of file) { date = day }
  pub place : room_in (areas_listed old) (length file.contents) ≡ Some moved.start
  pub unused : files_named scratch old ≡ []
  pub unused_still : files_named scratch new ≡ []
  pub others : (third : List ℕ) → is_same_name name third ≡ false → is_same_name scratch third ≡ false →
      files_named third new ≡ files_named third old

-- An image stood meanwhile that has a copy of the file: the only one of the scratch name, with the blocks of the only one of the name.
pub record WasCopied (name scratch : List ℕ) (old new : Disk) : Type 0 where
  pub image : Image
  pub later : List Image
  pub earlier : List Image
  pub history : new.history ≡ later ++ (image ∷ (earlier ++ old.history))
  pub file : Area
  pub copy : Area
  pub was : files_named name (rt_store_of old.image) ≡ file ∷ []
  pub copied : files_named scratch (rt_store_of image) ≡ copy ∷ []
  pub blocks_are : copy.contents ≡ file.contents

-- It was moved, by a copy, and the volume is sound still.
pub record Moves (name scratch : List ℕ) (count day : ℕ) (protected : Bool) (old new : Disk) : Type 0 where
  pub sound : IsSoundDisk old → IsSoundDisk new
  pub copied : IsSoundDisk old → IsOnlyFile name count protected (rt_store_of old.image) → WasCopied name scratch old new
  pub moved : IsSoundDisk old → IsOnlyFile name count protected (rt_store_of old.image) →
      HasMoved name scratch day (rt_store_of old.image) (rt_store_of new.image)

-- It wasn't: on a sound disk there was no memory for its blocks, or no file of so many can be made, and nothing was written, unless a
-- transfer failed.
pub record FailsToMove (name scratch : List ℕ) (count : ℕ) (protected : Bool) (e : RtRefusal) (old new : Disk) : Type 0 where
  pub fresh : e ≢ Failed
  pub why : IsSoundDisk old → IsOnlyFile name count protected (rt_store_of old.image) → is_fault e ≡ false →
      (e ≡ NoMemory) ⊎ FailsToCreate e scratch count old
  pub stays : IsSoundDisk old → IsOnlyFile name count protected (rt_store_of old.image) → is_fault e ≡ false → new.image ≡ old.image
