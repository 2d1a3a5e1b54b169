-- What `rt-put` does: a file of an RT-11 volume is made, and filled with the bytes of a file of the host (profile).
use Rattle.std.specs.Prelude.{◌≡◌, ◌≢◌, ◌⊎◌, ℕ, ◌+◌, ◌*◌, ◌<◌, false, List, [], length, Option, Result, Ok, Bool}
use Rattle.std.specs.Prelude.{Err}
use Rattle.std.specs.Io.KnownBytes.{Consumes, Keeps}
use Rattle.f11_dev.specs.Disk.{Disk}
use Rattle.f11_flx.specs.CopyToRt.{FailsToMake, HasCopy, HasEmptied, LiesInFirstArea}
use Rattle.f11_flx.specs.RtOutcome.{HasSameFiles}
use Rattle.f11_flx.specs.Target.{MakesTransfers, SparesFront, create_transfers}
use Rattle.f11_host.specs.Pieces.{blocks_for, filled_up}
use Rattle.rt11_volume.specs.Files.{faults_in, is_fault}
use Rattle.rt11_volume.specs.Named.{files_named}
use Rattle.rt11_volume.specs.Store.{RtStore, rt_store_of}
use Rattle.rt11_volume.specs.Verifying.Verdict.{IsSoundDisk}
use Rattle.rt11_volume.specs.declared.refusal.RtRefusal.{RtRefusal}
use Rattle.rt11_volume.specs.declared.refusal.RtRefusal.TheVariants.{Failed}
use Rattle.f11_commands.specs.CopyCommand.{EndsRt, VerifiesRt}
use Rattle.f11_commands.specs.RtDelete.{delete_transfers}
use Rattle.f11_commands.specs.RtFile.{TellsRt, block_transfers}
use Rattle.f11_commands.specs.Syncing.{FailsToSync}
use Rattle.f11_commands.specs.declared.outcome.FileAnswer.{FileAnswer}
use Rattle.f11_commands.specs.declared.outcome.Failure.{Failure}
use Rattle.f11_commands.specs.declared.outcome.Failure.TheVariants.{DeviceFault}
use Rattle.f11_commands.specs.declared.rt_file.Stop.{Stop}
use Rattle.f11_commands.specs.declared.rt_file.Stop.TheVariants.{Volume, Host}
use Rattle.f11_commands.specs.declared.rt_put.PutFailure.{PutFailure}
use Rattle.f11_commands.specs.declared.rt_put.PutFailure.TheVariants.{Command, Unread}

-- so many are made at most: a file is made, its blocks are written, and it is deleted
abbrev pub put_transfers : ℕ → ℕ
put_transfers blocks = create_transfers + block_transfers * blocks + delete_transfers

-- The file was made, the only one of its name, and its blocks hold the bytes that were read, filled up. On a sound disk nothing else is
-- another, and blocks 0 to 5 are spared.
pub record IsStored (name : List ℕ) (bytes blocks : ℕ) (unread unread' : Option (List ℕ)) (old new : Disk) : Type 0 where
  pub taken : List ℕ
  pub size : length taken ≡ bytes
  pub takes : Consumes unread unread' taken
  pub count : blocks ≡ blocks_for bytes
  pub sound : IsSoundDisk old → IsSoundDisk new
  pub stored : IsSoundDisk old → HasCopy name (filled_up taken blocks) blocks 0 (rt_store_of old.image) (rt_store_of new.image)
  pub front : IsSoundDisk old → SparesFront old new
  pub went : MakesTransfers old new (put_transfers blocks) 0

-- It was refused. On a sound disk no file of so many blocks can be made, and nothing was written, unless a transfer failed.
pub record IsNotStored (name : List ℕ) (bytes : ℕ) (e : RtRefusal) (old new : Disk) : Type 0 where
  pub fresh : e ≢ Failed
  pub why : is_fault e ≡ false → IsSoundDisk old → FailsToMake e name (blocks_for bytes) old
  pub stays : is_fault e ≡ false → IsSoundDisk old → new.image ≡ old.image
  pub front : IsSoundDisk old → SparesFront old new
  pub went : MakesTransfers old new (put_transfers (blocks_for bytes)) (faults_in {T = Unit} (Err e))

-- A file of so many blocks was made, the only one of its name, in the front of the first empty area that is as long, and that area was
-- emptied again.
pub record IsMadeAndDeleted (name : List ℕ) (blocks : ℕ) (t t' : RtStore) : Type 0 where
  pub none : files_named name t ≡ []
  pub made : RtStore
  pub lies : LiesInFirstArea name blocks 0 t made
  pub emptied : HasEmptied name made t'

-- The host's file, which isn't empty, wasn't read to its length. On a sound disk a file for its bytes was made, and deleted again, and the
-- files are those that there were.
pub record IsUnstored (name : List ℕ) (bytes : ℕ) (old new : Disk) : Type 0 where
  pub some : 0 < bytes
  pub sound : IsSoundDisk old → IsSoundDisk new
  pub same : IsSoundDisk old → HasSameFiles name (rt_store_of old.image) (rt_store_of new.image)
  pub front : IsSoundDisk old → SparesFront old new
  pub undone : IsSoundDisk old → IsMadeAndDeleted name (blocks_for bytes) (rt_store_of old.image) (rt_store_of new.image)
  pub went : MakesTransfers old new (put_transfers (blocks_for bytes)) 0

-- what came of it
abbrev pub PutsFile : List ℕ → ℕ → Result ℕ Stop → Option (List ℕ) → Option (List ℕ) → Disk → Disk → Type 0
PutsFile name bytes (Ok blocks) unread unread' old new = IsStored name bytes blocks unread unread' old new
PutsFile name bytes (Err (Volume e)) unread unread' old new = IsNotStored name bytes e old new
PutsFile name bytes (Err Host) unread unread' old new = IsUnstored name bytes old new

-- whether it was refused since a transfer failed
abbrev pub is_fault_of : Result ℕ Stop → Bool
is_fault_of (Ok blocks) = false
is_fault_of (Err (Volume e)) = is_fault e
is_fault_of (Err Host) = false

-- as which answer one of a command is told
abbrev pub put_told : Result FileAnswer Failure → Result FileAnswer PutFailure
put_told (Ok answer) = Ok answer
put_told (Err failure) = Err (Command failure)

-- how it is told
abbrev pub TellsPut : {W : Type 0} → Result ℕ Stop → Result FileAnswer PutFailure → (W → Option (List ℕ)) → W → W → Type 0
TellsPut (Ok blocks) told contents before after =
    (t : Result FileAnswer Failure) × (told ≡ put_told t) × TellsRt (Ok blocks) t contents before after
TellsPut (Err (Volume e)) told contents before after =
    (t : Result FileAnswer Failure) × (told ≡ put_told t) × TellsRt (Err e) t contents before after
TellsPut (Err Host) told contents before after = (told ≡ Err Unread) × Keeps (contents before) (contents after)

-- An image was verified and has no fault; the file was to be made, and what came of it was told.
pub record AnswersPut {W : Type 0} (name : List ℕ) (bytes : ℕ) (told : Result FileAnswer PutFailure) (unread unread' : Option (List ℕ))
    (old new : Disk) (contents : W → Option (List ℕ)) (before after : W) : Type 0 where
  pub result : Result ℕ Stop
  pub read : Disk
  pub verified : VerifiesRt old read
  pub puts : PutsFile name bytes result unread unread' read new
  pub tells : TellsPut result told contents before after

-- The image isn't accepted, and nothing was read of the host's file.
pub record EndsUnput {W : Type 0} (told : Result FileAnswer PutFailure) (unread unread' : Option (List ℕ)) (old new : Disk)
    (contents : W → Option (List ℕ)) (before after : W) : Type 0 where
  pub answer : Result FileAnswer Failure
  pub told_is : told ≡ put_told answer
  pub ends : EndsRt answer old new contents before after
  pub unread_is : unread' ≡ unread

-- An image was verified and has no fault, and the file was made.
pub record StoresInImage (name : List ℕ) (bytes : ℕ) (unread unread' : Option (List ℕ)) (old new : Disk) : Type 0 where
  pub blocks : ℕ
  pub read : Disk
  pub verified : VerifiesRt old read
  pub stores : IsStored name bytes blocks unread unread' read new

-- how the command ends: the image isn't accepted, or the file was to be made; or it was made, and the sync failed
abbrev pub EndsPut : {W : Type 0} → List ℕ → ℕ → Result FileAnswer PutFailure → Option (List ℕ) → Option (List ℕ) → Disk → Disk →
    (W → Option (List ℕ)) → W → W → Type 0
EndsPut name bytes told unread unread' old new contents before after =
    (EndsUnput told unread unread' old new contents before after)
    ⊎ ((AnswersPut name bytes told unread unread' old new contents before after)
    ⊎ ((told ≡ Err (Command DeviceFault)) × FailsToSync (StoresInImage name bytes unread unread' old) new contents before after))
