-- What `put --each` does: files of the host are made on a mounted volume, one after another (profile).
use Rattle.std.specs.Prelude.{◌≡◌, ◌⊎◌, ℕ, false, List, [], ◌∷◌, codes, Option, Some, None, Result, Ok, Err, is_ok}
use Rattle.std.specs.Fmt.{decimal}
use Rattle.std.specs.List.{concat}
use Rattle.f11_dev.specs.Disk.{Disk, with_transfer}
use Rattle.f11_dev.specs.declared.device.Device.{Ghosts}
use Rattle.f11_flx.specs.Refusal.{flx_refusal_name}
use Rattle.f11_flx.specs.declared.refusal.FlxRefusal.{FlxRefusal}
use Rattle.f11_host.specs.Refusal.{as_copy}
use Rattle.f11_host.specs.declared.refusal.HostRefusal.{HostRefusal}
use Rattle.f11_host.specs.declared.refusal.HostRefusal.TheVariants.{Files}
use Rattle.f11_rad50.specs.Name.{name_text}
use Rattle.f11_serving.specs.fcp.Mounting.{Mounts}
use Rattle.f11_serving.specs.fcp.Serving.{StaysAccepted, is_spent, state_in}
use Rattle.f11_serving.specs.fcp.declared.volume.Volume.{Volume}
use Rattle.f11_store.specs.declared.refusals.Refusal.TheVariants as refusal
use Rattle.f11_commands.specs.CopyCommand.{EndsFiles, FailsToMount, VerifiesFiles}
use Rattle.f11_commands.specs.PutCommand.{HoldFor, Hosts, PutsByName, PutsNamed}
use Rattle.f11_commands.specs.PuttingCounts.{TellsBy, TellsCounts, TellsLeftOut, no_files}
use Rattle.f11_commands.specs.Stopping.{StopsPut, WhereUnheld}
use Rattle.f11_commands.specs.Syncing.{GivesBack, is_behind_fault}
use Rattle.f11_commands.specs.declared.outcome.Failure.{Failure}
use Rattle.f11_commands.specs.declared.outcome.Failure.TheVariants.{DeviceFault, NoMemory}
use Rattle.f11_commands.specs.declared.outcome.FileAnswer.{FileAnswer}
use Rattle.f11_commands.specs.declared.put.Putting.{Putting}
use Rattle.f11_commands.specs.declared.put.puts.Puts.{Puts}
use Rattle.f11_commands.specs.declared.put_counts.PutCounts.{PutCounts}
use Rattle.f11_commands.specs.declared.put_counts.Unput.{Unput}

-- the volume, and how many files were made on it, and weren't
abbrev pub volume_of : {D : Type 0} {met : Ghosts D} → Puts D met → Volume D met
volume_of puts = puts.volume

abbrev pub counts_of : {D : Type 0} {met : Ghosts D} → Puts D met → PutCounts
counts_of puts = puts.counts

-- the device, as it is
abbrev pub disk_of : {D : Type 0} {met : Ghosts D} → Puts D met → Disk
disk_of puts = (state_in (volume_of puts)).disk

-- as which refusal of a copy one is told
abbrev pub refusal_of : HostRefusal → FlxRefusal
refusal_of e = as_copy e

-- as which failure it is told behind which no other file is made: a device fault, `Damaged`, which an honest disk never gives, and want of
-- memory
abbrev pub ending : Result ℕ HostRefusal → Option Failure
ending (Err (Files refusal.DeviceFault)) = Some DeviceFault
ending (Err (Files refusal.Damaged)) = Some DeviceFault
ending (Err (Files refusal.NoMemory)) = Some NoMemory
ending _ = None

-- the line of a file that was made, of so many blocks, and of one that was refused
abbrev pub one_line : List ℕ → Result ℕ HostRefusal → List ℕ
one_line name (Ok blocks) = concat (name_text name ∷ codes " copied " ∷ decimal blocks ∷ (10 ∷ []) ∷ [])
one_line name (Err e) = concat (name_text name ∷ codes " no " ∷ flx_refusal_name (refusal_of e) ∷ (10 ∷ []) ∷ [])

-- how a file is told and counted
abbrev pub TellsOne : {W : Type 0} → List ℕ → Result ℕ HostRefusal → Result FileAnswer Failure → PutCounts → PutCounts →
    (W → Option (List ℕ)) → W → W → Type 0
TellsOne name result told counts counts' contents before after =
    TellsBy (ending result) (one_line name result) (is_ok result) told counts counts' contents before after

-- The volume was verified and has no fault, and it is mounted; no file was made yet, and nothing was written.
pub record BeginsPuts {D W : Type 0} {met : Ghosts D} (old : Disk) (puts : Puts D met) (before after : W) : Type 0 where
  pub read : Disk
  pub verified : VerifiesFiles old read
  pub mounts : Mounts read (volume_of puts)
  pub accepted : StaysAccepted (state_in (volume_of puts))
  pub none : counts_of puts ≡ no_files
  pub unwritten : after ≡ before

-- The volume was verified and has no fault, and it couldn't be mounted.
pub record EndsUnmounted {W : Type 0} (told : Result FileAnswer Failure) (old new : Disk) (contents : W → Option (List ℕ))
    (before after : W) : Type 0 where
  pub read : Disk
  pub verified : VerifiesFiles old read
  pub fails : FailsToMount told read new contents before after

-- how the command ends before a file was made: the image isn't accepted, or it couldn't be mounted
abbrev pub EndsBefore : {W : Type 0} → Result FileAnswer Failure → Disk → Disk → (W → Option (List ℕ)) → W → W → Type 0
EndsBefore told old new contents before after =
    (EndsFiles told old new contents before after) ⊎ (EndsUnmounted told old new contents before after)

-- A file was to be made on the volume as it was, as by `put`, and what came of it was told.
pub record PutsOne {D W : Type 0} {met : Ghosts D} (p : Putting) (bytes : ℕ) (told : Result FileAnswer Failure) (h h' : Hosts)
    (old new : Puts D met) (contents : W → Option (List ℕ)) (before after : W) : Type 0 where
  pub result : Result ℕ HostRefusal
  pub puts : PutsNamed p.mode bytes result h h' (PutsByName p bytes result h h') (WhereUnheld (StopsPut p (HoldFor p.mode bytes h h')))
      (volume_of old) (volume_of new)
  pub tells : TellsOne p.name result told (counts_of old) (counts_of new) contents before after

-- Nothing was asked for a file of the host; its line says why, which the writer takes or doesn't.
pub record LeavesOut {D W : Type 0} {met : Ghosts D} (host : List ℕ) (why : Unput) (told : Result (Unit {0}) Failure)
    (old new : Puts D met) (contents : W → Option (List ℕ)) (before after : W) : Type 0 where
  pub volume : volume_of new ≡ volume_of old
  pub tells : TellsLeftOut host why told (counts_of old) (counts_of new) contents before after

-- how the command ends: the device was synced, and the last line told; or the sync failed, and nothing was written
abbrev pub EndsPuts : {D W : Type 0} {met : Ghosts D} → Puts D met → Result FileAnswer Failure → Disk → (W → Option (List ℕ)) → W → W →
    Type 0
EndsPuts puts told new contents before after =
    ((new ≡ disk_of puts) × TellsCounts (counts_of puts) told contents before after)
    ⊎ ((new ≡ with_transfer false (disk_of puts)) × (told ≡ Err DeviceFault) × (after ≡ before))

-- and where they broke off by a failure: nothing is transferred where a request has failed the volume or it is a device fault; else the
-- device is synced
abbrev pub KeepsBroken : {D : Type 0} {met : Ghosts D} → Failure → Puts D met → (told : Failure) → Disk → Type 0
KeepsBroken failure puts told new =
    GivesBack (is_behind_fault (is_spent (volume_of puts)) failure) failure told (disk_of puts) new
