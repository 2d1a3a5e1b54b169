-- What `rt-put --each` does: files of the host are made on an RT-11 volume, one after another (profile).
use Rattle.std.specs.Prelude.{◌≡◌, ◌⊎◌, ℕ, Bool, true, false, if◌then◌else◌, List, [], ◌∷◌, ◌++◌, codes, Option, Some, None, Result}
use Rattle.std.specs.Prelude.{Ok, Err, is_ok}
use Rattle.std.specs.Fmt.{decimal}
use Rattle.f11_dev.specs.Disk.{Disk, with_transfer}
use Rattle.f11_dev.specs.declared.device.Device.{Ghosts}
use Rattle.rt11_volume.specs.Calls.{volume_device}
use Rattle.rt11_volume.specs.Refusal.{refusal_name}
use Rattle.rt11_volume.specs.RtName.{rt_name_text}
use Rattle.rt11_volume.specs.declared.refusal.RtRefusal.TheVariants as refusal
use Rattle.rt11_volume.specs.declared.volume.RtAccepted.{RtAccepted}
use Rattle.f11_commands.specs.CopyCommand.{VerifiesRt}
use Rattle.f11_commands.specs.PuttingCounts.{TellsBy, TellsCounts, TellsLeftOut, no_files}
use Rattle.f11_commands.specs.RtPut.{PutsFile, is_fault_of}
use Rattle.f11_commands.specs.Syncing.{GivesBack, is_behind_fault}
use Rattle.f11_commands.specs.declared.outcome.Failure.{Failure}
use Rattle.f11_commands.specs.declared.outcome.Failure.TheVariants.{DeviceFault, NoMemory}
use Rattle.f11_commands.specs.declared.outcome.FileAnswer.{FileAnswer}
use Rattle.f11_commands.specs.declared.put_counts.PutCounts.{PutCounts}
use Rattle.f11_commands.specs.declared.put_counts.Unput.{Unput}
use Rattle.f11_commands.specs.declared.rt_file.Stop.{Stop}
use Rattle.f11_commands.specs.declared.rt_file.Stop.TheVariants.{Volume, Host}
use Rattle.f11_commands.specs.declared.rt_put.puts.RtPuts.{RtPuts}

-- the volume, whether a transfer failed, and how many files were made, and weren't
abbrev pub volume_of : {D : Type 0} {met : Ghosts D} → RtPuts D met → RtAccepted D met
volume_of puts = puts.volume

abbrev pub has_failed_by : {D : Type 0} {met : Ghosts D} → RtPuts D met → Bool
has_failed_by puts = puts.failed

abbrev pub counts_of : {D : Type 0} {met : Ghosts D} → RtPuts D met → PutCounts
counts_of puts = puts.counts

-- the device, as it is
abbrev pub disk_of : {D : Type 0} {met : Ghosts D} → (D → Disk) → RtPuts D met → Disk
disk_of disk puts = disk (volume_device (volume_of puts))

-- as which failure it is told behind which no other file is made: a device fault, and want of memory
abbrev pub rt_ending : Result ℕ Stop → Option Failure
rt_ending (Err (Volume refusal.DeviceFault)) = Some DeviceFault
rt_ending (Err (Volume refusal.NoMemory)) = Some NoMemory
rt_ending _ = None

-- the line of a file that was made, of so many blocks, and of one that was refused
abbrev pub rt_line : List ℕ → Result ℕ Stop → List ℕ
rt_line name (Ok blocks) = rt_name_text name ++ (codes " copied " ++ (decimal blocks ++ 10 ∷ []))
rt_line name (Err (Volume e)) = rt_name_text name ++ (codes " no " ++ (refusal_name e ++ 10 ∷ []))
rt_line name (Err Host) = rt_name_text name ++ (codes " no Unread" ++ 10 ∷ [])

-- how a file is told and counted
abbrev pub TellsOneRt : {W : Type 0} → List ℕ → Result ℕ Stop → Result FileAnswer Failure → PutCounts → PutCounts →
    (W → Option (List ℕ)) → W → W → Type 0
TellsOneRt name result told counts counts' contents before after =
    TellsBy (rt_ending result) (rt_line name result) (is_ok result) told counts counts' contents before after

-- The volume was verified and has no fault; no file was made yet, and nothing was written.
pub record BeginsRtPuts {D W : Type 0} {met : Ghosts D} (disk : D → Disk) (old : Disk) (puts : RtPuts D met) (before after : W) : Type 0
  where
    pub verified : VerifiesRt old (disk_of disk puts)
    pub sound : has_failed_by puts ≡ false
    pub none : counts_of puts ≡ no_files
    pub unwritten : after ≡ before

-- A file was to be made on the volume as it was, as by `rt-put`, and what came of it was told.
pub record PutsAsked {D W : Type 0} {met : Ghosts D} (name : List ℕ) (bytes : ℕ) (disk : D → Disk) (told : Result FileAnswer Failure)
    (unread unread' : Option (List ℕ)) (old new : RtPuts D met) (contents : W → Option (List ℕ)) (before after : W) : Type 0 where
  pub sound : has_failed_by old ≡ false
  pub result : Result ℕ Stop
  pub puts : PutsFile name bytes result unread unread' (disk_of disk old) (disk_of disk new)
  pub failed : has_failed_by new ≡ is_fault_of result
  pub tells : TellsOneRt name result told (counts_of old) (counts_of new) contents before after

-- Nothing was asked of it, since a transfer had failed before.
pub record PutsNothing {D W : Type 0} {met : Ghosts D} (told : Result FileAnswer Failure) (unread unread' : Option (List ℕ))
    (old new : RtPuts D met) (before after : W) : Type 0 where
  pub failed : has_failed_by old ≡ true
  pub told_is : told ≡ Err DeviceFault
  pub same : new ≡ old
  pub unread_is : unread' ≡ unread
  pub unwritten : after ≡ before

-- what is done for a file of the host
abbrev pub PutsOneRt : {D W : Type 0} {met : Ghosts D} → List ℕ → ℕ → (D → Disk) → Result FileAnswer Failure → Option (List ℕ) →
    Option (List ℕ) → RtPuts D met → RtPuts D met → (W → Option (List ℕ)) → W → W → Type 0
PutsOneRt name bytes disk told unread unread' old new contents before after =
    (PutsAsked name bytes disk told unread unread' old new contents before after)
    ⊎ (PutsNothing told unread unread' old new before after)

-- Nothing was asked for one; its line says why, which the writer takes or doesn't.
pub record LeavesOutRt {D W : Type 0} {met : Ghosts D} (host : List ℕ) (why : Unput) (told : Result (Unit {0}) Failure)
    (old new : RtPuts D met) (contents : W → Option (List ℕ)) (before after : W) : Type 0 where
  pub volume : volume_of new ≡ volume_of old
  pub failed : has_failed_by new ≡ has_failed_by old
  pub tells : TellsLeftOut host why told (counts_of old) (counts_of new) contents before after

-- The device was synced, and the last line told.
pub record EndsKept {W : Type 0} (counts : PutCounts) (told : Result FileAnswer Failure) (done new : Disk) (contents : W → Option (List ℕ))
    (before after : W) : Type 0 where
  pub same : new ≡ done
  pub tells : TellsCounts counts told contents before after

-- It wasn't, since a transfer had failed, or its sync failed. Nothing was written.
pub record EndsByFault {W : Type 0} (failed : Bool) (told : Result FileAnswer Failure) (done new : Disk) (before after : W) : Type 0 where
  pub told_is : told ≡ Err DeviceFault
  pub disk_is : new ≡ (if failed then done else with_transfer false done)
  pub unwritten : after ≡ before

-- how the command ends behind the last file
abbrev pub EndsRtPuts : {D W : Type 0} {met : Ghosts D} → (D → Disk) → RtPuts D met → Result FileAnswer Failure → Disk →
    (W → Option (List ℕ)) → W → W → Type 0
EndsRtPuts disk puts told new contents before after =
    ((has_failed_by puts ≡ false) × EndsKept (counts_of puts) told (disk_of disk puts) new contents before after)
    ⊎ (EndsByFault (has_failed_by puts) told (disk_of disk puts) new before after)

-- and where they broke off by a failure: nothing is transferred where a transfer has failed or it is a device fault; else the device is
-- synced
abbrev pub KeepsBrokenRt : {D : Type 0} {met : Ghosts D} → (D → Disk) → Failure → RtPuts D met → (told : Failure) → Disk → Type 0
KeepsBrokenRt disk failure puts told new =
    GivesBack (is_behind_fault (has_failed_by puts) failure) failure told (disk_of disk puts) new
