-- What `rt-copy` does: all files of an RT-11 volume, faulty or not, are copied to another (RT-11 System User's Guide, COPY; profile).
use Rattle.std.specs.Prelude.{◌≡◌, ◌⊎◌, ℕ, Bool, false, List, Option, Result, Ok, Err, Vec}
use Rattle.std.specs.Global.{Global}
use Rattle.f11_dev.specs.Disk.{Disk, with_transfer}
use Rattle.f11_dev.specs.Went.{Went}
use Rattle.rt11_copy.specs.Copies.{CopiesAll, EndsCopying, OnlyRead, reads_all, writes_all}
use Rattle.rt11_copy.specs.declared.outcome.RtCopied.{RtCopied}
use Rattle.rt11_squeeze.specs.Kept.{SparesFiles}
use Rattle.rt11_volume.specs.Calls.{most_transfers}
use Rattle.rt11_volume.specs.Files.{faults_in}
use Rattle.rt11_volume.specs.declared.any_entries.RtEntry.{RtEntry}
use Rattle.rt11_volume.specs.declared.refusal.RtRefusal.{RtRefusal}
use Rattle.f11_commands.specs.CopyCommand.{EndsRt, VerifiesRt}
use Rattle.f11_commands.specs.InitCommand.{refusal_line}
use Rattle.f11_commands.specs.Output.{WriterTakes}
use Rattle.f11_commands.specs.RtAny.{served_so}
use Rattle.f11_commands.specs.RtSqueeze.{look_failure}
use Rattle.f11_commands.specs.RtVolume.{FailsToMakeVolume, FailsToPrintRt, MakesVolume, PrintsAccepted, PrintsFaulty, RefusesVolume}
use Rattle.f11_commands.specs.declared.outcome.Answer.{Answer}
use Rattle.f11_commands.specs.declared.outcome.Answer.TheVariants.{Done, Fault}
use Rattle.f11_commands.specs.declared.outcome.FileAnswer.{FileAnswer}
use Rattle.f11_commands.specs.declared.outcome.FileAnswer.TheVariants.{Faulty, Refused}
use Rattle.f11_commands.specs.declared.outcome.Failure.{Failure}
use Rattle.f11_commands.specs.declared.outcome.Failure.TheVariants.{CannotWrite, DeviceFault}
use Rattle.f11_commands.specs.declared.report.System.TheVariants.{Rt11}
use Rattle.f11_commands.specs.declared.rt_any.RtServed.{RtServed}
use Rattle.f11_salvage.specs.RtLines.{copy_answer, copy_lines}
use Rattle.f11_salvage.specs.RtPack.{boots, device_of, entries_of, state_of}
use Rattle.f11_salvage.specs.declared.rt_pack.RtPack.{RtPack}

-- what became of the files, or why it was ended before the last of them
abbrev pub CopiedSo : List RtEntry → Result (Vec RtCopied Global) RtRefusal → Disk → Disk → Disk → Disk → Type 0
CopiedSo entries (Ok outcomes) from read old new = CopiesAll entries outcomes.items from read old new
CopiedSo entries (Err e) from read old new = EndsCopying e entries from read old new

-- The files of entries were copied, each as its outcome says, from a device that was read alone. Each image that stood meanwhile has the
-- blocks of each file that there was.
pub record CopiesFiles (entries : List RtEntry) (copied : Result (Vec RtCopied Global) RtRefusal) (from read old new : Disk) : Type 0 where
  pub reads : OnlyRead from read (reads_all entries)
  pub went : Went (SparesFiles old) old new (writes_all entries) (faults_in copied)
  pub copies : CopiedSo entries copied from read old new

-- what is answered where the files were copied so, and the volume is found so
abbrev pub told_by : List RtCopied → Result Answer Failure → Result FileAnswer Failure
told_by outcomes (Ok Done) = Ok (copy_answer outcomes)
told_by outcomes (Ok Fault) = Ok (Faulty Rt11)
told_by outcomes (Err failure) = Err failure

-- how verifying it ended
abbrev pub EndsVerdict : {W : Type 0} → Result Answer Failure → Disk → Disk → (W → Option (List ℕ)) → W → W → Type 0
EndsVerdict (Ok Done) old new contents before after = PrintsAccepted old new contents before after
EndsVerdict (Ok Fault) old new contents before after = PrintsFaulty old new contents before after
EndsVerdict (Err failure) old new contents before after = FailsToPrintRt most_transfers failure old new contents before after

-- The lines of all files were written, and then the volume was verified, and its report written.
pub record TellsAndVerifies {W : Type 0} (entries : List RtEntry) (boots : Bool) (outcomes : List RtCopied)
    (told : Result FileAnswer Failure) (old new : Disk) (contents : W → Option (List ℕ)) (before after : W) : Type 0 where
  pub between : W
  pub lines : WriterTakes contents before between (copy_lines entries boots outcomes)
  pub verdict : Result Answer Failure
  pub verifies : EndsVerdict verdict old new contents between after
  pub told_is : told ≡ told_by outcomes verdict

-- it was told; or the writer took no more of it
abbrev pub TellsCopies : {W : Type 0} → List RtEntry → Bool → List RtCopied → Result FileAnswer Failure → Disk → Disk →
    (W → Option (List ℕ)) → W → W → Type 0
TellsCopies entries boots outcomes told old new contents before after =
    (TellsAndVerifies entries boots outcomes told old new contents before after) ⊎ ((told ≡ Err CannotWrite) × (new ≡ old))

-- The sync failed, and nothing was told.
pub record IsUnsynced {W : Type 0} (told : Result FileAnswer Failure) (done new : Disk) (before after : W) : Type 0 where
  pub failed : new ≡ with_transfer false done
  pub told_is : told ≡ Err DeviceFault
  pub untold : after ≡ before

-- how it ends once the files were copied: where that ended early, nothing is told but as which failure; else the device was synced before
abbrev pub EndsCopied : {W : Type 0} → List RtEntry → Bool → Result (Vec RtCopied Global) RtRefusal → Result FileAnswer Failure →
    Disk → Disk → (W → Option (List ℕ)) → W → W → Type 0
EndsCopied entries boots (Ok outcomes) told done new contents before after =
    (TellsCopies entries boots outcomes.items told done new contents before after) ⊎ (IsUnsynced told done new before after)
EndsCopied entries boots (Err e) told done new contents before after =
    (told ≡ Err (look_failure e)) × (new ≡ done) × (after ≡ before)

-- it was told that no fresh volume can be made; or the writer took no more of that
abbrev pub TellsRefused : {W : Type 0} → Result FileAnswer Failure → (W → Option (List ℕ)) → W → W → Type 0
TellsRefused told contents before after =
    ((told ≡ Ok Refused) × WriterTakes contents before after refusal_line) ⊎ (told ≡ Err CannotWrite)

module _ {D W : Type 0} (pack : RtPack D) (disk : D → Disk) (contents : W → Option (List ℕ)) where
  -- The other image isn't accepted, and nothing was done to the pack.
  pub record EndsUnaccepted (served : Result RtServed Failure) (read old new : Disk) (before after : W) : Type 0 where
    pub told : Result FileAnswer Failure
    pub ends : EndsRt told old new contents before after
    pub served_is : served ≡ served_so (state_of pack) told
    pub untouched : read ≡ disk (device_of pack)

  -- It was verified and has no fault, and the files were copied to it, which was told.
  pub record CopiesPack (served : Result RtServed Failure) (read old new : Disk) (before after : W) : Type 0 where
    pub verified : Disk
    pub done : Disk
    pub copied : Result (Vec RtCopied Global) RtRefusal
    pub told : Result FileAnswer Failure
    pub verifies : VerifiesRt old verified
    pub copies : CopiesFiles (entries_of pack) copied (disk (device_of pack)) read verified done
    pub ends : EndsCopied (entries_of pack) (boots pack) copied told done new contents before after
    pub served_is : served ≡ served_so (state_of pack) told

  -- how the command ends, onto a volume that is there
  abbrev pub EndsOnto : Result RtServed Failure → Disk → Disk → Disk → W → W → Type 0
  EndsOnto served read old new before after =
      (EndsUnaccepted served read old new before after) ⊎ (CopiesPack served read old new before after)

  -- A fresh volume was made, and then it ended so.
  pub record CopiesToFresh (segments : ℕ) (served : Result RtServed Failure) (read old new : Disk) (before after : W) : Type 0 where
    pub made : Disk
    pub makes : MakesVolume segments old made
    pub ends : EndsOnto served read made new before after

  -- None can be made, and that was told.
  pub record RefusesFresh (segments : ℕ) (served : Result RtServed Failure) (read old new : Disk) (before after : W) : Type 0 where
    pub refuses : RefusesVolume segments old new
    pub told : Result FileAnswer Failure
    pub tells : TellsRefused told contents before after
    pub served_is : served ≡ served_so (state_of pack) told
    pub untouched : read ≡ disk (device_of pack)

  -- A transfer failed while it was made.
  pub record FailsFresh (segments : ℕ) (served : Result RtServed Failure) (read old new : Disk) (before after : W) : Type 0 where
    pub fails : FailsToMakeVolume segments old new
    pub served_is : served ≡ Err DeviceFault
    pub untouched : read ≡ disk (device_of pack)
    pub untold : after ≡ before

  -- how it ends, to a fresh one
  abbrev pub EndsFresh : ℕ → Result RtServed Failure → Disk → Disk → Disk → W → W → Type 0
  EndsFresh segments served read old new before after =
      (CopiesToFresh segments served read old new before after)
      ⊎ ((RefusesFresh segments served read old new before after) ⊎ (FailsFresh segments served read old new before after))
