-- What `run` does to an image, and what it writes (profile).
use Rattle.std.specs.Prelude.{◌≡◌, ◌≢◌, ◌⊎◌, ℕ, ◌<◌, ◌||◌, Bool, true, false, IsTrue, List, [], Option, Result, Ok, Err}
use Rattle.std.specs.Io.KnownBytes.{Keeps}
use Rattle.f11_dev.specs.Disk.{Disk, with_transfer}
use Rattle.f11_findings.specs.declared.finding.Finding.{Finding}
use Rattle.f11_home.specs.Home.{HomeFields, IsHomeOf}
use Rattle.f11_serving.specs.fcp.Accesses.{AccessTable, held_in, no_entries}
use Rattle.f11_catalog.specs.image_store.StoreOf.{store_of}
use Rattle.f11_runs.specs.Each.{Steps}
use Rattle.f11_script.specs.declared.errors.ScriptError.{ScriptError}
use Rattle.f11_serving.specs.Answering.{StepsOrFails}
use Rattle.f11_serving.specs.Serving.{RunsScript}
use Rattle.f11_commands.specs.VfyCommand.{PrintsReport}
use Rattle.f11_commands.specs.declared.outcome.Answer.{Answer}
use Rattle.f11_commands.specs.declared.outcome.Answer.TheVariants.{Done, Fault}
use Rattle.f11_commands.specs.declared.outcome.Failure.TheVariants.{DeviceFault, NoMemory, CannotWrite}
use Rattle.f11_commands.specs.declared.run.RunFailure.{RunFailure}
use Rattle.f11_commands.specs.declared.run.RunFailure.TheVariants.{Command, Script}
use Rattle.f11_volume.specs.Verdict.{IsAccepted}
use Rattle.f11_serving.specs.writes.Moments.{StandsAccepted}
use Rattle.f11_serving.specs.vfy.Verify.{Examines}

-- A script was served on an image. Where the disk is honest the image was accepted before, is then, and so was each that stood meanwhile;
-- blocks were written in order, and those that are fixed or were lost are as they were. What was written are the answers of its requests,
-- from the store of the image, in which nobody holds an access, to that of the image then, with what tasks held at the end. On an honest
-- disk one of them failed the volume exactly where a transfer failed; where none did, they are steps of the plain store. Behind the last
-- transfer that failed none was made: where the volume failed, that may be the one that tells the system to write all out.
pub record ServesImage {W : Type 0} (result : Result ℕ ScriptError) (remaining : Option (List ℕ)) (old new : Disk)
    (contents : W → Option (List ℕ)) (before after : W) : Type 0 where
  pub home : HomeFields
  pub held : AccessTable
  pub home_is : IsTrue old.honest → IsHomeOf old.image home
  pub verified : IsTrue old.honest → IsAccepted old.image
  pub accepted : IsTrue old.honest → IsAccepted new.image
  pub meanwhile : StandsAccepted old new
  pub failed : Bool
  pub failed_is : IsTrue old.honest → (failed ≡ true → old.failures < new.failures) × (failed ≡ false → new.failures ≡ old.failures)
  pub quiet : old.failures < new.failures → new.calm ≡ 0
  pub answers : RunsScript (StepsOrFails old.honest) remaining
      (record { store = held_in no_entries (store_of old.image home); failed = false })
      (record { store = held_in held (store_of new.image home); failed = failed }) (contents before) (contents after) result
  pub run : IsTrue old.honest → new.failures ≡ old.failures →
      RunsScript Steps remaining (held_in no_entries (store_of old.image home))
      (held_in held (store_of new.image home)) (contents before) (contents after) result

-- So a script was served, no transfer failed meanwhile, and then the sync failed.
pub record ServesUnsynced {W : Type 0} (result : Result ℕ ScriptError) (remaining : Option (List ℕ)) (old new : Disk)
    (contents : W → Option (List ℕ)) (before after : W) : Type 0 where
  pub done : Disk
  pub serves : ServesImage result remaining old done contents before after
  pub none : done.failures ≡ old.failures
  pub failed : new ≡ with_transfer false done

-- Nothing was written, to the image or the writer.
pub record WritesNothing {W : Type 0} (old new : Disk) (contents : W → Option (List ℕ)) (before after : W) : Type 0 where
  pub image : new.image ≡ old.image
  pub history : new.history ≡ old.history
  pub written : Keeps (contents before) (contents after)

-- what is told of an accepted image: the script was served, or it was to where it, or its answers, went no further, and no transfer
-- failed; or one failed on an honest disk, before the script was served or while it was, or the sync behind it; or there was no memory for
-- the volume
abbrev pub EndsServing : {W : Type 0} → Result Answer RunFailure → Option (List ℕ) → Disk → Disk → (W → Option (List ℕ)) → W → W → Type 0
EndsServing (Ok Done) remaining old new contents before after =
    (count : ℕ) × ServesImage (Ok count) remaining old new contents before after × (new.failures ≡ old.failures)
EndsServing (Ok Fault) remaining old new contents before after = ⊥
EndsServing (Err (Script e)) remaining old new contents before after =
    ServesImage (Err e) remaining old new contents before after × (new.failures ≡ old.failures)
EndsServing (Err (Command DeviceFault)) remaining old new contents before after =
    ((WritesNothing old new contents before after ⊎
    ((result : Result ℕ ScriptError) × ServesImage result remaining old new contents before after))
    × (IsTrue old.honest → old.failures < new.failures))
    ⊎ ((result : Result ℕ ScriptError) × ServesUnsynced result remaining old new contents before after)
EndsServing (Err (Command NoMemory)) remaining old new contents before after =
    WritesNothing old new contents before after × (new.failures ≡ old.failures)
EndsServing (Err (Command CannotWrite)) remaining old new contents before after = ⊥

-- a report wasn't written to its end: the image was verified, and has faults
abbrev pub HasFaults : Disk → Disk → Type 0
HasFaults old new = (faults : List Finding) × (notes : List Finding) × Examines faults notes old new × (faults ≢ [])

-- and of any: that too; or it has faults, and its report was written; or the writer took no more of that
abbrev pub EndsRun : {W : Type 0} → Result Answer RunFailure → Option (List ℕ) → Disk → Disk → (W → Option (List ℕ)) → W → W → Type 0
EndsRun (Ok Fault) remaining old new contents before after = PrintsReport false old new contents before after
EndsRun (Err (Command CannotWrite)) remaining old new contents before after = HasFaults old new
EndsRun told remaining old new contents before after = EndsServing told remaining old new contents before after

-- how a script ended that a volume served, of whose device a transfer failed or not
abbrev pub outcome_of : Bool → Result ℕ ScriptError → Result Answer RunFailure
outcome_of true served = Err (Command DeviceFault)
outcome_of false (Ok count) = Ok Done
outcome_of false (Err e) = Err (Script e)

-- a sync, which failed or didn't
abbrev pub SyncedIf : Bool → Disk → Disk → Type 0
SyncedIf true old new = new ≡ with_transfer false old
SyncedIf false old new = new ≡ old

-- The device of a volume that served a script, which a request has failed or not, was synced, and how the script ended was told.
pub record EndsSyncing (spent : Bool) (served : Result ℕ ScriptError) (told : Result Answer RunFailure) (old new : Disk) : Type 0 where
  pub fails : Bool
  pub synced : SyncedIf fails old new
  pub told_is : told ≡ outcome_of (spent || fails) served
