-- What a command does that changes one file of an RT-11 volume (profile): what of the file is told by whoever cites this.
use Rattle.std.specs.Prelude.{◌≡◌, ◌≢◌, ◌⊎◌, ℕ, false, List, Option, Result, Ok, Err}
use Rattle.std.specs.Io.KnownBytes.{Keeps}
use Rattle.f11_dev.specs.Disk.{Disk, with_transfer}
use Rattle.f11_dev.specs.Image.{Image}
use Rattle.f11_dev.specs.Looked.{Looked}
use Rattle.f11_dev.specs.Went.{Went}
use Rattle.rt11_volume.specs.Files.{faults_in, is_fault}
use Rattle.rt11_volume.specs.Verifying.Verdict.{IsSoundDisk}
use Rattle.rt11_volume.specs.declared.refusal.RtRefusal.{RtRefusal}
use Rattle.rt11_volume.specs.declared.refusal.RtRefusal.TheVariants.{Failed}
use Rattle.f11_commands.specs.CopyCommand.{EndsRt, VerifiesRt}
use Rattle.f11_commands.specs.InitCommand.{done_line}
use Rattle.f11_commands.specs.Output.{WriterTakes}
use Rattle.f11_commands.specs.RtFile.{TellsRt}
use Rattle.f11_commands.specs.Syncing.{FailsToSync}
use Rattle.f11_commands.specs.declared.outcome.FileAnswer.{FileAnswer}
use Rattle.f11_commands.specs.declared.outcome.FileAnswer.TheVariants.{Done}
use Rattle.f11_commands.specs.declared.outcome.Failure.{Failure}
use Rattle.f11_commands.specs.declared.outcome.Failure.TheVariants.{CannotWrite, DeviceFault}

-- It was done, and on a sound disk nothing else: so it stands then, and so meanwhile. So many transfers were made at most.
pub record IsDone (Does : Image → Image → Type 0) (Stands : Disk → Image → Type 0) (most : ℕ) (old new : Disk) : Type 0 where
  pub does : IsSoundDisk old → Does old.image new.image
  pub went : Went (Stands old) old new most 0

-- It was not: nothing was written, and so many transfers were made at most, unless one failed.
pub record IsUndone (Fails : RtRefusal → Disk → Type 0) (Stands : Disk → Image → Type 0) (looks most : ℕ) (e : RtRefusal)
    (old new : Disk) : Type 0 where
  pub why : Fails e old
  pub fresh : e ≢ Failed
  pub kept : is_fault e ≡ false → Looked old new looks 0
  pub went : Went (Stands old) old new most (faults_in {T = Unit} (Err e))

-- what came of it
abbrev pub ChangesFile : (Image → Image → Type 0) → (Disk → Image → Type 0) → (RtRefusal → Disk → Type 0) → ℕ → ℕ →
    Result Unit RtRefusal → Disk → Disk → Type 0
ChangesFile Does Stands Fails looks most (Ok _) old new = IsDone Does Stands most old new
ChangesFile Does Stands Fails looks most (Err e) old new = IsUndone Fails Stands looks most e old new

-- how it is told that it was done: by the line `ok`, which the writer takes or doesn't
abbrev pub TellsDone : {W : Type 0} → Result FileAnswer Failure → (W → Option (List ℕ)) → W → W → Type 0
TellsDone told contents before after = ((told ≡ Ok Done) × WriterTakes contents before after done_line) ⊎ (told ≡ Err CannotWrite)

-- or as a refusal
abbrev pub TellsChange : {W : Type 0} → Result Unit RtRefusal → Result FileAnswer Failure → (W → Option (List ℕ)) → W → W → Type 0
TellsChange (Ok _) told contents before after = TellsDone told contents before after
TellsChange (Err e) told contents before after = TellsRt (Err e) told contents before after

-- It was told, and no block is another.
pub record IsTold {W : Type 0} (result : Result Unit RtRefusal) (told : Result FileAnswer Failure) (done new : Disk)
    (contents : W → Option (List ℕ)) (before after : W) : Type 0 where
  pub same : new ≡ done
  pub tells : TellsChange result told contents before after

-- It was done, and the sync behind it failed: nothing was written.
pub record IsUnsynced {W : Type 0} (result : Result Unit RtRefusal) (told : Result FileAnswer Failure) (done new : Disk)
    (contents : W → Option (List ℕ)) (before after : W) : Type 0 where
  pub done_is : result ≡ Ok tt
  pub fails : told ≡ Err DeviceFault
  pub failed : new ≡ with_transfer false done
  pub unwritten : Keeps (contents before) (contents after)

-- what is left to be done behind the call
abbrev pub EndsBehind : {W : Type 0} → Result Unit RtRefusal → Result FileAnswer Failure → Disk → Disk → (W → Option (List ℕ)) →
    W → W → Type 0
EndsBehind result told done new contents before after =
    (IsTold result told done new contents before after) ⊎ (IsUnsynced result told done new contents before after)

-- An image was verified and has no fault; the change was asked for, and what came of it was told.
pub record AnswersChange {W : Type 0} (Changes : Result Unit RtRefusal → Disk → Disk → Type 0) (told : Result FileAnswer Failure)
    (old new : Disk) (contents : W → Option (List ℕ)) (before after : W) : Type 0 where
  pub result : Result Unit RtRefusal
  pub read : Disk
  pub verified : VerifiesRt old read
  pub changes : Changes result read new
  pub tells : TellsChange result told contents before after

-- An image was verified and has no fault, and the change was made.
pub record ChangesInImage (Changes : Result Unit RtRefusal → Disk → Disk → Type 0) (old new : Disk) : Type 0 where
  pub read : Disk
  pub verified : VerifiesRt old read
  pub changes : Changes (Ok tt) read new

-- how the command ends: the image isn't accepted, or the change was asked for; or it was made, and the sync failed
abbrev pub EndsChange : {W : Type 0} → (Result Unit RtRefusal → Disk → Disk → Type 0) → Result FileAnswer Failure → Disk → Disk →
    (W → Option (List ℕ)) → W → W → Type 0
EndsChange Changes told old new contents before after =
    (EndsRt told old new contents before after)
    ⊎ ((AnswersChange Changes told old new contents before after)
    ⊎ ((told ≡ Err DeviceFault) × FailsToSync (ChangesInImage Changes old) new contents before after))
