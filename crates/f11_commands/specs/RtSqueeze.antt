-- What `rt-squeeze` does: the files of an RT-11 volume are brought to lower blocks (RT-11 System User's Guide, SQUEEZE; profile: its
-- lines).
use Rattle.std.specs.Prelude.{◌≡◌, ◌⊎◌, ℕ, ◌==◌, Bool, true, false, if◌then◌else◌, List, [], ◌∷◌, ◌++◌, codes, count_by, flat_map, zip}
use Rattle.std.specs.Prelude.{Option, Result, Ok, Err, Vec}
use Rattle.std.specs.Global.{Global}
use Rattle.std.specs.Fmt.{decimal}
use Rattle.std.specs.Io.KnownBytes.{Keeps}
use Rattle.f11_dev.specs.Disk.{Disk, with_transfer}
use Rattle.f11_dev.specs.Went.{Went}
use Rattle.f11_flx.specs.declared.refusal.FlxRefusal.TheVariants.{Rt}
use Rattle.rt11_squeeze.specs.Kept.{SparesFiles}
use Rattle.rt11_squeeze.specs.Squeezing.{EndsEarly, KeepsAllFiles, SqueezesEach, squeeze_transfers}
use Rattle.rt11_squeeze.specs.Telling.{FailsToTell, TellsAll}
use Rattle.rt11_squeeze.specs.declared.moving.FileToMove.{FileToMove}
use Rattle.rt11_squeeze.specs.declared.outcome.Squeezed.{Squeezed}
use Rattle.rt11_squeeze.specs.declared.outcome.Squeezed.TheVariants.{InPlace, Moved, Refused as NotMoved}
use Rattle.rt11_volume.specs.Files.{faults_in, is_device_fault, is_fault}
use Rattle.rt11_volume.specs.Refusal.{refusal_name}
use Rattle.rt11_volume.specs.RtName.{rt_name_text}
use Rattle.rt11_volume.specs.Verifying.Verdict.{IsSoundDisk}
use Rattle.rt11_volume.specs.declared.refusal.RtRefusal.{RtRefusal}
use Rattle.f11_commands.specs.CopyCommand.{EndsRt, TellsCopy, VerifiesRt}
use Rattle.f11_commands.specs.Output.{WriterTakes}
use Rattle.f11_commands.specs.declared.outcome.FileAnswer.{FileAnswer}
use Rattle.f11_commands.specs.declared.outcome.FileAnswer.TheVariants.{Done, Refused}
use Rattle.f11_commands.specs.declared.outcome.Failure.{Failure}
use Rattle.f11_commands.specs.declared.outcome.Failure.TheVariants.{CannotWrite, DeviceFault, NoMemory}

-- whether a file was moved
abbrev pub is_moved : Squeezed → Bool
is_moved InPlace = false
is_moved Moved = true
is_moved (NotMoved e) = false

-- whether one wasn't that should have been
abbrev pub is_refused : Squeezed → Bool
is_refused InPlace = false
is_refused Moved = false
is_refused (NotMoved e) = true

-- the line of a file: none where it stays in its place
abbrev pub squeezed_line : FileToMove → Squeezed → List ℕ
squeezed_line file InPlace = []
squeezed_line file Moved = rt_name_text file.name ++ (codes " moved" ++ 10 ∷ [])
squeezed_line file (NotMoved e) = rt_name_text file.name ++ (codes " not moved " ++ (refusal_name e ++ 10 ∷ []))

-- those of files, in their order
abbrev pub squeezed_lines : List FileToMove → List Squeezed → List ℕ
squeezed_lines files outcomes = flat_map (λ (one : FileToMove × Squeezed). squeezed_line one.0 one.1) (zip files outcomes)

-- the last line: how many were moved, and how many weren't
abbrev pub all_moved_line : List Squeezed → List ℕ
all_moved_line outcomes =
    codes "all " ++ (decimal (count_by is_moved outcomes) ++ (codes " moved, " ++
    (decimal (count_by is_refused outcomes) ++ (codes " not moved" ++ 10 ∷ []))))

-- the answer: that one wasn't, or that each was
abbrev pub squeezed_answer : List Squeezed → FileAnswer
squeezed_answer outcomes = if count_by is_refused outcomes == 0 then Done else Refused

-- what is told where all were tried: a line for each, unless the writer takes no more
abbrev pub TellsSqueezed : {W : Type 0} → List FileToMove → List Squeezed → Result FileAnswer Failure → (W → Option (List ℕ)) → W → W →
    Type 0
TellsSqueezed files outcomes told contents before after =
    ((told ≡ Ok (squeezed_answer outcomes))
    × WriterTakes contents before after (squeezed_lines files outcomes ++ all_moved_line outcomes))
    ⊎ (told ≡ Err CannotWrite)

-- and where it was ended before: why
abbrev pub TellsSqueezing : {W : Type 0} → List FileToMove → Result (Vec Squeezed Global) RtRefusal → Result FileAnswer Failure →
    (W → Option (List ℕ)) → W → W → Type 0
TellsSqueezing files (Ok outcomes) told contents before after = TellsSqueezed files outcomes.items told contents before after
TellsSqueezing files (Err e) told contents before after = TellsCopy (Err (Rt e)) told contents before after

-- A transfer failed, and nothing was told.
pub record FaultsWithin {W : Type 0} (squeezed : Result (Vec Squeezed Global) RtRefusal) (told : Result FileAnswer Failure)
    (done new : Disk)
    (contents : W → Option (List ℕ)) (before after : W) : Type 0 where
  pub fault : is_device_fault squeezed ≡ true
  pub told_is : told ≡ Err DeviceFault
  pub same : new ≡ done
  pub unwritten : Keeps (contents before) (contents after)

-- None did, the device was synced, and it was told.
pub record TellsKept {W : Type 0} (files : List FileToMove) (squeezed : Result (Vec Squeezed Global) RtRefusal)
    (told : Result FileAnswer Failure) (done new : Disk) (contents : W → Option (List ℕ)) (before after : W) : Type 0 where
  pub none : is_device_fault squeezed ≡ false
  pub same : new ≡ done
  pub tells : TellsSqueezing files squeezed told contents before after

-- None did, but the sync failed, and nothing was told.
pub record IsUnsynced {W : Type 0} (squeezed : Result (Vec Squeezed Global) RtRefusal) (told : Result FileAnswer Failure) (done new : Disk)
    (contents : W → Option (List ℕ)) (before after : W) : Type 0 where
  pub none : is_device_fault squeezed ≡ false
  pub told_is : told ≡ Err DeviceFault
  pub failed : new ≡ with_transfer false done
  pub unwritten : Keeps (contents before) (contents after)

-- how it ends once the files were moved
abbrev pub EndsSqueezed : {W : Type 0} → List FileToMove → Result (Vec Squeezed Global) RtRefusal → Result FileAnswer Failure →
    Disk → Disk → (W → Option (List ℕ)) → W → W → Type 0
EndsSqueezed files squeezed told done new contents before after =
    (FaultsWithin squeezed told done new contents before after)
    ⊎ ((TellsKept files squeezed told done new contents before after)
    ⊎ (IsUnsynced squeezed told done new contents before after))

-- what became of each file, or why it was ended before the last of them
abbrev pub SqueezesAll : List FileToMove → Result (Vec Squeezed Global) RtRefusal → Disk → Disk → Type 0
SqueezesAll files (Ok outcomes) old new = SqueezesEach files outcomes.items old new
SqueezesAll files (Err e) old new = EndsEarly e

-- Files were brought to lower blocks, each as its outcome says. Each image that stood meanwhile has the blocks of each file, and unless a
-- transfer failed the files of each name are those that there were, and others than these lie where they lay.
pub record SqueezesFiles (files : List FileToMove) (squeezed : Result (Vec Squeezed Global) RtRefusal) (old new : Disk) : Type 0 where
  pub went : Went (SparesFiles old) old new (squeeze_transfers files) (faults_in squeezed)
  pub kept : is_device_fault squeezed ≡ false → IsSoundDisk old → KeepsAllFiles files old new
  pub each : IsSoundDisk old → SqueezesAll files squeezed old new

-- as what it is told that the directory couldn't be read
abbrev pub look_failure : RtRefusal → Failure
look_failure e = if is_fault e then DeviceFault else NoMemory

-- Which files may be moved wasn't read. Nothing was written anywhere.
pub record FailsToLook {W : Type 0} (told : Result FileAnswer Failure) (old new : Disk) (contents : W → Option (List ℕ)) (before after : W)
    : Type 0 where
  pub e : RtRefusal
  pub fails : FailsToTell e old new
  pub told_is : told ≡ Err (look_failure e)
  pub unwritten : Keeps (contents before) (contents after)

-- It was, but the image isn't accepted.
pub record EndsBehindLook {W : Type 0} (told : Result FileAnswer Failure) (old new : Disk) (contents : W → Option (List ℕ))
    (before after : W) : Type 0 where
  pub files : List FileToMove
  pub looked : Disk
  pub tells : TellsAll files old looked
  pub ends : EndsRt told looked new contents before after

-- The image was verified and has no fault, and those files were brought to lower blocks, which was told.
pub record SqueezesImage {W : Type 0} (told : Result FileAnswer Failure) (old new : Disk) (contents : W → Option (List ℕ))
    (before after : W) : Type 0 where
  pub files : List FileToMove
  pub squeezed : Result (Vec Squeezed Global) RtRefusal
  pub looked : Disk
  pub read : Disk
  pub done : Disk
  pub tells : TellsAll files old looked
  pub verified : VerifiesRt looked read
  pub squeezes : SqueezesFiles files squeezed read done
  pub ends : EndsSqueezed files squeezed told done new contents before after

-- how the command ends
abbrev pub EndsSqueezing : {W : Type 0} → Result FileAnswer Failure → Disk → Disk → (W → Option (List ℕ)) → W → W → Type 0
EndsSqueezing told old new contents before after =
    (FailsToLook told old new contents before after)
    ⊎ ((EndsBehindLook told old new contents before after)
    ⊎ (SqueezesImage told old new contents before after))
