-- What a command that copies does to two images, and what it writes (profile).
use Rattle.std.specs.Prelude.{◌≡◌, ◌≢◌, ◌⊎◌, ℕ, ◌+◌, ◌<◌, true, false, IsTrue, if◌then◌else◌, List, [], ◌∷◌, ◌++◌}
use Rattle.std.specs.Prelude.{Option, Some, None, Result, Ok, Err, codes}
use Rattle.std.specs.Fmt.{decimal}
use Rattle.std.specs.Io.KnownBytes.{Keeps}
use Rattle.f11_dev.specs.Disk.{Disk, with_transfer}
use Rattle.f11_serving.specs.fcp.Accesses.{AccessTable, held_in, no_entries}
use Rattle.f11_serving.specs.files.Answers.{is_fatal, is_fault as is_files_fault}
use Rattle.f11_findings.specs.declared.finding.Finding.{Finding}
use Rattle.f11_flx.specs.Target.{SparesFront}
use Rattle.f11_flx.specs.Copying.{is_whole, of_files, of_rt}
use Rattle.f11_flx.specs.Refusal.{flx_refusal_name}
use Rattle.f11_flx.specs.declared.refusal.FlxRefusal.{FlxRefusal}
use Rattle.f11_flx.specs.declared.refusal.FlxRefusal.TheVariants.{Files, Rt, BadRecord, LineTooLong, Unread}
use Rattle.f11_home.specs.Home.{HomeFields, IsHomeOf}
use Rattle.f11_catalog.specs.image_store.StoreOf.{store_of}
use Rattle.f11_store.specs.declared.refusals.Refusal.{Refusal}
use Rattle.f11_store.specs.declared.refusals.Refusal.TheVariants as files_refusal
use Rattle.f11_serving.specs.vfy.Verify.{Passes}
use Rattle.f11_volume.specs.Verdict.{IsAccepted}
use Rattle.f11_serving.specs.writes.Moments.{StandsAccepted}
use Rattle.rt11_volume.specs.Calls.{Accepts, Rejects, most_transfers}
use Rattle.rt11_volume.specs.Files.{is_fault as is_rt_fault}
use Rattle.rt11_volume.specs.Store.{rt_store_of}
use Rattle.rt11_volume.specs.Verifying.Verdict.{IsRtAccepted}
use Rattle.rt11_volume.specs.declared.refusal.RtRefusal.{RtRefusal}
use Rattle.rt11_volume.specs.declared.refusal.RtRefusal.TheVariants as rt_refusal
use Rattle.f11_commands.specs.Copying.{LeavesBegun, OutcomeIs, ReadsSource, StandsAsIs}
use Rattle.f11_commands.specs.Output.{WriterTakes}
use Rattle.f11_commands.specs.RtVolume.{FailsToPrintRt, PrintsFaulty}
use Rattle.f11_commands.specs.RunCommand.{HasFaults, WritesNothing}
use Rattle.f11_commands.specs.Stopping.{StopsCopy}
use Rattle.f11_commands.specs.VfyCommand.{FailsToPrintReport, PrintsReport}
use Rattle.f11_commands.specs.declared.outcome.FileAnswer.{FileAnswer}
use Rattle.f11_commands.specs.declared.outcome.FileAnswer.TheVariants.{Done, Refused, Faulty, BothFaulty}
use Rattle.f11_commands.specs.declared.copy.Copying.{Copying}
use Rattle.f11_commands.specs.declared.copy.Direction.{Direction}
use Rattle.f11_commands.specs.declared.copy.Direction.TheVariants.{ToRt, FromRt}
use Rattle.f11_commands.specs.declared.outcome.Failure.{Failure}
use Rattle.f11_commands.specs.declared.outcome.Failure.TheVariants.{DeviceFault, NoMemory, CannotWrite}
use Rattle.f11_commands.specs.declared.report.System.TheVariants.{Files11, Rt11}

-- the line of a copy of so many blocks, and that of a refusal
abbrev pub copied_line : ℕ → List ℕ
copied_line blocks = codes "copied " ++ (decimal blocks ++ 10 ∷ [])

abbrev pub refused_line : FlxRefusal → List ℕ
refused_line e = codes "no " ++ (flx_refusal_name e ++ 10 ∷ [])

-- as which failure a refusal is told that has no line
abbrev pub failure_of_files : Refusal → Option Failure
failure_of_files files_refusal.DeviceFault = Some DeviceFault
failure_of_files files_refusal.NoMemory = Some NoMemory
failure_of_files _ = None

abbrev pub failure_of_rt : RtRefusal → Option Failure
failure_of_rt rt_refusal.DeviceFault = Some DeviceFault
failure_of_rt rt_refusal.NoMemory = Some NoMemory
failure_of_rt _ = None

abbrev pub failure_of_refusal : FlxRefusal → Option Failure
failure_of_refusal (Files e) = failure_of_files e
failure_of_refusal (Rt e) = failure_of_rt e
failure_of_refusal BadRecord = None
failure_of_refusal LineTooLong = None
failure_of_refusal Unread = None

-- a refusal is told as this failure, and nothing is written; or, where it is none, by its line, which the writer takes or doesn't
abbrev pub TellsRefusal : {W : Type 0} → FlxRefusal → Option Failure → Result FileAnswer Failure → (W → Option (List ℕ)) → W → W → Type 0
TellsRefusal e (Some failure) told contents before after = (told ≡ Err failure) × Keeps (contents before) (contents after)
TellsRefusal e None told contents before after =
    ((told ≡ Ok Refused) × WriterTakes contents before after (refused_line e)) ⊎ (told ≡ Err CannotWrite)

-- how the answer of a copy is told
abbrev pub TellsCopy : {W : Type 0} → Result ℕ FlxRefusal → Result FileAnswer Failure → (W → Option (List ℕ)) → W → W → Type 0
TellsCopy (Ok blocks) told contents before after =
    ((told ≡ Ok Done) × WriterTakes contents before after (copied_line blocks)) ⊎ (told ≡ Err CannotWrite)
TellsCopy (Err e) told contents before after = TellsRefusal e (failure_of_refusal e) told contents before after

-- What an answer tells of both disks: a transfer of one failed exactly where that is the answer, and no other of it followed. Neither
-- volume had failed before.
pub record FaresBoth (result : Result ℕ FlxRefusal) (files files' rt rt' : Disk) : Type 0 where
  pub failures : files'.failures ≡ files.failures + (if of_files is_files_fault result then 1 else 0)
  pub quiet : of_files is_files_fault result ≡ true → files'.calm ≡ 0
  pub rt_failures : rt'.failures ≡ rt.failures + (if of_rt is_rt_fault result then 1 else 0)
  pub rt_quiet : of_rt is_rt_fault result ≡ true → rt'.calm ≡ 0
  pub alive : result ≢ Err (Files files_refusal.VolumeFailed)
  pub rt_alive : result ≢ Err (Rt rt_refusal.Failed)

-- A copy was asked for between the volumes of two images, of which neither has a fault. Where the disks are honest it is what the answer
-- says of the plain stores, from those of the images, in which nobody holds an access; and the images have no fault then, that of the RT-11
-- volume unless a transfer of it failed; nor has any that stood meanwhile on the Files-11 one, where blocks that are fixed or were lost are
-- as they were. Where a transfer of either failed nothing is undone on the other; where that was one of the Files-11 volume, all its files
-- are as they were if it is copied from, and else what was asked last was stopped, and no file is changed but the copy, its directory and
-- the index file. An RT-11 source is only read, and of any RT-11 volume blocks 0 to 5 are spared.
pub record CopiesImages (c : Copying) (result : Result ℕ FlxRefusal) (files files' rt rt' : Disk) : Type 0 where
  pub home : HomeFields
  pub held : AccessTable
  pub home_is : IsTrue files.honest → IsHomeOf files.image home
  pub outcome : IsTrue files.honest → IsTrue rt.honest → is_whole result ≡ true →
      OutcomeIs c result (held_in no_entries (store_of files.image home)) (held_in held (store_of files'.image home)) rt rt'
  pub undamaged : IsTrue files.honest → result ≢ Err (Files files_refusal.Damaged)
  pub fares : FaresBoth result files files' rt rt'
  pub source : ReadsSource c.direction rt rt'
  pub broken : IsTrue files.honest → of_rt is_rt_fault result ≡ true →
      StandsAsIs (held_in no_entries (store_of files.image home)) (held_in held (store_of files'.image home))
  pub stopped : IsTrue files.honest → of_files is_files_fault result ≡ true →
      StopsCopy c.direction c.directory c.name (held_in no_entries (store_of files.image home)) (store_of files'.image home)
  pub rt_broken : IsTrue rt.honest → of_files is_fatal result ≡ true →
      LeavesBegun c.rt_name (rt_store_of rt.image) (rt_store_of rt'.image)
  pub accepted : IsTrue files.honest → IsAccepted files'.image
  pub meanwhile : StandsAccepted files files'
  pub rt_front : IsTrue rt.honest → SparesFront rt rt'
  pub rt_accepted : IsTrue rt.honest → of_rt is_rt_fault result ≡ false → IsRtAccepted rt'.image

-- the sync of the disk that was copied to failed, and nothing was done to the other one
abbrev pub FailsToSyncTarget : Direction → Disk → Disk → Disk → Disk → Type 0
FailsToSyncTarget ToRt files files' rt rt' = (files' ≡ files) × (rt' ≡ with_transfer false rt)
FailsToSyncTarget FromRt files files' rt rt' = (files' ≡ with_transfer false files) × (rt' ≡ rt)

-- A copy of so many blocks was made, and then that sync failed. Nothing was written.
pub record FailsToKeepCopy {W : Type 0} (direction : Direction) (result : Result ℕ FlxRefusal) (told : Result FileAnswer Failure)
    (files files' rt rt' : Disk) (contents : W → Option (List ℕ)) (before after : W) : Type 0 where
  pub blocks : ℕ
  pub made : result ≡ Ok blocks
  pub told_is : told ≡ Err DeviceFault
  pub failed : FailsToSyncTarget direction files files' rt rt'
  pub unwritten : Keeps (contents before) (contents after)

-- an answer was told, with nothing done to the disks; or a copy was made, and the sync failed
abbrev pub TellsKeptCopy : {W : Type 0} → Direction → Result ℕ FlxRefusal → Result FileAnswer Failure → Disk → Disk → Disk → Disk →
    (W → Option (List ℕ)) → W → W → Type 0
TellsKeptCopy direction result told files files' rt rt' contents before after =
    ((files' ≡ files) × (rt' ≡ rt) × TellsCopy result told contents before after)
    ⊎ (FailsToKeepCopy direction result told files files' rt rt' contents before after)

-- The copy was asked for, and its answer told, where it was made once that is kept.
pub record AnswersCopy {W : Type 0} (c : Copying) (told : Result FileAnswer Failure) (files files' rt rt' : Disk)
    (contents : W → Option (List ℕ)) (before after : W) : Type 0 where
  pub result : Result ℕ FlxRefusal
  pub files_done : Disk
  pub rt_done : Disk
  pub copies : CopiesImages c result files files_done rt rt_done
  pub tells : TellsKeptCopy c.direction result told files_done files' rt_done rt' contents before after

-- An image was verified and has no fault: of a Files-11 volume, and of an RT-11 one.
abbrev pub VerifiesFiles : Disk → Disk → Type 0
VerifiesFiles old new = Passes old new

abbrev pub VerifiesRt : Disk → Disk → Type 0
VerifiesRt old new = (notes : List Finding) × Accepts notes old new

-- how a command ends whose Files-11 volume isn't accepted: its report was written, or that it has none, or the report couldn't be written
abbrev pub EndsFiles : {W : Type 0} → Result FileAnswer Failure → Disk → Disk → (W → Option (List ℕ)) → W → W → Type 0
EndsFiles (Ok (Faulty Files11)) old new contents before after = PrintsReport false old new contents before after
EndsFiles (Ok (Faulty Rt11)) old new contents before after = ⊥
EndsFiles (Ok Done) old new contents before after = ⊥
EndsFiles (Ok Refused) old new contents before after = ⊥
EndsFiles (Ok BothFaulty) old new contents before after = ⊥
EndsFiles (Err CannotWrite) old new contents before after = HasFaults old new
EndsFiles (Err DeviceFault) old new contents before after = FailsToPrintReport DeviceFault old new contents before after
EndsFiles (Err NoMemory) old new contents before after = FailsToPrintReport NoMemory old new contents before after

-- and one whose RT-11 volume isn't
abbrev pub EndsRt : {W : Type 0} → Result FileAnswer Failure → Disk → Disk → (W → Option (List ℕ)) → W → W → Type 0
EndsRt (Ok (Faulty Files11)) old new contents before after = ⊥
EndsRt (Ok (Faulty Rt11)) old new contents before after = PrintsFaulty old new contents before after
EndsRt (Ok Done) old new contents before after = ⊥
EndsRt (Ok Refused) old new contents before after = ⊥
EndsRt (Ok BothFaulty) old new contents before after = ⊥
EndsRt (Err CannotWrite) old new contents before after = (faults : List Finding) × (notes : List Finding) × Rejects faults notes old new
EndsRt (Err DeviceFault) old new contents before after = FailsToPrintRt most_transfers DeviceFault old new contents before after
EndsRt (Err NoMemory) old new contents before after = FailsToPrintRt most_transfers NoMemory old new contents before after

-- The Files-11 volume couldn't be mounted: a transfer failed, or there was no memory. Nothing was written.
abbrev pub FailsToMount : {W : Type 0} → Result FileAnswer Failure → Disk → Disk → (W → Option (List ℕ)) → W → W → Type 0
FailsToMount (Ok answer) old new contents before after = ⊥
FailsToMount (Err CannotWrite) old new contents before after = ⊥
FailsToMount (Err DeviceFault) old new contents before after =
    WritesNothing old new contents before after × (IsTrue old.honest → old.failures < new.failures)
FailsToMount (Err NoMemory) old new contents before after =
    WritesNothing old new contents before after × (new.failures ≡ old.failures)

-- how a command ends between two accepted volumes: the copy was asked for, or the Files-11 volume couldn't be mounted
abbrev pub EndsBetween : {W : Type 0} → Copying → Result FileAnswer Failure → Disk → Disk → Disk → Disk →
    (W → Option (List ℕ)) → W → W → Type 0
EndsBetween c told files files' rt rt' contents before after =
    (AnswersCopy c told files files' rt rt' contents before after) ⊎ ((FailsToMount told files files' contents before after) × (rt' ≡ rt))

-- Both images were verified, none has a fault, and then it ended so.
pub record EndsVerified {W : Type 0} (c : Copying) (told : Result FileAnswer Failure) (files files' rt rt' : Disk)
    (contents : W → Option (List ℕ)) (before after : W) : Type 0 where
  pub files_read : Disk
  pub rt_read : Disk
  pub files_verified : VerifiesFiles files files_read
  pub rt_verified : VerifiesRt rt rt_read
  pub ends : EndsBetween c told files_read files' rt_read rt' contents before after

-- what is told of two volumes of which the one has faults, by how it ended with the other
abbrev pub told_of_both : Result FileAnswer Failure → Result FileAnswer Failure
told_of_both (Ok answer) = Ok BothFaulty
told_of_both (Err failure) = Err failure

-- behind a volume that couldn't be verified, or whose report couldn't be written, nothing is done; behind one that has faults the other one
-- was verified: it has none, and nothing more was written; or it isn't accepted either
abbrev pub EndsFilesBehind : {W : Type 0} → Result FileAnswer Failure → Result FileAnswer Failure → Disk → Disk →
    (W → Option (List ℕ)) → W → W → Type 0
EndsFilesBehind (Err failure) told old new contents before after = (told ≡ Err failure) × (new ≡ old) × (after ≡ before)
EndsFilesBehind (Ok first) told old new contents before after =
    ((told ≡ Ok first) × VerifiesFiles old new × (after ≡ before))
    ⊎ ((end : Result FileAnswer Failure) × (told ≡ told_of_both end) × EndsFiles end old new contents before after)

abbrev pub EndsRtBehind : {W : Type 0} → Result FileAnswer Failure → Result FileAnswer Failure → Disk → Disk →
    (W → Option (List ℕ)) → W → W → Type 0
EndsRtBehind (Err failure) told old new contents before after = (told ≡ Err failure) × (new ≡ old) × (after ≡ before)
EndsRtBehind (Ok first) told old new contents before after =
    ((told ≡ Ok first) × VerifiesRt old new × (after ≡ before))
    ⊎ ((end : Result FileAnswer Failure) × (told ≡ told_of_both end) × EndsRt end old new contents before after)

-- The volume that is copied from isn't accepted: it ended so, and then with the other one so.
pub record EndsWithFirst {W : Type 0} (First Then : Result FileAnswer Failure → W → W → Type 0) (before after : W) : Type 0 where
  pub end : Result FileAnswer Failure
  pub between : W
  pub ends : First end before between
  pub goes_on : Then end between after

-- how verifying both volumes ends where one isn't accepted: the one that is copied from comes first
abbrev pub EndsVerifying : {W : Type 0} → Direction → Result FileAnswer Failure → Disk → Disk → Disk → Disk →
    (W → Option (List ℕ)) → W → W → Type 0
EndsVerifying ToRt told files files' rt rt' contents before after =
    (EndsWithFirst (λ end. EndsFiles end files files' contents) (λ end. EndsRtBehind end told rt rt' contents) before after)
    ⊎ (VerifiesFiles files files' × EndsRt told rt rt' contents before after)
EndsVerifying FromRt told files files' rt rt' contents before after =
    (EndsWithFirst (λ end. EndsRt end rt rt' contents) (λ end. EndsFilesBehind end told files files' contents) before after)
    ⊎ (VerifiesRt rt rt' × EndsFiles told files files' contents before after)

-- how a command that copies ends: with a volume that isn't accepted, or behind both
abbrev pub EndsCopy : {W : Type 0} → Direction → Copying → Result FileAnswer Failure → Disk → Disk → Disk → Disk →
    (W → Option (List ℕ)) → W → W → Type 0
EndsCopy direction c told files files' rt rt' contents before after =
    (EndsVerifying direction told files files' rt rt' contents before after)
    ⊎ (EndsVerified c told files files' rt rt' contents before after)
