-- What `put` does: a file of a Files-11 volume is made of a file of the host (profile).
use Rattle.std.specs.Prelude.{◌≡◌, ◌≢◌, ◌⊎◌, ℕ, ◌+◌, true, false, IsTrue, if◌then◌else◌, List, Option, Result, Ok, Err}
use Rattle.std.specs.Io.KnownBytes.{Keeps}
use Rattle.f11_dev.specs.Disk.{Disk, with_transfer}
use Rattle.f11_dev.specs.declared.device.Device.{Ghosts}
use Rattle.f11_serving.specs.fcp.Accesses.{AccessTable, held_in, no_entries}
use Rattle.f11_serving.specs.fcp.Lists.{is_sound, store_of_volume}
use Rattle.f11_serving.specs.fcp.Serving.{state_in}
use Rattle.f11_serving.specs.fcp.declared.volume.Volume.{Volume}
use Rattle.f11_serving.specs.files.Answers.{is_fault}
use Rattle.f11_flx.specs.Copying.{is_whole, of_files}
use Rattle.f11_making.specs.AsBefore.{IsAsBefore}
use Rattle.f11_flx.specs.declared.refusal.FlxRefusal.TheVariants as copy
use Rattle.f11_home.specs.Home.{HomeFields, IsHomeOf}
use Rattle.f11_flx.specs.declared.lines.Extent.{Extent}
use Rattle.f11_flx.specs.declared.mode.CopyMode.{CopyMode}
use Rattle.f11_flx.specs.declared.mode.CopyMode.TheVariants as mode
use Rattle.f11_host.specs.CopyFromHost.{CopiesFromHost, FailsToCopyFromHost, HoldHost, ReadsHost}
use Rattle.f11_host.specs.CopyTextFromHost.{CopiesTextFromHost, FailsToCopyTextFromHost, HoldText, ReadsTexts}
use Rattle.f11_host.specs.Refusal.{copy_result}
use Rattle.f11_host.specs.declared.refusal.HostRefusal.{HostRefusal}
use Rattle.f11_host.specs.declared.refusal.HostRefusal.TheVariants.{Files, LineTooLong, Unread}
use Rattle.f11_catalog.specs.image_store.StoreOf.{store_of}
use Rattle.f11_store.specs.Store.{Store}
use Rattle.f11_store.specs.declared.files.FileId.{FileId}
use Rattle.f11_store.specs.declared.refusals.Refusal.{Refusal}
use Rattle.f11_store.specs.declared.refusals.Refusal.TheVariants.{Damaged, VolumeFailed}
use Rattle.f11_volume.specs.Verdict.{IsAccepted}
use Rattle.f11_serving.specs.writes.Moments.{StandsAccepted}
use Rattle.f11_commands.specs.CopyCommand.{EndsFiles, FailsToMount, TellsCopy, VerifiesFiles}
use Rattle.f11_commands.specs.Copying.{FindsName, FindsNoName, master_directory, operator}
use Rattle.f11_commands.specs.Finding.{FaresAlone}
use Rattle.f11_commands.specs.PutSlots.{GetsSlotsFor}
use Rattle.f11_commands.specs.RtPut.{put_told}
use Rattle.f11_commands.specs.Stopping.{IsUnheld, Stood, StopsPut}
use Rattle.f11_commands.specs.declared.outcome.FileAnswer.{FileAnswer}
use Rattle.f11_commands.specs.declared.outcome.Failure.{Failure}
use Rattle.f11_commands.specs.declared.outcome.Failure.TheVariants.{DeviceFault}
use Rattle.f11_commands.specs.declared.put.Putting.{Putting}
use Rattle.f11_commands.specs.declared.rt_put.PutFailure.{PutFailure}
use Rattle.f11_commands.specs.declared.rt_put.PutFailure.TheVariants as failure

-- What is known of the two readers of a file of the host: the bytes that they have still.
pub record Hosts : Type 0 where
  pub first : Option (List ℕ)
  pub again : Option (List ℕ)

abbrev pub hosts : Option (List ℕ) → Option (List ℕ) → Hosts
hosts first again = record { first = first; again = again }

-- how they are read: as it is, of one of them; or as a text, which is walked over first
abbrev pub ReadsFor : CopyMode → ℕ → Result ℕ HostRefusal → Hosts → Hosts → Type 0
ReadsFor mode.Image bytes result h h' = ReadsHost bytes result h.first h'.first × (h'.again ≡ h.again)
ReadsFor mode.Text bytes (Ok blocks) h h' = ReadsTexts bytes (Ok blocks) h.first h'.first h.again h'.again
ReadsFor mode.Text bytes (Err (Files e)) h h' = (h' ≡ h) ⊎ (ReadsTexts bytes (Err (Files e)) h.first h'.first h.again h'.again)
ReadsFor mode.Text bytes (Err Unread) h h' = ReadsTexts bytes (Err Unread) h.first h'.first h.again h'.again
ReadsFor mode.Text bytes (Err LineTooLong) h h' = ReadsTexts bytes (Err LineTooLong) h.first h'.first h.again h'.again

-- the file was made of them, of so many blocks,
abbrev pub MakesFor : CopyMode → ℕ → ℕ → Hosts → Hosts → FileId → List ℕ → Store → Store → Type 0
MakesFor mode.Image bytes blocks h h' dir name s s' = CopiesFromHost bytes h.first h'.first operator 0 dir name 0 s s'
MakesFor mode.Text bytes blocks h h' dir name s s' = CopiesTextFromHost bytes blocks h.again h'.again operator 0 dir name 0 s s'

-- or not
abbrev pub FailsFor : CopyMode → HostRefusal → ℕ → Hosts → Hosts → FileId → List ℕ → Store → Store → Type 0
FailsFor mode.Image e bytes h h' dir name s s' = FailsToCopyFromHost e bytes h.first h'.first operator 0 dir name 0 s s'
FailsFor mode.Text e bytes h h' dir name s s' =
    FailsToCopyTextFromHost e bytes h.first h'.first h.again h'.again operator 0 dir name 0 s s'

-- blocks that hold what was read, as it is or as a text's records
abbrev pub HoldFor : CopyMode → ℕ → Hosts → Hosts → List (List ℕ) → Type 0
HoldFor mode.Image bytes h h' blocks = HoldHost bytes h.first h'.first blocks
HoldFor mode.Text bytes h h' blocks = (plan : Extent) × HoldText bytes plan h.again h'.again blocks

-- No file was made, and what was made for it was undone.
pub record LeavesAll (p : Putting) (bytes : ℕ) (dir : FileId) (e : HostRefusal) (h h' : Hosts) (s s' : Store)
    : Type 0 where
  pub refused : FailsFor p.mode e bytes h h' dir p.name s s'
  pub undone : IsAsBefore s s'

-- what is so behind the answer, where the file was to stand in a directory
abbrev pub PutsInto : Putting → ℕ → FileId → Result ℕ HostRefusal → Hosts → Hosts → Store → Store → Type 0
PutsInto p bytes dir (Ok blocks) h h' s s' = MakesFor p.mode bytes blocks h h' dir p.name s s'
PutsInto p bytes dir (Err e) h h' s s' = LeavesAll p bytes dir e h h' s s'

-- Slots were asked for that the file may need, and then it is so.
pub record PutsBehindSlots (p : Putting) (bytes : ℕ) (dir : FileId) (result : Result ℕ HostRefusal) (h h' : Hosts) (s s' : Store)
    : Type 0 where
  pub ready : Store
  pub readies : GetsSlotsFor p.blocks s ready
  pub puts : PutsInto p bytes dir result h h' ready s'

-- The directory was found, and then it is so.
pub record FindsAndPuts (p : Putting) (bytes : ℕ) (result : Result ℕ HostRefusal) (h h' : Hosts) (s s' : Store)
    : Type 0 where
  pub dir : FileId
  pub found : Store
  pub finds : FindsName master_directory p.directory dir s found
  pub puts : PutsBehindSlots p bytes dir result h h' found s'

-- It isn't there, and nothing was read of the host's file.
pub record HasNoDirectory (p : Putting) (result : Result ℕ HostRefusal) (h h' : Hosts) (s s' : Store) : Type 0 where
  pub refusal : Refusal
  pub is : result ≡ Err (Files refusal)
  pub not_found : FindsNoName master_directory p.directory refusal s s'
  pub unread : h' ≡ h

abbrev pub PutsByName : Putting → ℕ → Result ℕ HostRefusal → Hosts → Hosts → Store → Store → Type 0
PutsByName p bytes result h h' s s' =
    (FindsAndPuts p bytes result h h' s s') ⊎ (HasNoDirectory p result h h' s s')

-- A file was to be made on a volume: it fared as the answer says, and where it is sound the one holds of its stores, or the other where a
-- transfer failed; and the other of each image that stood meanwhile, if nobody held an access.
pub record PutsNamed {D : Type 0} {met : Ghosts D} (m : CopyMode) (bytes : ℕ) (result : Result ℕ HostRefusal) (h h' : Hosts)
    (Holds Stops : Store → Store → Type 0) (old new : Volume D met) : Type 0 where
  pub fares : FaresAlone (copy_result result) old new
  pub host : ReadsFor m bytes result h h'
  pub outcome : is_sound old ≡ true → is_whole (copy_result result) ≡ true → Holds (store_of_volume old) (store_of_volume new)
  pub stops : is_sound old ≡ true → of_files is_fault (copy_result result) ≡ true →
      Stops (store_of_volume old) (store_of (state_in new).disk.image (state_in new).home)
  pub moments : is_sound old ≡ true → IsUnheld (store_of_volume old) →
      Stood (λ image. Stops (store_of_volume old) (store_of image (state_in old).home)) (state_in old).disk (state_in new).disk

-- A file was to be made on the volume of an image that has no fault. Where the disk is honest it is what the answer says of the plain
-- store, from that of the image, in which nobody holds an access; and the image has no fault then, nor has any that stood meanwhile; blocks
-- that are fixed or were lost are as they were. A transfer failed exactly where that is the answer, and no other followed; then what was
-- asked last was stopped, and nothing else is done but what was asked for this file before: no other is changed, but its directory and the
-- index file, and it has an end only where its blocks hold all that was read. So it is of each image that stood meanwhile.
pub record PutsOnImage (p : Putting) (bytes : ℕ) (result : Result ℕ HostRefusal) (h h' : Hosts) (old new : Disk)
    : Type 0 where
  pub home : HomeFields
  pub held : AccessTable
  pub home_is : IsTrue old.honest → IsHomeOf old.image home
  pub outcome : IsTrue old.honest → is_whole (copy_result result) ≡ true →
      PutsByName p bytes result h h' (held_in no_entries (store_of old.image home)) (held_in held (store_of new.image home))
  pub stops : IsTrue old.honest → of_files is_fault (copy_result result) ≡ true →
      StopsPut p (HoldFor p.mode bytes h h') (held_in no_entries (store_of old.image home)) (store_of new.image home)
  pub moments : IsTrue old.honest →
      Stood (λ image. StopsPut p (HoldFor p.mode bytes h h') (held_in no_entries (store_of old.image home))
      (store_of image home)) old new
  pub host : ReadsFor p.mode bytes result h h'
  pub failures : new.failures ≡ old.failures + (if of_files is_fault (copy_result result) then 1 else 0)
  pub quiet : of_files is_fault (copy_result result) ≡ true → new.calm ≡ 0
  pub alive : copy_result result ≢ Err (copy.Files VolumeFailed)
  pub undamaged : IsTrue old.honest → copy_result result ≢ Err (copy.Files Damaged)
  pub accepted : IsTrue old.honest → IsAccepted new.image
  pub meanwhile : StandsAccepted old new

-- how it is told
abbrev pub TellsPutting : {W : Type 0} → Result ℕ HostRefusal → Result FileAnswer PutFailure → (W → Option (List ℕ)) → W → W → Type 0
TellsPutting (Ok blocks) told contents before after =
    (t : Result FileAnswer Failure) × (told ≡ put_told t) × TellsCopy (Ok blocks) t contents before after
TellsPutting (Err (Files e)) told contents before after =
    (t : Result FileAnswer Failure) × (told ≡ put_told t) × TellsCopy (Err (copy.Files e)) t contents before after
TellsPutting (Err Unread) told contents before after = (told ≡ Err failure.Unread) × Keeps (contents before) (contents after)
TellsPutting (Err LineTooLong) told contents before after =
    (t : Result FileAnswer Failure) × (told ≡ put_told t) × TellsCopy (Err copy.LineTooLong) t contents before after

-- A file of so many blocks was made, and then the sync failed. Nothing was written.
pub record FailsToKeepFile {W : Type 0} (result : Result ℕ HostRefusal) (told : Result FileAnswer PutFailure) (old new : Disk)
    (contents : W → Option (List ℕ)) (before after : W) : Type 0 where
  pub blocks : ℕ
  pub made : result ≡ Ok blocks
  pub told_is : told ≡ Err (failure.Command DeviceFault)
  pub failed : new ≡ with_transfer false old
  pub unwritten : Keeps (contents before) (contents after)

-- what came of it was told, with nothing done to the disk; or the file was made, and the sync failed
abbrev pub TellsKeptFile : {W : Type 0} → Result ℕ HostRefusal → Result FileAnswer PutFailure → Disk → Disk → (W → Option (List ℕ)) →
    W → W → Type 0
TellsKeptFile result told old new contents before after =
    ((new ≡ old) × TellsPutting result told contents before after) ⊎ (FailsToKeepFile result told old new contents before after)

-- The file was to be made on the volume of an accepted image, and what came of it was told, where it was made once that is kept.
pub record TellsOnImage {W : Type 0} (p : Putting) (bytes : ℕ) (told : Result FileAnswer PutFailure) (h h' : Hosts) (old new : Disk)
    (contents : W → Option (List ℕ)) (before after : W) : Type 0 where
  pub result : Result ℕ HostRefusal
  pub done : Disk
  pub puts : PutsOnImage p bytes result h h' old done
  pub tells : TellsKeptFile result told done new contents before after

-- The volume couldn't be mounted.
abbrev pub FailsToMountIt : {W : Type 0} → Result FileAnswer PutFailure → Disk → Disk → (W → Option (List ℕ)) → W → W → Type 0
FailsToMountIt (Ok answer) old new contents before after = ⊥
FailsToMountIt (Err (failure.Command f)) old new contents before after = FailsToMount (Err f) old new contents before after
FailsToMountIt (Err failure.Unread) old new contents before after = ⊥

-- how it ends with an accepted volume: the file was to be made, or the volume couldn't be mounted, and nothing was read of the host's file
abbrev pub EndsAccepted : {W : Type 0} → Putting → ℕ → Result FileAnswer PutFailure → Hosts → Hosts → Disk → Disk →
    (W → Option (List ℕ)) → W → W → Type 0
EndsAccepted p bytes told h h' old new contents before after =
    (TellsOnImage p bytes told h h' old new contents before after)
    ⊎ ((FailsToMountIt told old new contents before after) × (h' ≡ h))

-- An image was verified and has no fault, and then it ended so.
pub record AnswersPutting {W : Type 0} (p : Putting) (bytes : ℕ) (told : Result FileAnswer PutFailure) (h h' : Hosts) (old new : Disk)
    (contents : W → Option (List ℕ)) (before after : W) : Type 0 where
  pub read : Disk
  pub verified : VerifiesFiles old read
  pub ends : EndsAccepted p bytes told h h' read new contents before after

-- The image isn't accepted, and nothing was read of the host's file.
pub record EndsUnasked {W : Type 0} (told : Result FileAnswer PutFailure) (h h' : Hosts) (old new : Disk)
    (contents : W → Option (List ℕ)) (before after : W) : Type 0 where
  pub answer : Result FileAnswer Failure
  pub told_is : told ≡ put_told answer
  pub ends : EndsFiles answer old new contents before after
  pub unread : h' ≡ h

-- how the command ends
abbrev pub EndsPutting : {W : Type 0} → Putting → ℕ → Result FileAnswer PutFailure → Hosts → Hosts → Disk → Disk →
    (W → Option (List ℕ)) → W → W → Type 0
EndsPutting p bytes told h h' old new contents before after =
    (EndsUnasked told h h' old new contents before after)
    ⊎ (AnswersPutting p bytes told h h' old new contents before after)
