-- What is done to the image of a volume by actions, and what is written (profile).
use Rattle.std.specs.Prelude.{◌≡◌, ◌≢◌, ◌⊎◌, ◌==◌, ℕ, ◌+◌, ◌∷◌, ◌++◌, ◌-◌, ◌≤◌, true, false, IsTrue, if◌then◌else◌, length, take, List}
use Rattle.std.specs.Prelude.{Option, Some, None, Result, Ok, Err}
use Rattle.f11_dev.specs.Disk.{Disk, with_transfer}
use Rattle.f11_dev.specs.declared.device.Device.{Ghosts}
use Rattle.f11_commands.specs.CopyCommand.{EndsFiles, FailsToMount, VerifiesFiles}
use Rattle.f11_commands.specs.Copying.{master_directory, operator}
use Rattle.f11_commands.specs.Output.{WriterTakes}
use Rattle.f11_commands.specs.declared.outcome.Failure.{Failure}
use Rattle.f11_commands.specs.declared.outcome.Failure.TheVariants.{CannotWrite, DeviceFault, NoMemory}
use Rattle.f11_commands.specs.declared.outcome.FileAnswer.{FileAnswer}
use Rattle.f11_commands.specs.declared.outcome.FileAnswer.TheVariants.{Done, Refused}
use Rattle.f11_catalog.specs.image_store.StoreOf.{store_of}
use Rattle.f11_fcp.specs.Accesses.{AccessTable, held_in, no_entries}
use Rattle.f11_fcp.specs.declared.volume.Volume.{Volume}
use Rattle.f11_fcp.specs.files.Answers.{is_fault, is_refused}
use Rattle.f11_fcp.specs.writes.Moments.{StandsAccepted}
use Rattle.f11_home.specs.Home.{HomeFields, IsHomeOf}
use Rattle.f11_making.specs.Asking.{plain}
use Rattle.f11_making.specs.Actions.{plan_of}
use Rattle.f11_making.specs.FilesPlan.{Carried}
use Rattle.f11_making.specs.Telling.{is_whole}
use Rattle.f11_making.specs.Volume.{of_volume}
use Rattle.f11_making.specs.declared.action.Action.{Action}
use Rattle.f11_store.specs.Store.{Store}
use Rattle.f11_store.specs.declared.refusals.Refusal.{Refusal}
use Rattle.f11_store.specs.declared.refusals.Refusal.TheVariants as refusal
use Rattle.f11_volume.specs.Verdict.{IsAccepted}
use Rattle.f11_actions.specs.Lines.{action_line, all_line, lines_of, refused_in, refused_one}
use Rattle.f11_actions.specs.Plans.{Acted, actions_in, all_of, goes_on, is_last}
use Rattle.f11_actions.specs.Tried.{AreTried, AreTriedSoFar, is_stopped}
use Rattle.f11_actions.specs.declared.behind.Behind.{Behind}

-- Actions were done on the volume of an image that has no fault. Where the disk is honest, unless a transfer failed, they went over the
-- plain store, from that of the image, in which nobody holds an access; the image has no fault then, nor has any that stood meanwhile, and
-- blocks that are fixed or were lost are as they were. A transfer failed exactly where a device fault ended them, and no other followed.
pub record ActsOnImage (actions : List Action) (result : Result (List Acted) Refusal) (old new : Disk) : Type 0 where
  pub home : HomeFields
  pub held : AccessTable
  pub home_is : IsTrue old.honest → IsHomeOf old.image home
  pub outcome : IsTrue old.honest → is_whole result ≡ true →
      Carried plain operator (all_of 0 master_directory actions) result (held_in no_entries (store_of old.image home))
      (held_in held (store_of new.image home))
  pub failures : new.failures ≡ old.failures + (if is_refused is_fault result then 1 else 0)
  pub quiet : is_refused is_fault result ≡ true → new.calm ≡ 0
  pub undamaged : IsTrue old.honest → result ≢ Err refusal.Damaged
  pub accepted : IsTrue old.honest → IsAccepted new.image
  pub meanwhile : StandsAccepted old new

-- what the command answers that did all of them
abbrev pub answer_for : ℕ → FileAnswer
answer_for refused = if refused == 0 then Done else Refused

abbrev pub answer_of : List Acted → FileAnswer
answer_of acted = answer_for (refused_in acted)

-- as which failure a refusal is told that ends them: a device fault, Damaged, which an honest disk never gives, and want of memory
abbrev pub failure_of : Refusal → Failure
failure_of refusal.NoMemory = NoMemory
failure_of _ = DeviceFault

-- as which an action is told that came to this, and none where the others are done behind it
abbrev pub ending : Result (Unit {0}) Refusal → Option Failure
ending (Ok x) = None
ending (Err e) = if is_last e then Some (failure_of e) else None

-- Actions were begun with on the volume of an image that has no fault: where the disk is honest, those so far went over the plain store,
-- from that of the image, in which nobody holds an access, and this came of them.
pub record BeginsOnImage (actions : List Action) (acted : List Acted) (old : Disk) : Type 0 where
  pub home : HomeFields
  pub home_is : IsTrue old.honest → IsHomeOf old.image home
  pub outcome : IsTrue old.honest →
      (s : Store) × Carried plain operator (all_of 0 master_directory actions) (Ok acted) (held_in no_entries (store_of old.image home)) s

-- The actions before one were done, each with its line, and that one ends them.
pub record EndsAmong {W : Type 0} (actions : List Action) (contents : W → Option (List ℕ)) (before after : W) : Type 0 where
  pub first : List Action
  pub one : Action
  pub left : List Action
  pub parts : actions ≡ first ++ one ∷ left
  pub acted : List Acted
  pub are : actions_in acted ≡ first
  pub lines : WriterTakes contents before after (lines_of acted)

-- what was written to the disk is kept, and so it is told; or the sync failed
abbrev pub Kept : Failure → Result FileAnswer Failure → Disk → Disk → Type 0
Kept f told done new = ((told ≡ Err f) × (new ≡ done)) ⊎ ((told ≡ Err DeviceFault) × (new ≡ with_transfer false done))

-- How it is told: all that were tried were done, or refused, each has its line, and so have they all, once what was written is kept; or it
-- isn't kept; or a refusal ended them; or it is told that the writer took no more, behind so many of them.
pub data TellsActions {W : Type 0} (how : Behind) (actions : List Action) (told : Result FileAnswer Failure) (old new : Disk)
    (contents : W → Option (List ℕ))
    (before after : W) : Type 0 where
  all_done : (acted : List Acted) → AreTried how actions acted → ActsOnImage (actions_in acted) (Ok acted) old new
      → told ≡ Ok (answer_of acted)
      → WriterTakes contents before after (lines_of acted ++ all_line (length acted - refused_in acted) (refused_in acted))
      → TellsActions how actions told old new contents before after
  unkept : (acted : List Acted) (done : Disk) → AreTried how actions acted → ActsOnImage (actions_in acted) (Ok acted) old done
      → new ≡ with_transfer false done
      → told ≡ Err DeviceFault → WriterTakes contents before after (lines_of acted)
      → TellsActions how actions told old new contents before after
  ended : (e : Refusal) (f : Failure) (done : Disk) → ActsOnImage actions (Err e) old done → ending (Err e) ≡ Some f
      → Kept f told done new → (among : EndsAmong actions contents before after) → BeginsOnImage among.first among.acted old
      → is_stopped how (refused_in among.acted) ≡ false
      → TellsActions how actions told old new contents before after
  unwritten : (n : ℕ) (acted : List Acted) (done : Disk) → n ≤ length actions → ActsOnImage (take n actions) (Ok acted) old done
      → AreTriedSoFar how acted
      → Kept CannotWrite told done new → TellsActions how actions told old new contents before after

-- with an accepted volume: they were done, or it couldn't be mounted
abbrev pub EndsAccepted : {W : Type 0} → Behind → List Action → Result FileAnswer Failure → Disk → Disk → (W → Option (List ℕ)) → W → W
    → Type 0
EndsAccepted how actions told old new contents before after =
    (TellsActions how actions told old new contents before after) ⊎ (FailsToMount told old new contents before after)

-- An image was verified and has no fault, and then it ended so.
pub record EndsVerified {W : Type 0} (how : Behind) (actions : List Action) (told : Result FileAnswer Failure) (old new : Disk)
    (contents : W → Option (List ℕ)) (before after : W) : Type 0 where
  pub read : Disk
  pub verified : VerifiesFiles old read
  pub ends : EndsAccepted how actions told read new contents before after

-- how the command ends: the image isn't accepted, or it was verified
abbrev pub EndsActions : {W : Type 0} → Behind → List Action → Result FileAnswer Failure → Disk → Disk → (W → Option (List ℕ)) → W → W
    → Type 0
EndsActions how actions told old new contents before after =
    (EndsFiles told old new contents before after) ⊎ (EndsVerified how actions told old new contents before after)

-- What was asked of a mounted volume for one action: it was carried out, or refused without ending them, and its line written.
pub record DoesOne {D W : Type 0} {met : Ghosts D} (a : Action) (refused : ℕ) (v w : Volume D met) (contents : W → Option (List ℕ))
    (before after : W) : Type 0 where
  pub result : Result (Unit {0}) Refusal
  pub on : goes_on result ≡ true
  pub refused_is : refused ≡ refused_one result
  pub carried : Carried of_volume operator (plan_of 0 master_directory a) result v w
  pub line : WriterTakes contents before after (action_line a result)

-- It was refused, and ends them, and nothing was written.
pub record EndsOne {D W : Type 0} {met : Ghosts D} (a : Action) (told : Failure) (v w : Volume D met) (before after : W) : Type 0 where
  pub refusal : Refusal
  pub told_is : ending (Err refusal) ≡ Some told
  pub carried : Carried of_volume operator (plan_of 0 master_directory a) (Err refusal) v w
  pub unwritten : after ≡ before

-- It is told that the writer took no more of its line.
pub record LosesLine {D : Type 0} {met : Ghosts D} (a : Action) (told : Failure) (v w : Volume D met) : Type 0 where
  pub told_is : told ≡ CannotWrite
  pub result : Result (Unit {0}) Refusal
  pub on : goes_on result ≡ true
  pub carried : Carried of_volume operator (plan_of 0 master_directory a) result v w

abbrev pub BreaksOne : {D W : Type 0} {met : Ghosts D} → Action → Failure → Volume D met → Volume D met → W → W → Type 0
BreaksOne a told v w before after = (EndsOne a told v w before after) ⊎ (LosesLine a told v w)

-- Each action was done in its turn, and has its line.
pub record DoesEach {D W : Type 0} {met : Ghosts D} (actions : List Action) (refused : ℕ) (v w : Volume D met)
    (contents : W → Option (List ℕ)) (before after : W) : Type 0 where
  pub acted : List Acted
  pub refused_is : refused ≡ refused_in acted
  pub few : refused ≤ length actions
  pub carried : Carried of_volume operator (all_of 0 master_directory actions) (Ok acted) v w
  pub lines : WriterTakes contents before after (lines_of acted)

-- Each of those that are tried was; so many weren't refused.
pub record DoesAll {D W : Type 0} {met : Ghosts D} (how : Behind) (actions : List Action) (done refused : ℕ) (v w : Volume D met)
    (contents : W → Option (List ℕ)) (before after : W) : Type 0 where
  pub first : List Action
  pub does : DoesEach first refused v w contents before after
  pub tried : AreTried how actions does.acted
  pub done_is : done ≡ length does.acted - refused

-- One of them was refused, and ended them.
pub record EndsAll {D W : Type 0} {met : Ghosts D} (how : Behind) (actions : List Action) (told : Failure) (v w : Volume D met)
    (contents : W → Option (List ℕ)) (before after : W) : Type 0 where
  pub refusal : Refusal
  pub told_is : ending (Err refusal) ≡ Some told
  pub carried : Carried of_volume operator (all_of 0 master_directory actions) (Err refusal) v w
  pub among : EndsAmong actions contents before after
  pub between : Volume D met
  pub begun : Carried of_volume operator (all_of 0 master_directory among.first) (Ok among.acted) v between
  pub on : is_stopped how (refused_in among.acted) ≡ false

-- It is told that the writer took no more, behind so many of them.
pub record LosesLines {D : Type 0} {met : Ghosts D} (how : Behind) (actions : List Action) (told : Failure) (v w : Volume D met)
    : Type 0 where
  pub told_is : told ≡ CannotWrite
  pub n : ℕ
  pub few : n ≤ length actions
  pub acted : List Acted
  pub carried : Carried of_volume operator (all_of 0 master_directory (take n actions)) (Ok acted) v w
  pub so_far : AreTriedSoFar how acted

abbrev pub BreaksOff : {D W : Type 0} {met : Ghosts D} → Behind → List Action → Failure → Volume D met → Volume D met
    → (W → Option (List ℕ)) → W → W → Type 0
BreaksOff how actions told v w contents before after =
    (EndsAll how actions told v w contents before after) ⊎ (LosesLines how actions told v w)

-- how the last line is told: the writer took it, or doesn't
abbrev pub TellsCount : {W : Type 0} → ℕ → ℕ → Result FileAnswer Failure → (W → Option (List ℕ)) → W → W → Type 0
TellsCount done refused told contents before after =
    ((told ≡ Ok (answer_for refused)) × WriterTakes contents before after (all_line done refused)) ⊎ (told ≡ Err CannotWrite)

-- and behind a sync, which may fail
abbrev pub TellsAll : {W : Type 0} → ℕ → ℕ → Result FileAnswer Failure → Disk → Disk → (W → Option (List ℕ)) → W → W → Type 0
TellsAll done refused told old new contents before after =
    ((new ≡ old) × TellsCount done refused told contents before after)
    ⊎ ((new ≡ with_transfer false old) × (told ≡ Err DeviceFault) × (after ≡ before))
