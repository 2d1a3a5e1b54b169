-- What commands do that serve any RT-11 volume, faulty or not (profile).
use Rattle.std.specs.Prelude.{◌≡◌, ◌⊎◌, IsTrue, if◌then◌else◌, ◌&&◌, ◌+◌, ◌++◌, nat_le, nat_lt, List, [], ℕ, codes, Option, Result, Ok, Err}
use Rattle.std.specs.Prelude.{⊤}
use Rattle.std.specs.Fmt.{decimal}
use Rattle.std.specs.List.{flat_map}
use Rattle.f11_dev.specs.Disk.{Disk}
use Rattle.f11_dev.specs.Looked.{Looked}
use Rattle.rt11_volume.specs.BadBlocks.{FailsToReadBadBlocks, ReadsBadBlocks}
use Rattle.rt11_volume.specs.Calls.{most_transfers}
use Rattle.rt11_volume.specs.Directory.{IsSized}
use Rattle.rt11_volume.specs.Surveying.{ReadsDirectory}
use Rattle.rt11_volume.specs.declared.any_entries.RtEntry.{RtEntry}
use Rattle.rt11_volume.specs.declared.directory.LookFault.{LookFault}
use Rattle.rt11_volume.specs.declared.directory.LookFault.TheVariants as look
use Rattle.rt11_volume.specs.declared.any_state.RtState.{RtState}
use Rattle.rt11_volume.specs.declared.any_state.RtState.TheVariants.{Faulty}
use Rattle.f11_commands.specs.CopyCommand.{EndsRt}
use Rattle.f11_commands.specs.declared.outcome.FileAnswer.{FileAnswer}
use Rattle.f11_commands.specs.declared.outcome.FileAnswer.TheVariants.{Done}
use Rattle.f11_commands.specs.declared.outcome.Failure.{Failure}
use Rattle.f11_commands.specs.declared.outcome.Failure.TheVariants.{DeviceFault, NoMemory, CannotWrite}
use Rattle.f11_commands.specs.declared.rt_any.RtServed.{RtServed}

-- what is answered where all is done, on a volume that is so
abbrev pub done_so : RtState → RtServed
done_so state = record { answer = Done; state = state }

-- how a command's work ended, on a volume that is so
abbrev pub served_so : RtState → Result FileAnswer Failure → Result RtServed Failure
served_so state (Ok answer) = Ok (record { answer = answer; state = state })
served_so state (Err failure) = Err failure

-- a report was to be written: the directory hasn't the size that it should have
abbrev pub IsUnsized : Result FileAnswer Failure → Disk → Type 0
IsUnsized (Ok answer) disk = IsTrue disk.honest → ¬ IsSized disk.image
IsUnsized (Err CannotWrite) disk = IsTrue disk.honest → ¬ IsSized disk.image
IsUnsized (Err DeviceFault) disk = ⊤
IsUnsized (Err NoMemory) disk = ⊤

-- The directory can't be read, and the report of `rt-vfy` was written; or that couldn't be written; or a transfer failed, or there was no
-- memory, and nothing was written.
pub record EndsUnread {W : Type 0} (told : Result FileAnswer Failure) (old new : Disk) (contents : W → Option (List ℕ))
    (before after : W) : Type 0 where
  pub why : IsUnsized told old
  pub ends : EndsRt told old new contents before after

-- The directory was read, and the table of bad blocks.
pub record ReadsVolume (state : RtState) (entries : List RtEntry) (bad : List ℕ) (old new : Disk) : Type 0 where
  pub mid : Disk
  pub directory : ReadsDirectory state entries old mid
  pub table : ReadsBadBlocks bad mid new

-- as which failure it is told that the table couldn't be read
abbrev pub look_failure : LookFault → Failure
look_failure look.DeviceFault = DeviceFault
look_failure look.NoMemory = NoMemory

-- The directory was read, and the table couldn't be.
pub record LacksTable {W : Type 0} (told : Result FileAnswer Failure) (old new : Disk) (before after : W) : Type 0 where
  pub mid : Disk
  pub directory : Looked old mid most_transfers 0
  pub fault : LookFault
  pub fails : FailsToReadBadBlocks fault mid new
  pub told_is : told ≡ Err (look_failure fault)
  pub untold : after ≡ before

-- how a command ends where directory or table can't be read
abbrev pub EndsUnserved : {W : Type 0} → Result FileAnswer Failure → Disk → Disk → (W → Option (List ℕ)) → W → W → Type 0
EndsUnserved told old new contents before after = (EndsUnread told old new contents before after) ⊎ (LacksTable told old new before after)

-- The directory or the table of bad blocks can't be read.
pub record CannotServe {W : Type 0} (served : Result RtServed Failure) (old new : Disk) (contents : W → Option (List ℕ))
    (before after : W) : Type 0 where
  pub told : Result FileAnswer Failure
  pub ends : EndsUnserved told old new contents before after
  pub served_is : served ≡ served_so Faulty told

-- what is told of a bad block where it is one of an area's
abbrev pub replaced_mark : ℕ → ℕ → ℕ → List ℕ
replaced_mark first blocks n =
    if nat_le first n && nat_lt n (first + blocks) then codes " block " ++ (decimal n ++ codes " replaced") else []

-- which blocks of an area are bad, and others stand for them
abbrev pub replaced_text : List ℕ → ℕ → ℕ → List ℕ
replaced_text bad first blocks = flat_map (replaced_mark first blocks) bad
