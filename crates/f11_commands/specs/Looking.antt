-- What a look at a volume tells that is faulty or not (profile).
use Rattle.std.specs.Prelude.{◌≡◌, ℕ, IsTrue, Result, Err}
use Rattle.f11_catalog.specs.Records.{Reads}
use Rattle.f11_catalog.specs.chain.Calls.{table}
use Rattle.f11_catalog.specs.declared.fault.WalkFault.{WalkFault}
use Rattle.f11_catalog.specs.declared.fault.WalkFault.TheVariants as faults
use Rattle.f11_dev.specs.Disk.{Disk}
use Rattle.f11_dev.specs.Image.{Image}
use Rattle.f11_home.specs.Home.{HomeFields}
use Rattle.f11_index.specs.IndexFile.{Index, all_in_use, index_of}
use Rattle.f11_index.specs.Table.{Table, table_of}
use Rattle.f11_store.specs.declared.refusals.Refusal.{Refusal}
use Rattle.f11_commands.specs.AnyVolume.{CannotBeRead, FindsVolume, IsReadable}
use Rattle.f11_commands.specs.declared.name_list.NoNames.{NoNames}
use Rattle.f11_commands.specs.declared.name_list.NoNames.TheVariants.{Unreadable, Refused}
use Rattle.f11_commands.specs.declared.outcome.Failure.{Failure}
use Rattle.f11_commands.specs.declared.outcome.Failure.TheVariants.{DeviceFault, NoMemory, CannotWrite}
use Rattle.f11_commands.specs.declared.volume.VolumeFault.{VolumeFault}

-- what is asked of the files of an image: by the index file that takes each slot as in use, and its headers
abbrev pub Ask : Type 0 → Type 0
Ask T = Index → Image → Table → Result T Refusal

-- The index file of a volume was read, and the one that takes each slot as in use was made of it.
pub record FindsIndexes (index wide : Index) (old new : Disk) : Type 0 where
  pub home : HomeFields
  pub found : FindsVolume home index old new
  pub all_used : wide ≡ all_in_use index

-- A look at the files that an index file has, which was done, came to this.
pub record LooksFor {T : Type 0} (ask : Ask T) (index wide : Index) (told : Result T Refusal) (old new : Disk) : Type 0 where
  pub told_is : IsTrue old.honest → ask wide old.image (table index old) ≡ told
  pub reads : Reads old new 0

-- One at a volume that can be read, where a directory is read by its record though the bit of its slot is 0.
pub record FindsTold {T : Type 0} (ask : Ask T) (told : Result T Refusal) (old new : Disk) : Type 0 where
  pub home : HomeFields
  pub readable : IsTrue old.honest → IsReadable old.image home
  pub told_is : IsTrue old.honest → ask (all_in_use (index_of old.image home)) old.image (table_of old.image home) ≡ told
  pub reads : Reads old new 0

-- There is nothing to tell: the volume can't be read, by a fault that it has, or it is refused.
abbrev pub FindsNothing : {T : Type 0} → Ask T → NoNames → Disk → Disk → Type 0
FindsNothing ask Unreadable old new = (fault : VolumeFault) × CannotBeRead fault old new
FindsNothing ask (Refused refusal) old new = FindsTold ask (Err refusal) old new

-- how a command ends by a fault of such a look
abbrev pub failure_by : WalkFault → Failure
failure_by faults.DeviceFault = DeviceFault
failure_by faults.NoMemory = NoMemory

-- The look broke off: a transfer failed, or there was no memory.
abbrev pub LookFails : Failure → Disk → Disk → Type 0
LookFails DeviceFault old new = Reads old new 1
LookFails NoMemory old new = Reads old new 0
LookFails CannotWrite old new = ⊥
