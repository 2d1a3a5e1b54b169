-- What commands do that serve any volume, faulty or not (profile).
use Rattle.std.specs.Prelude.{◌≡◌, ◌↔◌, ℕ, false, IsTrue, List, Bool, Option, Result, Ok, Err}
use Rattle.std.specs.Io.KnownBytes.{Keeps}
use Rattle.f11_catalog.specs.Listing.{id_entered}
use Rattle.f11_catalog.specs.Records.{Reads}
use Rattle.f11_dev.specs.Disk.{Disk}
use Rattle.f11_dev.specs.Image.{Image}
use Rattle.f11_dev.specs.Looked.{Looked}
use Rattle.f11_home.specs.Home.{HomeFields, IsHomeOf}
use Rattle.f11_index.specs.IndexFile.{Index}
use Rattle.f11_index.specs.Kept.{IsIndexFor}
use Rattle.f11_index.specs.Sound.{IsIndexFile}
use Rattle.f11_index.specs.Table.{Table}
use Rattle.f11_store.specs.declared.files.FileId.{FileId}
use Rattle.f11_store.specs.declared.refusals.Refusal.{Refusal}
use Rattle.f11_volume.specs.Verdict.{IsAccepted}
use Rattle.f11_commands.specs.Copying.{master_directory}
use Rattle.f11_commands.specs.DumpCommand.{HasFault, fault_line, index_reads}
use Rattle.f11_commands.specs.Output.{WriterTakes}
use Rattle.f11_commands.specs.declared.outcome.Answer.{Answer}
use Rattle.f11_commands.specs.declared.outcome.Answer.TheVariants.{Fault}
use Rattle.f11_commands.specs.declared.outcome.Failure.{Failure}
use Rattle.f11_commands.specs.declared.outcome.Failure.TheVariants.{DeviceFault, NoMemory, CannotWrite}
use Rattle.f11_commands.specs.declared.volume.VolumeFault.{VolumeFault}
use Rattle.f11_commands.specs.declared.volume.VolumeFault.TheVariants.{NoHome, IndexMisplaced, PastSlots}

-- what comes next, where nothing was refused before
abbrev pub unless_refused : {A B : Type 0} → (A → Result B Refusal) → Result A Refusal → Result B Refusal
unless_refused next (Ok given) = next given
unless_refused next (Err refusal) = Err refusal

-- the identification that the master file directory has under a directory's name, or why it has none
abbrev pub directory_named : Index → Image → Table → List ℕ → Result FileId Refusal
directory_named wide image t directory = id_entered wide image t master_directory directory

-- The volume was verified: where the disk is honest, it is accepted exactly where it was found to have no fault.
pub record IsVerified (faulty : Bool) (disk : Disk) : Type 0 where
  pub verdict : IsTrue disk.honest → (faulty ≡ false) ↔ IsAccepted disk.image

-- The home block and the index file of a volume are as they should be, whatever else is.
pub record IsReadable (image : Image) (home : HomeFields) : Type 0 where
  pub is_home : IsHomeOf image home
  pub index_file : IsIndexFile image home

-- The index file of a volume was read.
pub record FindsVolume (home : HomeFields) (index : Index) (old new : Disk) : Type 0 where
  pub readable : IsTrue old.honest → IsReadable old.image home
  pub is_for : IsIndexFor index home new
  pub looked : Looked old new (index_reads old) 0

-- a fault hinders reading: there is no home block, or the index file isn't as it should be; that of a bit past the slots doesn't
abbrev pub Hinders : VolumeFault → Type 0
Hinders NoHome = Unit {0}
Hinders IndexMisplaced = Unit {0}
Hinders (PastSlots n) = ⊥

-- A volume can't be read, by a fault that it has.
pub record CannotBeRead (fault : VolumeFault) (old new : Disk) : Type 0 where
  pub hinders : Hinders fault
  pub has : IsTrue old.honest → HasFault old.image fault
  pub reads : Reads old new 0

-- The line of that fault was written.
pub record TellsFault {W : Type 0} (answer : Answer) (old new : Disk) (contents : W → Option (List ℕ)) (before after : W) : Type 0 where
  pub is_fault : answer ≡ Fault
  pub fault : VolumeFault
  pub hindered : CannotBeRead fault old new
  pub takes : WriterTakes contents before after (fault_line fault)

-- The volume couldn't be served: a transfer failed, or the writer takes no more, and then a part of the lines may be written; or there was
-- no memory, and nothing was.
abbrev pub FailsToServe : {W : Type 0} → Failure → Disk → Disk → (W → Option (List ℕ)) → W → W → Type 0
FailsToServe DeviceFault old new contents before after = Reads old new 1
FailsToServe NoMemory old new contents before after = Reads old new 0 × Keeps (contents before) (contents after)
FailsToServe CannotWrite old new contents before after = Reads old new 0
