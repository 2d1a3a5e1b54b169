-- What opening a volume does.
use Rattle.std.specs.Prelude.{◌≡◌, ℕ, ◌+◌, ◌/◌, ◌<◌, IsTrue, List, length, slice_index}
use Rattle.f11_dev.specs.Disk.{Disk}
use Rattle.f11_dev.specs.Looked.{Looked}
use Rattle.f11_vfy.specs.Frames.Frame.{frame_reads}
use Rattle.f11_vfy.specs.declared.fault.ReadFault.{ReadFault}
use Rattle.f11_vfy.specs.declared.fault.ReadFault.TheVariants as read
use Rattle.f11_files.specs.Structure.{IsStructureFor}
use Rattle.f11_files.specs.declared.open.StructureFault.{StructureFault}
use Rattle.f11_files.specs.declared.open.StructureFault.TheVariants.{DeviceFault, Damaged, NoMemory}
use Rattle.f11_files.specs.declared.structure.Structure.{Structure}

-- no place is there twice
abbrev pub ArePlacesApart : List ℕ → Type 0
ArePlacesApart places = (i j : ℕ) → i < length places → j < length places → slice_index places i ≡ slice_index places j → i ≡ j

-- at most so many blocks are read: the candidates for the home block, the frame, and the blocks of the storage bitmap
abbrev pub opening_reads : Disk → ℕ
opening_reads disk = length disk.image / 256 + 1 + frame_reads disk + 126

-- What is kept of a volume was read.
pub record OpensStructure (s : Structure) (old new : Disk) : Type 0 where
  pub is_for : IsStructureFor s new
  pub looked : Looked old new (opening_reads old) 0

-- what a fault of reading is here
abbrev pub fault_of : ReadFault → StructureFault
fault_of read.DeviceFault = DeviceFault
fault_of read.NoMemory = NoMemory

-- A structural fault was met, which no honest disk has.
pub record MeetsDamage (old new : Disk) : Type 0 where
  pub never : ¬ IsTrue old.honest
  pub looked : Looked old new (opening_reads old) 0

-- It was not: a transfer failed, a structural fault was met, or there was no memory.
abbrev pub HasNoStructure : StructureFault → Disk → Disk → Type 0
HasNoStructure DeviceFault old new = Looked old new (opening_reads old) 1
HasNoStructure Damaged old new = MeetsDamage old new
HasNoStructure NoMemory old new = Looked old new (opening_reads old) 0
