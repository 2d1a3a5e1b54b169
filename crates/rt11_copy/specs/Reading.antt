-- What reading a file of an RT-11 volume, faulty or not, tells (RT-11 Volume and File Formats Manual, "Directory Entry").
use Rattle.std.specs.Prelude.{◌≡◌, ℕ, ◌+◌, ◌*◌, ◌<◌, IsTrue, List, length, Result, Ok, Err}
use Rattle.f11_dev.specs.Disk.{Disk}
use Rattle.f11_dev.specs.Image.{Image}
use Rattle.rt11_volume.specs.AnyDirectory.{blocks_from}
use Rattle.rt11_volume.specs.declared.any_entries.RtEntry.{RtEntry}
use Rattle.rt11_volume.specs.declared.directory.LookFault.{LookFault}
use Rattle.rt11_volume.specs.declared.directory.LookFault.TheVariants.{DeviceFault, NoMemory}
use Rattle.rt11_squeeze.specs.Telling.{date_told}

-- how many transfers failed, by the answer
abbrev pub look_faults : {T : Type 0} → Result T LookFault → ℕ
look_faults (Ok x) = 0
look_faults (Err DeviceFault) = 1
look_faults (Err NoMemory) = 0

-- each of so many blocks from one on is on a disk
abbrev pub HasArea : ℕ → ℕ → Disk → Type 0
HasArea first count disk = (place : ℕ) → place < count → first + place < length disk.image

-- So many blocks from one on were read: they are the disk's where it is honest.
pub record ReadsArea (first count : ℕ) (blocks : List (List ℕ)) (disk : Disk) : Type 0 where
  pub size : length blocks ≡ count
  pub blocks_are : IsTrue disk.honest → blocks ≡ blocks_from disk.image first count

-- the segment of an entry is on an image
abbrev pub HasSegment : RtEntry → Image → Type 0
HasSegment e image = 4 + 2 * e.segment + 1 < length image

-- The date of an entry and the blocks of its area were read: they are the disk's where it is honest.
pub record ReadsFile (e : RtEntry) (day : ℕ) (blocks : List (List ℕ)) (disk : Disk) : Type 0 where
  pub area : ReadsArea e.first e.blocks blocks disk
  pub date_is : IsTrue disk.honest → HasSegment e disk.image → day ≡ date_told disk.image e

-- so many transfers are made at most: the two blocks of its segment, and its own
abbrev pub read_transfers : ℕ → ℕ
read_transfers blocks = 2 + blocks
