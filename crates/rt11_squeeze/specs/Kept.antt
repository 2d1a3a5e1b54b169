-- What stays of the files of an RT-11 volume while one of them is moved (RT-11 System User's Guide, SQUEEZE; profile: what a stop leaves).
use Rattle.std.specs.Prelude.{◌≡◌, ℕ, ◌≤◌, Bool, List, length, map, Some}
use Rattle.std.specs.List.{slice_get, range_with_len}
use Rattle.f11_dev.specs.Disk.{Disk}
use Rattle.f11_dev.specs.Image.{Image, image_block}
use Rattle.f11_dev.specs.declared.device.Device.{Ghosts}
use Rattle.rt11_volume.specs.Calls.{volume_device}
use Rattle.rt11_volume.specs.Directory.{data_start}
use Rattle.rt11_volume.specs.Named.{files_named}
use Rattle.rt11_volume.specs.Store.{Area, RtStore, rt_store_of}
use Rattle.rt11_volume.specs.Verifying.Verdict.{IsSoundDisk}
use Rattle.rt11_volume.specs.declared.volume.RtAccepted.{RtAccepted}

-- the disk of a volume, and its store
abbrev pub volume_disk : {D : Type 0} {met : Ghosts D} → (D → Disk) → RtAccepted D met → Disk
volume_disk disk v = disk (volume_device v)

abbrev pub volume_store : {D : Type 0} {met : Ghosts D} → (D → Disk) → RtAccepted D met → RtStore
volume_store disk v = rt_store_of (volume_disk disk v).image

-- What a file is, wherever it lies: its date, whether it is protected, and its blocks.
pub record FileFacts : Type 0 where
  pub date : ℕ
  pub protected : Bool
  pub blocks : List (List ℕ)

-- what an area's file is
abbrev pub facts_of : Area → FileFacts
facts_of a = record { date = a.date; protected = a.protected; blocks = a.contents }

-- the files of each name are those that there were, wherever they lie
abbrev pub HasSameFiles : RtStore → RtStore → Type 0
HasSameFiles old new = (name : List ℕ) → map facts_of (files_named name new) ≡ map facts_of (files_named name old)

-- The blocks stand in a row on an image.
pub record StandOn (blocks : List (List ℕ)) (image : Image) : Type 0 where
  pub start : ℕ
  pub blocks_are : map (image_block image) (range_with_len start (length blocks)) ≡ blocks

-- the blocks of each file of a store stand in a row on an image
abbrev pub HasBlocksOf : RtStore → Image → Type 0
HasBlocksOf store image =
    (name : List ℕ) (k : ℕ) (file : Area) → slice_get (files_named name store) k ≡ Some file → StandOn file.contents image

-- each image that stands while a volume is worked on has the blocks of each file that there was
abbrev pub SparesFiles : Disk → Image → Type 0
SparesFiles old image = IsSoundDisk old → HasBlocksOf (rt_store_of old.image) image

-- each block behind the directory is as it was
abbrev pub KeepsBehind : Image → Image → Type 0
KeepsBehind old image = (lbn : ℕ) → data_start old ≤ lbn → image_block image lbn ≡ image_block old lbn

-- so it is on each image that stands while a directory is written
abbrev pub SparesBehind : Disk → Image → Type 0
SparesBehind old image = IsSoundDisk old → KeepsBehind old.image image
