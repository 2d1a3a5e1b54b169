-- What making, writing and deleting a file tells of an RT-11 volume (profile).
use Rattle.std.specs.Prelude.{◌≡◌, ◌≢◌, ℕ, ◌+◌, ◌<◌, ◌≤◌, suc, ◌||◌, Bool, true, false, if◌then◌else◌, List, [], ◌∷◌, ◌++◌, All, length, ⊤}
use Rattle.f11_dev.specs.Disk.{Disk}
use Rattle.f11_dev.specs.Image.{Image, image_block}
use Rattle.f11_dev.specs.Went.{Went}
use Rattle.f11_dev.specs.declared.device.Device.{Ghosts}
use Rattle.rt11_volume.specs.Calls.{has_failed, volume_device}
use Rattle.rt11_volume.specs.Files.{is_fault}
use Rattle.rt11_volume.specs.Laws.{HasGone, HasMade, HasReplaced}
use Rattle.rt11_volume.specs.Named.{files_named}
use Rattle.rt11_volume.specs.Store.{Area, RtStore, rt_store_of}
use Rattle.rt11_volume.specs.Verifying.Verdict.{IsSoundDisk}
use Rattle.rt11_volume.specs.declared.refusal.RtRefusal.{RtRefusal}
use Rattle.rt11_volume.specs.declared.refusal.RtRefusal.TheVariants.{Failed}
use Rattle.rt11_volume.specs.declared.volume.RtAccepted.{RtAccepted}
use Rattle.f11_flx.specs.CopyToRt.{FailsToMake, HasEmptied, HasSameDirectory, LiesInFirstArea}
use Rattle.f11_flx.specs.declared.refusal.FlxRefusal.{FlxRefusal}
use Rattle.f11_flx.specs.declared.refusal.FlxRefusal.TheVariants.{Rt}

-- the disk of a volume, and its store
abbrev pub rt_disk : {E : Type 0} {met : Ghosts E} → (E → Disk) → RtAccepted E met → Disk
rt_disk disk v = disk (volume_device v)

abbrev pub rt_store : {E : Type 0} {met : Ghosts E} → (E → Disk) → RtAccepted E met → RtStore
rt_store disk v = rt_store_of (rt_disk disk v).image

-- So many transfers were made at most, and so many failed.
abbrev pub MakesTransfers : Disk → Disk → ℕ → ℕ → Type 0
MakesTransfers old new most faults = Went (λ (image : Image). ⊤) old new most faults

-- a file is made in so many at most
abbrev pub create_transfers : ℕ
create_transfers = 70

-- blocks 0 to 5, which lie before the directory, are as they were
abbrev pub KeepsFront : Image → Image → Type 0
KeepsFront old new = (lbn : ℕ) → lbn < 6 → image_block new lbn ≡ image_block old lbn

-- They are in each image that stood meanwhile, and in the last.
pub record SparesFront (old new : Disk) : Type 0 where
  pub since : List Image
  pub history : new.history ≡ since ++ old.history
  pub each : All (KeepsFront old.image) since
  pub last : KeepsFront old.image new.image

-- Calls were made of the volume, and whether the last of them met a device fault: then none followed, and the volume has failed. Of a
-- sound disk blocks 0 to 5 are spared.
pub record Fares {E : Type 0} {met : Ghosts E} (disk : E → Disk) (fault : Bool) (old new : RtAccepted E met) : Type 0 where
  pub failures : (rt_disk disk new).failures ≡ (rt_disk disk old).failures + (if fault then 1 else 0)
  pub quiet : fault ≡ true → (rt_disk disk new).calm ≡ 0
  pub honest : (rt_disk disk new).honest ≡ (rt_disk disk old).honest
  pub next : has_failed new ≡ (has_failed old || fault)
  pub front : IsSoundDisk (rt_disk disk old) → SparesFront (rt_disk disk old) (rt_disk disk new)

-- Blocks of the file of a name were written one after another, from this place on.
abbrev pub ReplacesRtBlocks : List ℕ → ℕ → List (List ℕ) → RtStore → RtStore → Type 0
ReplacesRtBlocks name place [] t t' = t' ≡ t
ReplacesRtBlocks name place (block ∷ more) t t' =
    (between : RtStore) × (HasReplaced name place block t between) × (ReplacesRtBlocks name (suc place) more between t')

-- The first file of the name has so many blocks.
pub record HasRtBlocks (name : List ℕ) (blocks : ℕ) (t : RtStore) : Type 0 where
  pub file : Area
  pub more : List Area
  pub named : files_named name t ≡ file ∷ more
  pub blocks_are : length file.contents ≡ blocks

-- A file was made.
pub record Makes {E : Type 0} {met : Ghosts E} (disk : E → Disk) (name : List ℕ) (blocks day : ℕ)
    (old new : RtAccepted E met) : Type 0 where
  pub fares : Fares disk false old new
  pub alive : has_failed old ≡ false
  pub few : blocks ≤ 65535
  pub sound : IsSoundDisk (rt_disk disk old) → IsSoundDisk (rt_disk disk new)
  pub made : IsSoundDisk (rt_disk disk old) → HasMade name blocks day (rt_store disk old) (rt_store disk new)
  pub lies : IsSoundDisk (rt_disk disk old) → LiesInFirstArea name blocks day (rt_store disk old) (rt_store disk new)

-- A call was refused that would have changed the volume.
pub record Refused {E : Type 0} {met : Ghosts E} (disk : E → Disk) (e : RtRefusal) (old new : RtAccepted E met) : Type 0 where
  pub fares : Fares disk (is_fault e) old new
  pub stays : is_fault e ≡ false → (rt_disk disk new).image ≡ (rt_disk disk old).image
  pub alive : has_failed old ≡ false → e ≢ Failed

-- No file was made; on a volume that had failed nothing is done.
pub record FailsMaking {E : Type 0} {met : Ghosts E} (disk : E → Disk) (name : List ℕ) (blocks : ℕ) (e : RtRefusal)
    (old new : RtAccepted E met) : Type 0 where
  pub refused : Refused disk e old new
  pub dead : has_failed old ≡ true → (e ≡ Failed) × (rt_disk disk new ≡ rt_disk disk old)
  pub why : FailsToMake e name blocks (rt_disk disk old)

-- Blocks of the file were written, from this place on.
pub record Puts {E : Type 0} {met : Ghosts E} (disk : E → Disk) (name : List ℕ) (place : ℕ) (blocks : List (List ℕ))
    (old new : RtAccepted E met) : Type 0 where
  pub fares : Fares disk false old new
  pub sound : IsSoundDisk (rt_disk disk old) → IsSoundDisk (rt_disk disk new)
  pub replaced : IsSoundDisk (rt_disk disk old) → ReplacesRtBlocks name place blocks (rt_store disk old) (rt_store disk new)
  pub directory : IsSoundDisk (rt_disk disk old) → HasSameDirectory (rt_store disk old) (rt_store disk new)

-- A block was not written: on a sound volume each of the file's blocks can be, unless a transfer fails.
pub record FailsPutting {E : Type 0} {met : Ghosts E} (disk : E → Disk) (name : List ℕ) (place : ℕ) (e : RtRefusal)
    (old new : RtAccepted E met) : Type 0 where
  pub refused : Refused disk e old new
  pub past : IsSoundDisk (rt_disk disk old) → has_failed old ≡ false → is_fault e ≡ false →
      (blocks : ℕ) → HasRtBlocks name blocks (rt_store disk old) → blocks ≤ place

-- The file was deleted.
pub record DeletesRtFile {E : Type 0} {met : Ghosts E} (disk : E → Disk) (name : List ℕ) (old new : RtAccepted E met) : Type 0 where
  pub fares : Fares disk false old new
  pub sound : IsSoundDisk (rt_disk disk old) → IsSoundDisk (rt_disk disk new)
  pub gone : IsSoundDisk (rt_disk disk old) → HasGone name (rt_store disk old) (rt_store disk new)
  pub emptied : IsSoundDisk (rt_disk disk old) → HasEmptied name (rt_store disk old) (rt_store disk new)

-- It was not written, since no file has so many blocks, or for that.
pub record RefusesBlock {E : Type 0} {met : Ghosts E} (disk : E → Disk) (name : List ℕ) (place : ℕ) (e : FlxRefusal)
    (old new : RtAccepted E met) : Type 0 where
  pub refusal : RtRefusal
  pub is : e ≡ Rt refusal
  pub refused : Refused disk refusal old new
  pub past : IsSoundDisk (rt_disk disk old) → has_failed old ≡ false → is_fault refusal ≡ false →
      (blocks : ℕ) → blocks ≤ 65535 → HasRtBlocks name blocks (rt_store disk old) → blocks ≤ place

-- The file was not deleted: on a sound volume one that is there and isn't protected is, unless a transfer fails.
pub record FailsDeleting {E : Type 0} {met : Ghosts E} (disk : E → Disk) (name : List ℕ) (e : RtRefusal)
    (old new : RtAccepted E met) : Type 0 where
  pub refused : Refused disk e old new
  pub protected : IsSoundDisk (rt_disk disk old) → has_failed old ≡ false → is_fault e ≡ false →
      (file : Area) (more : List Area) → files_named name (rt_store disk old) ≡ file ∷ more → file.protected ≡ true
