-- What reading a file tells of an RT-11 volume (profile).
use Rattle.std.specs.Prelude.{◌≡◌, ◌≢◌, ℕ, ◌<◌, ◌≤◌, Bool, true, false, List, All, Some, length, take}
use Rattle.std.specs.List.{slice_get}
use Rattle.f11_dev.specs.Disk.{Disk}
use Rattle.f11_dev.specs.declared.device.Device.{Ghosts}
use Rattle.rt11_volume.specs.Calls.{has_failed}
use Rattle.rt11_volume.specs.Files.{FailsToFindFile, HasFile, file_area, is_fault}
use Rattle.rt11_volume.specs.Store.{RtStore}
use Rattle.rt11_volume.specs.Verifying.Verdict.{IsSoundDisk}
use Rattle.rt11_volume.specs.declared.refusal.RtRefusal.{RtRefusal}
use Rattle.rt11_volume.specs.declared.refusal.RtRefusal.TheVariants.{Failed}
use Rattle.rt11_volume.specs.declared.volume.RtAccepted.{RtAccepted}
use Rattle.f11_flx.specs.Target.{Fares, rt_disk, rt_store}

-- Calls were made that write nothing, and whether the last of them met a device fault.
pub record Looks {E : Type 0} {met : Ghosts E} (disk : E → Disk) (fault : Bool) (old new : RtAccepted E met) : Type 0 where
  pub fares : Fares disk fault old new
  pub image : (rt_disk disk new).image ≡ (rt_disk disk old).image
  pub history : (rt_disk disk new).history ≡ (rt_disk disk old).history

-- The file of a name is there, and has these blocks.
pub record HasContents (name : List ℕ) (blocks : List (List ℕ)) (t : RtStore) : Type 0 where
  pub file : HasFile name t
  pub contents : (file_area file).contents ≡ blocks

-- where the volume is sound, and its file of a name has these blocks
abbrev pub WhereContents : {E : Type 0} {met : Ghosts E} → (E → Disk) → List ℕ → RtAccepted E met → (List (List ℕ) → Type 0) → Type 0
WhereContents disk name v Holds =
    IsSoundDisk (rt_disk disk v) → (contents : List (List ℕ)) → HasContents name contents (rt_store disk v) → Holds contents

-- The file was found, and has so many blocks.
pub record FindsRtFile {E : Type 0} {met : Ghosts E} (disk : E → Disk) (name : List ℕ) (blocks : ℕ)
    (old new : RtAccepted E met) : Type 0 where
  pub looks : Looks disk false old new
  pub alive : has_failed old ≡ false
  pub file : IsSoundDisk (rt_disk disk old) → HasFile name (rt_store disk old)
  pub length_is : WhereContents disk name old (λ contents. length contents ≡ blocks)
  pub whole : WhereContents disk name old (λ contents. All (λ b. length b ≡ 512) contents)

-- It was not found.
pub record FindsNoRtFile {E : Type 0} {met : Ghosts E} (disk : E → Disk) (name : List ℕ) (e : RtRefusal)
    (old new : RtAccepted E met) : Type 0 where
  pub looks : Looks disk (is_fault e) old new
  pub alive : has_failed old ≡ false → e ≢ Failed
  pub dead : has_failed old ≡ true → (e ≡ Failed) × (rt_disk disk new ≡ rt_disk disk old)
  pub why : FailsToFindFile e name (rt_disk disk old)

-- The block at a place of the file was read.
pub record ReadsPlace {E : Type 0} {met : Ghosts E} (disk : E → Disk) (name : List ℕ) (place : ℕ) (block : List ℕ)
    (old new : RtAccepted E met) : Type 0 where
  pub looks : Looks disk false old new
  pub size : length block ≡ 512
  pub is : WhereContents disk name old (λ contents. slice_get contents place ≡ Some block)

-- It was not: on a sound volume the file has none there, unless a transfer fails.
pub record FailsToReadPlace {E : Type 0} {met : Ghosts E} (disk : E → Disk) (name : List ℕ) (place : ℕ) (e : RtRefusal)
    (old new : RtAccepted E met) : Type 0 where
  pub looks : Looks disk (is_fault e) old new
  pub alive : has_failed old ≡ false → e ≢ Failed
  pub past : has_failed old ≡ false → is_fault e ≡ false → WhereContents disk name old (λ contents. length contents ≤ place)

-- Its first blocks were read.
pub record ReadsRtBlocks {E : Type 0} {met : Ghosts E} (disk : E → Disk) (name : List ℕ) (blocks : List (List ℕ))
    (old new : RtAccepted E met) : Type 0
  where
    pub looks : Looks disk false old new
    pub whole : All (λ b. length b ≡ 512) blocks
    pub are : WhereContents disk name old (λ contents. take (length blocks) contents ≡ blocks)

-- They were, but for the last of so many: on a sound volume the file has fewer, unless a transfer fails.
pub record StopsReadingRt {E : Type 0} {met : Ghosts E} (disk : E → Disk) (name : List ℕ) (many : ℕ) (e : RtRefusal)
    (old new : RtAccepted E met) : Type 0
  where
    pub looks : Looks disk (is_fault e) old new
    pub alive : has_failed old ≡ false → e ≢ Failed
    pub few : has_failed old ≡ false → is_fault e ≡ false → WhereContents disk name old (λ contents. length contents < many)
