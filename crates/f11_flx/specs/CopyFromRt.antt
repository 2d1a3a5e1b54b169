-- A copy from an RT-11 volume, over the plain stores of both (RSX-11M Utilities manual, FLX; the steps: profile).
use Rattle.std.specs.Prelude.{◌≡◌, ℕ, All, List, length, Some, None}
use Rattle.std.specs.List.{concat}
use Rattle.f11_store.specs.Store.{Store}
use Rattle.f11_store.specs.declared.files.FileId.{FileId}
use Rattle.f11_store.specs.declared.refusals.Refusal.{Refusal}
use Rattle.f11_store.specs.declared.refusals.Refusal.TheVariants.{VolumeFailed}
use Rattle.f11_dev.specs.Disk.{Disk}
use Rattle.rt11_volume.specs.Files.{FailsToFindFile, HasFile, file_area}
use Rattle.rt11_volume.specs.Store.{RtStore, rt_store_of}
use Rattle.rt11_volume.specs.Verifying.Verdict.{IsSoundDisk}
use Rattle.f11_making.specs.Asking.{Granted, Who, plain}
use Rattle.f11_flx.specs.Conversion.{Copy, copied_from_rt}
use Rattle.f11_flx.specs.declared.mode.CopyMode.{CopyMode}
use Rattle.f11_flx.specs.declared.refusal.FlxRefusal.{FlxRefusal}
use Rattle.f11_flx.specs.declared.refusal.FlxRefusal.TheVariants as refusal
use Rattle.f11_making.specs.Making.{new_id, Making, making_of, FailsToMakeFile, as_file}

-- An RT-11 file has a conversion to a file on Files-11, which is to be made of these blocks.
pub record HasMaking (m : CopyMode) (name : List ℕ) (t : RtStore) (making : Making) : Type 0 where
  pub file : HasFile name t
  pub copy : Copy
  pub converted : copied_from_rt m (file_area file).contents ≡ Some copy
  pub content_is : concat making.blocks ≡ copy.content
  pub whole : All (λ block. length block ≡ 512) making.blocks
  pub attr_is : making.attr ≡ copy.attr

-- The file was copied: one was made of its conversion, of so many blocks.
pub record CopiesFromRt (m : CopyMode) (name : List ℕ) (who : Who) (lun : ℕ) (dir : FileId) (to : List ℕ) (protection blocks : ℕ)
    (t : RtStore) (s s' : Store) : Type 0 where
  pub attr : List ℕ
  pub pieces : List (List ℕ)
  pub has : HasMaking m name t (as_file to dir protection attr pieces)
  pub blocks_are : length pieces ≡ blocks
  pub asked : Granted plain who (making_of (as_file to dir protection attr pieces) lun (new_id s)) s s'

-- It has a conversion, but the file isn't made.
pub record IsNotMade (m : CopyMode) (name : List ℕ) (who : Who) (lun : ℕ) (dir : FileId) (to : List ℕ) (protection : ℕ) (e : Refusal)
    (t : RtStore) (s s' : Store) : Type 0 where
  pub attr : List ℕ
  pub pieces : List (List ℕ)
  pub has : HasMaking m name t (as_file to dir protection attr pieces)
  pub fails : FailsToMakeFile (as_file to dir protection attr pieces) who lun (new_id s) e s s'

-- A line of it is too long.
pub record HasTooLongLine (m : CopyMode) (name : List ℕ) (t : RtStore) : Type 0 where
  pub file : HasFile name t
  pub unconverted : copied_from_rt m (file_area file).contents ≡ None

-- The copy is refused as the first step is that is refused; what was made is undone.
abbrev pub FailsToCopyFromRt : FlxRefusal → CopyMode → List ℕ → Who → ℕ → FileId → List ℕ → ℕ → Disk → Store → Store → Type 0
FailsToCopyFromRt (refusal.Files e) m name who lun dir to protection disk s s' =
    IsNotMade m name who lun dir to protection e (rt_store_of disk.image) s s'
FailsToCopyFromRt (refusal.Rt e) m name who lun dir to protection disk s s' = FailsToFindFile e name disk × (s' ≡ s)
FailsToCopyFromRt refusal.BadRecord m name who lun dir to protection disk s s' = ⊥
FailsToCopyFromRt refusal.LineTooLong m name who lun dir to protection disk s s' =
    HasTooLongLine m name (rt_store_of disk.image) × (s' ≡ s)
FailsToCopyFromRt refusal.Unread m name who lun dir to protection disk s s' = ⊥

-- How it is refused where a request had failed the Files-11 volume before: as the file isn't found or has no conversion, and else as
-- VolumeFailed.
abbrev pub FailsToCopySpent : FlxRefusal → CopyMode → List ℕ → Disk → Type 0
FailsToCopySpent (refusal.Files e) m name disk =
    (e ≡ VolumeFailed) × (IsSoundDisk disk → (making : Making) × HasMaking m name (rt_store_of disk.image) making)
FailsToCopySpent (refusal.Rt e) m name disk = IsSoundDisk disk → FailsToFindFile e name disk
FailsToCopySpent refusal.BadRecord m name disk = ⊥
FailsToCopySpent refusal.LineTooLong m name disk = IsSoundDisk disk → HasTooLongLine m name (rt_store_of disk.image)
FailsToCopySpent refusal.Unread m name disk = ⊥
