-- What making a fresh volume does to a disk, by its outcome.
use Rattle.std.specs.Prelude.{◌≡◌, ◌⊎◌, ℕ, List, false, length, true}
use Rattle.f11_dev.specs.Disk.{Disk, with_block_at, with_transfer}
use Rattle.f11_dev.specs.Went.{Went}
use Rattle.f11_volume.specs.layout.Fresh.{IsFreshBlock}
use Rattle.f11_volume.specs.layout.Layout.{label_of, IsLayoutOf}
use Rattle.f11_volume.specs.layout.Places.{CanBeMade}
use Rattle.f11_volume.specs.layout.declared.layout.Layout.{Layout}
use Rattle.f11_volume.specs.layout.declared.params.InitParams.{InitParams}
use Rattle.f11_vfy.specs.declared.fresh.InitError.{InitError}
use Rattle.f11_vfy.specs.declared.fresh.InitError.TheVariants.{BadParameter, DeviceFault}
use Rattle.f11_volume.specs.Fresh.{used_by, IsFreshVolume, MayStand}

-- A block of a fresh volume was written in its place.
pub record Lays (l : Layout) (lbn : ℕ) (old new : Disk) : Type 0 where
  pub block : List ℕ
  pub fresh : IsFreshBlock l lbn block
  pub is : new ≡ with_transfer true (with_block_at lbn block old)

-- That write failed: the block is as it was, or it was written.
pub record FailsToLay (l : Layout) (lbn : ℕ) (old new : Disk) : Type 0 where
  pub block : List ℕ
  pub fresh : IsFreshBlock l lbn block
  pub is : (new ≡ with_transfer false old) ⊎ (new ≡ with_transfer false (with_block_at lbn block old))

-- The front of a fresh volume was written: each block of it once, and no other. Meanwhile no candidate became a home block, until the
-- whole volume was there.
pub record MakesFreshVolume (l : Layout) (old new : Disk) : Type 0 where
  pub volume : IsFreshVolume l old.image new.image
  pub went : Went (MayStand l old.image) old new (used_by l) 0

-- A transfer failed.
abbrev pub FailsToMakeFreshVolume : Layout → Disk → Disk → Type 0
FailsToMakeFreshVolume l old new = Went (MayStand l old.image) old new (used_by l) 1

-- A volume can be made with these on a disk.
abbrev pub CanInit : InitParams → Disk → Type 0
CanInit p disk = CanBeMade (label_of p) p.slots p.max_files (length disk.image)

-- A fresh volume was made with these.
pub record Inits (p : InitParams) (old new : Disk) : Type 0 where
  pub can : CanInit p old
  pub layout : Layout
  pub layout_is : IsLayoutOf p (length old.image) layout
  pub makes : MakesFreshVolume layout old new

-- None can be made with these, and nothing was done.
pub record RefusesToInit (p : InitParams) (old new : Disk) : Type 0 where
  pub cannot : ¬ CanInit p old
  pub stays : new ≡ old

-- One could be made, and a transfer failed.
pub record FailsToInit (p : InitParams) (old new : Disk) : Type 0 where
  pub can : CanInit p old
  pub layout : Layout
  pub layout_is : IsLayoutOf p (length old.image) layout
  pub went : FailsToMakeFreshVolume layout old new

-- why no volume was made, and what was done to the device that comes back
abbrev pub HasFailed : {D : Type 0} → InitParams → Disk → (D → Disk) → InitError D → Type 0
HasFailed p old disk (BadParameter device) = RefusesToInit p old (disk device)
HasFailed p old disk (DeviceFault device) = FailsToInit p old (disk device)
