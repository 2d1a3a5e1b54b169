-- Laws of what a volume is, which show that its definitions say what is meant (profile).
use Rattle.std.specs.Prelude.{◌≡◌, ◌↔◌, ℕ, ◌<◌, ◌≤◌, length}
use Rattle.f11_chain.specs.home.Home.{HomeFields, IsHomeOf}
use Rattle.f11_volume.specs.Faults.{IsFramed, IsFrameFault, IsVolumeFault, HasIndexFile, HasOwnFiles, HasBitmapFile, HasControlBlock}
use Rattle.f11_volume.specs.Sound.{IsSoundVolume, HasSoundVolume, IsSoundImage}
use Rattle.f11_volume.specs.Verdict.{IsFault, IsAccepted}
use Rattle.f11_volume.specs.Volume.{Volume}
use Rattle.f11_dev.specs.Image.{Image, IsImage}
use Rattle.f11_layout.specs.declared.layout.Layout.{Layout}
use Rattle.f11_volume.specs.Fresh.{IsFreshVolume}

-- an image whose frame is as it should be has no fault of the frame
abbrev pub FrameHasNoFault : Type 0
FrameHasNoFault = (image : Image) (home : HomeFields) (code a : ℕ) → IsFramed image home → ¬ IsFrameFault image code a

-- a fault of the frame is the only fault
abbrev pub FrameFaultIsOnly : Type 0
FrameFaultIsOnly =
    (image : Image) (code a other b c : ℕ) → IsFrameFault image code a → IsFault image other b c → (code ≡ other) × (a ≡ b) × (c ≡ 0)

-- of an image with this home block, what the faults of the frame of codes below this one speak of is as it should be
pub record IsFramedBefore (image : Image) (home : HomeFields) (code : ℕ) : Type 0 where
  pub indexed : 2 < code → HasIndexFile image home
  pub own_files : 3 < code → HasOwnFiles image home
  pub bitmap : 4 < code → HasBitmapFile image home
  pub control : 5 < code → HasControlBlock image home

-- the fault of a frame is the first in the order of the codes
abbrev pub FrameFaultIsFirst : Type 0
FrameFaultIsFirst = (image : Image) (home : HomeFields) (code a : ℕ) → IsHomeOf image home → IsFrameFault image code a →
    IsFramedBefore image home code

-- a volume has no fault exactly where it is sound
abbrev pub FaultlessIsSound : Type 0
FaultlessIsSound = (v : Volume) → ((code a b : ℕ) → ¬ IsVolumeFault v code a b) ↔ IsSoundVolume v

-- an image is accepted exactly where it is sound
abbrev pub AcceptedIsSound : Type 0
AcceptedIsSound = (image : Image) → IsImage image → IsAccepted image ↔ IsSoundImage image

-- so an image with this home block is accepted exactly where its volume is sound
abbrev pub AcceptedHasSoundVolume : Type 0
AcceptedHasSoundVolume = (image : Image) (home : HomeFields) → IsImage image → IsHomeOf image home →
    IsAccepted image ↔ HasSoundVolume image home

-- an image on which a fresh volume was made is sound
abbrev pub FreshIsSound : Type 0
FreshIsSound = (l : Layout) (old new : Image) → IsImage new → l.blocks ≤ length new → IsFreshVolume l old new → IsSoundImage new
