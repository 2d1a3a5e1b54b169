-- What the verifier finds, and when an image is accepted (profile).
use Rattle.std.specs.Prelude.{ℕ}
use Rattle.f11_dev.specs.Image.{Image}
use Rattle.f11_chain.specs.home.Home.{HomeFields}
use Rattle.f11_volume.specs.Faults.{IsFramed, IsFrameFault, IsVolumeFault}
use Rattle.f11_volume.specs.Notes.{IsVolumeNote}
use Rattle.f11_volume.specs.Volume.{volume_of}

-- An image has this fault, by its code and two numbers: one of the frame, which is then the only one, or one of the volume.
pub data IsFault (image : Image) : ℕ → ℕ → ℕ → Type 0 where
  of_frame : (code a : ℕ) → IsFrameFault image code a → IsFault image code a 0
  of_volume : (home : HomeFields) (code a b : ℕ) → IsFramed image home → IsVolumeFault (volume_of image home) code a b →
      IsFault image code a b

-- an image has this note, where its frame is as it should be
pub record IsNote (image : Image) (code a b : ℕ) : Type 0 where
  pub home : HomeFields
  pub framed : IsFramed image home
  pub note : IsVolumeNote image (volume_of image home) code a b

-- an image is accepted where it has no fault
abbrev pub IsAccepted : Image → Type 0
IsAccepted image = (code a b : ℕ) → ¬ IsFault image code a b
