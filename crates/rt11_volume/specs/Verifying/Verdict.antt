-- What the verifier of RT-11 volumes finds, and when an image is accepted (profile).
use Rattle.std.specs.Prelude.{ℕ, IsTrue}
use Rattle.f11_dev.specs.Disk.{Disk}
use Rattle.f11_dev.specs.Image.{Image}
use Rattle.rt11_volume.specs.Directory.{IsSized}
use Rattle.rt11_volume.specs.Verifying.Faults.{IsDirectoryFault}
use Rattle.rt11_volume.specs.Verifying.Notes.{IsDirectoryNote}

-- An image has this fault, by its code and two numbers: a directory of a wrong size, and then no other; or one of the directory.
pub data IsRtFault (image : Image) : ℕ → ℕ → ℕ → Type 0 where
  size_wrong : ¬ IsSized image → IsRtFault image 1 0 0
  of_directory : (code a b : ℕ) → IsSized image → IsDirectoryFault image code a b → IsRtFault image code a b

-- an image has this note, where its directory has the size that it should have
pub record IsRtNote (image : Image) (code a b : ℕ) : Type 0 where
  pub sized : IsSized image
  pub note : IsDirectoryNote image code a b

-- an image is accepted where it has no fault
abbrev pub IsRtAccepted : Image → Type 0
IsRtAccepted image = (code a b : ℕ) → ¬ IsRtFault image code a b

-- The disk is honest, and its image is accepted.
pub record IsSoundDisk (disk : Disk) : Type 0 where
  pub honest : IsTrue disk.honest
  pub accepted : IsRtAccepted disk.image
