-- Blocks that follow one another, and what reading several at once does to a disk.
use Rattle.std.specs.Prelude.{◌≡◌, ℕ, ◌+◌, ◌<◌, IsTrue, if◌then◌else◌, List, length, Result, OnOk, is_ok}
use Rattle.f11_dev.specs.Image.{Image, image_block}
use Rattle.f11_dev.specs.Disk.{Disk}
use Rattle.f11_dev.specs.Looked.{Looked}

-- the first so many of these blocks are those of the image from block lbn on
abbrev pub StandsAt : Image → ℕ → ℕ → List (List ℕ) → Type 0
StandsAt image lbn count blocks = (k : ℕ) → k < count → image_block image (lbn + k) ≡ image_block blocks k

-- Blocks were read at once: in at most one transfer a block, which change no block, and of which one failed, the last, where the whole
-- fails. They are an honest disk's blocks where it succeeds; where it fails nothing is known of them.
pub record ReadsRun {E : Type 0} (result : Result Unit E) (lbn : ℕ) (into : List (List ℕ)) (old new : Disk) : Type 0 where
  pub looks : Looked old new (length into) (if is_ok result then 0 else 1)
  pub gives : OnOk result (IsTrue old.honest → StandsAt old.image lbn (length into) into)
