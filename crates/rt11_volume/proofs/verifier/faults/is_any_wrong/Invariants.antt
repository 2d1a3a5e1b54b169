use Rattle.std.proofs.Common.{◌≡◌, ◌<◌, ℕ, false}
use Rattle.f11_dev.specs.Image.{Image}
use Rattle.rt11_volume.specs.Directory.{is_extra_wrong}
use Rattle.rt11_volume.specs.InHand.{visits}
use Rattle.rt11_volume.specs.Verifying.Scans.{number_at}
use Rattle.rt11_volume.proofs.verifier.faults.is_any_wrong.Given as goal

-- none so far
abbrev pub invariant-loop-j : goal.invariant-loop-j
invariant-loop-j l = (image : Image) → l.visited ≡ visits image → (k : ℕ) → k < l.j → is_extra_wrong image (number_at image k) ≡ false
