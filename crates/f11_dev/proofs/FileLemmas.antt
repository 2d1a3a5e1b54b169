-- Any image may be what a file holds.
use Rattle.std.proofs.Common.{◌≡◌, ℕ, List, [], ◌∷◌, ◌++◌, length, replicate, true, refl, sym, ap, ◌∙◌, append_assoc}
use Rattle.std.proofs.Math.ListN.{set}
use Rattle.std.proofs.Math.Seq.{set-append_seam}
use Rattle.f11_bytes.specs.Block.{zero_block}
use Rattle.f11_dev.specs.Image.{Image}
use Rattle.f11_dev.specs.Written.{written_image}
use Rattle.f11_dev.specs.declared.written.Written.{Written, Nothing, Then}

-- one write more, which landed
abbrev then_written : Written → ℕ → List ℕ → Written
then_written earlier lbn block = Then record { marker = record {}; value = earlier } record {
  lbn = record { marker = record {}; value = lbn };
  block = record { marker = record {}; value = block };
  landed = record { marker = record {}; value = true };
}

-- the blocks behind those that stand already, written one after another
written_behind : (n : ℕ) (front back : Image) (writes : Written) → written_image n writes ≡ front ++ replicate (length back) zero_block
    → (all : Written) × (written_image n all ≡ front ++ back)
written_behind n front [] writes is = (writes, is)
written_behind n front (b ∷ back) writes is =
    let one : written_image n (then_written writes (length front) b) ≡ (front ++ b ∷ []) ++ replicate (length back) zero_block =
    ap (λ (i : Image). set i (length front) b) is ∙ set-append_seam front zero_block (replicate (length back) zero_block) b
    ∙ sym (append_assoc front (b ∷ []) (replicate (length back) zero_block)) in
    let rest = written_behind n (front ++ b ∷ []) back (then_written writes (length front) b) one in
    (rest.0, rest.1 ∙ append_assoc front (b ∷ []) back)

pub any_image_written : (image : Image) → (writes : Written) × (written_image (length image) writes ≡ image)
any_image_written image = written_behind (length image) [] image Nothing refl
