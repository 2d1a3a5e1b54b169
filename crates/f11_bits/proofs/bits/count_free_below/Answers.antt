use Rattle.std.proofs.Common.{refl, sym, ◌∙◌, arith}
use Rattle.f11_bits.specs.Bitmap.{count_below}
use Rattle.f11_bits.proofs.BitLemmas.{count_below-pass, count_below-fail}
use Rattle.f11_bits.proofs.bits.count_free_below.Goals as goal
use Rattle.f11_bits.proofs.bits.count_free_below.Goals.{then-is_set, else-is_set}

pub loop-k-init : goal.loop-k-init
unfolding count_below
loop-k-init c = record { so_far = refl; few = omega arith }

pub loop-k-preserved : goal.loop-k-preserved
loop-k-preserved c =
    elim c.if-is_set.branch [
      | then-is_set w ↦ record {
        so_far = w.count-is ∙ count_below-pass _ _ _ c.loop-k.invariant.so_far
            (sym w.if-is_set.true ∙ c.is_set.ensures);
        few = omega arith;
      }
      | else-is_set w ↦ record {
        so_far = w.count-is ∙ count_below-fail _ _ _ c.loop-k.invariant.so_far
            (sym w.if-is_set.false ∙ c.is_set.ensures);
        few = omega arith;
      }
    ]
