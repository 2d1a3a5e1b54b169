use Rattle.std.proofs.Common.{◌∙◌, ap, sym}
use Rattle.f11_vfy.specs.Surveying.Bits.{has, limit_of}
use Rattle.f11_vfy.proofs.Surveying.Free.{adds-bit, adds-no_bit}
use Rattle.f11_vfy.proofs.survey.space.add_bits.Goals as goal
use Rattle.f11_vfy.proofs.survey.space.add_bits.Goals.{then-is_set, else-is_set}

pub loop-k-init : goal.loop-k-init
loop-k-init c = record { limit = c.add_words.ensures.limit; adds = c.add_words.ensures.adds }

pub loop-k-preserved : goal.loop-k-preserved
loop-k-preserved c = record {
  limit = elim c.if-is_set.branch [
    | then-is_set w ↦ ap limit_of w.set-is ∙ w.insert.ensures.limit ∙ c.loop-k.invariant.limit
    | else-is_set w ↦ ap limit_of w.set-is ∙ c.loop-k.invariant.limit
  ];
  adds = λ j. elim c.if-is_set.branch [
    | then-is_set w ↦
        adds-bit _ c.args.block.now c.args.first c.loop-k.k j _ _ (sym w.if-is_set.true ∙ c.is_set.ensures) (c.loop-k.invariant.adds j)
        (ap (λ s. has s j) w.set-is ∙ w.insert.ensures.adds j)
    | else-is_set w ↦
        ap (λ s. has s j) w.set-is
        ∙ adds-no_bit _ c.args.block.now c.args.first c.loop-k.k j _ (sym w.if-is_set.false ∙ c.is_set.ensures)
        (c.loop-k.invariant.adds j)
  ];
}
