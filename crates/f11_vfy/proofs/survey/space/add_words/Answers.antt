use Rattle.std.proofs.Common.{◌∙◌, ◌*◌, refl, arith}
use Rattle.f11_vfy.proofs.Surveying.Free.{adds-none}
use Rattle.f11_vfy.proofs.Surveying.FreeWords.{word-added, word-put-on}
use Rattle.f11_vfy.proofs.survey.space.add_words.Goals as goal

pub loop-i-init : goal.loop-i-init
loop-i-init c = record { limit = refl; adds = λ j. adds-none _ c.args.block.now c.args.first j }

pub loop-i-preserved : goal.loop-i-preserved
loop-i-preserved c = record {
  limit = c.add_word.ensures.limit ∙ c.loop-i.invariant.limit;
  adds = λ j. word-put-on _ _ _ _ _ _ (c.loop-i.invariant.adds j)
      (word-added c.args.block.now c.args.first c.loop-i.i _ j c.requires.word (c.from.ensures ∙ c.read_word-word.ensures)
      (omega (arith, c.from.ensures, c.read_word-word.type_inv)) (c.fits-block (2 * c.loop-i.i))) (c.add_word.ensures.adds j);
}
