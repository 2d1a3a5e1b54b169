use Rattle.std.proofs.Common.{◌<◌, sym, ◌∙◌, arith}
use Rattle.f11_bits.proofs.BitLemmas.{bit_below-true}
use Rattle.f11_bits.proofs.bits.first_set_in.Goals as goal

pub returns-then-is_set : goal.returns-then-is_set
returns-then-is_set c = record {
  above = omega arith;
  below = c.loop-k-test.true;
  before = c.loop-k.invariant;
  is_set = let below : c.loop-k.k < 4096 = omega (arith, c.loop-k-test.true, c.requires) in
      bit_below-true c.args.block.now 4096 c.loop-k.k below (sym c.if-is_set.true ∙ c.is_set.ensures);
}
