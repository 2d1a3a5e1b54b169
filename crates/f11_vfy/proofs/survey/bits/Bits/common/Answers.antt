use Rattle.std.proofs.Common.{◌∙◌, arith}
use Rattle.f11_vfy.proofs.Surveying.Common.{common-none, common-more, common-all}
use Rattle.f11_vfy.proofs.survey.bits.Bits.common.Goals as goal

pub loop-i-init : goal.loop-i-init
loop-i-init c = record { limit = c.in_ok-both.ensures.limit; common = common-none _ _ _ c.in_ok-both.ensures.none }

pub returns : goal.returns
returns c =
    common-all _ _ _ c.loop-i.i (omega (arith, c.loop-i-test.false, c.div_ceil-i-end.ensures)) c.loop-i.invariant.limit
    c.loop-i.invariant.common

pub loop-i-preserved : goal.loop-i-preserved
loop-i-preserved c = record {
  limit = c.add_word.ensures.limit ∙ c.loop-i.invariant.limit;
  common = common-more _ _ _ _ c.loop-i.i _ _ c.loop-i.invariant.common c.word.ensures c.word-in-loop-i.ensures c.add_word.ensures.adds;
}
