use Rattle.std.proofs.Common.{◌*◌, inl, inr, arith}
use Rattle.std.proofs.lemmas.Bool.{cases_lt}
use Rattle.f11_vfy.proofs.Surveying.Words.{masked-word}
use Rattle.f11_vfy.proofs.directories.blank.are_in.Goals as goal

pub loop-i-init : goal.loop-i-init
loop-i-init c = λ k from below before. absurd (omega (arith, from, before))

pub loop-i-preserved : goal.loop-i-preserved
loop-i-preserved c = λ k from below before. elim (cases_lt k (64 * c.loop-i.i)) [
  | inl earlier ↦ c.loop-i.invariant k from below earlier
  | inr here ↦ masked-word c.args.first c.args.end c.loop-i.i _ _ c.word.result c.mask-all.result k c.saturating_sub-low.ensures
      c.min-high.ensures c.mask-all.ensures c.if-word-all.false from below here before (c.word.ensures k)
]

pub returns : goal.returns
returns c = λ is k from below. c.loop-i.invariant k from below (omega (arith, below, c.loop-i-test.false, c.div_ceil-i-end.ensures))
