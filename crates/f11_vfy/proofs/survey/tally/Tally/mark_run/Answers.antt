use Rattle.std.proofs.Common.{◌∙◌, refl, arith}
use Rattle.f11_vfy.proofs.Surveying.Tally.{shows_same}
use Rattle.f11_vfy.proofs.Surveying.Words.{run-none, run-more, run-all, run-inside}
use Rattle.f11_vfy.proofs.survey.tally.Tally.mark_run.Goals as goal

pub loop-i-init : goal.loop-i-init
loop-i-init c = record {
  limit = refl;
  shows = λ f s. shows_same _ f _ (λ x. run-none c.args.first c.args.end (f x) x) s;
}

pub mark_word-requires-clause-inside : goal.mark_word-requires-clause-inside
mark_word-requires-clause-inside c = λ l is.
    let inside = run-inside c.args.first c.args.end c.loop-i.i _ _ c.mask.result l c.requires.order c.loop-i.auto.i
    (omega (arith, c.loop-i-test.true, c.div_ceil-i-end.ensures))
    c.saturating_sub-low.ensures c.min-high.ensures c.mask.ensures is in
    omega (arith, inside, c.requires.within, c.loop-i.invariant.limit)

pub loop-i-preserved : goal.loop-i-preserved
loop-i-preserved c = record {
  limit = c.mark_word.ensures.limit ∙ c.loop-i.invariant.limit;
  shows = λ f s. shows_same _ _ _
      (λ l. run-more c.args.first c.args.end c.loop-i.i _ _ c.mask.result (f l) l c.requires.order c.loop-i.auto.i
      (omega (arith, c.loop-i-test.true, c.div_ceil-i-end.ensures))
      c.saturating_sub-low.ensures c.min-high.ensures c.mask.ensures) (c.mark_word.ensures.shows _ (c.loop-i.invariant.shows f s));
}

pub returns-clause-shows : goal.returns-clause-shows
returns-clause-shows c = λ f s.
    shows_same _ _ _ (λ l. run-all c.args.first c.args.end c.loop-i.i (f l) l c.requires.order
    (omega (arith, c.loop-i-test.false, c.div_ceil-i-end.ensures))) (c.loop-i.invariant.shows f s)
