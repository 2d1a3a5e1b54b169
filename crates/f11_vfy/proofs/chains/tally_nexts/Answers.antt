use Rattle.std.proofs.Common.{◌+◌, ◌∙◌, ap, sym, subst, arith}
use Rattle.f11_vfy.specs.Surveying.Bits.{limit_of}
use Rattle.f11_vfy.specs.Chain.{points_at}
use Rattle.f11_vfy.specs.Surveying.Count.{Shows, sum_to, within}
use Rattle.f11_vfy.proofs.Surveying.Sums.{sum_to-none}
use Rattle.f11_vfy.proofs.Surveying.Tally.{shows_same}
use Rattle.f11_vfy.proofs.ChainLemmas.{counted_yes, counted_no}
use Rattle.f11_vfy.proofs.chains.tally_nexts.Goals as goal
use Rattle.f11_vfy.proofs.chains.tally_nexts.Goals.{then-links, else-links}

pub loop-k-init : goal.loop-k-init
loop-k-init c = record {
  limit = c.in_ok-tally.ensures.limit;
  shows = shows_same _ _ _ (λ m. sym (sum_to-none (λ k. points_at c.args.in_file.now c.args.nexts.now k m))) c.in_ok-tally.ensures.shows;
}

pub loop-k-preserved : goal.loop-k-preserved
loop-k-preserved c = record {
  limit = elim c.if-links.branch [
    | then-links w ↦ ap (λ t. limit_of t.once) w.tally-is ∙ w.mark.ensures.limit
        ∙ c.loop-k.invariant.limit
    | else-links w ↦ ap (λ t. limit_of t.once) w.tally-is ∙ c.loop-k.invariant.limit
  ];
  shows = elim c.if-links.branch [
    | then-links w ↦ subst (λ t. Shows t (λ m. sum_to (λ k. points_at c.args.in_file.now c.args.nexts.now k m) (c.loop-k.k + 1)))
        (sym w.tally-is)
        (shows_same _ _ _ (counted_yes c.args.in_file.now c.args.nexts.now c.loop-k.k (sym c.links.ensures ∙ w.if-links.true))
        (subst (λ z. Shows w.mark.new.self
        (λ l. sum_to (λ k. points_at c.args.in_file.now c.args.nexts.now k l) c.loop-k.k + within z (z + 1) l)) w.from.ensures
        (w.mark.ensures.shows _ c.loop-k.invariant.shows)))
    | else-links w ↦ subst (λ t. Shows t (λ m. sum_to (λ k. points_at c.args.in_file.now c.args.nexts.now k m) (c.loop-k.k + 1)))
        (sym w.tally-is)
        (shows_same _ _ _ (counted_no c.args.in_file.now c.args.nexts.now c.loop-k.k (sym c.links.ensures ∙ w.if-links.false))
        c.loop-k.invariant.shows)
  ];
}

pub returns-clause-shows : goal.returns-clause-shows
returns-clause-shows c =
    subst (λ n. Shows c.loop-k.tally (λ m. sum_to (λ k. points_at c.args.in_file.now c.args.nexts.now k m) n))
    (omega (arith, c.loop-k-test.false, c.loop-k.auto.k-end)) c.loop-k.invariant.shows
