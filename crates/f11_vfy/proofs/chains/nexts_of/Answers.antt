use Rattle.std.proofs.Common.{◌≤◌, ◌+◌, sym, subst, arith, get_or, length}
use Rattle.f11_vfy.specs.Chain.{NextsTo}
use Rattle.f11_vfy.proofs.ChainLemmas.{range_push, nexts_push}
use Rattle.f11_vfy.proofs.chains.nexts_of.Goals as goal

pub loop-k-preserved : goal.loop-k-preserved
loop-k-preserved c = record {
  count = omega (arith, c.in_ok-push.ensures.len, c.loop-k.invariant.count);
  range = λ i. subst (λ xs. get_or xs i 0 ≤ length c.args.slots.now) (sym c.in_ok-push.ensures.items)
      (range_push c.loop-k.nexts.items c.next_of.result _ c.next_of.ensures.range c.loop-k.invariant.range i);
  nexts = λ v l. subst (λ xs. NextsTo v xs (c.loop-k.k + 1)) (sym c.in_ok-push.ensures.items)
      (nexts_push v c.loop-k.nexts.items c.next_of.result c.loop-k.k (omega (arith, c.loop-k.nexts.ok.0, c.loop-k.invariant.count))
      (c.next_of.ensures.some v l) (λ m n. c.next_of.ensures.all v m l n) (c.loop-k.invariant.nexts v l));
}

pub returns-clause-nexts : goal.returns-clause-nexts
returns-clause-nexts c =
    λ v l. subst (NextsTo v c.loop-k.nexts.items) (omega (arith, l.keeps.count, c.loop-k-test.false, c.loop-k.auto.k-end))
    (c.loop-k.invariant.nexts v l)
