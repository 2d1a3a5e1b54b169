use Rattle.std.proofs.Common.{◌-◌, ◌+◌, ◌≤◌, ◌∙◌, inl, inr, sym, subst, length, arith, refl}
use Rattle.std.proofs.lemmas.Bool.{cases_eq}
use Rattle.f11_vfy.proofs.ChainLemmas.{Walks, walk_begins, walk_on, stays, comes}
use Rattle.f11_vfy.proofs.chains.walk.Goals as goal

pub loop-init : goal.loop-init
loop-init c = record {
  limit = refl;
  range = c.requires.first;
  walks = λ v fit is f cl. walk_begins v _ _ f cl;
  kept = λ k e. e;
  fresh = λ e. refl;
  begun = λ h. absurd (omega arith);
}

pub loop-preserved : goal.loop-preserved
loop-preserved c = record {
  limit = c.insert.ensures.limit ∙ c.loop.invariant.limit;
  range = subst (λ z. z ≤ length c.args.nexts.now) (sym c.from-n.ensures) (c.requires.range (c.loop.n - 1));
  walks = λ v fit is f cl. subst (λ z. Walks v c.insert.new.self z (c.loop.counter + 1)) (sym c.from-n.ensures)
      (walk_on v c.args.nexts.now c.loop.marked _ c.loop.n c.loop.counter fit is c.if-n-eq0.false c.insert.ensures.adds
      (c.loop.invariant.walks v fit is f cl));
  kept = λ k e. stays c.loop.marked _ c.loop.n c.insert.ensures.adds k (c.loop.invariant.kept k e);
  fresh = λ e. absurd (omega arith);
  begun = λ h. elim (cases_eq c.loop.counter 0) [
    | inl e ↦ comes c.loop.marked _ c.loop.n c.insert.ensures.adds c.args.first (sym (c.loop.invariant.fresh e))
    | inr e ↦ stays c.loop.marked _ c.loop.n c.insert.ensures.adds c.args.first (c.loop.invariant.begun (omega (arith, e)))
  ];
}
