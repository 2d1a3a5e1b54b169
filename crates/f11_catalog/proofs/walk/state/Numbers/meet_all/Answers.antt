use Rattle.std.proofs.Common.{inl, inr, sym, ◌∙◌}
use Rattle.f11_catalog.proofs.NumbersLemmas.{meets-on, meets-one}
use Rattle.f11_catalog.proofs.walk.state.Numbers.meet_all.Goals as goal
use Rattle.f11_catalog.proofs.walk.state.Numbers.meet_all.Goals.{then-has_met+then-not-has_met, else-has_met}
use Rattle.f11_catalog.proofs.walk.state.Numbers.meet_all.Goals.{else-has_met-via-then-has_met+else-not-has_met}
use Rattle.f11_catalog.proofs.walk.state.Numbers.meet_all.Goals.{else-has_met-via-else-has_met}

pub loop-number-preserved : goal.loop-number-preserved
loop-number-preserved c = elim c.if-has_met.branch [
  | then-has_met+then-not-has_met w ↦
      rw w.self-is (rw w.grows-is (meets-one _ _ _ _ _ c.loop-number.invariant _ c.loop-number-test.true
      (sym c.has_met.ensures ∙ w.if-has_met.true)
      (sym w.has_met-then-has_met.ensures ∙ w.if-not-has_met.true) w.meet.ensures.adds w.meet.ensures.next))
  | else-has_met w ↦ rw w.self-is (rw w.grows-is (meets-on _ _ _ _ _ c.loop-number.invariant c.loop-number-test.true
      (elim w.else-has_met.branch [
        | else-has_met-via-then-has_met+else-not-has_met w' ↦ inr (sym w'.has_met-then-has_met.ensures ∙ w'.if-not-has_met.false)
        | else-has_met-via-else-has_met w' ↦ inl (sym c.has_met.ensures ∙ w'.if-has_met.false)
      ])))
]
