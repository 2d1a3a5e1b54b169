use Rattle.std.proofs.Common.{ℕ, ◌==◌, ◌-◌, length, ◌∙◌, sym, arith}
use Rattle.std.proofs.lemmas.Bool.{eq-eqb, ne_eqb}
use Rattle.std.proofs.lemmas.List.{length-take}
use Rattle.f11_bytes.proofs.TrailingLemmas.{without_trailing-take, without_trailing_whole}
use Rattle.f11_script.proofs.answer.without_zeros.Goals as goal

pub loop-kept-preserved : goal.loop-kept-preserved
loop-kept-preserved c = record {
  zeros = without_trailing-take (λ c. c == 0) c.loop-kept.kept.now c.in-len1-up.len_at_least (eq-eqb _ _ c.if-last-eq0.true)
      ∙ c.loop-kept.invariant.zeros;
  within = omega (arith, c.loop-kept.invariant.within, length-take {A = ℕ} (length c.loop-kept.kept.now - 1) c.loop-kept.kept.now);
}

pub returns-else-last-eq0-clause-zeros : goal.returns-else-last-eq0-clause-zeros
returns-else-last-eq0-clause-zeros c =
    sym (without_trailing_whole (λ c. c == 0) c.loop-kept.kept.now c.in-len1-up.len_at_least (ne_eqb _ _ c.if-last-eq0.false))
    ∙ c.loop-kept.invariant.zeros
