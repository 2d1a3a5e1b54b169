use Rattle.std.proofs.Common.{◌≡◌, ℕ, false, eqb, w8, sym, ◌∙◌, eq-eqb, ne_eqb, arith}
use Rattle.std.proofs.lemmas.Nat.Bits.{bit_at_set_same, bit_at_set_other, bit_at_clear_same, bit_at_clear_other}
use Rattle.f11_bytes.proofs.bits.with_bit.Goals as goal

-- 0 isn't 1
eqb-one : (n : ℕ) → n ≡ 0 → eqb n 1 ≡ false
eqb-one n is = ne_eqb n 1 (λ one. absurd (omega arith))

pub returns-then-value-clause-set : goal.returns-then-value-clause-set
returns-then-value-clause-set c = eq-eqb _ 1 (bit_at_set_same w8 c.args.byte c.args.k c.requires) ∙ sym c.if-value.true

pub returns-then-value-clause-others : goal.returns-then-value-clause-others
returns-then-value-clause-others c = λ j below apart. bit_at_set_other w8 c.args.byte c.args.k c.requires j apart

pub returns-else-value-clause-set : goal.returns-else-value-clause-set
returns-else-value-clause-set c = eqb-one _ (bit_at_clear_same w8 c.args.byte c.args.k c.requires) ∙ sym c.if-value.false

pub returns-else-value-clause-others : goal.returns-else-value-clause-others
returns-else-value-clause-others c = λ j below apart. bit_at_clear_other w8 c.args.byte c.args.k c.requires j below apart
