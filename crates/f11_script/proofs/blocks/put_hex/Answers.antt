use Rattle.std.proofs.Common.{refl, below_more, inl, inr, sym, ◌∙◌, arith}
use Rattle.std.proofs.lemmas.Bool.{cases_lt}
use Rattle.std.proofs.lemmas.List.{get_or-replicate, get_or-set_other, get_or-set_same, length-set}
use Rattle.std.proofs.lemmas.List.FromFn.{fill_by_all}
use Rattle.f11_script.specs.Fields.{hex_byte, hex_block}
use Rattle.f11_script.proofs.DigitLemmas.{hex_byte-past}
use Rattle.f11_script.proofs.blocks.put_hex.Goals as goal

pub loop-k-init : goal.loop-k-init
loop-k-init c = record { long = refl; written = λ k none. absurd (omega arith); zeros = λ k past within. get_or-replicate 512 k 0 0 within }

pub loop-k-preserved : goal.loop-k-preserved
loop-k-preserved c =
    let so_far = c.loop-k.invariant in
    record {
      long = length-set c.loop-k.block c.loop-k.k c.hex_byte.result ∙ so_far.long;
      written =
          below_more _ _ (λ k less. get_or-set_other c.loop-k.block c.loop-k.k k c.hex_byte.result 0 (λ same. omega (arith, same, less))
          ∙ so_far.written k less)
          (get_or-set_same c.loop-k.block c.loop-k.k c.hex_byte.result 0 (omega (arith, so_far.long, c.loop-k-test.true))
          ∙ c.hex_byte.ensures);
      zeros = λ k past within.
          get_or-set_other c.loop-k.block c.loop-k.k k c.hex_byte.result 0 (λ same. omega (arith, same, past))
          ∙ so_far.zeros k (omega (arith, past)) within;
    }

pub returns : goal.returns
unfolding hex_block
returns c =
    fill_by_all (hex_byte c.args.digits.now) c.loop-k.block 512 0 c.loop-k.invariant.long
    (λ k below. elim (cases_lt k c.loop-k.k) [
      | inl put ↦ c.loop-k.invariant.written k put
      | inr past ↦ c.loop-k.invariant.zeros k past below ∙ sym (hex_byte-past c.args.digits.now k (omega arith))
    ])
