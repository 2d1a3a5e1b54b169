use Rattle.std.proofs.Common.{◌+◌, ◌/◌, ◌%◌, ◌∙◌, ap, nat_eq, get_or}
use Rattle.std.specs.Int.{bit_at}
use Rattle.std.proofs.lemmas.Nat.Bits.{bit_at-zero}
use Rattle.f11_vfy.specs.Surveying.Bits.{has}
use Rattle.f11_vfy.proofs.Surveying.Bits.{zeros}
use Rattle.f11_vfy.proofs.survey.bits.Bits.new.Goals as goal

pub returns-clause-none : goal.returns-clause-none
unfolding has
returns-clause-none c =
    λ k. ap (λ z. nat_eq (bit_at z (k % 64)) 1) (ap (λ l. get_or l (k / 64) 0) (c.in_ok-words.ensures.items_if_clones_equal (λ y e. e))
    ∙ zeros (c.args.limit / 64 + 1) (k / 64)) ∙ ap (λ z. nat_eq z 1) (bit_at-zero (k % 64))
