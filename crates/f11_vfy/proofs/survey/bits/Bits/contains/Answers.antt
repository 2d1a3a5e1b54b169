use Rattle.std.proofs.Common.{◌/◌, ◌%◌, ◌∙◌, ap, arith, nat_eq}
use Rattle.std.specs.Int.{bit_at}
use Rattle.std.proofs.lemmas.Nat.Bits.{shr_and_one}
use Rattle.std.proofs.lemmas.List.{get_or_default}
use Rattle.f11_vfy.specs.Surveying.Bits.{has}
use Rattle.f11_vfy.proofs.survey.bits.Bits.contains.Goals as goal

pub returns : goal.returns
unfolding has
returns c =
    ap (λ z. nat_eq z 1) (shr_and_one c.index.result.now (c.args.k % 64))
    ∙ ap (λ z. nat_eq (bit_at z (c.args.k % 64)) 1)
    (c.index.ensures ∙ get_or_default c.args.self.now.words.items (c.args.k / 64) c.index.result.now 0
    (omega (arith, c.args.self.now.words.ok.0, c.args.self.now.room)))
