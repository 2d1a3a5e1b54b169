use Rattle.std.proofs.Common.{◌+◌, ◌/◌, ◌%◌, refl, ap, arith, nat_eq}
use Rattle.std.specs.Int.{bit_at}
use Rattle.f11_vfy.specs.Surveying.Bits.{has}
use Rattle.f11_vfy.proofs.Surveying.Bits.{zeros-behind}
use Rattle.f11_vfy.proofs.survey.bits.Bits.widen.Goals as goal

pub returns-in_ok-resize-clause-same : goal.returns-in_ok-resize-clause-same
unfolding has
returns-in_ok-resize-clause-same c = λ k.
    ap (λ z. nat_eq (bit_at z (k % 64)) 1)
    (zeros-behind c.args.self.now.words.items c.resize.new.self.items (c.args.limit / 64 + 1) (k / 64)
    (omega (arith, c.args.self.now.words.ok.0, c.args.self.now.room, c.if-self-limit.true))
    (omega (arith, c.resize.new.self.ok.0, c.in_ok-resize.ensures.len))
    (λ i d below here. c.in_ok-resize.ensures.by_index.0 i d below (omega (arith, here, c.args.self.now.words.ok.0)))
    (λ i d behind below. c.in_ok-resize.ensures.by_index.1 i d refl (omega (arith, behind, c.args.self.now.words.ok.0)) below))
