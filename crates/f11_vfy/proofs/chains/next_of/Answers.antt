use Rattle.std.proofs.Common.{◌-◌, subst, get_or, arith}
use Rattle.f11_vfy.specs.Surveying.Slot.{unused_slot}
use Rattle.f11_vfy.proofs.ChainLemmas.{Follows, is_next}
use Rattle.f11_vfy.proofs.chains.next_of.Goals as goal

pub returns-then-follows-clause-some : goal.returns-then-follows-clause-some
returns-then-follows-clause-some c = λ t is some. is_next t c.args.slots.now is c.args.k c.requires unused_slot
    (c.is_live.ensures.0 c.if-not-is_live.false) some (omega (arith, c.from-m.ensures, c.if-m-slots.false))
    (subst (λ z. Follows (get_or c.args.slots.now c.args.k unused_slot) (get_or c.args.slots.now (z - 1) unused_slot)) c.from-m.ensures
    (c.follows.ensures.0 c.if-follows.true))
