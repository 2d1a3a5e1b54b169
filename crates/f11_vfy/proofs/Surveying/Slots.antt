-- What a slot's state says of its header.
use Rattle.std.proofs.Common.{◌≡◌, ℕ, true, false, refl, sym, ◌∙◌}
use Rattle.f11_header.proofs.HeaderFacts.{dead-not-valid}
use Rattle.f11_index.specs.Table.{Table, IsLive, IsDeadSlot}
use Rattle.f11_vfy.specs.Surveying.Slot.{HasState, IsBadSlot, unused, dead, bad, live}
use Rattle.f11_vfy.specs.declared.survey.slot.State.{State}
use Rattle.f11_vfy.specs.declared.survey.slot.State.TheVariants.{Dead, Bad, Live}

apart : (t : Table) (n : ℕ) {A : Type 0} → t.in_use n ≡ false → t.in_use n ≡ true → A
apart t n one other = let no : false ≡ true = sym one ∙ other in absurd cc

pub live-from : (t : Table) (n : ℕ) (s : State) → HasState t n s → s ≡ Live → IsLive t n
live-from t n s (live x) is = x
live-from t n s (unused x) is = absurd cc
live-from t n s (dead x) is = absurd cc
live-from t n s (bad x) is = absurd cc

pub live-to : (t : Table) (n : ℕ) (s : State) → HasState t n s → IsLive t n → s ≡ Live
live-to t n s (live x) is = refl
live-to t n s (unused x) is = apart t n x is.in_use
live-to t n s (dead x) is = absurd (dead-not-valid _ n x.dead is.valid)
live-to t n s (bad x) is = absurd (x.not_valid is.valid)

pub dead-from : (t : Table) (n : ℕ) (s : State) → HasState t n s → s ≡ Dead → IsDeadSlot t n
dead-from t n s (dead x) is = x
dead-from t n s (unused x) is = absurd cc
dead-from t n s (live x) is = absurd cc
dead-from t n s (bad x) is = absurd cc

pub dead-to : (t : Table) (n : ℕ) (s : State) → HasState t n s → IsDeadSlot t n → s ≡ Dead
dead-to t n s (dead x) is = refl
dead-to t n s (unused x) is = apart t n x is.in_use
dead-to t n s (live x) is = absurd (dead-not-valid _ n is.dead x.valid)
dead-to t n s (bad x) is = absurd (x.not_dead is.dead)

pub bad-from : (t : Table) (n : ℕ) (s : State) → HasState t n s → s ≡ Bad → IsBadSlot t n
bad-from t n s (bad x) is = x
bad-from t n s (unused x) is = absurd cc
bad-from t n s (live x) is = absurd cc
bad-from t n s (dead x) is = absurd cc

pub bad-to : (t : Table) (n : ℕ) (s : State) → HasState t n s → IsBadSlot t n → s ≡ Bad
bad-to t n s (bad x) is = refl
bad-to t n s (unused x) is = apart t n x is.in_use
bad-to t n s (live x) is = absurd (is.not_valid x.valid)
bad-to t n s (dead x) is = absurd (is.not_dead x.dead)
