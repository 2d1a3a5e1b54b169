-- What is held, as a function and as a relation.
use Rattle.std.proofs.Common.{◌≡◌, Bool, true, false, Option, Some, None, refl, if◌then◌else◌, SomeIff, ap}
use Rattle.std.proofs.lemmas.Option.{none-some}
use Rattle.std.proofs.lemmas.Bool.{false≢true, false_from_ne_true}
use Rattle.f11_dates.specs.Dated.{held, Holds}

-- what is found exactly where a test holds
pub found_if : {A : Type 0} (P : Type 0) (found : Option A) (test : Bool) (x : A) → (P → test ≡ true) → (test ≡ true → P)
    → SomeIff found P x → found ≡ (if test then Some x else None)
found_if P (Some y) test x complete sound h = rw (complete h.0) (ap Some h.1)
found_if P None test x complete sound h = rw (false_from_ne_true test (λ is. h (sound is))) refl

-- the function is right where its test and what it finds are
pub held-Holds : {A : Type 0} (Empty : Type 0) (Spells : A → Type 0) (empty : Bool) (found : Option A)
    → (Empty → empty ≡ true) → (empty ≡ true → Empty)
    → ((x : A) → found ≡ Some x → Spells x) → ((x : A) → Spells x → found ≡ Some x)
    → Holds Empty Spells (held empty found)
held-Holds Empty Spells true found complete sound spelled every = sound refl
held-Holds Empty Spells false (Some x) complete sound spelled every = (λ e. false≢true (complete e), spelled x refl)
held-Holds Empty Spells false None complete sound spelled every = (λ e. false≢true (complete e), λ x s. none-some x (every x s))

-- nothing is found where there is nothing to find
pub none_of : {A : Type 0} (found : Option A) → ((x : A) → ¬ (found ≡ Some x)) → found ≡ None
none_of None never = refl
none_of (Some x) never = absurd (never x refl)
