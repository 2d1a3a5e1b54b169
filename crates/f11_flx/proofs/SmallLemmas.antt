-- Tests and options, for several proofs.
use Rattle.std.proofs.Common.{◌≡◌, ◌||◌, not, Bool, true, false, Some, refl}

pub or-false : (b : Bool) → (b || false) ≡ b
or-false true = refl
or-false false = refl

pub not-true : (b : Bool) → not b ≡ true → b ≡ false
not-true true h = absurd (cc)
not-true false h = refl

pub bad-not : (a b : Bool) → a ≡ false → b ≡ true → (a || not b) ≡ false
bad-not false true h k = refl
bad-not true b h k = absurd (cc)
bad-not false false h k = absurd (cc)

-- what is something is that alone
pub some-one : {A : Type 0} {x y : A} → Some x ≡ Some y → x ≡ y
some-one {A} {x} {y} h = cc
