-- Whether something holds, found out; and what can't fail holds.
use Rattle.std.proofs.Common.{◌≡◌, ◌≢◌, ◌≤◌, ◌<◌, ◌⊎◌, inl, inr, ℕ, zero, suc, refl, sym, subst, ap, arith, List, [], ◌∷◌, length, Option}
use Rattle.std.proofs.Common.{Some, None, Bool, true, false}
use Rattle.std.specs.Prelude.{IsTrue, Contains, slice_index_or}
use Rattle.std.proofs.lemmas.Bool.{cases_eq, cases_lt}
use Rattle.std.proofs.lemmas.Option.{same_Some}

abbrev pub Decided : Type 0 → Type 0
Decided P = P ⊎ (P → ⊥)

pub stable : {P : Type 0} → Decided P → ¬ (¬ P) → P
stable (inl p) q = p
stable (inr n) q = absurd (q n)

pub like : {P Q : Type 0} → (P → Q) → (Q → P) → Decided P → Decided Q
like to from (inl p) = inl (to p)
like to from (inr n) = inr (λ q. n (from q))

pub both : {P Q : Type 0} → Decided P → Decided Q → Decided (P × Q)
both (inl p) (inl q) = inl (p, q)
both (inl p) (inr n) = inr (λ b. n b.1)
both (inr n) q = inr (λ b. n b.0)

pub either : {P Q : Type 0} → Decided P → Decided Q → Decided (P ⊎ Q)
either (inl p) q = inl (inl p)
either (inr n) (inl q) = inl (inr q)
either {P} {Q} (inr n) (inr m) = inr none
  where
    none : P ⊎ Q → ⊥
    none (inl p) = n p
    none (inr q) = m q

pub less : (a b : ℕ) → Decided (a < b)
less a b = elim (cases_lt a b) [ inl under ↦ inl under | inr over ↦ inr (λ under. omega (arith, under, over)) ]

pub at-most : (a b : ℕ) → Decided (a ≤ b)
at-most a b = elim (cases_lt b a) [ inl over ↦ inr (λ under. omega (arith, under, over)) | inr under ↦ inl under ]

pub truth : (b : Bool) → Decided (IsTrue b)
truth true = inl refl
truth false = inr (λ is. cc)

pub same-list : (xs ys : List ℕ) → Decided (xs ≡ ys)
same-list [] [] = inl refl
same-list [] (y ∷ ys) = inr (λ is. cc)
same-list (x ∷ xs) [] = inr (λ is. cc)
same-list (x ∷ xs) (y ∷ ys) = like (λ (parts : (x ≡ y) × (xs ≡ ys)). cc) (λ is. (cc, cc)) (both (cases_eq x y) (same-list xs ys))

pub is-some : (o : Option ℕ) (x : ℕ) → Decided (o ≡ Some x)
is-some None x = inr (λ is. cc)
is-some (Some y) x = like (ap Some) (same_Some y x) (cases_eq y x)

pub member : (xs : List ℕ) (x : ℕ) → Decided (Contains xs x)
member [] x = inr (λ is. omega (arith, is.1))
member (y ∷ xs) x = elim (cases_eq y x) [
  | inl here ↦ inl (0, omega arith, here)
  | inr not ↦ like (λ (has : Contains xs x). (suc has.0, omega (arith, has.1), has.2)) (λ is. later y xs x not is.0 is.1 is.2) (member xs x)
]
  where
    later : (y : ℕ) (xs : List ℕ) (x : ℕ) → (y ≢ x) → (k : ℕ) → k < length (y ∷ xs) → slice_index_or (y ∷ xs) k x ≡ x → Contains xs x
    later y xs x not zero within is = absurd (not is)
    later y xs x not (suc k) within is = (k, omega (arith, within), is)

-- the least number that passes
pub record IsLeast (P : ℕ → Type 0) (k : ℕ) : Type 0 where
  pub at : P k
  pub first : (j : ℕ) → j < k → ¬ P j

-- it is found below a number, or none passes
pub least : (P : ℕ → Type 0) → ((k : ℕ) → Decided (P k)) → (n : ℕ) → ((k : ℕ) × (k < n) × IsLeast P k) ⊎ ((j : ℕ) → j < n → ¬ P j)
least P test zero = inr (λ j below. absurd (omega (arith, below)))
least P test (suc n) = elim (least P test n) [
  | inl found ↦ inl (found.0, omega (arith, found.1), found.2)
  | inr none ↦ elim (test n) [
    | inl at ↦ inl (n, omega arith, record { at = at; first = none })
    | inr not ↦ inr (λ j below. last n none not j below)
  ]
]
  where
    last : (n : ℕ) → ((j : ℕ) → j < n → ¬ P j) → ¬ P n → (j : ℕ) → j < suc n → ¬ P j
    last n none not j below =
        elim (cases_eq j n) [ inl same ↦ subst (λ (k : ℕ). ¬ P k) (sym same) not | inr differ ↦ none j (omega (arith, below, differ)) ]
