-- One more mark on a tally.
use Rattle.std.proofs.Common.{◌≡◌, ◌≢◌, ◌≤◌, ◌<◌, ◌+◌, ◌⊎◌, ◌&&◌, ◌||◌, inl, inr, ℕ, refl, ap, sym, subst, ◌∙◌, arith, Bool, true, false}
use Rattle.std.proofs.Common.{cond, eqb, leb, ltb}
use Rattle.std.proofs.lemmas.Bool.{cases_lt, cases_eq, eq-eqb, ne_eqb, le-leb, lt-leb, leb-true, leb-false, lt-ltb, le-ltb}
use Rattle.std.proofs.Math.Bool.{or-false}
use Rattle.f11_vfy.specs.Surveying.Count.{within, Shows}
use Rattle.f11_vfy.specs.declared.survey.tally.Tally.{Tally}

pub within-in : (a b l : ℕ) → a ≤ l → l < b → within a b l ≡ 1
unfolding within
within-in a b l p q = ap (λ t. cond (t && ltb l b) 1 0) (le-leb a l p) ∙ ap (λ t. cond t 1 0) (lt-ltb l b q)

pub within-below : (a b l : ℕ) → l < a → within a b l ≡ 0
unfolding within
within-below a b l p = ap (λ t. cond (t && ltb l b) 1 0) (lt-leb a l p)

pub within-above : (a b l : ℕ) → b ≤ l → within a b l ≡ 0
unfolding within
within-above a b l p = go (leb a l)
  where
    go : (t : Bool) → cond {A = ℕ} (t && ltb l b) 1 0 ≡ 0
    go true = ap (λ t. cond t 1 0) (le-ltb l b p)
    go false = refl

pub within-none : (a l : ℕ) → within a a l ≡ 0
within-none a l = go (cases_lt l a)
  where
    go : (l < a) ⊎ (a ≤ l) → within a a l ≡ 0
    go (inl x) = within-below a a l x
    go (inr x) = within-above a a l x

or_true : (b : Bool) → (b || true) ≡ true
or_true true = refl
or_true false = refl

-- the four ways that a has becomes, or stays, what the count says
module _ (k l c : ℕ) where
  here : l ≡ k → within k (k + 1) l ≡ 1
  here e = within-in k (k + 1) l (omega arith) (omega arith)

  pub away : l ≢ k → within k (k + 1) l ≡ 0
  away ne = go (cases_lt l k)
    where
      go : (l < k) ⊎ (k ≤ l) → within k (k + 1) l ≡ 0
      go (inl x) = within-below k (k + 1) l x
      go (inr x) = within-above k (k + 1) l (omega arith)

  at_least : (n : ℕ) → n ≤ c + within k (k + 1) l → (b : Bool) → b ≡ true → b ≡ leb n (c + within k (k + 1) l)
  at_least n h b e = e ∙ sym (le-leb n _ h)

  pub once_stays : (b : Bool) → b ≡ leb 1 c → (l ≡ k → b ≡ true) → b ≡ leb 1 (c + within k (k + 1) l)
  once_stays b e came = go (cases_eq l k)
    where
      go : (l ≡ k) ⊎ (l ≢ k) → b ≡ leb 1 (c + within k (k + 1) l)
      go (inl x) = at_least 1 (omega (arith, here x)) b (came x)
      go (inr x) = e ∙ ap (λ z. leb 1 z) (omega (arith, away x))

  pub once_set : (b : Bool) → b ≡ leb 1 c → (b || eqb l k) ≡ leb 1 (c + within k (k + 1) l)
  once_set b e = go (cases_eq l k)
    where
      go : (l ≡ k) ⊎ (l ≢ k) → (b || eqb l k) ≡ leb 1 (c + within k (k + 1) l)
      go (inl x) = at_least 1 (omega (arith, here x)) (b || eqb l k) (ap (λ z. b || z) (eq-eqb l k x) ∙ or_true b)
      go (inr x) = ap (λ z. b || z) (ne_eqb l k x) ∙ or-false b ∙ e ∙ ap (λ z. leb 1 z) (omega (arith, away x))

  pub twice_stays : (t : Bool) → t ≡ leb 2 c → (l ≡ k → leb 1 c ≡ false) → t ≡ leb 2 (c + within k (k + 1) l)
  twice_stays t e not_yet = go (cases_eq l k)
    where
      go : (l ≡ k) ⊎ (l ≢ k) → t ≡ leb 2 (c + within k (k + 1) l)
      go (inl x) =
          let z : c < 1 = leb-false 1 c (not_yet x) in e ∙ lt-leb 2 c (omega arith)
          ∙ sym (lt-leb 2 (c + within k (k + 1) l) (omega (arith, here x)))
      go (inr x) = e ∙ ap (λ z. leb 2 z) (omega (arith, away x))

  pub twice_set : (t : Bool) → t ≡ leb 2 c → (l ≡ k → leb 1 c ≡ true) → (t || eqb l k) ≡ leb 2 (c + within k (k + 1) l)
  twice_set t e came = go (cases_eq l k)
    where
      go : (l ≡ k) ⊎ (l ≢ k) → (t || eqb l k) ≡ leb 2 (c + within k (k + 1) l)
      go (inl x) =
          let z : 1 ≤ c = leb-true 1 c (came x) in
          at_least 2 (omega (arith, here x)) (t || eqb l k) (ap (λ z. t || z) (eq-eqb l k x) ∙ or_true t)
      go (inr x) = ap (λ z. t || z) (ne_eqb l k x) ∙ or-false t ∙ e ∙ ap (λ z. leb 2 z) (omega (arith, away x))

-- a number that came is below the limit
pub inside-more : (k l c limit : ℕ) → k < limit → (1 ≤ c → l < limit) → 1 ≤ c + within k (k + 1) l → l < limit
inside-more k l c limit below before some = go (cases_eq l k)
  where
    go : (l ≡ k) ⊎ (l ≢ k) → l < limit
    go (inl x) = omega arith
    go (inr x) = before (omega (arith, some, away k l c x))

-- a tally shows counts, however they are written
pub shows_same : (t : Tally) (c d : ℕ → ℕ) → ((l : ℕ) → c l ≡ d l) → Shows t c → Shows t d
shows_same t c d e s = record {
  once = λ l. s.once l ∙ ap (leb 1) (e l);
  twice = λ l. s.twice l ∙ ap (leb 2) (e l);
  inside = λ l some. s.inside l (subst (λ z. 1 ≤ z) (sym (e l)) some);
}
