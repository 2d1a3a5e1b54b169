-- What is found, a part of it after another.
use Rattle.std.proofs.Common.{◌≡◌, ◌+◌, ◌<◌, ◌≤◌, ◌⊎◌, ◌↔◌, inl, inr, ℕ, suc, zero, refl, ap, sym, ◌∙◌, subst, arith, Bool, true, false}
use Rattle.std.proofs.Common.{IsTrue, List, [], ◌∷◌, length, get_or}
use Rattle.std.specs.List.{Contains}
use Rattle.std.proofs.lemmas.Bool.{cases_lt}
use Rattle.std.proofs.lemmas.List.{get_or_default}
use Rattle.f11_findings.specs.Finding.{finding, IsExactly, AddsFindings, if_so}
use Rattle.f11_findings.specs.declared.finding.Finding.{Finding}
use Rattle.f11_findings.specs.Found.{Finds, FoundAmong, FoundOfEach, Where, Either}

-- nothing is found
pub finds-none : (R : ℕ → ℕ → ℕ → Type 0) (old : List Finding) → ((code a b : ℕ) → ¬ R code a b) → Finds R old old
finds-none R old nothing = record {
  kept = λ f c. c;
  added = λ code a b r. absurd (nothing code a b r);
  no_others = λ f c. inl c;
  order = λ o. o;
}

-- one part after another
pub finds-more : (R S T : ℕ → ℕ → ℕ → Type 0) (a b c : List Finding) → Finds R a b → Finds S b c
    → ((code x y : ℕ) → R code x y → T code x y) → ((code x y : ℕ) → S code x y → T code x y)
    → ((code x y : ℕ) → T code x y → R code x y ⊎ S code x y) → Finds T a c
finds-more R S T a b c one other left right both = record {
  kept = λ f h. other.kept f (one.kept f h);
  added = λ code x y t. go code x y (both code x y t);
  no_others = λ f h. from f (other.no_others f h);
  order = λ o. other.order (one.order o);
}
  where
    go : (code x y : ℕ) → R code x y ⊎ S code x y → Contains c (finding code x y)
    go code x y (inl r) = other.kept _ (one.added code x y r)
    go code x y (inr s) = other.added code x y s

    back : (f : Finding) → Contains a f ⊎ R f.code f.a f.b → Contains a f ⊎ T f.code f.a f.b
    back f (inl h) = inl h
    back f (inr r) = inr (left f.code f.a f.b r)

    from : (f : Finding) → Contains b f ⊎ S f.code f.a f.b → Contains a f ⊎ T f.code f.a f.b
    from f (inl h) = back f (one.no_others f h)
    from f (inr s) = inr (right f.code f.a f.b s)

-- two parts
pub finds-both : {R S : ℕ → ℕ → ℕ → Type 0} {a b c : List Finding} → Finds R a b → Finds S b c → Finds (Either R S) a c
finds-both {R = R} {S = S} {a = a} {b = b} {c = c} one other = finds-more R S (Either R S) a b c one other (λ code x y r. inl r)
    (λ code x y s. inr s) (λ code x y t. t)

-- the same, said otherwise
pub finds-same : (R S : ℕ → ℕ → ℕ → Type 0) (old new : List Finding) → Finds R old new → ((code a b : ℕ) → R code a b → S code a b)
    → ((code a b : ℕ) → S code a b → R code a b) → Finds S old new
finds-same R S old new finds to from = record {
  kept = finds.kept;
  added = λ code a b s. finds.added code a b (from code a b s);
  no_others = λ f h. go f (finds.no_others f h);
  order = finds.order;
}
  where
    go : (f : Finding) → Contains old f ⊎ R f.code f.a f.b → Contains old f ⊎ S f.code f.a f.b
    go f (inl h) = inl h
    go f (inr r) = inr (to f.code f.a f.b r)

only-one : (f g : Finding) → Contains (f ∷ []) g → f ≡ g
only-one f g (zero, within, is) = is
only-one f g (suc n, within, is) = absurd (omega arith)

no-one : (g : Finding) → ¬ Contains [] g
no-one g (n, within, is) = omega arith

-- a finding that was added where a test holds
pub finds-if : (R : ℕ → ℕ → ℕ → Type 0) (holds : Bool) (f : Finding) (old new : List Finding) → AddsFindings old new (if_so holds f)
    → (holds ≡ true → R f.code f.a f.b) → ((code a b : ℕ) → R code a b → (holds ≡ true) × (finding code a b ≡ f)) → Finds R old new
finds-if R true f old new adds to from = record {
  kept = adds.kept;
  added = λ code a b r. subst (Contains new) (sym (from code a b r).1) (adds.added f (0, omega arith, refl));
  no_others = λ g h. go g (adds.no_others g h);
  order = adds.order;
}
  where
    go : (g : Finding) → Contains old g ⊎ Contains (f ∷ []) g → Contains old g ⊎ R g.code g.a g.b
    go g (inl h) = inl h
    go g (inr h) = inr (subst (λ (z : Finding). R z.code z.a z.b) (only-one f g h) (to refl))
finds-if R false f old new adds to from = record {
  kept = adds.kept;
  added = λ code a b r. let no : false ≡ true = (from code a b r).0 in absurd cc;
  no_others = λ g h. go g (adds.no_others g h);
  order = adds.order;
}
  where
    go : (g : Finding) → Contains old g ⊎ Contains [] g → Contains old g ⊎ R g.code g.a g.b
    go g (inl h) = inl h
    go g (inr h) = absurd (no-one g h)

-- a scan before its first number, and one more
pub among-none : (P : ℕ → Type 0) (found : ℕ → Finding) (old : List Finding) → Finds (FoundAmong P found 0) old old
among-none P found old = finds-none _ old (λ code a b r. omega (arith, r.below))

pub among-more : (P : ℕ → Type 0) (found : ℕ → Finding) (k : ℕ) (holds : Bool) (old now new : List Finding)
    → Finds (FoundAmong P found k) old now → IsTrue holds ↔ P k
    → AddsFindings now new (if_so holds (found k)) → Finds (FoundAmong P found (k + 1)) old new
among-more P found k holds old now new finds test adds =
    finds-more (FoundAmong P found k) (λ code a b. P k × (finding code a b ≡ found k)) (FoundAmong P found (k + 1)) old now new finds
    (finds-if _ holds (found k) now new adds (λ is. (test.0 is, refl)) (λ code a b r. (test.1 r.0, r.1)))
    (λ code a b r. record { number = r.number; below = omega (arith, r.below); holds = r.holds; is = r.is })
    (λ code a b r. record { number = k; below = omega arith; holds = r.0; is = r.1 })
    (λ code a b r. go code a b r (cases_lt r.number k))
  where
    go : (code a b : ℕ) (r : FoundAmong P found (k + 1) code a b) → (r.number < k) ⊎ (k ≤ r.number)
        → FoundAmong P found k code a b ⊎ (P k × (finding code a b ≡ found k))
    go code a b r (inl h) = inl (record { number = r.number; below = h; holds = r.holds; is = r.is })
    go code a b r (inr h) = inr (let e : r.number ≡ k = omega (arith, r.below) in (subst P e r.holds, r.is ∙ ap found e))

-- the findings of a list
pub among-list : (more old new : List Finding) (d : Finding) (n : ℕ) → length more ≤ n → n ≤ length more
    → Finds (FoundAmong (λ _. Unit) (λ i. get_or more i d) n) old new
    → Finds (λ code a b. Contains more (finding code a b)) old new
among-list more old new d n all few finds = finds-same _ _ old new finds
    (λ code a b r. (
      r.number,
      omega (arith, r.below, few),
      get_or_default more r.number (finding code a b) d (omega (arith, r.below, few)) ∙ sym r.is,
    ))
    (λ code a b c. record {
      number = c.0;
      below = omega (arith, c.1, all);
      holds = tt;
      is = sym (get_or_default more c.0 d (finding code a b) c.1 ∙ c.2);
    })

-- a scan that came to its end
pub among-all : (P : ℕ → Type 0) (found : ℕ → Finding) (k n : ℕ) (old new : List Finding) → k ≤ n → n ≤ k
    → Finds (FoundAmong P found k) old new → Finds (FoundAmong P found n) old new
among-all P found k n old new low high finds = let e : k ≡ n = omega arith in subst (λ m. Finds (FoundAmong P found m) old new) e finds

-- those below a number, and then those from it on
pub among-behind : (P : ℕ → Type 0) (found : ℕ → Finding) (from low high : ℕ) (old now new : List Finding) → low ≤ from → low ≤ high
    → ((k : ℕ) → low ≤ k → k < high → from ≤ k)
    → Finds (FoundAmong P found low) old now → Finds (FoundAmong (λ k. (from ≤ k) × P k) found high) now new → Finds
    (FoundAmong P found high) old new
among-behind P found from low high old now new before order behind one other =
    finds-more (FoundAmong P found low) (FoundAmong (λ k. (from ≤ k) × P k) found high) (FoundAmong P found high) old now new one other
    (λ code a b f. record { number = f.number; below = omega (arith, f.below); holds = f.holds; is = f.is })
    (λ code a b f. record { number = f.number; below = f.below; holds = f.holds.1; is = f.is })
    (λ code a b f. go code a b f (cases_lt f.number low))
  where
    go : (code a b : ℕ) (f : FoundAmong P found high code a b) → (f.number < low) ⊎ (low ≤ f.number)
        → FoundAmong P found low code a b ⊎ FoundAmong (λ k. (from ≤ k) × P k) found high code a b
    go code a b f (inl h) = inl (record { number = f.number; below = h; holds = f.holds; is = f.is })
    go code a b f (inr h) = inr (record { number = f.number; below = f.below; holds = (behind f.number h f.below, f.holds); is = f.is })

-- a finding that was added where a test holds that tells whether this does
pub finds-where : {P : Type 0} {f was : Finding} {holds : Bool} {old new : List Finding} → IsTrue holds ↔ P → was ≡ f
    → AddsFindings old new (if_so holds was) → Finds (Where P f) old new
finds-where {P = P} {f = f} {holds = holds} {old = old} {new = new} test is adds =
    finds-if (Where P f) holds f old new (subst (λ (g : Finding). AddsFindings old new (if_so holds g)) is adds) (λ yes. (test.0 yes, refl))
    (λ code a b r. (test.1 r.0, r.1))

-- that finding is what a relation says, where it says so of it
pub one-said : (R : ℕ → ℕ → ℕ → Type 0) (P : Type 0) (f : Finding) → (P → R f.code f.a f.b) → (code a b : ℕ) → Where P f code a b
    → R code a b
one-said R P f says code a b one = subst (λ (g : Finding). R g.code g.a g.b) (sym one.1) (says one.0)

-- what is found where this holds, and it does
pub finds-given : {P : Type 0} {R : ℕ → ℕ → ℕ → Type 0} {old new : List Finding} → P → Finds R old new
    → Finds (λ code a b. P × R code a b) old new
finds-given {P = P} {R = R} {old = old} {new = new} holds finds = finds-same R (λ code a b. P × R code a b) old new finds
    (λ code a b r. (holds, r)) (λ code a b r. r.1)

-- the findings of each number: of none, of one more, and of all
pub each-none : (R : ℕ → ℕ → ℕ → ℕ → Type 0) (old : List Finding) → Finds (FoundOfEach R 0) old old
each-none R old = finds-none _ old (λ code a b r. omega (arith, r.below))

pub each-more : {R : ℕ → ℕ → ℕ → ℕ → Type 0} (k : ℕ) {old now new : List Finding} → Finds (FoundOfEach R k) old now → Finds (R k) now new
    → Finds (FoundOfEach R (k + 1)) old new
each-more {R = R} k {old = old} {now = now} {new = new} finds here =
    finds-more (FoundOfEach R k) (R k) (FoundOfEach R (k + 1)) old now new finds here
    (λ code a b r. record { number = r.number; below = omega (arith, r.below); says = r.says })
    (λ code a b r. record { number = k; below = omega arith; says = r })
    (λ code a b r. go code a b r (cases_lt r.number k))
  where
    go : (code a b : ℕ) (r : FoundOfEach R (k + 1) code a b) → (r.number < k) ⊎ (k ≤ r.number) → FoundOfEach R k code a b ⊎ R k code a b
    go code a b r (inl h) = inl (record { number = r.number; below = h; says = r.says })
    go code a b r (inr h) = inr (let e : r.number ≡ k = omega (arith, r.below) in subst (λ n. R n code a b) e r.says)

pub each-all : {R : ℕ → ℕ → ℕ → ℕ → Type 0} {k n : ℕ} {old new : List Finding} → k ≡ n → Finds (FoundOfEach R k) old new
    → Finds (FoundOfEach R n) old new
each-all {R = R} {old = old} {new = new} is finds = subst (λ m. Finds (FoundOfEach R m) old new) is finds

-- a list of all that is found
pub exactly : (R : ℕ → ℕ → ℕ → Type 0) (found : List Finding) → Finds R [] found → IsExactly R found
exactly R found finds = record {
  each = λ k d below. go (get_or found k d)
      (finds.no_others (get_or found k d) (k, below, get_or_default found k (get_or found k d) d below));
  all = finds.added;
  order = finds.order (λ i j d low high. absurd (omega arith));
}
  where
    go : (f : Finding) → Contains [] f ⊎ R f.code f.a f.b → R f.code f.a f.b
    go f (inl none) = absurd (no-one f none)
    go f (inr r) = r
