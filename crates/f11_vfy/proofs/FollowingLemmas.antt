-- The headers that follow one, as they are kept.
use Rattle.std.proofs.Common.{◌≡◌, ◌≢◌, ◌≤◌, ◌+◌, ◌-◌, ℕ, zero, suc, refl, sym, subst, arith, List, [], ◌∷◌, get_or, Option, Some, None}
use Rattle.f11_index.specs.Headers.{next_of}
use Rattle.f11_index.specs.Table.{Table, IsLive, IsNext}
use Rattle.f11_index.proofs.NextLemmas.{next-found}
use Rattle.f11_vfy.specs.Chain.{KnowsNexts, numbered}
use Rattle.f11_volume.specs.Contents.{following}

-- a header by its number
pub numbered-some : (n : ℕ) → 1 ≤ n → numbered n ≡ Some n
numbered-some zero some = absurd (omega arith)
numbered-some (suc n) some = refl

-- the next header as it is kept
next-none : (t : Table) (n : ℕ) (o : Option ℕ) → ((m : ℕ) → o ≢ Some m) → o ≡ None
next-none t n None never = refl
next-none t n (Some m) never = absurd (never m refl)

pub next-kept : (t : Table) (nexts : List ℕ) (n : ℕ) → KnowsNexts t nexts → IsLive t n → (m : ℕ) → m ≡ get_or nexts (n - 1) 0
    → next_of t n ≡ numbered m
next-kept t nexts n knows live zero is =
    let low : 1 ≤ n = knows.fit.low n live.in_use in
    let high : n ≤ t.slots = knows.fit.high n live.in_use in
    next-none t n (next_of t n) (λ m found.
    let next : IsNext t n m = (next-found t n m).0 found in
    let same : n ≡ n - 1 + 1 = omega arith in
    let kept : get_or nexts (n - 1) 0 ≡ m = knows.nexts.all (n - 1) m (omega arith) (subst (λ (k : ℕ). IsNext t k m) same next) in
    let some : 1 ≤ m = knows.fit.low m next.to.in_use in
    omega arith)
next-kept t nexts n knows live (suc m) is =
    let low : 1 ≤ n = knows.fit.low n live.in_use in
    let high : n ≤ t.slots = knows.fit.high n live.in_use in
    let same : n - 1 + 1 ≡ n = omega arith in
    let next : IsNext t (n - 1 + 1) (get_or nexts (n - 1) 0) = knows.nexts.some (n - 1) (omega arith) (λ none. omega arith) in
    (next-found t n (suc m)).1 (subst (λ (k : ℕ). IsNext t n k) (sym is) (subst (λ (k : ℕ). IsNext t k (get_or nexts (n - 1) 0)) same next))

pub next-live : (t : Table) (n m : ℕ) → next_of t n ≡ numbered m → 1 ≤ m → IsLive t m
next-live t n zero found some = absurd (omega arith)
next-live t n (suc m) found some = ((next-found t n (suc m)).0 found).to

pub following-more : (t : Table) (most n : ℕ) → 1 ≤ n → following (suc most) t (numbered n) ≡ n ∷ following most t (next_of t n)
unfolding following
following-more t most zero some = absurd (omega arith)
following-more t most (suc n) some = refl

pub following-zero : (t : Table) (o : Option ℕ) → following 0 t o ≡ []
unfolding following
following-zero t o = refl
