-- The least free slots come into use, and the others stay free.
use Rattle.std.proofs.Common.{◌≡◌, ◌≢◌, ℕ, zero, suc, ◌+◌, ◌-◌, ◌<◌, ◌≤◌, ◌==◌, ◌||◌, Bool, true, false, not, cond, List, ◌∷◌, ◌++◌, length}
use Rattle.std.proofs.Common.{take, drop, refl, ap, sym, subst, ◌∙◌, arith, filter, ne_eqb}
use Rattle.std.specs.List.{All, range_with_len}
use Rattle.std.proofs.Math.Bool.{or-true}
use Rattle.std.proofs.Math.Seq.{take-add}
use Rattle.std.proofs.lemmas.List.{length-append, take-append-le}
use Rattle.std.proofs.lemmas.List.Elements.{All-filter, All-take, All-weaker, filter-append, filter_passes}
use Rattle.std.proofs.lemmas.List.Folds.{list_any-append, list_any_none}
use Rattle.std.proofs.lemmas.List.FromFn.{get_or-range_with_len, length-range_with_len}
use Rattle.f11_store.proofs.RangeLemmas.{range_with_len-append}
use Rattle.f11_store.proofs.StoreLemmas.{same_number}
use Rattle.f11_store.specs.Changes.{is_in, with_more_slots, with_slots}
use Rattle.f11_store.specs.Store.{Store, free_among, free_headers, free_slots}

-- the numbers from a on, m of them, that aren't used
abbrev unused : (ℕ → Bool) → ℕ → ℕ → List ℕ
unused used a m = filter (λ n. not (used n)) (range_with_len a m)

-- what passes is kept, and what doesn't is left out
kept-first : (p : ℕ → Bool) (x : ℕ) (xs : List ℕ) → p x ≡ true → filter p (x ∷ xs) ≡ x ∷ filter p xs
kept-first p x xs e = ap (λ (b : Bool). cond b (x ∷ filter p xs) (filter p xs)) e

out-first : (p : ℕ → Bool) (x : ℕ) (xs : List ℕ) → p x ≡ false → filter p (x ∷ xs) ≡ filter p xs
out-first p x xs e = ap (λ (b : Bool). cond b (x ∷ filter p xs) (filter p xs)) e

-- two tests that agree from a on
filter-agree : (p q : ℕ → Bool) (a m : ℕ) → ((n : ℕ) → a ≤ n → p n ≡ q n) → filter p (range_with_len a m) ≡ filter q (range_with_len a m)
filter-agree p q a zero h = refl
filter-agree p q a (suc m) h =
    let here : p a ≡ q a = h a (omega arith) in
    let rest : filter p (range_with_len (a + 1) m) ≡ filter q (range_with_len (a + 1) m) =
    filter-agree p q (a + 1) m (λ n le. h n (omega arith)) in
    λ i. cond (here i) (a ∷ rest i) (rest i)

-- once the first k come into use, the others are left
unused-left :
    (used : ℕ → Bool) (k a m : ℕ) →
    filter (λ n. not (is_in (take k (unused used a m)) n || used n)) (range_with_len a m) ≡ drop k (unused used a m)
unused-left used zero a m = refl
unused-left used (suc k) a zero = refl
unused-left used (suc k) a (suc m) = by_test (used a) refl (unused-left used (suc k) (a + 1) m) (unused-left used k (a + 1) m)
  where
    numbers : List ℕ
    numbers = range_with_len (a + 1) m

    rest : List ℕ
    rest = unused used (a + 1) m

    is_left : List ℕ → Type 0
    is_left l = filter (λ n. not (is_in (take (suc k) l) n || used n)) (range_with_len a (suc m)) ≡ drop (suc k) l

    by_test : (b : Bool) → used a ≡ b
        → filter (λ n. not (is_in (take (suc k) rest) n || used n)) numbers ≡ drop (suc k) rest
        → filter (λ n. not (is_in (take k rest) n || used n)) numbers ≡ drop k rest → is_left (unused used a (suc m))
    by_test true e all one =
        subst is_left (sym (out-first (λ n. not (used n)) a numbers (ap not e)))
        (out-first (λ n. not (is_in (take (suc k) rest) n || used n)) a numbers
        (ap (λ (b : Bool). not (is_in (take (suc k) rest) a || b)) e ∙ ap not (or-true (is_in (take (suc k) rest) a)))
        ∙ all)
    by_test false e all one =
        subst is_left (sym (kept-first (λ n. not (used n)) a numbers (ap not e)))
        (out-first (λ n. not (((a == n) || is_in (take k rest) n) || used n)) a numbers
        (ap (λ (b : Bool). not ((b || is_in (take k rest) a) || used a)) (same_number a))
        ∙ filter-agree (λ n. not (((a == n) || is_in (take k rest) n) || used n)) (λ n. not (is_in (take k rest) n || used n)) (a + 1) m
        (λ n le. ap (λ (b : Bool). not ((b || is_in (take k rest) n) || used n)) (ne_eqb a n (λ e. omega (arith, e, le))))
        ∙ one)

-- the free slots of a store in which the first k of these came into use
pub free-left : (s t : Store) (k : ℕ) → t.slots ≡ s.slots → t.in_use ≡ (with_slots s (take k (free_slots s))).in_use
    → free_slots t ≡ drop k (free_slots s)
unfolding free_slots
free-left s t k slots used = (λ i. free_among (slots i) (used i)) ∙ unused-left s.in_use k 6 (s.slots - 5)

-- a number is none of the first k where it differs from each free slot
none-among : (P : ℕ → Type 0) (slots : List ℕ) (k n : ℕ) → ((m : ℕ) → P m → m ≢ n) → All P slots → is_in (take k slots) n ≡ false
none-among P slots k n apart all =
    list_any_none (λ m. m == n) (take k slots)
    (All-take (λ m. (m == n) ≡ false) k slots (All-weaker P (λ m. (m == n) ≡ false) (λ m is. ne_eqb m n (apart m is)) slots all))

-- a slot that is in use is no free one
pub used-none : (s : Store) (k n : ℕ) → s.in_use n ≡ true → is_in (take k (free_slots s)) n ≡ false
unfolding free_slots
used-none s k n used =
    none-among (λ m. not (s.in_use m) ≡ true) (free_slots s) k n
    (λ m free e. let no : false ≡ true = sym (ap (λ k. not (s.in_use k)) e ∙ ap not used) ∙ free in absurd (cc))
    (filter_passes (λ m. not (s.in_use m)) (range_with_len 6 (s.slots - 5)))

-- nor is one that isn't there
pub above-none : (s : Store) (k n : ℕ) → s.slots < n → is_in (take k (free_slots s)) n ≡ false
unfolding free_slots
above-none s k n above =
    none-among (λ m. m ≤ s.slots) (free_slots s) k n (λ m there e. omega (arith, there, e, above))
    (All-filter (λ m. not (s.in_use m)) (λ m. m ≤ s.slots) (range_with_len 6 (s.slots - 5)) within)
  where
    within : All (λ m. m ≤ s.slots) (range_with_len 6 (s.slots - 5))
    within = λ i d below.
        let size = length-range_with_len 6 (s.slots - 5) in
        let is = get_or-range_with_len 6 (s.slots - 5) i d (omega (arith, below, size)) in
        omega (arith, is, below, size)

-- once there are more slots, those that were free are the first
free-more : (s : Store) (a : ℕ) → (more : List ℕ) × (free_slots (with_more_slots s a) ≡ free_slots s ++ more)
unfolding free_slots
free-more s a =
    let more : ℕ = (s.slots + a - 5) - (s.slots - 5) in
    let counts : s.slots + a - 5 ≡ s.slots - 5 + more = omega arith in (
      unused s.in_use (6 + (s.slots - 5)) more,
      ap (unused s.in_use 6) counts
          ∙ ap (filter (λ n. not (s.in_use n))) (range_with_len-append 6 (s.slots - 5) more)
          ∙ filter-append (λ n. not (s.in_use n)) (range_with_len 6 (s.slots - 5)) (range_with_len (6 + (s.slots - 5)) more),
    )

pub first-free : (s : Store) (a k : ℕ) → k ≤ free_headers s → take k (free_slots (with_more_slots s a)) ≡ take k (free_slots s)
first-free s a k few = let more = free-more s a in ap (take k) more.1 ∙ take-append-le k (free_slots s) more.0 few

pub more-headers : (s : Store) (a : ℕ) → free_headers s ≤ free_headers (with_more_slots s a)
more-headers s a = let more = free-more s a in omega (arith, ap length more.1, length-append (free_slots s) more.0)

-- the first k, and then the first j of the others
pub both-in : (slots : List ℕ) (k j n : ℕ) → is_in (take (k + j) slots) n ≡ (is_in (take k slots) n || is_in (take j (drop k slots)) n)
both-in slots k j n =
    ap (λ (l : List ℕ). is_in l n) (take-add k j slots) ∙ list_any-append (λ m. m == n) (take k slots) (take j (drop k slots))
