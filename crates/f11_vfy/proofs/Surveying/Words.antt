-- Numbers that are marked a word at a time.
use Rattle.std.proofs.Common.{◌≡◌, ◌≢◌, ◌≤◌, ◌<◌, ◌+◌, ◌-◌, ◌*◌, ◌/◌, ◌%◌, ◌^◌, ◌⊎◌, ◌&&◌, ◌||◌, inl, inr, ℕ, refl, ap, sym, ◌∙◌, subst}
use Rattle.std.proofs.Common.{arith, Bool, true, false, min, max, eqb, leb, List, length, get_or, set, bit_or, bit_and}
use Rattle.std.specs.Int.{bit_at}
use Rattle.std.proofs.lemmas.Bool.{cases_lt, cases_eq, cases_Bool, eq-eqb, ne_eqb, le-leb, lt-leb, both_ways}
use Rattle.std.proofs.lemmas.List.{get_or-set_other}
use Rattle.std.proofs.lemmas.Grind.{get_or-set_at}
use Rattle.std.proofs.lemmas.Nat.Bits.{bit_at_mask_below, bit_at_mask_inside, bit_at_mask_above, bit_at_or, bit_at_and, bit_at-lt}
use Rattle.std.proofs.lemmas.Nat.Bits.{bit_at-zero}
use Rattle.std.proofs.Math.Bool.{or-false}
use Rattle.f11_vfy.specs.Surveying.Bits.{has, in_word, limit_of}
use Rattle.f11_vfy.specs.Surveying.Count.{Shows, within, one_if}
use Rattle.f11_vfy.specs.declared.survey.tally.Tally.{Tally}
use Rattle.f11_vfy.proofs.Surveying.Tally.{within-in, within-below, within-above, within-none}

-- a bit of two words, one of which is 1, or both are
or-bit : (a b : ℕ) → a < 2 → b < 2 → eqb (max a b) 1 ≡ (eqb a 1 || eqb b 1)
or-bit a b x y = go (cases_eq a 1) (cases_eq b 1)
  where
    go : (a ≡ 1) ⊎ (a ≢ 1) → (b ≡ 1) ⊎ (b ≢ 1) → eqb (max a b) 1 ≡ (eqb a 1 || eqb b 1)
    go (inl p) q = eq-eqb _ _ (omega (arith, p, y)) ∙ sym (ap (λ z. z || eqb b 1) (eq-eqb a 1 p))
    go (inr p) (inl q) = eq-eqb _ _ (omega (arith, q, x)) ∙ sym (ap (λ z. z || eqb b 1) (ne_eqb a 1 p) ∙ eq-eqb b 1 q)
    go (inr p) (inr q) = ne_eqb _ _ (λ e. omega (arith, e, p, q, x, y)) ∙ sym (ap (λ z. z || eqb b 1) (ne_eqb a 1 p) ∙ ne_eqb b 1 q)

and-bit : (a b : ℕ) → a < 2 → b < 2 → eqb (min a b) 1 ≡ (eqb a 1 && eqb b 1)
and-bit a b x y = go (cases_eq a 1) (cases_eq b 1)
  where
    go : (a ≡ 1) ⊎ (a ≢ 1) → (b ≡ 1) ⊎ (b ≢ 1) → eqb (min a b) 1 ≡ (eqb a 1 && eqb b 1)
    go (inr p) q = ne_eqb _ _ (λ e. omega (arith, e, p, x, y)) ∙ sym (ap (λ z. z && eqb b 1) (ne_eqb a 1 p))
    go (inl p) (inl q) = eq-eqb _ _ (omega (arith, p, q)) ∙ sym (ap (λ z. z && eqb b 1) (eq-eqb a 1 p) ∙ eq-eqb b 1 q)
    go (inl p) (inr q) = ne_eqb _ _ (λ e. omega (arith, e, p, q, y)) ∙ sym (ap (λ z. z && eqb b 1) (eq-eqb a 1 p) ∙ ne_eqb b 1 q)

-- a word put into a set
pub word-put : (ws : List ℕ) (i j x mask : ℕ) → i < length ws → x ≡ get_or ws i 0
    → eqb (bit_at (get_or (set ws i (bit_or x mask)) (j / 64) 0) (j % 64))
    1 ≡ (eqb (bit_at (get_or ws (j / 64) 0) (j % 64)) 1 || in_word mask i j)
unfolding in_word
word-put ws i j x mask h is = go (cases_eq (j / 64) i)
  where
    go : (j / 64 ≡ i) ⊎ (j / 64 ≢ i)
        → eqb (bit_at (get_or (set ws i (bit_or x mask)) (j / 64) 0) (j % 64))
        1 ≡ (eqb (bit_at (get_or ws (j / 64) 0) (j % 64)) 1 || (eqb (j / 64) i && eqb (bit_at mask (j % 64)) 1))
    go (inl p) =
        ap (λ z. eqb (bit_at z (j % 64)) 1) (get_or-set_at ws i (j / 64) _ 0 p h)
        ∙ ap (λ z. eqb z 1) (bit_at_or x mask (j % 64))
        ∙ or-bit (bit_at x (j % 64)) (bit_at mask (j % 64)) (bit_at-lt x (j % 64)) (bit_at-lt mask (j % 64))
        ∙ ap (λ z. eqb (bit_at z (j % 64)) 1 || eqb (bit_at mask (j % 64)) 1) (is ∙ ap (λ z. get_or ws z 0) (sym p))
        ∙ ap (λ z. eqb (bit_at (get_or ws (j / 64) 0) (j % 64)) 1 || (z && eqb (bit_at mask (j % 64)) 1)) (sym (eq-eqb (j / 64) i p))
    go (inr p) =
        ap (λ z. eqb (bit_at z (j % 64)) 1) (get_or-set_other ws i (j / 64) _ 0 p)
        ∙ sym (ap (λ z. eqb (bit_at (get_or ws (j / 64) 0) (j % 64)) 1 || (z && eqb (bit_at mask (j % 64)) 1)) (ne_eqb (j / 64) i p)
        ∙ or-false _)

-- those of a word that are in a set already
pub word-both : (before mask i j : ℕ) (held : Bool) → (j / 64 ≡ i → held ≡ eqb (bit_at before (j % 64)) 1)
    → in_word (bit_and before mask) i j ≡ (held && in_word mask i j)
unfolding in_word
word-both before mask i j held is = go (cases_eq (j / 64) i)
  where
    none : (b : Bool) → false ≡ (b && false)
    none true = refl
    none false = refl

    go : (j / 64 ≡ i) ⊎ (j / 64 ≢ i)
        → (eqb (j / 64) i && eqb (bit_at (bit_and before mask) (j % 64)) 1) ≡ (held && (eqb (j / 64) i && eqb (bit_at mask (j % 64)) 1))
    go (inl p) =
        ap (λ z. z && eqb (bit_at (bit_and before mask) (j % 64)) 1) (eq-eqb (j / 64) i p)
        ∙ ap (λ z. eqb z 1) (bit_at_and before mask (j % 64))
        ∙ and-bit (bit_at before (j % 64)) (bit_at mask (j % 64)) (bit_at-lt before (j % 64)) (bit_at-lt mask (j % 64))
        ∙ ap (λ z. z && eqb (bit_at mask (j % 64)) 1) (sym (is p))
        ∙ ap (λ z. held && (z && eqb (bit_at mask (j % 64)) 1)) (sym (eq-eqb (j / 64) i p))
    go (inr p) =
        ap (λ z. z && eqb (bit_at (bit_and before mask) (j % 64)) 1) (ne_eqb (j / 64) i p)
        ∙ none held
        ∙ ap (λ z. held && (z && eqb (bit_at mask (j % 64)) 1)) (sym (ne_eqb (j / 64) i p))

-- the numbers of a mask are a run
pub mask-within : (i low high l : ℕ) → low ≤ high → high ≤ 64
    → one_if (in_word (2 ^ high - 2 ^ low) i l) ≡ within (64 * i + low) (64 * i + high) l
unfolding in_word
mask-within i low high l order most = go (cases_lt l (64 * i + low)) (cases_lt l (64 * i + high))
  where
    bit : Bool
    bit = eqb (bit_at (2 ^ high - 2 ^ low) (l % 64)) 1

    fails : bit_at (2 ^ high - 2 ^ low) (l % 64) ≡ 0 → one_if (eqb (l / 64) i && eqb (bit_at (2 ^ high - 2 ^ low) (l % 64)) 1) ≡ 0
    fails e = ap (λ z. one_if (eqb (l / 64) i && eqb z 1)) e ∙ none (eqb (l / 64) i)
      where
        none : (b : Bool) → one_if (b && false) ≡ 0
        none true = refl
        none false = refl

    elsewhere : l / 64 ≢ i → one_if (eqb (l / 64) i && eqb (bit_at (2 ^ high - 2 ^ low) (l % 64)) 1) ≡ 0
    elsewhere ne = ap (λ z. one_if (z && eqb (bit_at (2 ^ high - 2 ^ low) (l % 64)) 1)) (ne_eqb (l / 64) i ne)

    go : (l < 64 * i + low) ⊎ (64 * i + low ≤ l) → (l < 64 * i + high) ⊎ (64 * i + high ≤ l)
        → one_if (eqb (l / 64) i && eqb (bit_at (2 ^ high - 2 ^ low) (l % 64)) 1) ≡ within (64 * i + low) (64 * i + high) l
    go (inl x) y = zero (cases_eq (l / 64) i) ∙ sym (within-below (64 * i + low) (64 * i + high) l x)
      where
        zero : (l / 64 ≡ i) ⊎ (l / 64 ≢ i) → one_if (eqb (l / 64) i && eqb (bit_at (2 ^ high - 2 ^ low) (l % 64)) 1) ≡ 0
        zero (inl e) = fails (bit_at_mask_below low high (l % 64) (omega (arith, e, x)))
        zero (inr e) = elsewhere e
    go (inr x) (inl y) =
        ap (λ z. one_if (z && eqb (bit_at (2 ^ high - 2 ^ low) (l % 64)) 1)) (eq-eqb (l / 64) i (omega (arith, x, y, most)))
        ∙ ap (λ z. one_if (eqb z 1)) (bit_at_mask_inside low high (l % 64) (omega (arith, x, y, most)) (omega (arith, x, y, most)))
        ∙ sym (within-in (64 * i + low) (64 * i + high) l x y)
    go (inr x) (inr y) = zero (cases_eq (l / 64) i) ∙ sym (within-above (64 * i + low) (64 * i + high) l y)
      where
        zero : (l / 64 ≡ i) ⊎ (l / 64 ≢ i) → one_if (eqb (l / 64) i && eqb (bit_at (2 ^ high - 2 ^ low) (l % 64)) 1) ≡ 0
        zero (inl e) = fails (bit_at_mask_above low high (l % 64) (omega (arith, e, y)))
        zero (inr e) = elsewhere e

-- so none of them is outside it
pub mask-inside : (i low high l : ℕ) → low ≤ high → high ≤ 64 → in_word (2 ^ high - 2 ^ low) i l ≡ true → l < 64 * i + high
mask-inside i low high l order most is = go (cases_lt l (64 * i + high))
  where
    one : within (64 * i + low) (64 * i + high) l ≡ 1
    one = sym (mask-within i low high l order most) ∙ ap one_if is

    go : (l < 64 * i + high) ⊎ (64 * i + high ≤ l) → l < 64 * i + high
    go (inl x) = x
    go (inr x) = absurd (omega (arith, one, within-above (64 * i + low) (64 * i + high) l x))

-- two runs, one behind the other
pub within-join : (a m b l : ℕ) → a ≤ m → m ≤ b → within a m l + within m b l ≡ within a b l
within-join a m b l p q = go (cases_lt l a) (cases_lt l m) (cases_lt l b)
  where
    go : (l < a) ⊎ (a ≤ l) → (l < m) ⊎ (m ≤ l) → (l < b) ⊎ (b ≤ l) → within a m l + within m b l ≡ within a b l
    go (inl x) y z = omega (arith, within-below a m l x, within-below m b l (omega arith), within-below a b l x)
    go (inr x) (inl y) z = omega (arith, within-in a m l x y, within-below m b l y, within-in a b l x (omega arith))
    go (inr x) (inr y) (inl z) = omega (arith, within-above a m l y, within-in m b l y z, within-in a b l x z)
    go (inr x) (inr y) (inr z) = omega (arith, within-above a m l y, within-above m b l z, within-above a b l z)

-- a count with those of a word more
once-more : (c : ℕ) (b held : Bool) → held ≡ leb 1 c → (held || b) ≡ leb 1 (c + one_if b)
once-more c true held is = or-true held ∙ sym (le-leb 1 (c + 1) (omega arith))
  where
    or-true : (t : Bool) → (t || true) ≡ true
    or-true true = refl
    or-true false = refl
once-more c false held is = or-false held ∙ is ∙ ap (leb 1) (omega arith)

twice-more : (c : ℕ) (b held two : Bool) → held ≡ leb 1 c → two ≡ leb 2 c → (two || (held && b)) ≡ leb 2 (c + one_if b)
twice-more c false held two is be = ap (λ z. two || z) (none held) ∙ or-false two ∙ be ∙ ap (leb 2) (omega arith)
  where
    none : (t : Bool) → (t && false) ≡ false
    none true = refl
    none false = refl
twice-more c true held two is be = go (cases_lt c 1) (cases_lt c 2)
  where
    all : (t : Bool) → (t && true) ≡ t
    all true = refl
    all false = refl

    or-true : (t : Bool) → (t || true) ≡ true
    or-true true = refl
    or-true false = refl

    go : (c < 1) ⊎ (1 ≤ c) → (c < 2) ⊎ (2 ≤ c) → (two || (held && true)) ≡ leb 2 (c + 1)
    go (inl x) y =
        ap (λ z. z || (held && true)) (be ∙ lt-leb 2 c (omega arith)) ∙ all held ∙ is ∙ lt-leb 1 c x ∙ sym (lt-leb 2 (c + 1) (omega arith))
    go (inr x) y = ap (λ z. two || z) (all held ∙ is ∙ le-leb 1 c x) ∙ or-true two ∙ sym (le-leb 2 (c + 1) (omega arith))

-- a tally with those of a word more
pub word-shown : (old new : Tally) (mask before i : ℕ) (c : ℕ → ℕ) → Shows old c
    → ((l : ℕ) → l / 64 ≡ i → has old.once l ≡ eqb (bit_at before (l % 64)) 1)
    → ((l : ℕ) → has new.once l ≡ (has old.once l || in_word mask i l))
    → ((l : ℕ) → has new.twice l ≡ (has old.twice l || in_word (bit_and before mask) i l))
    → limit_of new.once ≡ limit_of old.once → ((l : ℕ) → in_word mask i l ≡ true → l < limit_of old.once)
    → Shows new (λ l. c l + one_if (in_word mask i l))
word-shown old new mask before i c shows word once twice limit inside = record {
  once = λ l. once l ∙ once-more (c l) (in_word mask i l) (has old.once l) (shows.once l);
  twice = λ l. twice l ∙ ap (λ z. has old.twice l || z) (word-both before mask i l (has old.once l) (word l))
      ∙ twice-more (c l) (in_word mask i l) (has old.once l) (has old.twice l) (shows.once l) (shows.twice l);
  inside = λ l some. subst (λ n. l < n) (sym limit) (below l some (cases_Bool (in_word mask i l)));
}
  where
    below : (l : ℕ) → 1 ≤ c l + one_if (in_word mask i l) → (in_word mask i l ≡ true) ⊎ (in_word mask i l ≡ false) → l < limit_of old.once
    below l some (inl is) = inside l is
    below l some (inr fails) = shows.inside l (omega (arith, some, ap one_if fails))

-- how far a run is marked before word i
abbrev pub reached : ℕ → ℕ → ℕ → ℕ
reached first end i = max first (min (64 * i) end)

pub run-none : (first end c l : ℕ) → c ≡ c + within first (reached first end (first / 64)) l
run-none first end c l = omega (arith, ap (λ m. within first m l) none, within-none first l)
  where
    none : reached first end (first / 64) ≡ first
    none = omega arith

-- one word more of it
pub run-more : (first end i low high mask c l : ℕ) → first ≤ end → first / 64 ≤ i → 64 * i < end → low ≡ first - 64 * i
    → high ≡ min (end - 64 * i) 64 → mask ≡ 2 ^ high - 2 ^ low
    → c + within first (reached first end i) l + one_if (in_word mask i l) ≡ c + within first (reached first end (i + 1)) l
run-more first end i low high mask c l order from before low_is high_is mask_is =
    omega (
      arith,
      ap (λ m. one_if (in_word m i l)) mask_is,
      mask-within i low high l (omega arith) (omega arith),
      ap (λ m. within m (64 * i + high) l) starts,
      ap (λ m. within (reached first end i) m l) ends,
      within-join first (reached first end i) (reached first end (i + 1)) l (omega arith) (omega arith),
    )
  where
    starts : 64 * i + low ≡ reached first end i
    starts = omega arith

    ends : 64 * i + high ≡ reached first end (i + 1)
    ends = omega arith

-- all of it
pub run-all : (first end i c l : ℕ) → first ≤ end → end ≤ 64 * i → c + within first (reached first end i) l ≡ c + within first end l
run-all first end i c l order all = ap (λ m. c + within first m l) done
  where
    done : reached first end i ≡ end
    done = omega arith

-- and none behind its end
pub run-inside : (first end i low high mask l : ℕ) → first ≤ end → first / 64 ≤ i → 64 * i < end → low ≡ first - 64 * i
    → high ≡ min (end - 64 * i) 64 → mask ≡ 2 ^ high - 2 ^ low → in_word mask i l ≡ true → l < end
run-inside first end i low high mask l order from before low_is high_is mask_is is =
    let below : l < 64 * i + high = mask-inside i low high l (omega arith) (omega arith) (subst (λ m. in_word m i l ≡ true) mask_is is) in
    omega arith

-- a word of zeros has no number
pub zero-word : (word i k : ℕ) {held : Bool} → k < 64 * (i + 1) → 64 * i ≤ k → word ≡ 0 → (k / 64 ≡ i → held ≡ eqb (bit_at word (k % 64)) 1)
    → ¬ (held ≡ true)
zero-word word i k {held} below from none bit is =
    let zero : eqb (bit_at word (k % 64)) 1 ≡ false = ap (λ w. eqb (bit_at w (k % 64)) 1) none ∙ ap (λ b. eqb b 1) (bit_at-zero (k % 64)) in
    both_ways held (bit (omega arith) ∙ zero) is

-- a word that has all bits of a run's mask has the number
pub masked-word : (first end i low high word all k : ℕ) {held : Bool} → low ≡ first - 64 * i → high ≡ min (end - 64 * i) 64
    → all ≡ 2 ^ high - 2 ^ low → bit_and word all ≡ all → first ≤ k → k < end
    → 64 * i ≤ k → k < 64 * (i + 1) → (k / 64 ≡ i → held ≡ eqb (bit_at word (k % 64)) 1) → held ≡ true
masked-word first end i low high word all k {held} low_is high_is all_is both from below behind before bit =
    let one : bit_at all (k % 64) ≡ 1 =
    ap (λ m. bit_at m (k % 64)) all_is
    ∙ bit_at_mask_inside low high (k % 64) (omega (arith, low_is, from, behind, before)) (omega (arith, high_is, below, behind, before))
    in
    let least : min (bit_at word (k % 64)) (bit_at all (k % 64)) ≡ bit_at all (k % 64) = sym (bit_at_and word all (k % 64))
    ∙ ap (λ m. bit_at m (k % 64)) both in
    bit (omega (arith, behind, before)) ∙ eq-eqb (bit_at word (k % 64)) 1 (omega (arith, one, least, bit_at-lt word (k % 64)))

-- of two words that have all bits together, one has the number
pub full-words : (x y i k : ℕ) {one other : Bool} → k < 64 * (i + 1) → 64 * i ≤ k → bit_or x y ≡ 2 ^ 64 - 2 ^ 0
    → (k / 64 ≡ i → one ≡ eqb (bit_at x (k % 64)) 1)
    → (k / 64 ≡ i → other ≡ eqb (bit_at y (k % 64)) 1) → (one || other) ≡ true
full-words x y i k {one} {other} below from all of_one of_other =
    let here : k / 64 ≡ i = omega (arith, below, from) in
    ap (λ b. b || other) (of_one here) ∙ ap (λ b. eqb (bit_at x (k % 64)) 1 || b) (of_other here)
    ∙ sym (or-bit (bit_at x (k % 64)) (bit_at y (k % 64)) (bit_at-lt x (k % 64)) (bit_at-lt y (k % 64)))
    ∙ ap (λ n. eqb n 1) (sym (bit_at_or x y (k % 64)) ∙ ap (λ w. bit_at w (k % 64)) all ∙ bit_at_mask_inside 0 64 (k % 64) (omega arith)
    (omega arith))
