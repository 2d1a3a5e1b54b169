-- Records of a directory, read after one was written.
use Rattle.std.proofs.Common.{◌≡◌, ◌≢◌, ℕ, zero, suc, ◌+◌, ◌-◌, ◌*◌, ◌/◌, ◌%◌, ◌<◌, ◌≤◌, ◌==◌, ◌||◌, Bool, true, false, List, [], ◌∷◌, ◌++◌}
use Rattle.std.proofs.Common.{Some, length, take, drop, get_or, set, map, find, if◌then◌else◌, refl, sym, ◌∙◌, ap, subst, arith, inl, inr}
use Rattle.std.proofs.Common.{◌⊎◌, append_assoc, length-append, nat_lt}
use Rattle.std.specs.List.{range_with_len, list_any}
use Rattle.std.proofs.lemmas.Bool.Decides.{eqb_tells, nat_tests}
use Rattle.std.proofs.lemmas.List.{length-take-le, length-drop, drop-append-le, take-append-le, drop-take, take-take, get_or-set_same}
use Rattle.std.proofs.lemmas.List.{get_or-set_other}
use Rattle.std.proofs.lemmas.Slice.{drop-append-drop}
use Rattle.std.proofs.Math.Seq.{drop-append_seam, take-append_seam}
use Rattle.f11_store.specs.Directory.{record_in, record_at, with_bytes, with_record}

-- what stands before and behind a seam
drop_at : (xs ys : List ℕ) (n : ℕ) → length xs ≡ n → drop n (xs ++ ys) ≡ ys
drop_at xs ys n h = subst (λ (k : ℕ). drop k (xs ++ ys) ≡ ys) h (drop-append_seam xs ys)

take_at : (xs ys : List ℕ) (n : ℕ) → length xs ≡ n → take n (xs ++ ys) ≡ xs
take_at xs ys n h = subst (λ (k : ℕ). take k (xs ++ ys) ≡ xs) h (take-append_seam xs ys)

-- the record that was put
pub record_put : (b r : List ℕ) (p : ℕ) → p ≤ length b → length r ≡ 16 → take 16 (drop p (with_bytes b p r)) ≡ r
record_put b r p within sixteen =
    ap (take 16) (drop_at (take p b) (r ++ drop (p + length r) b) p (length-take-le p b within))
    ∙ take_at r (drop (p + length r) b) 16 sixteen

-- a record before it
record_before : (b r : List ℕ) (p q : ℕ) → q + 16 ≤ p → p ≤ length b → take 16 (drop q (with_bytes b p r)) ≡ take 16 (drop q b)
record_before b r p q before within =
    ap (take 16) (drop-append-le q (take p b) (r ++ drop (p + length r) b) (rw taken (omega arith)))
    ∙ take-append-le 16 (drop q (take p b)) (r ++ drop (p + length r) b) (rw (length-drop, taken) (omega arith))
    ∙ ap (λ n. take 16 (drop q (take n b))) (let e : p ≡ q + (p - q) = omega arith in e)
    ∙ ap (take 16) (drop-take q (p - q) b)
    ∙ take-take 16 (p - q) (drop q b) (omega arith)
  where
    taken : length (take p b) ≡ p
    taken = length-take-le p b within

-- a record behind it
record_behind : (b r : List ℕ) (p q : ℕ) → p + 16 ≤ q → p ≤ length b → length r ≡ 16
    → take 16 (drop q (with_bytes b p r)) ≡ take 16 (drop q b)
record_behind b r p q behind within sixteen =
    ap (λ l. take 16 (drop q l)) (sym (append_assoc (take p b) r (drop (p + length r) b)))
    ∙ ap (take 16) (drop-append-drop (p + length r) b (take p b ++ r) q (omega arith) long)
  where
    long : length (take p b ++ r) ≡ p + length r
    long = rw (length-append, length-take-le p b within) refl

-- one of two different numbers is the lesser
nat_order : (j i : ℕ) → j ≢ i → (j + 1 ≤ i) ⊎ (i + 1 ≤ j)
nat_order j i differs = by_test (nat_lt j i) refl
  where
    by_test : (b : Bool) → nat_lt j i ≡ b → (j + 1 ≤ i) ⊎ (i + 1 ≤ j)
    by_test true h = inl (grind (arith, nat_tests))
    by_test false h = inr (grind (arith, nat_tests))

-- another record of the same block
pub record_in-other :
    (b r : List ℕ) (i j : ℕ) → j ≢ i → 16 * i ≤ length b → length r ≡ 16 → record_in (with_bytes b (16 * i) r) j ≡ record_in b j
record_in-other b r i j differs within sixteen = by_order (nat_order j i differs)
  where
    by_order : (j + 1 ≤ i) ⊎ (i + 1 ≤ j) → record_in (with_bytes b (16 * i) r) j ≡ record_in b j
    by_order (inl h) = record_before b r (16 * i) (16 * j) (omega arith) within
    by_order (inr h) = record_behind b r (16 * i) (16 * j) (omega arith) within sixteen

-- the record that was put among the blocks
pub record_at-same :
    (blocks : List (List ℕ)) (i : ℕ) (r : List ℕ) → i / 32 < length blocks → length (get_or blocks (i / 32) []) ≡ 512 → length r ≡ 16 →
    record_at (with_record blocks i r) i ≡ r
unfolding record_at with_record
record_at-same blocks i r there whole sixteen =
    ap (λ b. record_in b (i % 32)) (get_or-set_same blocks (i / 32) _ [] there)
    ∙ record_put (get_or blocks (i / 32) []) r (16 * (i % 32)) (omega arith) sixteen

-- another record
pub record_at-other :
    (blocks : List (List ℕ)) (i j : ℕ) (r : List ℕ) → j ≢ i → i / 32 < length blocks → length (get_or blocks (i / 32) []) ≡ 512
    → length r ≡ 16 →
    record_at (with_record blocks i r) j ≡ record_at blocks j
unfolding record_at with_record
record_at-other blocks i j r differs there whole sixteen = by_block (eqb_tells (j / 32) (i / 32))
  where
    by_block : ((j / 32 == i / 32) ≡ true) × (j / 32 ≡ i / 32) ⊎ ((j / 32 == i / 32) ≡ false) × (j / 32 ≢ i / 32) →
        record_in (get_or (set blocks (i / 32) (with_bytes (get_or blocks (i / 32) []) (16 * (i % 32)) r)) (j / 32) []) (j % 32)
        ≡ record_in (get_or blocks (j / 32) []) (j % 32)
    by_block (inl w) =
        subst (λ (n : ℕ). record_in (get_or (set blocks (i / 32) (with_bytes (get_or blocks (i / 32) []) (16 * (i % 32)) r)) n []) (j % 32)
        ≡ record_in (get_or blocks n []) (j % 32)) (sym w.1)
        (ap (λ b. record_in b (j % 32)) (get_or-set_same blocks (i / 32) _ [] there)
        ∙ record_in-other (get_or blocks (i / 32) []) r (i % 32) (j % 32) (λ e. differs (omega (arith, w.1))) (omega arith) sixteen)
    by_block (inr w) = ap (λ b. record_in b (j % 32)) (get_or-set_other blocks (i / 32) (j / 32) _ [] w.1)

-- neither of two tests passes
pub neither : (b c : Bool) → (b || c) ≡ false → (b ≡ false) × (c ≡ false)
neither false c h = (refl, h)
neither true c h = absurd (cc)

-- no number passes, where none of the list does
pub none_passes :
    (p : List ℕ → Bool) (g : ℕ → List ℕ) (a m j : ℕ) → list_any p (map g (range_with_len a m)) ≡ false → a ≤ j → j < a + m → p (g j) ≡ false
none_passes p g a zero j h low high = absurd (omega arith)
none_passes p g a (suc m) j h low high =
    by_number (eqb_tells j a) (neither (p (g a)) _ h)
    (λ above. none_passes p g (a + 1) m j (neither (p (g a)) _ h).1 (omega arith) (omega arith))
  where
    by_number : ((j == a) ≡ true) × (j ≡ a) ⊎ ((j == a) ≡ false) × (j ≢ a) →
        (p (g a) ≡ false) × (list_any p (map g (range_with_len (a + 1) m)) ≡ false) → (a + 1 ≤ j → p (g j) ≡ false) → p (g j) ≡ false
    by_number (inl w) none rest = subst (λ (n : ℕ). p (g n) ≡ false) (sym w.1) none.0
    by_number (inr w) none rest = rest (omega (arith, w.1))

-- the first number that passes is found
pub first_found :
    (p : List ℕ → Bool) (g : ℕ → List ℕ) (a m i : ℕ) → a ≤ i → i < a + m → p (g i) ≡ true → ((j : ℕ) → a ≤ j → j < i → p (g j) ≡ false) →
    find p (map g (range_with_len a m)) ≡ Some (g i)
first_found p g a zero i low high passes none = absurd (omega arith)
first_found p g a (suc m) i low high passes none =
    by_number (eqb_tells i a) (λ above. first_found p g (a + 1) m i above (omega arith) passes (λ j h k. none j (omega arith) k))
  where
    by_number : ((i == a) ≡ true) × (i ≡ a) ⊎ ((i == a) ≡ false) × (i ≢ a) →
        (a + 1 ≤ i → find p (map g (range_with_len (a + 1) m)) ≡ Some (g i)) →
        (if p (g a) then Some (g a) else find p (map g (range_with_len (a + 1) m))) ≡ Some (g i)
    by_number (inl w) rest = rw (subst (λ (n : ℕ). p (g n) ≡ true) w.1 passes) (ap (λ n. Some (g n)) (sym w.1))
    by_number (inr w) rest = rw (none a (omega arith) (omega (arith, w.1))) (rest (omega (arith, w.1)))

-- and then some number passes
pub some_passes : (p : List ℕ → Bool) (xs : List (List ℕ)) (x : List ℕ) → find p xs ≡ Some x → list_any p xs ≡ true
some_passes p [] x h = absurd (cc)
some_passes p (y ∷ ys) x h = by_test (p y) h (λ e. some_passes p ys x e)
  where
    by_test : (b : Bool) → (if b then Some y else find p ys) ≡ Some x → (find p ys ≡ Some x → list_any p ys ≡ true)
        → (b || list_any p ys) ≡ true
    by_test true e rest = refl
    by_test false e rest = rest e
