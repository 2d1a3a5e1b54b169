-- The table of accesses by its places.
use Rattle.std.proofs.Common.{◌≡◌, ◌≢◌, ℕ, zero, suc, ◌+◌, ◌*◌, ◌/◌, ◌%◌, ◌<◌, ◌==◌, ◌&&◌, Bool, true, false, List, length, Option, Some}
use Rattle.std.proofs.Common.{None, refl, sym, ◌∙◌, ap, arith, option_map, replicate, slice_index_or, nat_lt, if◌then◌else◌}
use Rattle.std.specs.Prelude.{slice_set}
use Rattle.std.specs.List.{range_with_len, list_any}
use Rattle.std.proofs.lemmas.Bool.{and_from, and_parts, lt-ltb, ltb-true, eq-eqb, eqb-true}
use Rattle.std.proofs.lemmas.List.{get_or-set_other, get_or-set_same}
use Rattle.std.proofs.lemmas.List.Folds.{list_any_none}
use Rattle.std.proofs.lemmas.List.FromFn.{get_or-range_with_len, length-range_with_len}
use Rattle.f11_store.specs.declared.files.FileId.{FileId}
use Rattle.f11_store.specs.declared.files.Mode.{Mode}
use Rattle.f11_store.specs.Store.{is_to}
use Rattle.f11_fcp.specs.declared.table.Held.{Held}
use Rattle.f11_fcp.specs.Accesses.{access_of, accesses, is_held_in, with_table_entry}
use Rattle.f11_fcp.specs.Places.{entry_of, access_table_in}
use Rattle.f11_store.proofs.FateLaws.{any-range}

-- nothing stands anywhere in an empty table
pub none-at : (o : Option Held) (n k : ℕ) → slice_index_or (replicate n o) k o ≡ o
none-at o zero k = refl
none-at o (suc n) zero = refl
none-at o (suc n) (suc k) = none-at o n k

-- what stands at a place passes
abbrev pub stands : (Mode → Bool) → FileId → List (Option Held) → ℕ → Bool
stands test id places k = is_to test id (option_map access_of (option_map entry_of (slice_index_or places k None)))

-- no number settles the answer
pub none-range : (p : ℕ → Bool) (n : ℕ) → ((i : ℕ) → i < n → p i ≡ false) → list_any p (range_with_len 0 n) ≡ false
none-range p n never = list_any_none p (range_with_len 0 n)
    (λ i d within.
    let low : i < n = omega (arith, within, length-range_with_len 0 n) in
    let at : 0 + i ≡ i = omega arith in
    ap p (get_or-range_with_len 0 n i d low ∙ at) ∙ never i low)

pub found-at : (test : Mode → Bool) (id : FileId) (places : List (Option Held)) (k : ℕ) → k < 32 → stands test id places k ≡ true
    → is_held_in test (access_table_in places) id ≡ true
unfolding is_held_in
found-at test id places k low is =
    let task : k / 4 < 8 = omega arith in
    let lun : k % 4 < 4 = omega arith in
    let at : 4 * (k / 4) + k % 4 ≡ k = omega arith in
    any-range (λ t. list_any (λ l. is_to test id (accesses (access_table_in places) t l)) (range_with_len 0 4)) 8 (k / 4) task
    (any-range (λ l. is_to test id (accesses (access_table_in places) (k / 4) l)) 4 (k % 4) lun
    (rw (lt-ltb (k % 4) 4 lun) (ap (stands test id places) at ∙ is)))

pub found-none : (test : Mode → Bool) (id : FileId) (places : List (Option Held)) → ((k : ℕ) → k < 32 → stands test id places k ≡ false)
    → is_held_in test (access_table_in places) id ≡ false
unfolding is_held_in
found-none test id places never =
    none-range (λ t. list_any (λ l. is_to test id (accesses (access_table_in places) t l)) (range_with_len 0 4)) 8
    (λ t early. none-range (λ l. is_to test id (accesses (access_table_in places) t l)) 4
    (λ l small. rw (lt-ltb l 4 small) (never (4 * t + l) (omega arith))))

pub stands-at : (test : Mode → Bool) (id : FileId) (places : List (Option Held)) (k : ℕ) (h : Held) → slice_index_or places k None ≡ Some h
    → h.file.number ≡ id.number
    → h.file.sequence ≡ id.sequence → test h.mode ≡ true → stands test id places k ≡ true
stands-at test id places k h is number sequence passes =
    rw is (rw (eq-eqb h.file.number id.number number) (rw (eq-eqb h.file.sequence id.sequence sequence) passes))

-- what is put at a place stands there
pub set-at : (places : List (Option Held)) (k task lun : ℕ) (o : Option Held) → length places ≡ 32 → k ≡ 4 * task + lun → task < 8 → lun < 4
    → access_table_in (slice_set places k o) ≡ with_table_entry (access_table_in places) task lun (option_map entry_of o)
set-at places k task lun o all is low small = λ i t l. by_test t l ((t == task) && (l == lun)) refl i
  where
    within : k < length places
    within = omega (arith, all, is, low, small)

    elsewhere : (t l : ℕ) → ((t == task) && (l == lun)) ≡ false → l < 4 → 4 * t + l ≢ k
    elsewhere t l other lower same =
        let first : t ≡ task = omega (arith, same, is, small, lower) in
        let second : l ≡ lun = omega (arith, same, is, first) in
        let no : false ≡ true = sym other ∙ and_from (t == task) (l == lun) (eq-eqb t task first) (eq-eqb l lun second) in cc

    by_lun : (t l : ℕ) → ((t == task) && (l == lun)) ≡ false → (b : Bool) → nat_lt l 4 ≡ b
        → (if b then option_map entry_of (slice_index_or (slice_set places k o) (4 * t + l) None) else None)
        ≡ (if b then option_map entry_of (slice_index_or places (4 * t + l) None) else None)
    by_lun t l other true lower =
        ap (option_map entry_of) (get_or-set_other places k (4 * t + l) o None (elsewhere t l other (ltb-true l 4 lower)))
    by_lun t l other false past = refl

    by_test : (t l : ℕ) (b : Bool) → ((t == task) && (l == lun)) ≡ b
        → access_table_in (slice_set places k o) t l ≡ (if b then option_map entry_of o else access_table_in places t l)
    by_test t l true here =
        let parts = and_parts (t == task) (l == lun) here in
        let first = eqb-true t task parts.0 in
        let second = eqb-true l lun parts.1 in
        let at : k ≡ 4 * t + l = omega (arith, is, first, second) in
        rw (lt-ltb l 4 (omega (arith, small, second)))
        (ap (λ (n : ℕ). option_map entry_of (slice_index_or (slice_set places k o) n None)) (sym at)
        ∙ ap (option_map entry_of) (get_or-set_same places k o None within))
    by_test t l false other = by_lun t l other (nat_lt l 4) refl
