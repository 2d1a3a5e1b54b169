-- The numbers of files, looked at one after another, each of which gives places, or directories.
use Rattle.std.proofs.Common.{◌≡◌, ◌++◌, ◌+◌, ◌-◌, ◌<◌, ◌≤◌, ◌||◌, ℕ, zero, suc, Bool, true, IsTrue, List, [], sym, ap, ◌∙◌, inl, inr}
use Rattle.std.proofs.Common.{arith}
use Rattle.std.proofs.Math.Bool.{or-true}
use Rattle.std.proofs.lemmas.Bool.{cases_lt}
use Rattle.std.proofs.lemmas.List.Concat.{flat_map-cons}
use Rattle.std.proofs.lemmas.List.Folds.{list_any-append}
use Rattle.std.specs.List.{flat_map, list_any, range_with_len}
use Rattle.f11_chain.specs.Calls.{table}
use Rattle.f11_dev.specs.Disk.{Disk}
use Rattle.f11_dev.specs.Image.{Image}
use Rattle.f11_index.specs.IndexFile.{Index, slots}
use Rattle.f11_index.specs.Table.{Table}
use Rattle.f11_catalog.specs.Records.{Reads}
use Rattle.f11_catalog.specs.Steps.{EntersNone}
use Rattle.f11_catalog.specs.declared.walk.state.Numbers.{Numbers}
use Rattle.f11_catalog.proofs.ContentLemmas.{slots-are}
use Rattle.f11_catalog.proofs.ListingLemmas.{reads-then, said-later}

-- what those numbers give that are still to come
abbrev pub given_to_come : {X : Type 0} → (Image → Table → ℕ → List X) → Index → Disk → Numbers → List X
given_to_come given index disk numbers =
    flat_map (given disk.image (table index disk)) (range_with_len numbers.next ((table index disk).slots + 1 - numbers.next))

-- What a number gives is among what so many numbers give from one on, if it is one of these.
pub among-numbers : {X : Type 0} (meets : X → Bool) (given : ℕ → List X) (n : ℕ) → list_any meets (given n) ≡ true → (count first : ℕ)
    → first ≤ n → n < first + count → list_any meets (flat_map given (range_with_len first count)) ≡ true
among-numbers meets given n is zero first from below = absurd (omega (arith, from, below))
among-numbers meets given n is (suc count) first from below =
    ap (list_any meets) (flat_map-cons given first (range_with_len (first + 1) count))
    ∙ list_any-append meets (given first) (flat_map given (range_with_len (first + 1) count))
    ∙ elim (cases_lt first n) [
      | inl before ↦
          ap (λ (b : Bool). list_any meets (given first) || b)
          (among-numbers meets given n is count (first + 1) (omega (arith, before)) (omega (arith, below)))
          ∙ or-true (list_any meets (given first))
      | inr here ↦
          let same : first ≡ n = omega (arith, from, here) in
          ap (λ (b : Bool). b || list_any meets (flat_map given (range_with_len (first + 1) count)))
          (ap (λ (k : ℕ). list_any meets (given k)) same ∙ is)
    ]

-- So many numbers were looked at, and none gives anything.
pub record SeesNone {X : Type 0} (given : Image → Table → ℕ → List X) (index : Index) (first here : Numbers) (old now : Disk) : Type 0 where
  pub rest : IsTrue old.honest → given_to_come given index old first ≡ given_to_come given index old here
  pub forward : first.next ≤ here.next
  pub reads : Reads old now 0

module _ {X : Type 0} (given : (ℕ → Bool) → Image → Table → ℕ → List X) (known : ℕ → Bool) (index : Index) (first here : Numbers)
    (old now : Disk) (seen : SeesNone (given known) index first here old now) where
  -- nor do others
  pub none-here : slots index < here.next → given_to_come (given known) index old here ≡ []
  none-here past =
      let t : Table = table index old in
      let none : t.slots + 1 - here.next ≡ 0 = let all = slots-are index old in omega (arith, past, all) in
      ap (λ (k : ℕ). flat_map (given known old.image t) (range_with_len here.next k)) none

  pub none-first : slots index < here.next → IsTrue old.honest → given_to_come (given known) index old first ≡ []
  none-first past honest = seen.rest honest ∙ none-here past

  -- or one more is looked at, by what was known here
  module _ (later : Numbers) (inside : here.next ≤ slots index) (on : later.next ≡ here.next + 1) (met : ℕ → Bool) (n : ℕ)
      (same-met : met ≡ known) (same-n : n ≡ here.next) where
    same : given known old.image (table index old) here.next ≡ given met now.image (table index now) n
    same =
        ap (λ (k : ℕ). given known old.image (table index old) k) (sym same-n)
        ∙ ap (λ (f : ℕ → Bool). given f old.image (table index old) n) (sym same-met)
        ∙ sym (said-later (λ image t. given met image t n) index seen.reads.1)

    -- which gives these
    pub sees-front : (front : List X) → (IsTrue now.honest → given met now.image (table index now) n ≡ front) → IsTrue old.honest
        → given_to_come (given known) index old first ≡ front ++ given_to_come (given known) index old later
    sees-front front gives honest =
        let t : Table = table index old in
        let all = slots-are index old in
        let one : t.slots + 1 - here.next ≡ suc (t.slots + 1 - later.next) = omega (arith, inside, on, all) in
        seen.rest honest
        ∙ ap (λ (k : ℕ). flat_map (given known old.image t) (range_with_len here.next k)) one
        ∙ flat_map-cons (given known old.image t) here.next (range_with_len (here.next + 1) (t.slots + 1 - later.next))
        ∙ ap (λ (k : ℕ). given known old.image t here.next
        ++ flat_map (given known old.image t) (range_with_len k (t.slots + 1 - later.next))) (sym on)
        ∙ ap (λ (xs : List X). xs ++ given_to_come (given known) index old later)
        (same ∙ gives (seen.reads.1.honest ∙ honest))

    -- or nothing
    pub sees-on : (new : Disk) → EntersNone (λ image t. given met image t n) index now new
        → SeesNone (given known) index first later old new
    sees-on new none = record {
      rest = λ honest. sees-front [] none.none honest;
      forward = omega (arith, seen.forward, on);
      reads = reads-then seen.reads none.reads;
    }
