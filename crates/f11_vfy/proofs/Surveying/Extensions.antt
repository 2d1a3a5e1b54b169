-- The extension headers of a table, in order, and what is kept of them.
use Rattle.std.proofs.Common.{◌≡◌, ◌≢◌, ℕ, zero, suc, ◌+◌, ◌<◌, ◌&&◌, Bool, true, false, not, List, [], ◌∷◌, ◌++◌, length, Some}
use Rattle.std.proofs.Common.{if◌then◌else◌, inl, inr, refl, ap, sym, subst, ◌∙◌, arith, add-one}
use Rattle.std.specs.Prelude.{◌==◌}
use Rattle.std.specs.List.{slice_get}
use Rattle.std.proofs.lemmas.Bool.{cases_eq, cond-false, cond-true, eqb-false, false_from_ne_true, ne_eqb}
use Rattle.std.proofs.lemmas.List.{length-append}
use Rattle.f11_map.specs.HeaderBlock.{segment_number}
use Rattle.f11_index.specs.Headers.{is_live}
use Rattle.f11_index.specs.Table.{Table, IsFile, first}
use Rattle.f11_index.proofs.NextLemmas.{live-tested}
use Rattle.f11_rad50.proofs.Spelled.{both}
use Rattle.f11_vfy.specs.Reclaiming.Slots.{IsOrphan}
use Rattle.f11_vfy.specs.Surveying.Extensions.{IsExtension, extension_of, extensions_to, extension_in, IsToKeep, TakesExtension}
use Rattle.f11_vfy.specs.Surveying.Slot.{HasState}
use Rattle.f11_vfy.specs.declared.survey.extensions.Extensions.{Extensions}
use Rattle.f11_vfy.specs.declared.survey.slot.State.{State}
use Rattle.f11_vfy.specs.declared.survey.slot.State.TheVariants.{Unused, Dead, Bad, Live}
use Rattle.f11_vfy.proofs.Surveying.Slots.{live-from, live-to}

-- one that is an extension header, and one that isn't
extension-one : (t : Table) (n : ℕ) → IsExtension t n → extension_of t n ≡ t.header n ∷ []
unfolding extension_of
extension-one t n is = cond-true (is_live t n && not (segment_number (t.header n) == 0)) (t.header n ∷ []) []
    (rw (((live-tested t n).1 is.live), ne_eqb (segment_number (t.header n)) 0 is.later) refl)

not-true : (b : Bool) → not b ≡ true → b ≡ false
not-true false is = refl
not-true true is = absurd cc

extension-none : (t : Table) (n : ℕ) → ¬ IsExtension t n → extension_of t n ≡ []
unfolding extension_of
extension-none t n none = cond-false (is_live t n && not (segment_number (t.header n) == 0)) (t.header n ∷ []) []
    (false_from_ne_true _ (λ is.
    let (live, later) = both (is_live t n) (not (segment_number (t.header n) == 0)) is in
    none (record { live = (live-tested t n).0 live; later = eqb-false (segment_number (t.header n)) 0 (not-true _ later) })))

-- what a slot has, by its state
pub in-live : (s : State) (block : List ℕ) (segment : ℕ) → s ≡ Live → segment ≡ segment_number block
    → extension_in s block ≡ (if not (segment == 0) then block ∷ [] else [])
unfolding extension_in
in-live s block segment alive same =
    ap (λ (x : State). extension_in x block) alive ∙ unless-zero (segment_number block == 0) block
    ∙ ap (λ (x : ℕ). if not (x == 0) then block ∷ [] else []) (sym same)
  where
    unless-zero : (b : Bool) (x : List ℕ) → (if b then [] else x ∷ []) ≡ (if not b then x ∷ [] else [])
    unless-zero true x = refl
    unless-zero false x = refl

pub in-other : (s : State) (block : List ℕ) → s ≢ Live → extension_in s block ≡ []
unfolding extension_in
in-other Live block other = absurd (other refl)
in-other Unused block other = refl
in-other Dead block other = refl
in-other Bad block other = refl

-- by what the slot's state says
by-segment : (here live : Bool) (block : List ℕ) → live ≡ true
    → (if here then [] else block ∷ []) ≡ (if live && not here then block ∷ [] else [])
by-segment true true block is = refl
by-segment false true block is = refl
by-segment here false block is = absurd cc

pub extension-is : (t : Table) (n : ℕ) (s : State) (block : List ℕ) → HasState t n s → (s ≡ Live → block ≡ t.header n)
    → extension_in s block ≡ extension_of t n
unfolding extension_in extension_of
extension-is t n Live block has same =
    ap (extension_in Live) (same refl)
    ∙ by-segment (segment_number (t.header n) == 0) (is_live t n) (t.header n) ((live-tested t n).1 (live-from t n Live has refl))
extension-is t n Unused block has same =
    sym (extension-none t n (λ is. let no : Unused ≡ Live = live-to t n Unused has is.live in cc))
extension-is t n Dead block has same = sym (extension-none t n (λ is. let no : Dead ≡ Live = live-to t n Dead has is.live in cc))
extension-is t n Bad block has same = sym (extension-none t n (λ is. let no : Bad ≡ Live = live-to t n Bad has is.live in cc))

-- none, and one more
pub extensions-none : (t : Table) → extensions_to t 0 ≡ []
unfolding extensions_to
extensions-none t = refl

pub extensions-more : (t : Table) (n : ℕ) → extensions_to t (n + 1) ≡ extensions_to t n ++ extension_of t (n + 1)
unfolding extensions_to
extensions-more t n = ap (extensions_to t) (add-one n)

-- how many there are then
pub extension-counted : (t : Table) (n : ℕ) → IsExtension t (n + 1) → length (extensions_to t (n + 1)) ≡ length (extensions_to t n) + 1
extension-counted t n is =
    ap length (extensions-more t n) ∙ ap (λ (xs : List (List ℕ)). length (extensions_to t n ++ xs)) (extension-one t (n + 1) is)
    ∙ length-append (extensions_to t n) (t.header (n + 1) ∷ [])

pub extension-passed : (t : Table) (n : ℕ) → ¬ IsExtension t (n + 1) → length (extensions_to t (n + 1)) ≡ length (extensions_to t n)
extension-passed t n none =
    let none_more = ap (λ (xs : List (List ℕ)). length (extensions_to t n ++ xs)) (extension-none t (n + 1) none) in
    let counted = length-append (extensions_to t n) [] in
    let more = ap length (extensions-more t n) in
    omega (arith, none_more, counted, more)

-- an element stays where others come behind it, and the next one is the first of those
stays-before : (xs ys : List (List ℕ)) (i : ℕ) (x : List ℕ) → slice_get xs i ≡ Some x → slice_get (xs ++ ys) i ≡ Some x
stays-before [] ys i x at = absurd cc
stays-before (y ∷ xs) ys zero x at = at
stays-before (y ∷ xs) ys (suc i) x at = stays-before xs ys i x at

next-behind : (xs ys : List (List ℕ)) (x : List ℕ) → slice_get (xs ++ x ∷ ys) (length xs) ≡ Some x
next-behind [] ys x = refl
next-behind (y ∷ xs) ys x = next-behind xs ys x

-- an extension header stands behind those before it
pub extension-at : (t : Table) (k n : ℕ) → IsExtension t (k + 1) → k < n
    → slice_get (extensions_to t n) (length (extensions_to t k)) ≡ Some (t.header (k + 1))
unfolding extensions_to
extension-at t k zero is below = absurd (omega (arith, below))
extension-at t k (suc n) is below = elim (cases_eq k n) [
  | inl here ↦
      subst (λ m. slice_get (extensions_to t m ++ extension_of t (m + 1)) (length (extensions_to t k)) ≡ Some (t.header (k + 1))) here
      (ap (λ (xs : List (List ℕ)). slice_get (extensions_to t k ++ xs) (length (extensions_to t k))) (extension-one t (k + 1) is)
      ∙ next-behind (extensions_to t k) [] (t.header (k + 1)))
  | inr apart ↦ stays-before (extensions_to t n) (extension_of t (n + 1)) (length (extensions_to t k)) (t.header (k + 1))
      (extension-at t k n is (omega (arith, below, apart)))
]

-- one slot more was taken
pub kept-more : (t : Table) (k : ℕ) (state : State) (block : List ℕ) (before old new : Extensions) → TakesExtension state block old new
    → HasState t (k + 1) state → (state ≡ Live → block ≡ t.header (k + 1)) → IsToKeep before → old.wanted ≡ before.wanted
    → old.blocks.items ≡ extensions_to t k → new.blocks.items ≡ extensions_to t (k + 1)
kept-more t k state block before old new takes has same keep wanted so_far =
    takes.blocks
    ∙ cond-true old.wanted (old.blocks.items ++ extension_in state block) old.blocks.items (wanted ∙ keep.wanted)
    ∙ ap (λ (xs : List (List ℕ)). xs ++ extension_in state block) so_far
    ∙ ap (λ (xs : List (List ℕ)). extensions_to t k ++ xs) (extension-is t (k + 1) state block has same) ∙ sym (extensions-more t k)

-- an orphan is an extension header
pub orphan-extension : (t : Table) (n : ℕ) → IsOrphan t n → IsExtension t n
orphan-extension t n orphan = record {
  live = orphan.live;
  later = λ zero_segment.
      let file : IsFile t n = record { live = orphan.live; first = zero_segment } in
      orphan.of_none (record { file = n; of = first file });
}
