-- Blocks that hold no record of a directory.
use Rattle.std.proofs.Common.{◌≡◌, ◌≤◌, ◌<◌, ◌+◌, ◌/◌, ◌%◌, ◌==◌, ◌||◌, inl, inr, ℕ, false, true, List, [], get_or, refl, ap, sym, subst}
use Rattle.std.proofs.Common.{◌∙◌, arith}
use Rattle.std.proofs.lemmas.Bool.{both_ways, eq-eqb, eqb-true, or_cases, or_left, or_right}
use Rattle.f11_dev.specs.Image.{Image}
use Rattle.f11_store.specs.Directory.{is_empty, record_in, record_at}
use Rattle.f11_vfy.specs.Surveying.Bits.{has, limit_of}
use Rattle.f11_vfy.specs.Directory.Blank.{AddsBlank, HoldsNoRecord, HoldNoRecord, MayAdd}
use Rattle.f11_vfy.specs.Directory.Reading.{until}
use Rattle.f11_vfy.specs.declared.survey.bits.Bits.{Bits}
use Rattle.f11_volume.specs.Contents.{block_or_zeros}

-- a set of no block
pub blank-none : (image : Image) (known : Bits) → ((lbn : ℕ) → has known lbn ≡ false) → HoldNoRecord known image
blank-none image known none lbn is = absurd (both_ways _ (none lbn) is)

-- a block more
pub blank-more : (image : Image) (lbn : ℕ) (b : List ℕ) (old new : Bits) → AddsBlank lbn b old new → block_or_zeros image lbn ≡ b
    → HoldNoRecord old image → HoldNoRecord new image
blank-more image lbn b old new adds is known j has_j = elim ((adds.adds j).0 has_j) [
  | inl was ↦ known j was
  | inr put ↦ subst (λ (x : List ℕ). HoldsNoRecord x) (sym is ∙ ap (block_or_zeros image) (sym put.0)) put.1.1
]

-- nothing is put into a set where it may not be, and one block where it may
pub adds-none : (lbn : ℕ) (b : List ℕ) (known : Bits) → ¬ MayAdd known lbn b → AddsBlank lbn b known known
adds-none lbn b known not_so =
    record { limit = refl; adds = λ j. (λ was. inl was, λ s. elim s [ inl was ↦ was | inr put ↦ absurd (not_so put.1) ]) }

pub adds-one : (lbn : ℕ) (b : List ℕ) (old new : Bits) → MayAdd old lbn b → limit_of new ≡ limit_of old
    → ((j : ℕ) → has new j ≡ (has old j || (j == lbn))) → AddsBlank lbn b old new
adds-one lbn b old new may limit each = record {
  limit = limit;
  adds = λ j. (
    λ now. elim (or_cases (has old j) (j == lbn) (sym (each j) ∙ now)) [ inl was ↦ inl was | inr same ↦ inr (eqb-true j lbn same, may) ],
    λ s. each j ∙ elim s [ inl was ↦ or_left (has old j) (j == lbn) was | inr put ↦ or_right (has old j) (j == lbn) (eq-eqb j lbn put.0) ],
  );
}

-- the records before an end of a directory's block that holds none
pub block-empty : (end at : ℕ) (blocks : List (List ℕ)) (b : List ℕ) → get_or blocks at [] ≡ b → HoldsNoRecord b → (k : ℕ)
    → until end at ≤ k → k < until end (at + 1) → is_empty (record_at blocks k) ≡ true
unfolding record_at
block-empty end at blocks b is none k low high =
    let place : k / 32 ≡ at = omega (arith, low, high) in
    ap (λ (x : List ℕ). is_empty (record_in x (k % 32))) (ap (λ (n : ℕ). get_or blocks n []) place ∙ is) ∙ none (k % 32) (omega arith)
