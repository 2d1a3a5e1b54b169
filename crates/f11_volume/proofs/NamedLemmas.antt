-- The pointer that names a block, and the blocks that a pointer names.
use Rattle.std.proofs.Common.{◌≡◌, ◌≤◌, ◌<◌, ◌+◌, ◌-◌, inl, inr, ℕ, suc, refl, sym, subst, ◌∙◌, arith, List, [], ◌∷◌, length, take, Some}
use Rattle.std.specs.List.{slice_get, range_with_len}
use Rattle.std.specs.Prelude.{slice_index_or}
use Rattle.std.proofs.lemmas.Bool.{cases_lt}
use Rattle.std.proofs.lemmas.Option.{same_Some, slice_get_within, get_or_from_slice_get}
use Rattle.std.proofs.lemmas.List.FromFn.{length-range_with_len}
use Rattle.f11_chain.proofs.index.PlaceLemmas.{slice_get-append_front, range-slice_get}
use Rattle.f11_chain.specs.map.MapArea.{blocks_in}
use Rattle.f11_chain.proofs.map.MapLemmas.{slice_get-append_back}
use Rattle.f11_chain.proofs.map.RunLemmas.{slice_get-blocks_in}

-- a pointer names a block at this place of all blocks that pointers name
pub record IsNamedBy (runs : List (ℕ × ℕ)) (lbn : ℕ) : Type 0 where
  pub pointer : ℕ
  pub run : ℕ × ℕ
  pub at : slice_get runs pointer ≡ Some run
  pub low : run.0 ≤ lbn
  pub high : lbn < run.0 + run.1

later : (runs : List (ℕ × ℕ)) (run : ℕ × ℕ) (lbn : ℕ) → IsNamedBy runs lbn → IsNamedBy (run ∷ runs) lbn
later runs run lbn by = record { pointer = suc by.pointer; run = by.run; at = by.at; low = by.low; high = by.high }

-- a block that pointers name is named by one of them
pub named-by : (runs : List (ℕ × ℕ)) (place lbn : ℕ) → slice_get (blocks_in runs) place ≡ Some lbn → IsNamedBy runs lbn
named-by [] place lbn is = cc
named-by (run ∷ runs) place lbn is = elim (cases_lt place run.1) [
  | inl front ↦
      let here : slice_get (blocks_in (run ∷ runs)) place ≡ Some (run.0 + place) = slice_get-append_front (range_with_len run.0 run.1)
      (blocks_in runs) place (run.0 + place) (range-slice_get run.0 run.1 place front) in
      let same : run.0 + place ≡ lbn = same_Some _ lbn (sym here ∙ is) in
      record { pointer = 0; run = run; at = refl; low = omega (arith, same); high = omega (arith, same, front) }
  | inr behind ↦ later runs run lbn
      (named-by runs (place - run.1) lbn
      (sym (slice_get-append_back (range_with_len run.0 run.1) (blocks_in runs) place run.1 (sym (length-range_with_len run.0 run.1))
      behind) ∙ is))
]

-- each block of a pointer is named
pub names : (runs : List (ℕ × ℕ)) (i left : ℕ) (run : ℕ × ℕ) → slice_get runs i ≡ Some run → left < run.1
    → (place : ℕ) × (slice_get (blocks_in runs) place ≡ Some (run.0 + left))
names runs i left run is within =
    let at : slice_index_or runs i (0, 0) ≡ run = get_or_from_slice_get runs i run (0, 0) is in (
      length (blocks_in (take i runs)) + left,
      slice_get-blocks_in runs _ i left run is (record {
        pointer = slice_get_within runs i run is;
        within = subst (λ (r : ℕ × ℕ). left < r.1) (sym at) within;
        behind = refl;
      }),
    )
