-- Where blocks lie, and others behind them.
use Rattle.std.proofs.Common.{◌≡◌, ◌≢◌, ◌≤◌, ◌<◌, ◌+◌, ◌-◌, ℕ, refl, ap, sym, ◌∙◌, subst, arith, List, ◌++◌, Some, length, take}
use Rattle.std.specs.List.{slice_get, range_with_len}
use Rattle.std.proofs.lemmas.List.{take_all}
use Rattle.f11_header.specs.Fields.{map_area}
use Rattle.f11_index.proofs.BlockLemmas.{blocks_in-more}
use Rattle.f11_map.specs.HeaderBlock.{blocks_named}
use Rattle.f11_map.specs.MapArea.{runs_of, blocks_in}
use Rattle.f11_vfy.specs.Surveying.Extent.{LieAs}
use Rattle.f11_vfy.specs.declared.survey.extent.Extent.{Extent}
use Rattle.f11_vfy.specs.declared.survey.extent.Extent.TheVariants.{Empty, Run, Scattered}
use Rattle.f11_volume.specs.Notes.{AreContiguous}
use Rattle.f11_volume.proofs.ContiguousLemmas.{run-contiguous, runs-join, contiguous-front, contiguous-behind, contiguous-seam}

-- they are scattered where they aren't contiguous
pub lie-apart : (lbns : List ℕ) (e : Extent) → LieAs lbns e → ¬ AreContiguous lbns → e ≡ Scattered
lie-apart lbns Empty lie apart = absurd (apart (subst AreContiguous (sym lie) refl))
lie-apart lbns (Run first end) lie apart = absurd (apart (subst AreContiguous (sym lie.1) (run-contiguous first (end - first))))
lie-apart lbns Scattered lie apart = refl

module _ (front back : List ℕ) where
  -- some of them are scattered
  pub scattered-front : LieAs front Scattered → LieAs (front ++ back) Scattered
  scattered-front apart is = apart (contiguous-front front back is)

  pub scattered-behind : LieAs back Scattered → LieAs (front ++ back) Scattered
  scattered-behind apart is = apart (contiguous-behind front back is)

  -- a run behind another
  pub run-joins : (first end next last : ℕ) → next ≡ end → LieAs front (Run first end) → LieAs back (Run next last)
      → LieAs (front ++ back) (Run first last)
  run-joins first end next last same one other =
      let there : first + (end - first) ≡ next = omega (arith, one.0, same) in
      let all : end - first + (last - next) ≡ last - first = omega (arith, one.0, other.0, same) in (
        omega (arith, one.0, other.0, same),
        ap (λ (l : List ℕ). l ++ back) one.1 ∙ ap (λ (l : List ℕ). range_with_len first (end - first) ++ l) other.1
            ∙ ap (λ (k : ℕ). range_with_len first (end - first) ++ range_with_len k (last - next)) (sym there)
            ∙ runs-join first (end - first) (last - next) ∙ ap (range_with_len first) all,
      )

  pub run-apart : (first end next last : ℕ) → next ≢ end → LieAs front (Run first end) → LieAs back (Run next last)
      → LieAs (front ++ back) Scattered
  run-apart first end next last other one two is =
      let runs = subst AreContiguous
      (ap (λ (l : List ℕ). l ++ back) one.1 ∙ ap (λ (l : List ℕ). range_with_len first (end - first) ++ l) two.1) is in
      other (omega (
        arith,
        one.0,
        contiguous-seam first (end - first) next (last - next) (omega (arith, one.0)) (omega (arith, two.0))
            runs,
      ))

-- one pointer more
pub pointer-joins : (runs : List (ℕ × ℕ)) (i : ℕ) (run : ℕ × ℕ) (e : Extent) → slice_get runs i ≡ Some run
    → LieAs (blocks_in (take i runs) ++ range_with_len run.0 run.1) e
    → LieAs (blocks_in (take (i + 1) runs)) e
pointer-joins runs i run e at lie = subst (λ (l : List ℕ). LieAs l e) (sym (blocks_in-more runs i run at)) lie

pub pointer-lies : (first count : ℕ) → 0 < count → LieAs (range_with_len first count) (Run first (first + count))
pointer-lies first count some =
    (omega (arith, some), let same : count ≡ first + count - first = omega arith in ap (range_with_len first) same)

-- all of them
pub pointers-all : (b : List ℕ) (n : ℕ) (e : Extent) → length (runs_of (map_area b)) ≤ n
    → LieAs (blocks_in (take n (runs_of (map_area b)))) e → LieAs (blocks_named b) e
unfolding blocks_named
pointers-all b n e all lie = subst (λ (rs : List (ℕ × ℕ)). LieAs (blocks_in rs) e) (take_all n (runs_of (map_area b)) all) lie
