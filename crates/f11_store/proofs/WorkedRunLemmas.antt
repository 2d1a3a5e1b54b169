-- Worked examples of files that are laid out in one run, computed.
use Rattle.std.proofs.Common.{◌≡◌, ℕ, zero, suc, ◌+◌, ◌≤◌, List, length, Some, take, refl, ap, arith}
use Rattle.f11_store.specs.File.{File, zero_blocks}
use Rattle.f11_store.specs.Store.{free_slots}
use Rattle.f11_store.specs.Lags.{contiguous_work, with_parts, AreLike, LagsBy}
use Rattle.f11_store.specs.WorkedLags.{volume_with_a}
use Rattle.f11_store.specs.WorkedRuns.{with_a_as, RunCauses, RunCosts, RunInHeader, RunMark, RunMarksLast, RunPointers}
use Rattle.f11_store.proofs.WorkedLagLemmas.{no_pointers}

pub run-pointers : RunPointers
run-pointers = record { one = refl; two = refl; filled = refl; header = refl; full = refl; headers = refl }

pub run-mark : RunMark
run-mark = record { set = refl; beside = refl; again = refl }

pub run-causes : RunCauses
unfolding free_slots
run-causes = record { block = refl; segments = refl; full = refl; header = refl; none = refl; long = refl }

pub run-costs : RunCosts
run-costs = record { places = refl; header = refl }

pub run-in-header : RunInHeader
unfolding free_slots zero_blocks
run-in-header = record { file = refl; used = refl; other = refl; given = refl; free = refl }

-- a file that is marked has all of its blocks
marked-last : (f : File) → f.characteristics ≡ 128 → length f.blocks ≤ 1 → LagsBy (contiguous_work 6 102 2) (with_a_as f) volume_with_a → ⊥
unfolding zero_blocks
marked-last f mark few lags = by_number lags.done (lags.files 6)
  where
    by_number : (done : ℕ) → AreLike (Some f) ((with_parts volume_with_a (take done (contiguous_work 6 102 2).parts)).file 6) → ⊥
    by_number zero like = let same : f.characteristics ≡ 0 = like.characteristics in omega (arith, same, mark)
    by_number (suc zero) like = let same : f.characteristics ≡ 0 = like.characteristics in omega (arith, same, mark)
    by_number (suc (suc zero)) like = let same : f.characteristics ≡ 0 = like.characteristics in omega (arith, same, mark)
    by_number (suc (suc (suc zero))) like =
        let long : length f.blocks ≡ 2 = ap (λ (bs : List (List ℕ)). length bs) like.blocks in omega (arith, long, few)
    by_number (suc (suc (suc (suc n)))) like =
        let long : length f.blocks ≡ 2 = ap (λ (bs : List (List ℕ)). length bs) like.blocks in omega (arith, long, few)

pub run-marks-last : RunMarksLast
unfolding free_slots
run-marks-last = record {
  first = λ lags. marked-last _ refl (omega arith) lags;
  midst = λ lags. marked-last _ refl (omega arith) lags;
  blocks = λ lags. let few : 378 ≤ 375 + 2 = lags.free_blocks in omega (arith, few);
  header = λ lags. let few : 10 ≤ 9 + 0 = lags.headers in omega (arith, few);
  others = λ lags. let same : 1 ≡ 0 = no_pointers (lags.others 5 refl) in omega (arith, same);
}
