-- Facts about the fewest pointers that name blocks in a row, and how they are written one by one.
use Rattle.std.proofs.Common.{◌≡◌, ℕ, zero, suc, ◌+◌, ◌-◌, ◌*◌, ◌/◌, ◌%◌, ◌<◌, ◌≤◌, min, true, false, List, [], ◌∷◌, ◌++◌, length, get_or}
use Rattle.std.proofs.Common.{take, map, refl, sym, ap, ◌∙◌, ⊎_elim, arith, add-one, append_assoc}
use Rattle.std.specs.List.{All, range_with_len}
use Rattle.std.proofs.lemmas.Bool.{cases_lt, cond-true, false_from_ne_true}
use Rattle.std.proofs.lemmas.Bool.Decides.{nat_tests}
use Rattle.std.proofs.lemmas.List.{append-nil, length-append, take_all, get_or_append_left, get_or-append_right}
use Rattle.std.proofs.lemmas.List.FromFn.{length-map-range_with_len, get_or-map-range_with_len, map-range_with_len_more, fill_by_all}
use Rattle.f11_map.specs.MapArea.{runs_of, blocks_in}
use Rattle.f11_map.specs.MapWriting.{joins, joins_last, with_blocks, fewest_runs, WritesPointers}
use Rattle.f11_map.proofs.MapLemmas.{blocks_in-append}
use Rattle.f11_map.proofs.PointerLemmas.{WritesPointers-then}
use Rattle.f11_map.proofs.RunLemmas.{length-blocks_in-cons, joins-fits, with_blocks-apart}
use Rattle.f11_header.proofs.store.RangeLemmas.{range_with_len-append}
use Rattle.f11_header.specs.store.File.{run_pointers}

-- pointer i of them
abbrev pub fewest_run : ℕ → ℕ → ℕ → ℕ × ℕ
fewest_run lbn count i = (lbn + 256 * i, min 256 (count - 256 * i))

-- the first so many
abbrev pub first_runs : ℕ → ℕ → ℕ → List (ℕ × ℕ)
first_runs lbn count n = map (fewest_run lbn count) (range_with_len 0 n)

first_runs-more : (lbn count n : ℕ) → first_runs lbn count (n + 1) ≡ first_runs lbn count n ++ fewest_run lbn count n ∷ []
first_runs-more lbn count n = map-range_with_len_more (fewest_run lbn count) 0 n n (omega arith)

-- how many they are
pub length-fewest_runs : (lbn count : ℕ) → length (fewest_runs lbn count) ≡ run_pointers count
length-fewest_runs lbn count = length-map-range_with_len (fewest_run lbn count) 0 (run_pointers count)

-- and with those before them
pub length-behind : (before runs : List (ℕ × ℕ)) (lbn count : ℕ) → runs ≡ before ++ fewest_runs lbn count
    → length runs ≡ length before + run_pointers count
length-behind before runs lbn count is =
    ap length is ∙ length-append before (fewest_runs lbn count) ∙ ap (λ (n : ℕ). length before + n) (length-fewest_runs lbn count)

-- the blocks of the first so many
blocks_in-first : (lbn count n : ℕ) → 256 * n < count + 256 → blocks_in (first_runs lbn count n) ≡ range_with_len lbn (min (256 * n) count)
blocks_in-first lbn count zero few = let none : 0 ≡ min (256 * 0) count = omega arith in ap (range_with_len lbn) none
blocks_in-first lbn count (suc n) few =
    let at : lbn + 256 * n ≡ lbn + min (256 * n) count = omega arith in
    let all : min (256 * n) count + min 256 (count - 256 * n) ≡ min (256 * suc n) count = omega arith in
    ap (λ (k : ℕ). blocks_in (first_runs lbn count k)) (sym (add-one n)) ∙ ap blocks_in (first_runs-more lbn count n)
    ∙ blocks_in-append (first_runs lbn count n) (fewest_run lbn count n ∷ [])
    ∙ ap (λ (blocks : List ℕ). blocks ++ blocks_in (fewest_run lbn count n ∷ [])) (blocks_in-first lbn count n (omega arith))
    ∙ ap (λ (blocks : List ℕ). range_with_len lbn (min (256 * n) count) ++ blocks)
    (append-nil (range_with_len (lbn + 256 * n) (min 256 (count - 256 * n))))
    ∙ ap (λ (from : ℕ). range_with_len lbn (min (256 * n) count) ++ range_with_len from (min 256 (count - 256 * n))) at
    ∙ sym (range_with_len-append lbn (min (256 * n) count) (min 256 (count - 256 * n))) ∙ ap (range_with_len lbn) all

-- and of all
pub blocks_in-fewest_runs : (lbn count : ℕ) → blocks_in (fewest_runs lbn count) ≡ range_with_len lbn count
blocks_in-fewest_runs lbn count =
    let all : min (256 * run_pointers count) count ≡ count = omega arith in
    blocks_in-first lbn count (run_pointers count) (omega arith) ∙ ap (range_with_len lbn) all

-- behind others
pub blocks_in-behind : (before runs : List (ℕ × ℕ)) (lbn count : ℕ) → runs ≡ before ++ fewest_runs lbn count
    → blocks_in runs ≡ blocks_in before ++ range_with_len lbn count
blocks_in-behind before runs lbn count is =
    ap blocks_in is ∙ blocks_in-append before (fewest_runs lbn count)
    ∙ ap (λ (blocks : List ℕ). blocks_in before ++ blocks) (blocks_in-fewest_runs lbn count)

-- pointers of 256 blocks at most name no more than that
length-blocks_in-le : (runs : List (ℕ × ℕ)) → All (λ (run : ℕ × ℕ). run.1 ≤ 256) runs → length (blocks_in runs) ≤ 256 * length runs
length-blocks_in-le [] few = omega arith
length-blocks_in-le (r ∷ runs) few =
    let rest : length (blocks_in runs) ≤ 256 * length runs = length-blocks_in-le runs (λ k d below. few (suc k) d (omega arith)) in
    let first : r.1 ≤ 256 = few 0 r (omega arith) in
    omega (arith, length-blocks_in-cons r runs)

-- so fewer can't name these
pub are-fewest : (runs : List (ℕ × ℕ)) (lbn count : ℕ) → All (λ (run : ℕ × ℕ). run.1 ≤ 256) runs → count ≤ length (blocks_in runs)
    → length (fewest_runs lbn count) ≤ length runs
are-fewest runs lbn count few name =
    let all : length (blocks_in runs) ≤ 256 * length runs = length-blocks_in-le runs few in omega (arith, length-fewest_runs lbn count)

-- pointers of 256 blocks, and those behind them
module _ (lbn pointers count : ℕ) where
  front : List (ℕ × ℕ)
  front = fewest_runs lbn (256 * pointers)

  back : List (ℕ × ℕ)
  back = fewest_runs (lbn + 256 * pointers) count

  all : ℕ
  all = 256 * pointers + count

  in-front : (k : ℕ) → k < pointers → get_or (front ++ back) k (0, 0) ≡ fewest_run lbn all k
  unfolding front all
  in-front k before =
      let whole : run_pointers (256 * pointers) ≡ pointers = omega arith in
      let same : min 256 (256 * pointers - 256 * k) ≡ min 256 (256 * pointers + count - 256 * k) = omega arith in
      get_or_append_left front back (0, 0) k (omega (arith, length-fewest_runs lbn (256 * pointers)))
      ∙ get_or-map-range_with_len (fewest_run lbn (256 * pointers)) 0 (run_pointers (256 * pointers)) k k (0, 0) (omega arith) (omega arith)
      ∙ ap (λ (n : ℕ). (lbn + 256 * k, n)) same

  in-back : (k : ℕ) → pointers ≤ k → k < pointers + run_pointers count → get_or (front ++ back) k (0, 0) ≡ fewest_run lbn all k
  unfolding front back all
  in-back k past below =
      let whole : run_pointers (256 * pointers) ≡ pointers = omega arith in
      let from : lbn + 256 * pointers + 256 * (k - pointers) ≡ lbn + 256 * k = omega arith in
      let same : min 256 (count - 256 * (k - pointers)) ≡ min 256 (256 * pointers + count - 256 * k) = omega arith in
      get_or-append_right front back pointers k (0, 0) (length-fewest_runs lbn (256 * pointers) ∙ whole) past
      ∙ get_or-map-range_with_len (fewest_run (lbn + 256 * pointers) count) 0 (run_pointers count) (k - pointers) (k - pointers) (0, 0)
      (omega arith) (omega arith)
      ∙ (λ j. (from j, same j))

  pub go-on : fewest_runs lbn (256 * pointers + count) ≡ fewest_runs lbn (256 * pointers) ++ fewest_runs (lbn + 256 * pointers) count
  unfolding front back all
  go-on =
      let sum : run_pointers (256 * pointers + count) ≡ pointers + run_pointers count = omega arith in
      sym (fill_by_all (fewest_run lbn all) (front ++ back) (run_pointers all) (0, 0)
      (omega (arith, length-append front back, length-fewest_runs lbn (256 * pointers), length-fewest_runs (lbn + 256 * pointers) count))
      (λ k below. ⊎_elim (λ (before : k < pointers). in-front k before) (λ (past : pointers ≤ k). in-back k past (omega arith))
      (cases_lt k pointers)))

-- a pointer that is last, behind others
joins_last-behind : (before : List (ℕ × ℕ)) (run : ℕ × ℕ) (lbn count : ℕ) → joins_last (before ++ run ∷ []) lbn count ≡ joins run lbn count
joins_last-behind [] run lbn count = refl
joins_last-behind (r ∷ []) run lbn count = refl
joins_last-behind (r ∷ s ∷ before) run lbn count = joins_last-behind (s ∷ before) run lbn count

-- blocks that join it
with_blocks-behind : (before : List (ℕ × ℕ)) (run : ℕ × ℕ) (lbn count : ℕ) → joins run lbn count ≡ true
    → with_blocks (before ++ run ∷ []) lbn count ≡ before ++ (run.0, run.1 + count) ∷ []
with_blocks-behind [] run lbn count joined = cond-true (joins run lbn count) _ _ joined
with_blocks-behind (r ∷ []) run lbn count joined = ap (λ (rest : List (ℕ × ℕ)). r ∷ rest) (cond-true (joins run lbn count) _ _ joined)
with_blocks-behind (r ∷ s ∷ before) run lbn count joined =
    ap (λ (rest : List (ℕ × ℕ)). r ∷ rest) (with_blocks-behind (s ∷ before) run lbn count joined)

-- one pointer names 256 blocks at most
one-run : (lbn count : ℕ) → 0 < count → count ≤ 256 → fewest_runs lbn count ≡ (lbn, count) ∷ []
one-run lbn count some few =
    let one : run_pointers count ≡ 1 = omega arith in
    let from : lbn + 256 * 0 ≡ lbn = omega arith in
    let all : min 256 (count - 256 * 0) ≡ count = omega arith in
    ap (first_runs lbn count) one ∙ (λ j. (from j, all j) ∷ [])

-- all but the last name 256 blocks, and the last one the rest
with-rest : (lbn pointers rest : ℕ) → 0 < rest → rest ≤ 256
    → fewest_runs lbn (256 * pointers + rest) ≡ fewest_runs lbn (256 * pointers) ++ (lbn + 256 * pointers, rest) ∷ []
with-rest lbn pointers rest some few =
    go-on lbn pointers rest ∙ ap (λ (runs : List (ℕ × ℕ)). fewest_runs lbn (256 * pointers) ++ runs)
    (one-run (lbn + 256 * pointers) rest some few)

-- one block more joins the last pointer where that names fewer
joins-rest : (lbn pointers rest : ℕ) → 0 < rest → rest < 256
    → with_blocks (fewest_runs lbn (256 * pointers + rest)) (lbn + (256 * pointers + rest)) 1 ≡ fewest_runs lbn (256 * pointers + rest + 1)
joins-rest lbn pointers rest some few =
    let before : List (ℕ × ℕ) = fewest_runs lbn (256 * pointers) in
    let joined : joins (lbn + 256 * pointers, rest) (lbn + (256 * pointers + rest)) 1 ≡ true = grind (arith, nat_tests) in
    let sum : 256 * pointers + (rest + 1) ≡ 256 * pointers + rest + 1 = omega arith in
    ap (λ (runs : List (ℕ × ℕ)). with_blocks runs (lbn + (256 * pointers + rest)) 1) (with-rest lbn pointers rest some (omega arith))
    ∙ with_blocks-behind before (lbn + 256 * pointers, rest) (lbn + (256 * pointers + rest)) 1 joined
    ∙ sym (with-rest lbn pointers (rest + 1) (omega arith) (omega arith)) ∙ ap (fewest_runs lbn) sum

-- and takes one where all name 256
none-joins : (lbn pointers at : ℕ) → joins_last (fewest_runs lbn (256 * pointers)) at 1 ≡ false
none-joins lbn zero at = refl
none-joins lbn (suc pointers) at =
    let sum : 256 * suc pointers ≡ 256 * pointers + 256 = omega arith in
    ap (λ (count : ℕ). joins_last (fewest_runs lbn count) at 1) sum
    ∙ ap (λ (runs : List (ℕ × ℕ)). joins_last runs at 1) (with-rest lbn pointers 256 (omega arith) (omega arith))
    ∙ joins_last-behind (fewest_runs lbn (256 * pointers)) (lbn + 256 * pointers, 256) at 1
    ∙ false_from_ne_true (joins (lbn + 256 * pointers, 256) at 1)
    (λ joined. let fits = joins-fits (lbn + 256 * pointers, 256) at 1 joined in absurd (omega arith))

takes-one : (lbn pointers : ℕ)
    → with_blocks (fewest_runs lbn (256 * pointers)) (lbn + 256 * pointers) 1 ≡ fewest_runs lbn (256 * pointers + 1)
takes-one lbn pointers =
    with_blocks-apart (fewest_runs lbn (256 * pointers)) (lbn + 256 * pointers) 1 (none-joins lbn pointers (lbn + 256 * pointers))
    ∙ sym (with-rest lbn pointers 1 (omega arith) (omega arith))

-- so they are those that the blocks get one by one
pub one-by-one : (lbn count : ℕ) → fewest_runs lbn (count + 1) ≡ with_blocks (fewest_runs lbn count) (lbn + count) 1
one-by-one lbn count =
    let sum : 256 * (count / 256) + count % 256 ≡ count = omega arith in
    ⊎_elim
    (λ (some : 0 < count % 256).
    ap (λ (n : ℕ). fewest_runs lbn (n + 1)) (sym sum) ∙ sym (joins-rest lbn (count / 256) (count % 256) some (omega arith))
    ∙ ap (λ (n : ℕ). with_blocks (fewest_runs lbn n) (lbn + n) 1) sum)
    (λ (none : count % 256 ≤ 0).
    let even : 256 * (count / 256) ≡ count = omega arith in
    ap (λ (n : ℕ). fewest_runs lbn (n + 1)) (sym even) ∙ sym (takes-one lbn (count / 256))
    ∙ ap (λ (n : ℕ). with_blocks (fewest_runs lbn n) (lbn + n) 1) even)
    (cases_lt 0 (count % 256))

-- The first n of them are written, behind the pointers that there were.
pub record PutsRuns (lbn count n : ℕ) (old new : List ℕ) : Type 0 where
  pub pointers : runs_of new ≡ runs_of old ++ first_runs lbn count n
  pub rest : WritesPointers old new

-- how many pointers there are then
pub length-puts : (lbn count n : ℕ) (old new : List ℕ) → PutsRuns lbn count n old new → length (runs_of new) ≡ length (runs_of old) + n
length-puts lbn count n old new puts =
    ap length puts.pointers ∙ length-append (runs_of old) (first_runs lbn count n)
    ∙ ap (λ (more : ℕ). length (runs_of old) + more) (length-map-range_with_len (fewest_run lbn count) 0 n)

-- one pointer more
pub PutsRuns-more : (lbn count n pointers : ℕ) (old mid new : List ℕ) → PutsRuns lbn count n old mid → pointers ≡ length (runs_of old)
    → runs_of new ≡ take (pointers + n) (runs_of mid) ++ fewest_run lbn count n ∷ [] → WritesPointers mid new
    → PutsRuns lbn count (n + 1) old new
PutsRuns-more lbn count n pointers old mid new puts are last writes =
    let run : List (ℕ × ℕ) = fewest_run lbn count n ∷ [] in
    let grown : runs_of new ≡ runs_of mid ++ run =
    last ∙ ap (λ (runs : List (ℕ × ℕ)). runs ++ run)
    (take_all (pointers + n) (runs_of mid) (omega (arith, length-puts lbn count n old mid puts))) in
    record {
      pointers = grown ∙ ap (λ (runs : List (ℕ × ℕ)). runs ++ run) puts.pointers ∙ append_assoc (runs_of old) (first_runs lbn count n) run
          ∙ ap (λ (runs : List (ℕ × ℕ)). runs_of old ++ runs) (sym (first_runs-more lbn count n));
      rest = WritesPointers-then old mid new (omega (arith, ap length grown, length-append (runs_of mid) run)) puts.rest writes;
    }
