-- Runs of a header in a row, and the blocks that they name.
use Rattle.std.proofs.Common.{◌≡◌, ℕ, zero, suc, ◌+◌, ◌-◌, ◌<◌, ◌≤◌, List, [], ◌∷◌, ◌++◌, length, get_or, take, drop, min, Some, refl, sym}
use Rattle.std.proofs.Common.{ap, subst, ◌∙◌, inl, inr, arith, drop-cons, append_assoc}
use Rattle.std.specs.Prelude.{slice_set, slice_range}
use Rattle.std.specs.List.{All, slice_get, range_with_len}
use Rattle.std.proofs.Math.Seq.{take-append_seam}
use Rattle.std.proofs.lemmas.Bool.{cases_lt}
use Rattle.std.proofs.lemmas.List.{length-append, length-take, length-drop, get_or-drop, get_or-take, take_more, take_more_set, take_all}
use Rattle.std.proofs.lemmas.List.{take-append-drop}
use Rattle.std.proofs.lemmas.List.Elements.{All-push}
use Rattle.std.proofs.lemmas.List.FromFn.{length-range_with_len, get_or-range_with_len}
use Rattle.std.proofs.lemmas.Option.{same_Some, slice_get-get_or, get_or_from_slice_get, slice_get_within}
use Rattle.f11_index.specs.header.Fields.{map_area}
use Rattle.f11_index.specs.map.HeaderBlock.{segment_number, blocks_named, runs_named}
use Rattle.f11_index.specs.Table.{Table}
use Rattle.f11_index.proofs.PlaceLemmas.{slice_get-append_front}
use Rattle.f11_index.specs.map.MapArea.{runs_of, blocks_in, LiesIn}
use Rattle.f11_index.proofs.map.MapLemmas.{blocks_in-append, slice_get-append_back}
use Rattle.f11_index.proofs.map.RunLemmas.{slice_get-blocks_in}
use Rattle.f11_chain.specs.FileHeaders.{file_blocks, blocks_before, block_by_vbn}
use Rattle.f11_chain.specs.Windows.{runs_held, blocks_held, StandsIn, IsWindowOf, HoldsBlock, HoldsAt, HoldsRuns, LiesOn, Fills, IsPast}
use Rattle.f11_chain.specs.Windows.{IsWindowAt, empty_window}
use Rattle.f11_chain.specs.declared.windows.Window.{Window}
use Rattle.f11_chain.proofs.ChangeLemmas.{header-stands}

-- one run more is held
pub held-more : (runs all : List (ℕ × ℕ)) (p i : ℕ) (run : ℕ × ℕ) → take i runs ≡ take i (drop p all) → slice_get all (p + i) ≡ Some run
    → i < length runs
    → take (i + 1) (slice_set runs i run) ≡ take (i + 1) (drop p all)
held-more runs all p i run so_far at below =
    let inside : i < length (drop p all) = omega (arith, length-drop p all, slice_get_within all (p + i) run at) in
    let here : get_or (drop p all) i run ≡ run = get_or-drop p all i run ∙ get_or_from_slice_get all (p + i) run run at in
    take_more_set runs i run below ∙ ap (λ (front : List (ℕ × ℕ)). front ++ run ∷ []) so_far
    ∙ sym (take_more (drop p all) i run inside ∙ ap (λ (r : ℕ × ℕ). take i (drop p all) ++ r ∷ []) here)

pub within-more : (runs : List (ℕ × ℕ)) (i blocks : ℕ) (run : ℕ × ℕ) → i < length runs
    → All (λ (r : ℕ × ℕ). r.0 + r.1 ≤ blocks) (take i runs) → run.0 + run.1 ≤ blocks
    → All (λ (r : ℕ × ℕ). r.0 + r.1 ≤ blocks) (take (i + 1) (slice_set runs i run))
within-more runs i blocks run below so_far is =
    subst (λ (rs : List (ℕ × ℕ)). All (λ (r : ℕ × ℕ). r.0 + r.1 ≤ blocks) rs) (sym (take_more_set runs i run below))
    (All-push (λ (r : ℕ × ℕ). r.0 + r.1 ≤ blocks) (take i runs) run so_far is)

-- so many of them as there are
pub take-as-many : (rs : List (ℕ × ℕ)) (n k used : ℕ) → used ≡ min (length rs - n) k → take used (drop n rs) ≡ take k (drop n rs)
take-as-many rs n k used is = elim (cases_lt (length (drop n rs)) k) [
  | inl few ↦ take_all used (drop n rs) (omega (arith, is, few, length-drop n rs)) ∙ sym (take_all k (drop n rs) (omega (arith, few)))
  | inr enough ↦ ap (λ (m : ℕ). take m (drop n rs)) (omega (arith, is, enough, length-drop n rs))
]

-- runs in a row name blocks in a row
pub runs-stand : (rs : List (ℕ × ℕ)) (i k : ℕ) → StandsIn (blocks_in rs) (length (blocks_in (take i rs))) (blocks_in (take k (drop i rs)))
runs-stand rs i k = record {
  before = blocks_in (take i rs);
  behind = blocks_in (drop k (drop i rs));
  whole_is = ap blocks_in (sym (take-append-drop i rs)) ∙ blocks_in-append (take i rs) (drop i rs)
      ∙ ap (λ (rest : List ℕ). blocks_in (take i rs) ++ rest)
      (ap blocks_in (sym (take-append-drop k (drop i rs))) ∙ blocks_in-append (take k (drop i rs)) (drop k (drop i rs)));
  at_is = refl;
}

-- a row in a row
pub stands-in : (xs ys zs : List ℕ) (a b : ℕ) → StandsIn xs a ys → StandsIn ys b zs → StandsIn xs (a + b) zs
stands-in xs ys zs a b one two = record {
  before = one.before ++ two.before;
  behind = two.behind ++ one.behind;
  whole_is = one.whole_is ∙ ap (λ (part : List ℕ). one.before ++ (part ++ one.behind)) two.whole_is
      ∙ ap (λ (rest : List ℕ). one.before ++ rest)
      (append_assoc two.before (zs ++ two.behind) one.behind ∙ ap (λ (rest : List ℕ). two.before ++ rest)
      (append_assoc zs two.behind one.behind))
      ∙ sym (append_assoc one.before two.before (zs ++ (two.behind ++ one.behind)));
  at_is = omega (arith, length-append one.before two.before, one.at_is, two.at_is);
}

-- it stays where others come behind
pub row-stays : (whole part more : List ℕ) (at : ℕ) → StandsIn whole at part → StandsIn (whole ++ more) at part
row-stays whole part more at row = record {
  before = row.before;
  behind = row.behind ++ more;
  whole_is = ap (λ (xs : List ℕ). xs ++ more) row.whole_is ∙ append_assoc row.before (part ++ row.behind) more
      ∙ ap (λ (rest : List ℕ). row.before ++ rest) (append_assoc part row.behind more);
  at_is = row.at_is;
}

-- its elements are the list's
pub row-has : (whole part : List ℕ) (at i : ℕ) → StandsIn whole at part → i < length part → slice_get whole (at + i) ≡ slice_get part i
row-has whole part at i row below =
    let here = slice_get-get_or part i 0 below in
    let there = row.at_is in
    ap (λ (xs : List ℕ). slice_get xs (at + i)) row.whole_is
    ∙ slice_get-append_back row.before (part ++ row.behind) (at + i) at (sym there) (omega arith)
    ∙ ap (λ (k : ℕ). slice_get (part ++ row.behind) k) (omega arith)
    ∙ slice_get-append_front part row.behind i (get_or part i 0) here ∙ sym here

-- it is a slice
drop_seam : (xs ys : List ℕ) → drop (length xs) (xs ++ ys) ≡ ys
drop_seam [] ys = refl
drop_seam (x ∷ xs) ys = drop_seam xs ys

pub row-slice : (whole part : List ℕ) (at : ℕ) → StandsIn whole at part → slice_range whole at (at + length part) ≡ part
row-slice whole part at row =
    let size : at + length part - at ≡ length part = omega arith in
    let rest : drop at whole ≡ part ++ row.behind = ap (drop at) row.whole_is
    ∙ ap (λ (n : ℕ). drop n (row.before ++ (part ++ row.behind))) (sym row.at_is) ∙ drop_seam row.before (part ++ row.behind) in
    ap (λ (n : ℕ). take n (drop at whole)) size ∙ ap (take (length part)) rest ∙ take-append_seam part row.behind

pub slice-row : (whole part : List ℕ) (at : ℕ) → at ≤ length whole → slice_range whole at (at + length part) ≡ part → StandsIn whole at part
slice-row whole part at within is = record {
  before = take at whole;
  behind = drop (length part) (drop at whole);
  whole_is =
      let size : at + length part - at ≡ length part = omega arith in
      let here : take (length part) (drop at whole) ≡ part = ap (λ (n : ℕ). take n (drop at whole)) (sym size) ∙ is in
      sym (take-append-drop at whole)
      ∙ ap (λ (rest : List ℕ). take at whole ++ rest)
      (sym (take-append-drop (length part) (drop at whole)) ∙ ap (λ (front : List ℕ). front ++ drop (length part) (drop at whole))
      here);
  at_is = omega (arith, length-take at whole, within);
}

-- the blocks of a header are those of its pointers
pub named-runs : (b : List ℕ) → blocks_named b ≡ blocks_in (runs_named b)
unfolding blocks_named runs_named
named-runs b = refl

-- the block that was asked for stands in the window
first-held : (rs : List (ℕ × ℕ)) (i within : ℕ) → i < length rs → within < (get_or rs i (0, 0)).1
    → within < length (blocks_in (take 7 (drop i rs)))
first-held rs i within inside below =
    let run : ℕ × ℕ = get_or rs i (0, 0) in
    let rest : List ℕ = blocks_in (take 6 (drop (suc i) rs)) in
    let first : length (blocks_in (take 7 (drop i rs))) ≡ length (range_with_len run.0 run.1 ++ rest) =
    ap (λ (xs : List (ℕ × ℕ)). length (blocks_in (take 7 xs))) (drop-cons rs i (0, 0) inside) in
    omega (arith, below, first, length-append (range_with_len run.0 run.1) rest, length-range_with_len run.0 run.1)

pub holds-block : (block : List ℕ) (left vbn : ℕ) (w : Window) → HoldsRuns block left vbn w → HoldsBlock w vbn
holds-block block left vbn w holds = record {
  from = omega (arith, holds.first);
  before =
      let some = first-held (runs_named block) holds.pointer holds.within holds.lies.pointer holds.lies.within in
      let size = ap (λ (rs : List (ℕ × ℕ)). length (blocks_in rs)) holds.runs in
      omega (arith, holds.first, some, size);
}

-- a window's blocks stand in the header's
pub window-in-header : (block : List ℕ) (left vbn : ℕ) (w : Window) (holds : HoldsRuns block left vbn w)
    → StandsIn (blocks_named block) (length (blocks_in (take holds.pointer (runs_named block)))) (blocks_held w)
window-in-header block left vbn w holds =
    rw (named-runs block, holds.runs) (runs-stand (runs_named block) holds.pointer 7)

-- and in the file's
pub window-stands : (t : Table) (f vbn : ℕ) (w : Window) (is : IsWindowAt t f vbn w) → segment_number (t.header is.header) < 256
    → IsWindowOf t f w
window-stands t f vbn w is few =
    let header : List ℕ = t.header is.header in
    let b : ℕ = length (blocks_in (take is.holds.pointer (runs_named header))) in
    let row = stands-in (file_blocks t f) (blocks_named header) (blocks_held w) (blocks_before t f is.header) b
    (header-stands t t f is.header is.of_file few (λ m of below. refl)) (window-in-header header is.left vbn w is.holds) in
    let first : blocks_before t f is.header + b ≡ w.first - 1 = omega (arith, is.vbn_is, is.holds.first, is.holds.lies.behind) in
    subst (λ (n : ℕ). StandsIn (file_blocks t f) n (blocks_held w)) first row

-- a run past the device names a block past it
pub past-block : (block : List ℕ) (left blocks : ℕ) → IsPast block left blocks
    → (place : ℕ) × (lbn : ℕ) × (blocks ≤ lbn) × (slice_get (blocks_named block) place ≡ Some lbn)
past-block block left blocks is =
    let rs : List (ℕ × ℕ) = runs_named block in
    let i : ℕ = is.pointer + is.behind in
    let place : ℕ = length (blocks_in (take i rs)) + (is.run.1 - 1) in
    let run : get_or rs i (0, 0) ≡ is.run = get_or_from_slice_get rs i is.run (0, 0) is.run_is in
    let lies : LiesIn rs place i (is.run.1 - 1) = record {
      pointer = slice_get_within rs i is.run is.run_is;
      within = omega (arith, is.some, ap (λ (r : ℕ × ℕ). r.1) run);
      behind = refl;
    } in (
      place,
      is.run.0 + (is.run.1 - 1),
      omega (arith, is.some, is.past),
      ap (λ (bs : List ℕ). slice_get bs place) (named-runs block)
          ∙ slice_get-blocks_in rs place i (is.run.1 - 1) is.run is.run_is lies,
    )

-- a window was filled
pub fills : (block area : List ℕ) (left vbn blocks pointer within used i : ℕ) (runs : List (ℕ × ℕ)) → area ≡ map_area block → left < vbn
    → LiesIn (runs_of area) left pointer within
    → used ≡ min (length (runs_of area) - pointer) 7 → i ≡ used → take i runs ≡ take i (drop pointer (runs_of area))
    → All (λ (run : ℕ × ℕ). run.0 + run.1 ≤ blocks) (take i runs)
    → Fills block left vbn blocks (record { first = vbn - within; used = used; runs = runs })
unfolding runs_named
fills block area left vbn blocks pointer within used i runs area-is low lies used-is end held on =
    let held-all : take used runs ≡ take 7 (drop pointer (runs_of area)) = ap (λ (n : ℕ). take n runs) (sym end) ∙ held
    ∙ ap (λ (n : ℕ). take n (drop pointer (runs_of area))) end ∙ take-as-many (runs_of area) pointer 7 used used-is in
    record {
      holds = record {
        pointer = pointer;
        within = within;
        lies = subst (λ (a : List ℕ). LiesIn (runs_of a) left pointer within) area-is lies;
        runs = held-all ∙ ap (λ (a : List ℕ). take 7 (drop pointer (runs_of a))) area-is;
        first = omega (arith, low, lies.behind);
      };
      on = record {
        few = omega (arith, used-is);
        first = omega (arith, low, lies.behind);
        within = subst (λ (n : ℕ). All (λ (run : ℕ × ℕ). run.0 + run.1 ≤ blocks) (take n runs)) end on;
      };
    }

-- a block of a window is the file's by VBN
pub window-has : (t : Table) (f vbn lbn : ℕ) (w : Window) → IsWindowOf t f w → 0 < w.first → HoldsAt w vbn lbn
    → block_by_vbn t f vbn ≡ Some lbn
window-has t f vbn lbn w is some held =
    let place : vbn - 1 ≡ w.first - 1 + (vbn - w.first) = omega (arith, some, held.holds.from) in
    let below : vbn - w.first < length (blocks_held w) = omega (arith, held.holds.from, held.holds.before) in
    ap (slice_get (file_blocks t f)) place ∙ row-has (file_blocks t f) (blocks_held w) (w.first - 1) (vbn - w.first) is below ∙ held.lbn_is

pub window-stays : (old new : Table) (f : ℕ) (w : Window) (more : List ℕ) → file_blocks new f ≡ file_blocks old f ++ more
    → IsWindowOf old f w → IsWindowOf new f w
window-stays old new f w more grows is =
    subst (λ (blocks : List ℕ). StandsIn blocks (w.first - 1) (blocks_held w)) (sym grows)
    (row-stays (file_blocks old f) (blocks_held w) more (w.first - 1) is)

pub empty-window : (t : Table) (f : ℕ) → IsWindowOf t f empty_window
empty-window t f = record {
  before = [];
  behind = file_blocks t f;
  whole_is = refl;
  at_is = refl;
}

-- run i of a window
pub run-held : (w : Window) (i : ℕ) → i < w.used → w.used ≤ length w.runs → slice_get (runs_held w) i ≡ Some (get_or w.runs i (0, 0))
run-held w i below within =
    let some : i < length (runs_held w) = omega (arith, below, within, length-take w.used w.runs) in
    slice_get-get_or (runs_held w) i (0, 0) some ∙ ap Some (get_or-take w.used w.runs i (0, 0) below)

pub held-at : (w : Window) (vbn i left : ℕ) (run : ℕ × ℕ) → slice_get (runs_held w) i ≡ Some run → left < run.1 → w.first ≤ vbn
    → vbn - w.first ≡ length (blocks_in (take i (runs_held w))) + left
    → HoldsAt w vbn (run.0 + left)
held-at w vbn i left run at below from behind =
    let here : get_or (runs_held w) i (0, 0) ≡ run = get_or_from_slice_get (runs_held w) i run (0, 0) at in
    let lies : LiesIn (runs_held w) (vbn - w.first) i left = record {
      pointer = slice_get_within (runs_held w) i run at;
      within = omega (arith, below, ap (λ (r : ℕ × ℕ). r.1) here);
      behind = behind;
    } in
    let is = slice_get-blocks_in (runs_held w) (vbn - w.first) i left run at lies in
    record {
      holds = record { from = from; before = omega (arith, from, slice_get_within (blocks_held w) (vbn - w.first) (run.0 + left) is) };
      lbn_is = is;
    }

-- all runs were passed
pub held-none : (w : Window) (vbn i left : ℕ) → i ≡ w.used → w.used ≤ length w.runs
    → vbn - w.first ≡ length (blocks_in (take i (runs_held w))) + left → ¬ HoldsBlock w vbn
held-none w vbn i left end within behind holds =
    let all : take i (runs_held w) ≡ runs_held w = take_all i (runs_held w) (omega (arith, end, length-take w.used w.runs)) in
    let size = ap (λ (rs : List (ℕ × ℕ)). length (blocks_in rs)) all in
    absurd (omega (arith, holds.from, holds.before, behind, size))

-- a block of runs that lie on the device does
blocks-on : (rs : List (ℕ × ℕ)) (blocks i lbn : ℕ) → All (λ (run : ℕ × ℕ). run.0 + run.1 ≤ blocks) rs
    → slice_get (blocks_in rs) i ≡ Some lbn → lbn < blocks
blocks-on [] blocks i lbn on at = let none : i < 0 = slice_get_within [] i lbn at in absurd (omega arith)
blocks-on (r ∷ rs) blocks i lbn on at =
    let size = length-range_with_len r.0 r.1 in
    elim (cases_lt i r.1) [
      | inl here ↦
          let first : r.0 + r.1 ≤ blocks = on zero r (omega arith) in
          let some : i < length (range_with_len r.0 r.1) = omega (arith, here, size) in
          let one = slice_get-get_or (range_with_len r.0 r.1) i 0 some ∙ ap Some (get_or-range_with_len r.0 r.1 i 0 here) in
          let is : r.0 + i ≡ lbn =
          same_Some (r.0 + i) lbn (sym (slice_get-append_front (range_with_len r.0 r.1) (blocks_in rs) i (r.0 + i) one) ∙ at) in
          omega (arith, first, here, is)
      | inr behind ↦
          blocks-on rs blocks (i - r.1) lbn (λ k d below. on (suc k) d (omega (arith, below)))
          (sym (slice_get-append_back (range_with_len r.0 r.1) (blocks_in rs) i r.1 (sym size) behind) ∙ at)
    ]

pub held-on : (w : Window) (vbn lbn blocks : ℕ) → LiesOn w blocks → HoldsAt w vbn lbn → lbn < blocks
held-on w vbn lbn blocks on held = blocks-on (runs_held w) blocks (vbn - w.first) lbn on.within held.lbn_is
