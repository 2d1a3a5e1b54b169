-- Facts about lists of retrieval pointers: how blocks join the last one, and how they are cut.
use Rattle.std.proofs.Common.{◌≡◌, ℕ, zero, suc, ◌+◌, ◌-◌, ◌/◌, ◌<◌, ◌≤◌, true, false, leb, eqb, List, [], ◌∷◌, ◌++◌, length, get_or, take}
use Rattle.std.proofs.Common.{drop, Some, refl, sym, ap, ◌∙◌, ⊎_elim, arith, drop-cons, append_assoc}
use Rattle.std.specs.List.{All, slice_get, range_with_len}
use Rattle.std.proofs.Math.Seq.{take-append-add}
use Rattle.std.proofs.lemmas.Bool.{cases_Bool, cases_lt, and_parts, eqb-true, leb-true, ne_eqb, le-leb, lt-leb, cond-true, cond-false}
use Rattle.std.proofs.lemmas.List.{append-nil, length-append, take_all, drop_all, take-append-le, take-append-drop, map-id}
use Rattle.std.proofs.lemmas.List.Elements.{All-map}
use Rattle.std.proofs.lemmas.List.FromFn.{length-range_with_len, take-map-range_with_len}
use Rattle.std.proofs.lemmas.Option.{same_Some, get_or_from_slice_get}
use Rattle.f11_header.specs.MapFields.{words_in_use}
use Rattle.f11_map.specs.MapArea.{run_at, runs_of, blocks_in, LiesIn}
use Rattle.f11_map.specs.MapWriting.{joins, joins_last, with_blocks, cut_to}
use Rattle.f11_map.proofs.MapLemmas.{blocks_in-append, slice_get-append_back, block_here}
use Rattle.f11_header.proofs.store.RangeLemmas.{range_with_len-append}

-- the block that lies in a pointer
pub slice_get-blocks_in : (runs : List (ℕ × ℕ)) (place i left : ℕ) (run : ℕ × ℕ) → slice_get runs i ≡ Some run → LiesIn runs place i left
    → slice_get (blocks_in runs) place ≡ Some (run.0 + left)
slice_get-blocks_in runs place i left run at lies =
    let before : List ℕ = blocks_in (take i runs) in
    let split : blocks_in runs ≡ before ++ blocks_in (drop i runs) = ap blocks_in (sym (take-append-drop i runs))
    ∙ blocks_in-append (take i runs) (drop i runs) in
    let is : get_or runs i (0, 0) ≡ run = get_or_from_slice_get runs i run (0, 0) at in
    let within : left < run.1 = rw is at lies.within in
    let behind : place ≡ length before + left = lies.behind in
    ap (λ (blocks : List ℕ). slice_get blocks place) split
    ∙ slice_get-append_back before (blocks_in (drop i runs)) place (length before) refl (omega arith)
    ∙ ap (λ (k : ℕ). slice_get (blocks_in (drop i runs)) k) (omega arith) ∙ block_here runs i left run at within

-- whether blocks join the last pointer
pub joins_last-at : (runs : List (ℕ × ℕ)) (i lbn count : ℕ) (run : ℕ × ℕ) → i + 1 ≡ length runs → slice_get runs i ≡ Some run
    → joins_last runs lbn count ≡ joins run lbn count
joins_last-at [] i lbn count run is at = absurd (omega arith)
joins_last-at (r ∷ []) zero lbn count run is at = ap (λ (x : ℕ × ℕ). joins x lbn count) (same_Some r run at)
joins_last-at (r ∷ []) (suc i) lbn count run is at = absurd (omega arith)
joins_last-at (r ∷ s ∷ runs) zero lbn count run is at = absurd (omega arith)
joins_last-at (r ∷ s ∷ runs) (suc i) lbn count run is at = joins_last-at (s ∷ runs) i lbn count run (omega arith) at

pub joins-fits : (run : ℕ × ℕ) (lbn count : ℕ) → joins run lbn count ≡ true → run.1 + count ≤ 256
joins-fits run lbn count joined = leb-true (run.1 + count) 256 (and_parts (eqb (run.0 + run.1) lbn) (leb (run.1 + count) 256) joined).1

-- blocks that join the last pointer
pub with_blocks-joined : (runs : List (ℕ × ℕ)) (i lbn count : ℕ) (run : ℕ × ℕ) → i + 1 ≡ length runs → slice_get runs i ≡ Some run
    → joins_last runs lbn count ≡ true
    → with_blocks runs lbn count ≡ take i runs ++ (run.0, run.1 + count) ∷ []
with_blocks-joined [] i lbn count run is at joined = absurd (omega arith)
with_blocks-joined (r ∷ []) zero lbn count run is at joined =
    cond-true (joins r lbn count) _ _ joined ∙ ap (λ (x : ℕ × ℕ). (x.0, x.1 + count) ∷ []) (same_Some r run at)
with_blocks-joined (r ∷ []) (suc i) lbn count run is at joined = absurd (omega arith)
with_blocks-joined (r ∷ s ∷ runs) zero lbn count run is at joined = absurd (omega arith)
with_blocks-joined (r ∷ s ∷ runs) (suc i) lbn count run is at joined =
    ap (λ (rest : List (ℕ × ℕ)). r ∷ rest) (with_blocks-joined (s ∷ runs) i lbn count run (omega arith) at joined)

-- blocks that don't
pub with_blocks-apart : (runs : List (ℕ × ℕ)) (lbn count : ℕ) → joins_last runs lbn count ≡ false
    → with_blocks runs lbn count ≡ runs ++ (lbn, count) ∷ []
with_blocks-apart [] lbn count apart = refl
with_blocks-apart (r ∷ []) lbn count apart = cond-false (joins r lbn count) _ _ apart
with_blocks-apart (r ∷ s ∷ runs) lbn count apart = ap (λ (rest : List (ℕ × ℕ)). r ∷ rest) (with_blocks-apart (s ∷ runs) lbn count apart)

-- the blocks of the pointers with more blocks
pub blocks_in-with_blocks : (runs : List (ℕ × ℕ)) (lbn count : ℕ)
    → blocks_in (with_blocks runs lbn count) ≡ blocks_in runs ++ range_with_len lbn count
blocks_in-with_blocks [] lbn count = append-nil (range_with_len lbn count)
blocks_in-with_blocks (r ∷ []) lbn count = ⊎_elim
    (λ (joined : joins r lbn count ≡ true).
    let next : r.0 + r.1 ≡ lbn = eqb-true (r.0 + r.1) lbn (and_parts (eqb (r.0 + r.1) lbn) (leb (r.1 + count) 256) joined).0 in
    ap blocks_in (cond-true (joins r lbn count) _ _ joined) ∙ append-nil (range_with_len r.0 (r.1 + count))
    ∙ range_with_len-append r.0 r.1 count
    ∙ ap (λ (from : ℕ). range_with_len r.0 r.1 ++ range_with_len from count) next
    ∙ ap (λ (blocks : List ℕ). blocks ++ range_with_len lbn count) (sym (append-nil (range_with_len r.0 r.1))))
    (λ (apart : joins r lbn count ≡ false).
    ap blocks_in (cond-false (joins r lbn count) _ _ apart) ∙ blocks_in-append (r ∷ []) ((lbn, count) ∷ [])
    ∙ ap (λ (blocks : List ℕ). blocks_in (r ∷ []) ++ blocks) (append-nil (range_with_len lbn count)))
    (cases_Bool (joins r lbn count))
blocks_in-with_blocks (r ∷ s ∷ runs) lbn count =
    ap (λ (blocks : List ℕ). range_with_len r.0 r.1 ++ blocks) (blocks_in-with_blocks (s ∷ runs) lbn count)
    ∙ sym (append_assoc (range_with_len r.0 r.1) (blocks_in (s ∷ runs)) (range_with_len lbn count))

-- the first of a run of blocks
pub take-range_with_len : (from n k : ℕ) → k ≤ n → take k (range_with_len from n) ≡ range_with_len from k
take-range_with_len from n k few =
    ap (take k) (sym (map-id (range_with_len from n))) ∙ take-map-range_with_len (λ x. x) from n k few ∙ map-id (range_with_len from k)

-- the three ways to cut
cut_to-zero : (runs : List (ℕ × ℕ)) → cut_to runs 0 ≡ []
cut_to-zero [] = refl
cut_to-zero (r ∷ runs) = refl

cut_to-here : (r : ℕ × ℕ) (runs : List (ℕ × ℕ)) (blocks : ℕ) → 0 < blocks → blocks ≤ r.1 → cut_to (r ∷ runs) blocks ≡ (r.0, blocks) ∷ []
cut_to-here r runs blocks some few =
    cond-false (eqb blocks 0) _ _ (ne_eqb blocks 0 (λ none. omega arith)) ∙ cond-true (leb blocks r.1) _ _ (le-leb blocks r.1 few)

cut_to-past : (r : ℕ × ℕ) (runs : List (ℕ × ℕ)) (blocks : ℕ) → r.1 < blocks → cut_to (r ∷ runs) blocks ≡ r ∷ cut_to runs (blocks - r.1)
cut_to-past r runs blocks many =
    cond-false (eqb blocks 0) _ _ (ne_eqb blocks 0 (λ none. omega arith)) ∙ cond-false (leb blocks r.1) _ _ (lt-leb blocks r.1 many)

-- a pointer whose blocks all stay
cut_to-cons : (r : ℕ × ℕ) (runs : List (ℕ × ℕ)) (blocks : ℕ) → 0 < r.1 → r.1 ≤ blocks
    → cut_to (r ∷ runs) blocks ≡ r ∷ cut_to runs (blocks - r.1)
cut_to-cons r runs blocks some many = ⊎_elim
    (λ (past : r.1 < blocks). cut_to-past r runs blocks past)
    (λ (here : blocks ≤ r.1).
    let all : blocks ≡ r.1 = omega arith in
    let none : cut_to runs (blocks - r.1) ≡ [] = ap (cut_to runs) (omega arith) ∙ cut_to-zero runs in
    cut_to-here r runs blocks (omega arith) here ∙ ap (λ (n : ℕ). (r.0, n) ∷ []) all ∙ ap (λ (cut : List (ℕ × ℕ)). r ∷ cut) (sym none))
    (cases_lt r.1 blocks)

-- the blocks of the pointers that are cut
pub blocks_in-cut_to : (runs : List (ℕ × ℕ)) (blocks : ℕ) → blocks_in (cut_to runs blocks) ≡ take blocks (blocks_in runs)
blocks_in-cut_to [] zero = refl
blocks_in-cut_to [] (suc blocks) = refl
blocks_in-cut_to (r ∷ runs) zero = refl
blocks_in-cut_to (r ∷ runs) (suc blocks) =
    let long : length (range_with_len r.0 r.1) ≡ r.1 = length-range_with_len r.0 r.1 in
    ⊎_elim
    (λ (past : r.1 < suc blocks).
    let counts : length (range_with_len r.0 r.1) + (suc blocks - r.1) ≡ suc blocks = omega arith in
    ap blocks_in (cut_to-past r runs (suc blocks) past)
    ∙ ap (λ (rest : List ℕ). range_with_len r.0 r.1 ++ rest) (blocks_in-cut_to runs (suc blocks - r.1))
    ∙ sym (take-append-add (range_with_len r.0 r.1) (blocks_in runs) (suc blocks - r.1))
    ∙ ap (λ (k : ℕ). take k (range_with_len r.0 r.1 ++ blocks_in runs)) counts)
    (λ (here : suc blocks ≤ r.1).
    ap blocks_in (cut_to-here r runs (suc blocks) (omega arith) here) ∙ append-nil (range_with_len r.0 (suc blocks))
    ∙ sym (take-range_with_len r.0 r.1 (suc blocks) here)
    ∙ sym (take-append-le (suc blocks) (range_with_len r.0 r.1) (blocks_in runs) (omega arith)))
    (cases_lt r.1 (suc blocks))

-- each pointer names some block
abbrev pub AreSome : List (ℕ × ℕ) → Type 0
AreSome runs = All (λ (run : ℕ × ℕ). 0 < run.1) runs

pub AreSome-runs_of : (m : List ℕ) → AreSome (runs_of m)
unfolding runs_of
AreSome-runs_of m = All-map (λ (run : ℕ × ℕ). 0 < run.1) (run_at m) (range_with_len 0 (words_in_use m / 2)) (λ k d below. omega arith)

-- the blocks of one pointer more
pub length-blocks_in-cons : (r : ℕ × ℕ) (runs : List (ℕ × ℕ)) → length (blocks_in (r ∷ runs)) ≡ r.1 + length (blocks_in runs)
length-blocks_in-cons r runs =
    length-append (range_with_len r.0 r.1) (blocks_in runs) ∙ ap (λ (n : ℕ). n + length (blocks_in runs)) (length-range_with_len r.0 r.1)

-- the pointers before the cut stay
cut_to-drop : (runs : List (ℕ × ℕ)) (i left blocks : ℕ) → AreSome runs → i ≤ length runs → blocks ≡ length (blocks_in (take i runs)) + left
    → cut_to runs blocks ≡ take i runs ++ cut_to (drop i runs) left
cut_to-drop runs zero left blocks some within is = ap (cut_to runs) (omega arith)
cut_to-drop [] (suc i) left blocks some within is = absurd (omega arith)
cut_to-drop (r ∷ runs) (suc i) left blocks some within is =
    let first : 0 < r.1 = some 0 r (omega arith) in
    let long : length (blocks_in (take (suc i) (r ∷ runs))) ≡ r.1 + length (blocks_in (take i runs)) =
    length-blocks_in-cons r (take i runs) in
    let rest : cut_to runs (blocks - r.1) ≡ take i runs ++ cut_to (drop i runs) left =
    cut_to-drop runs i left (blocks - r.1) (λ k d below. some (suc k) d (omega arith)) (omega arith) (omega arith) in
    cut_to-cons r runs blocks first (omega arith) ∙ ap (λ (cut : List (ℕ × ℕ)). r ∷ cut) rest

-- a cut at the end of a pointer
pub cut_to-between : (runs : List (ℕ × ℕ)) (place i left : ℕ) → AreSome runs → LiesIn runs place i left → left ≡ 0
    → cut_to runs place ≡ take i runs
cut_to-between runs place i left some lies none =
    cut_to-drop runs i left place some (omega (arith, lies.pointer)) lies.behind
    ∙ ap (λ (n : ℕ). take i runs ++ cut_to (drop i runs) n) none
    ∙ ap (λ (rest : List (ℕ × ℕ)). take i runs ++ rest) (cut_to-zero (drop i runs)) ∙ append-nil (take i runs)

-- a cut inside a pointer
pub cut_to-inside : (runs : List (ℕ × ℕ)) (place i left : ℕ) (run : ℕ × ℕ) → AreSome runs → LiesIn runs place i left
    → slice_get runs i ≡ Some run → 0 < left
    → cut_to runs place ≡ take i runs ++ (run.0, left) ∷ []
cut_to-inside runs place i left run some lies at inside =
    let pointer : i < length runs = lies.pointer in
    let is : get_or runs i (0, 0) ≡ run = get_or_from_slice_get runs i run (0, 0) at in
    let within : left < run.1 = rw is at lies.within in
    let from : drop i runs ≡ run ∷ drop (suc i) runs = drop-cons runs i (0, 0) pointer ∙ ap (λ (r : ℕ × ℕ). r ∷ drop (suc i) runs) is in
    cut_to-drop runs i left place some (omega arith) lies.behind
    ∙ ap (λ (rest : List (ℕ × ℕ)). take i runs ++ cut_to rest left) from
    ∙ ap (λ (rest : List (ℕ × ℕ)). take i runs ++ rest) (cut_to-here run (drop (suc i) runs) left inside (omega arith))

-- a cut behind all blocks
pub cut_to-all : (runs : List (ℕ × ℕ)) (blocks : ℕ) → AreSome runs → length (blocks_in runs) ≤ blocks → cut_to runs blocks ≡ runs
cut_to-all runs blocks some past =
    let whole : take (length runs) runs ≡ runs = take_all (length runs) runs (omega arith) in
    let none : drop (length runs) runs ≡ [] = drop_all (length runs) runs (omega arith) in
    let long : length (blocks_in (take (length runs) runs)) ≡ length (blocks_in runs) = ap (λ (rs : List (ℕ × ℕ)). length (blocks_in rs))
    whole in
    cut_to-drop runs (length runs) (blocks - length (blocks_in runs)) blocks some (omega arith) (omega arith)
    ∙ ap (λ (rest : List (ℕ × ℕ)). take (length runs) runs ++ cut_to rest (blocks - length (blocks_in runs))) none
    ∙ append-nil (take (length runs) runs) ∙ whole
