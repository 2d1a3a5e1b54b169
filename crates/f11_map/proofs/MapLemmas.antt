-- Facts about retrieval pointers and the blocks that they name.
use Rattle.std.proofs.Common.{◌≡◌, ℕ, zero, suc, ◌+◌, ◌-◌, ◌*◌, ◌/◌, ◌<◌, ◌≤◌, List, [], ◌∷◌, ◌++◌, length, get_or, take, drop, Some, refl}
use Rattle.std.proofs.Common.{sym, ap, ◌∙◌, arith, add-one, drop-cons, append_assoc}
use Rattle.std.specs.List.{slice_get, range_with_len}
use Rattle.std.proofs.lemmas.List.{length-append, take_more}
use Rattle.std.proofs.lemmas.List.FromFn.{length-map-range_with_len, get_or-map-range_with_len, length-range_with_len}
use Rattle.std.proofs.lemmas.List.FromFn.{get_or-range_with_len}
use Rattle.std.proofs.lemmas.Option.{slice_get-get_or, get_or_from_slice_get, slice_get_within}
use Rattle.f11_header.specs.MapFields.{words_in_use, places, IsMapArea}
use Rattle.f11_header.proofs.HeaderFacts.{PointerFacts, pointer_facts}
use Rattle.f11_map.specs.MapArea.{run_at, runs_of, blocks_in}

-- two words a pointer
pub length-runs_of : (m : List ℕ) → length (runs_of m) ≡ words_in_use m / 2
unfolding runs_of
length-runs_of m = length-map-range_with_len (run_at m) 0 (words_in_use m / 2)

-- there are no more pointers than places
pub length-runs_of-le : (m : List ℕ) → IsMapArea m → length (runs_of m) ≤ places m
length-runs_of-le m area =
    let facts : PointerFacts m = pointer_facts m area.pointers in omega (arith, length-runs_of m, facts.within, facts.even)

-- each pointer stands in the area
pub pointer_within : (m : List ℕ) (i : ℕ) → IsMapArea m → i < length (runs_of m) → 14 + 4 * i ≤ length m
pointer_within m i area below =
    let facts : PointerFacts m = pointer_facts m area.pointers in omega (arith, length-runs_of m, facts.within, facts.even, area.fields)

-- pointer i
pub slice_get-runs_of : (m : List ℕ) (i : ℕ) → i < length (runs_of m) → slice_get (runs_of m) i ≡ Some (run_at m i)
unfolding runs_of
slice_get-runs_of m i below =
    slice_get-get_or (runs_of m) i (0, 0) below
    ∙ ap Some (get_or-map-range_with_len (run_at m) 0 (words_in_use m / 2) i i (0, 0) (omega (arith, below, length-runs_of m))
    (omega arith))

-- one pointer more
pub blocks_in-append : (rs ss : List (ℕ × ℕ)) → blocks_in (rs ++ ss) ≡ blocks_in rs ++ blocks_in ss
blocks_in-append [] ss = refl
blocks_in-append (r ∷ rs) ss =
    ap (λ (bs : List ℕ). range_with_len r.0 r.1 ++ bs) (blocks_in-append rs ss)
    ∙ sym (append_assoc (range_with_len r.0 r.1) (blocks_in rs) (blocks_in ss))

-- the count of blocks with one pointer more
pub length-blocks_in-more : (rs : List (ℕ × ℕ)) (i n : ℕ) (run : ℕ × ℕ) → slice_get rs i ≡ Some run → n ≡ length (blocks_in (take i rs))
    → n + run.1 ≡ length (blocks_in (take (i + 1) rs))
length-blocks_in-more rs i n run at so_far =
    let within : i < length rs = slice_get_within rs i run at in
    let last : get_or rs i run ≡ run = get_or_from_slice_get rs i run run at in
    let more : blocks_in (take (i + 1) rs) ≡ blocks_in (take i rs) ++ blocks_in (run ∷ []) =
    ap blocks_in (take_more rs i run within ∙ ap (λ (r : ℕ × ℕ). take i rs ++ r ∷ []) last) ∙ blocks_in-append (take i rs) (run ∷ []) in
    omega (
      arith,
      so_far,
      ap length more,
      length-append (blocks_in (take i rs)) (blocks_in (run ∷ [])),
      length-append (range_with_len run.0 run.1) [],
      length-range_with_len run.0 run.1,
    )

-- an element of a front, and one behind it
slice_get-append_front : (xs ys : List ℕ) (i : ℕ) → i < length xs → slice_get (xs ++ ys) i ≡ slice_get xs i
slice_get-append_front [] ys i below = absurd (omega arith)
slice_get-append_front (x ∷ xs) ys zero below = refl
slice_get-append_front (x ∷ xs) ys (suc i) below = slice_get-append_front xs ys i (omega arith)

pub slice_get-append_back : (xs ys : List ℕ) (i n : ℕ) → n ≡ length xs → n ≤ i → slice_get (xs ++ ys) i ≡ slice_get ys (i - n)
slice_get-append_back [] ys i n is behind = ap (λ (j : ℕ). slice_get ys j) (omega arith)
slice_get-append_back (x ∷ xs) ys zero n is behind = absurd (omega arith)
slice_get-append_back (x ∷ xs) ys (suc i) n is behind =
    slice_get-append_back xs ys i (n - 1) (omega arith) (omega arith) ∙ ap (λ (j : ℕ). slice_get ys j) (omega arith)

-- the blocks from pointer i on
pub blocks_in-drop : (rs : List (ℕ × ℕ)) (i : ℕ) (run : ℕ × ℕ) → slice_get rs i ≡ Some run
    → blocks_in (drop i rs) ≡ range_with_len run.0 run.1 ++ blocks_in (drop (i + 1) rs)
blocks_in-drop rs i run at =
    let within : i < length rs = slice_get_within rs i run at in
    let last : get_or rs i run ≡ run = get_or_from_slice_get rs i run run at in
    ap blocks_in (drop-cons rs i run within ∙ ap (λ (r : ℕ × ℕ). r ∷ drop (suc i) rs) last)
    ∙ ap (λ (j : ℕ). range_with_len run.0 run.1 ++ blocks_in (drop j rs)) (sym (add-one i))

-- a block of pointer i
pub block_here : (rs : List (ℕ × ℕ)) (i left : ℕ) (run : ℕ × ℕ) → slice_get rs i ≡ Some run → left < run.1
    → slice_get (blocks_in (drop i rs)) left ≡ Some (run.0 + left)
block_here rs i left run at within =
    let some : left < length (range_with_len run.0 run.1) = omega (arith, length-range_with_len run.0 run.1) in
    ap (λ (bs : List ℕ). slice_get bs left) (blocks_in-drop rs i run at)
    ∙ slice_get-append_front (range_with_len run.0 run.1) (blocks_in (drop (i + 1) rs)) left some
    ∙ slice_get-get_or (range_with_len run.0 run.1) left 0 some ∙ ap Some (get_or-range_with_len run.0 run.1 left 0 within)
