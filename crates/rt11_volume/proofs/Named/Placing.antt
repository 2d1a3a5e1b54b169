-- Where the areas of a directory's entries are, segment by segment and entry by entry.
use Rattle.std.proofs.Common.{◌≡◌, ℕ, ◌+◌, ◌<◌, List, [], ◌∷◌, ◌++◌, length, get_or, take, drop, sum_by, refl, sym, ◌∙◌, ap, append_assoc}
use Rattle.std.proofs.Common.{arith, Some}
use Rattle.std.specs.Prelude.{slice_set}
use Rattle.std.specs.List.{slice_get}
use Rattle.std.proofs.lemmas.Grind.{flat_map-append}
use Rattle.std.proofs.lemmas.List.{drop_more, length-append, length-take-le, take-append-drop, take-set, drop-set}
use Rattle.std.proofs.lemmas.List.Sums.{sum_by-cons, sum_by_more}
use Rattle.std.proofs.lemmas.Option.{slice_get_within, get_or_from_slice_get}
use Rattle.rt11_volume.specs.Entry.{area_length}
use Rattle.rt11_volume.specs.Named.{Placed, placed, placed_in}
use Rattle.rt11_volume.specs.Operations.{back_half, front_half, kept_of, split_at, with_entries}
use Rattle.rt11_volume.specs.Segment.{Segment, area_start}

-- an entry whose area begins here
abbrev pub at_start : List ℕ → ℕ → Placed
at_start e start = record { entry = e; start = start }

pub placed-append : (start : ℕ) (xs ys : List (List ℕ))
    → placed start (xs ++ ys) ≡ placed start xs ++ placed (start + sum_by area_length xs) ys
unfolding placed
placed-append start [] ys = ap (λ n. placed n ys) (let n : start ≡ start + sum_by area_length [] = omega arith in n)
placed-append start (x ∷ xs) ys =
    let next : ℕ = start + area_length x in
    ap (λ ps. at_start x start ∷ ps)
    (placed-append next xs ys
    ∙ ap (λ n. placed next xs ++ placed n ys) (let n : next + sum_by area_length xs ≡ start + sum_by area_length (x ∷ xs) =
    omega (arith, sum_by-cons area_length x xs) in n))

-- one entry and those behind it
pub placed-more : (start : ℕ) (e : List ℕ) (es : List (List ℕ))
    → placed start (e ∷ es) ≡ at_start e start ∷ placed (start + area_length e) es
unfolding placed
placed-more start e es = refl

pub placed-nil : (start : ℕ) → placed start [] ≡ []
unfolding placed
placed-nil start = refl

-- the entries around one of them
pub placed-around : (start : ℕ) (es : List (List ℕ)) (i : ℕ) → i < length es
    → placed start es ≡ placed start
    (take i es) ++ (at_start (get_or es i []) (start + sum_by area_length (take i es)) ∷ placed
    (start + sum_by area_length (take (i + 1) es)) (drop (i + 1) es))
placed-around start es i inside =
    let before : ℕ = start + sum_by area_length (take i es) in
    let e : List ℕ = get_or es i [] in
    ap (placed start) (sym (take-append-drop i es) ∙ ap (λ xs. take i es ++ xs) (drop_more es i [] inside))
    ∙ placed-append start (take i es) (e ∷ drop (i + 1) es)
    ∙ ap (λ ps. placed start (take i es) ++ ps)
    (placed-more before e (drop (i + 1) es)
    ∙ ap (λ n. at_start e before ∷ placed n (drop (i + 1) es))
    (let n : before + area_length e ≡ start + sum_by area_length (take (i + 1) es) = omega (arith, sum_by_more area_length es i [] inside)
    in n))

-- and those around and of a segment
pub segments-placed : (xs : List Segment) (seg : Segment) (ys : List Segment)
    → placed_in (xs ++ seg ∷ ys) ≡ placed_in xs ++ (placed seg.first seg.entries ++ placed_in ys)
unfolding placed_in
segments-placed xs seg ys = flat_map-append (λ (s : Segment). placed s.first s.entries) xs (seg ∷ ys)

pub segments-more : (seg : Segment) (ys : List Segment) → placed_in (seg ∷ ys) ≡ placed seg.first seg.entries ++ placed_in ys
unfolding placed_in
segments-more seg ys = refl

pub segments-nil : placed_in [] ≡ []
unfolding placed_in
segments-nil = refl

pub segments-around : (segs : List Segment) (place : ℕ) (seg : Segment) → slice_get segs place ≡ Some seg
    → segs ≡ take place segs ++ (seg ∷ drop (place + 1) segs)
segments-around segs place seg at =
    sym (take-append-drop place segs)
    ∙ ap (λ xs. take place segs ++ xs)
    (drop_more segs place seg (slice_get_within segs place seg at)
    ∙ ap (λ s. s ∷ drop (place + 1) segs) (get_or_from_slice_get segs place seg seg at))

pub entries-around : (segs : List Segment) (place : ℕ) (seg : Segment) (es : List (List ℕ)) → slice_get segs place ≡ Some seg
    → with_entries segs place es ≡ take place segs ++ (record seg { entries = es } ∷ drop (place + 1) segs)
entries-around segs place seg es at =
    let none : Segment = record { number = 0; first = 0; entries = [] } in
    let new : Segment = record seg { entries = es } in
    ap (λ (s : Segment). slice_set segs place (record s { entries = es })) (get_or_from_slice_get segs place seg none at)
    ∙ sym (take-append-drop place (slice_set segs place new))
    ∙ (λ t. take-set segs place new t ++ drop-set segs place new (slice_get_within segs place seg at) t)

-- four lists, two of them in one
pub regroup : {A : Type 0} (p a b q : List A) → p ++ ((a ++ b) ++ q) ≡ (p ++ a) ++ (b ++ q)
regroup p a b q = ap (λ xs. p ++ xs) (append_assoc a b q) ∙ sym (append_assoc p a (b ++ q))

pub all-around : (segs : List Segment) (place : ℕ) (seg : Segment) (i : ℕ) → slice_get segs place ≡ Some seg → i < length seg.entries
    → placed_in segs ≡ (placed_in (take place segs) ++ placed seg.first (take i seg.entries))
    ++ (at_start (get_or seg.entries i []) (area_start seg i) ∷
    (placed (seg.first + sum_by area_length (take (i + 1) seg.entries)) (drop (i + 1) seg.entries) ++ placed_in
    (drop (place + 1) segs)))
all-around segs place seg i at inside =
    let p : List Placed = placed_in (take place segs) in
    let q : List Placed = placed_in (drop (place + 1) segs) in
    let b : List Placed = placed (seg.first + sum_by area_length (take (i + 1) seg.entries)) (drop (i + 1) seg.entries) in
    ap placed_in (segments-around segs place seg at)
    ∙ segments-placed (take place segs) seg (drop (place + 1) segs)
    ∙ ap (λ ps. p ++ (ps ++ q)) (placed-around seg.first seg.entries i inside)
    ∙ regroup p (placed seg.first (take i seg.entries)) (at_start (get_or seg.entries i []) (area_start seg i) ∷ b) q

-- a segment with other entries
pub all-entries : (segs : List Segment) (place : ℕ) (seg : Segment) (es : List (List ℕ)) → slice_get segs place ≡ Some seg
    → placed_in (with_entries segs place es) ≡ placed_in (take place segs) ++ (placed seg.first es ++ placed_in (drop (place + 1) segs))
all-entries segs place seg es at =
    ap placed_in (entries-around segs place seg es at)
    ∙ segments-placed (take place segs) (record seg { entries = es }) (drop (place + 1) segs)

-- a segment that is split
pub split-same : (segs : List Segment) (place number : ℕ) (seg : Segment) → slice_get segs place ≡ Some seg
    → placed_in (split_at segs place number seg) ≡ placed_in segs
split-same segs place number seg at =
    let k : ℕ = kept_of (length seg.entries) in
    let front : List (List ℕ) = take k seg.entries in
    let back : List (List ℕ) = drop k seg.entries in
    let p : List Placed = placed_in (take place segs) in
    let q : List Placed = placed_in (drop (place + 1) segs) in
    segments-placed (take place segs) (front_half seg) (back_half number seg ∷ drop (place + 1) segs)
    ∙ ap (λ ps. p ++ (placed seg.first front ++ ps)) (segments-more (back_half number seg) (drop (place + 1) segs))
    ∙ ap (λ ps. p ++ ps) (sym (append_assoc (placed seg.first front) (placed (area_start seg k) back) q))
    ∙ ap (λ ps. p ++ (ps ++ q)) (sym (placed-append seg.first front back) ∙ ap (placed seg.first) (take-append-drop k seg.entries))
    ∙ sym (segments-placed (take place segs) seg (drop (place + 1) segs))
    ∙ ap placed_in (sym (segments-around segs place seg at))

get_seam : {A : Type 0} (xs : List A) (y : A) (ys : List A) → slice_get (xs ++ y ∷ ys) (length xs) ≡ Some y
get_seam [] y ys = refl
get_seam (x ∷ xs) y ys = get_seam xs y ys

-- its halves
pub front-at : (segs : List Segment) (place number : ℕ) (seg : Segment) → slice_get segs place ≡ Some seg
    → slice_get (split_at segs place number seg) place ≡ Some (front_half seg)
front-at segs place number seg at =
    let xs : List Segment = split_at segs place number seg in
    let size : length (take place segs) ≡ place = length-take-le place segs (omega (arith, slice_get_within segs place seg at)) in
    ap (λ n. slice_get xs n) (sym size) ∙ get_seam (take place segs) (front_half seg) (back_half number seg ∷ drop (place + 1) segs)

pub back-at : (segs : List Segment) (place number : ℕ) (seg : Segment) → slice_get segs place ≡ Some seg
    → slice_get (split_at segs place number seg) (place + 1) ≡ Some (back_half number seg)
back-at segs place number seg at =
    let front : List Segment = take place segs ++ front_half seg ∷ [] in
    let rest : List Segment = drop (place + 1) segs in
    let size : length front ≡ place + 1 = length-append (take place segs) (front_half seg ∷ [])
    ∙ ap (λ n. n + 1) (length-take-le place segs (omega (arith, slice_get_within segs place seg at))) in
    ap (λ xs. slice_get xs (place + 1)) (sym (append_assoc (take place segs) (front_half seg ∷ []) (back_half number seg ∷ rest)))
    ∙ ap (λ n. slice_get (front ++ back_half number seg ∷ rest) n) (sym size) ∙ get_seam front (back_half number seg) rest
