-- The segments with a new file where one was split.
use Rattle.std.proofs.Common.{◌≡◌, ℕ, ◌+◌, ◌<◌, List, [], ◌∷◌, ◌++◌, length, take, drop, sym, ◌∙◌, ap, append_assoc, arith}
use Rattle.std.specs.Prelude.{slice_set}
use Rattle.std.proofs.Math.Seq.{get_or-append_seam, set-append_seam}
use Rattle.std.proofs.lemmas.List.{length-append, length-take-le}
use Rattle.rt11_volume.specs.Operations.{kept_of, front_half, back_half, split_at, with_entries}
use Rattle.rt11_volume.specs.Segment.{Segment, area_start}

-- other entries for the segment behind some
entries-seam : (xs : List Segment) (seg : Segment) (rest : List Segment) (es : List (List ℕ)) (place : ℕ) → length xs ≡ place
    → with_entries (xs ++ seg ∷ rest) place es ≡ xs ++ record seg { entries = es } ∷ rest
entries-seam xs seg rest es place size =
    let none : Segment = record { number = 0; first = 0; entries = [] } in
    ap (λ n. with_entries (xs ++ seg ∷ rest) n es) (sym size)
    ∙ ap (λ (s : Segment). slice_set (xs ++ seg ∷ rest) (length xs) (record s { entries = es })) (get_or-append_seam xs seg rest none)
    ∙ set-append_seam xs seg rest (record seg { entries = es })

-- a file in the front half, and in the back half
pub file-in_front : (segs : List Segment) (place number : ℕ) (seg : Segment) (es : List (List ℕ)) → place < length segs
    → with_entries (split_at segs place number seg) place es
    ≡ take place segs ++ (record { number = seg.number; first = seg.first; entries = es } ∷ back_half number seg ∷ drop (place + 1) segs)
file-in_front segs place number seg es inside =
    entries-seam (take place segs) (front_half seg) (back_half number seg ∷ drop (place + 1) segs) es place
    (length-take-le place segs (omega (arith, inside)))

pub file-in_back : (segs : List Segment) (place number : ℕ) (seg : Segment) (es : List (List ℕ)) → place < length segs
    → with_entries (split_at segs place number seg) (place + 1) es
    ≡ take place segs ++ (front_half seg ∷ record { number = number; first = area_start seg (kept_of (length seg.entries)); entries = es } ∷
    drop (place + 1) segs)
file-in_back segs place number seg es inside =
    let before : List Segment = take place segs ++ front_half seg ∷ [] in
    let rest : List Segment = drop (place + 1) segs in
    let size : length before ≡ place + 1 = length-append (take place segs) (front_half seg ∷ [])
    ∙ ap (λ n. n + 1) (length-take-le place segs (omega (arith, inside))) in
    ap (λ xs. with_entries xs (place + 1) es) (sym (append_assoc (take place segs) (front_half seg ∷ []) (back_half number seg ∷ rest)))
    ∙ entries-seam before (back_half number seg) rest es (place + 1) size
    ∙ append_assoc (take place segs) (front_half seg ∷ [])
    (record { number = number; first = area_start seg (kept_of (length seg.entries)); entries = es } ∷ rest)
