-- Facts about bytes put in the place of others.
use Rattle.std.proofs.Common.{◌≡◌, ℕ, zero, suc, ◌+◌, ◌-◌, ◌*◌, ◌/◌, ◌%◌, ◌<◌, ◌≤◌, List, [], ◌∷◌, ◌++◌, length, take, drop, get_or, set}
use Rattle.std.proofs.Common.{refl, ap, ◌∙◌, sym, arith, add-one, add-zero, append_assoc}
use Rattle.std.specs.List.{flat_map}
use Rattle.std.specs.Prelude.{slice_index, slice_range}
use Rattle.std.proofs.lemmas.List.{take_more, length-take, length-take-le, length-drop, length-append, take-append-drop, drop-drop}
use Rattle.std.proofs.lemmas.List.{get_or-take, get_or-drop, get_or_append_left, get_or-append_right, take_at, drop_at}
use Rattle.std.proofs.lemmas.Grind.{same_number_lists}
use Rattle.std.proofs.lemmas.Slice.{drop-append-drop}
use Rattle.std.proofs.lemmas.List.Concat.{flat_map-append}
use Rattle.std.proofs.lemmas.List.Edits.{sets, sets-eq}
use Rattle.f11_bytes.specs.Words.{with_word, word_bytes}
use Rattle.f11_bytes.specs.Part.{with_bytes}

-- as many bytes as before
pub length-with_bytes : (b : List ℕ) (at : ℕ) (bytes : List ℕ) → at + length bytes ≤ length b → length (with_bytes b at bytes) ≡ length b
length-with_bytes b at bytes within =
    omega (
      arith,
      length-append (take at b) (bytes ++ drop (at + length bytes) b),
      length-append bytes (drop (at + length bytes) b),
      length-take at b,
      length-drop (at + length bytes) b,
    )

-- a byte before them stays
pub slice_index-with_bytes_before : (b : List ℕ) (at : ℕ) (bytes : List ℕ) (i : ℕ) → at ≤ length b → i < at
    → slice_index (with_bytes b at bytes) i ≡ slice_index b i
slice_index-with_bytes_before b at bytes i long before =
    get_or_append_left (take at b) (bytes ++ drop (at + length bytes) b) 0 i (omega (arith, length-take at b)) ∙ get_or-take at b i 0 before

-- a byte behind them stays
pub slice_index-with_bytes_behind : (b : List ℕ) (at : ℕ) (bytes : List ℕ) (i : ℕ) → at ≤ length b → at + length bytes ≤ i
    → slice_index (with_bytes b at bytes) i ≡ slice_index b i
slice_index-with_bytes_behind b at bytes i long behind =
    get_or-append_right (take at b) (bytes ++ drop (at + length bytes) b) at i 0 (omega (arith, length-take at b)) (omega arith)
    ∙ get_or-append_right bytes (drop (at + length bytes) b) (length bytes) (i - at) 0 (omega arith) (omega arith)
    ∙ get_or-drop (at + length bytes) b (i - at - length bytes) 0 ∙ ap (slice_index b) (omega arith)

-- the bytes that were put
pub slice_range-with_bytes : (b : List ℕ) (at to : ℕ) (bytes : List ℕ) → at ≤ length b → to ≡ at + length bytes
    → slice_range (with_bytes b at bytes) at to ≡ bytes
slice_range-with_bytes b at to bytes long end =
    ap (take (to - at)) (drop_at (take at b) (bytes ++ drop (at + length bytes) b) at (length-take-le at b long))
    ∙ take_at bytes (drop (at + length bytes) b) (to - at) (omega arith)

-- what is left behind the first elements
drop-length_take : (n : ℕ) (xs : List ℕ) → drop (length (take n xs)) xs ≡ drop n xs
drop-length_take zero xs = refl
drop-length_take (suc n) [] = refl
drop-length_take (suc n) (x ∷ xs) = drop-length_take n xs

-- bytes put where they stood
pub with_bytes-slice_range : (b : List ℕ) (from to : ℕ) → with_bytes b from (slice_range b from to) ≡ b
with_bytes-slice_range b from to =
    let part : List ℕ = take (to - from) (drop from b) in
    let behind : drop (from + length part) b ≡ drop (to - from) (drop from b) =
    ap (λ (k : ℕ). drop k b) (omega arith) ∙ sym (drop-drop (length part) from b) ∙ drop-length_take (to - from) (drop from b) in
    ap (λ (rest : List ℕ). take from b ++ (part ++ rest)) behind
    ∙ ap (λ (rest : List ℕ). take from b ++ rest) (take-append-drop (to - from) (drop from b)) ∙ take-append-drop from b

-- no bytes
pub with_bytes-nil : (b : List ℕ) (at : ℕ) → with_bytes b at [] ≡ b
with_bytes-nil b at = ap (λ (k : ℕ). take at b ++ drop k b) (add-zero at) ∙ take-append-drop at b

-- bytes put behind others that were put
pub with_bytes-append : (b : List ℕ) (at : ℕ) (first then : List ℕ) → at ≤ length b
    → with_bytes (with_bytes b at first) (at + length first) then ≡ with_bytes b at (first ++ then)
with_bytes-append b at first then within =
    let seam : ℕ = at + length first in
    let front : List ℕ = take at b ++ first in
    let begun : length front ≡ seam = omega (arith, length-append (take at b) first, length-take at b) in
    let once : with_bytes b at first ≡ front ++ drop seam b = sym (append_assoc (take at b) first (drop seam b)) in
    let before : take seam (with_bytes b at first) ≡ front = ap (take seam) once ∙ take_at front (drop seam b) seam begun in
    let both : seam + length then ≡ at + length (first ++ then) = omega (arith, length-append first then) in
    let behind : drop (seam + length then) (with_bytes b at first) ≡ drop (at + length (first ++ then)) b =
    ap (drop (seam + length then)) once ∙ drop-append-drop seam b front (seam + length then) (omega arith) begun
    ∙ ap (λ (k : ℕ). drop k b) both in
    ap (λ (l : List ℕ). l ++ (then ++ drop (seam + length then) (with_bytes b at first))) before
    ∙ ap (λ (l : List ℕ). front ++ (then ++ l)) behind
    ∙ append_assoc (take at b) first (then ++ drop (at + length (first ++ then)) b)
    ∙ ap (λ (l : List ℕ). take at b ++ l) (sym (append_assoc first then (drop (at + length (first ++ then)) b)))

-- bytes put one after another, and two more
sets_more : (vs l : List ℕ) (i x y : ℕ) → sets l i (vs ++ x ∷ y ∷ []) ≡ set (set (sets l i vs) (i + length vs) x) (i + length vs + 1) y
sets_more [] l i x y = rw (add-zero, add-one) refl
sets_more (v ∷ vs) l i x y =
    let next : suc i + length vs ≡ i + suc (length vs) = omega arith in
    sets_more vs (set l i v) (suc i) x y ∙ ap (λ n. set (set (sets (set l i v) (suc i) vs) n x) (n + 1) y) next

-- a list of words has twice as many bytes
pub length-words : (ws : List ℕ) → length (flat_map word_bytes ws) ≡ 2 * length ws
length-words [] = refl
length-words (w ∷ ws) = let rest = length-words ws in omega (arith, rest)

-- bytes that replace others of a block are put there one after another
with_bytes-sets : (b : List ℕ) (at : ℕ) (bytes : List ℕ) → at + length bytes ≤ length b → with_bytes b at bytes ≡ sets b at bytes
with_bytes-sets b at bytes within = sym (sets-eq bytes b at within ∙ append_assoc (take at b) bytes (drop (at + length bytes) b))

-- one word more
pub with_bytes-more :
    (b ws : List ℕ) (at k : ℕ) → at + 2 * k + 2 ≤ length b → k < length ws →
    with_word (with_bytes b at (flat_map word_bytes (take k ws))) (at + 2 * k) (get_or ws k 0) ≡ with_bytes b at
    (flat_map word_bytes (take (k + 1) ws))
with_bytes-more b ws at k room within =
    ap (λ l. with_word l (at + 2 * k) w) (with_bytes-sets b at so_far (omega (arith, long)))
    ∙ ap (λ n. with_word (sets b at so_far) (at + n) w) (sym long)
    ∙ sym (sets_more so_far b at (w % 256) (w / 256))
    ∙ sym (with_bytes-sets b at (so_far ++ word_bytes w) (omega (arith, long, length-append so_far (word_bytes w))))
    ∙ ap (with_bytes b at) (sym joined)
  where
    w : ℕ
    w = get_or ws k 0

    so_far : List ℕ
    so_far = flat_map word_bytes (take k ws)

    long : length so_far ≡ 2 * k
    long = length-words (take k ws) ∙ ap (λ n. 2 * n) (length-take-le k ws (omega (arith, within)))

    joined : flat_map word_bytes (take (k + 1) ws) ≡ so_far ++ word_bytes w
    joined = ap (flat_map word_bytes) (take_more ws k 0 within) ∙ flat_map-append word_bytes (take k ws) (w ∷ [])

-- a byte of a part
pub slice_index-slice_range : (b : List ℕ) (from to i : ℕ) → from + i < to
    → slice_index (slice_range b from to) i ≡ slice_index b (from + i)
slice_index-slice_range b from to i within = get_or-take (to - from) (drop from b) i 0 (omega arith) ∙ get_or-drop from b i 0

-- how many bytes a part has
pub length-slice_range : (b : List ℕ) (from to : ℕ) → to ≤ length b → length (slice_range b from to) ≡ to - from
length-slice_range b from to within = omega (arith, length-take (to - from) (drop from b), length-drop from b)

-- a part whose bytes stay
pub slice_range-same : (a b : List ℕ) (from to : ℕ) → length a ≡ length b
    → ((i : ℕ) → from ≤ i → i < to → slice_index a i ≡ slice_index b i) → slice_range a from to ≡ slice_range b from to
slice_range-same a b from to size same =
    let long : length (slice_range a from to) ≡ length (slice_range b from to) =
    omega (
      arith,
      size,
      length-take (to - from) (drop from a),
      length-drop from a,
      length-take (to - from) (drop from b),
      length-drop from b,
    ) in
    same_number_lists (slice_range a from to) (slice_range b from to) long
    (λ k below.
    let within : from + k < to = omega (arith, below, length-take (to - from) (drop from a)) in
    slice_index-slice_range a from to k within ∙ same (from + k) (omega arith) within ∙ sym (slice_index-slice_range b from to k within))

-- a part that has all its bytes stands in the others
pub slice_range-within : (b : List ℕ) (from to : ℕ) → from < to → length (slice_range b from to) ≡ to - from → to ≤ length b
slice_range-within b from to some size = omega (arith, length-take (to - from) (drop from b), length-drop from b)
