-- A segment of which so many words were written has these entries.
use Rattle.std.proofs.Common.{◌≡◌, ℕ, suc, ◌+◌, ◌-◌, ◌*◌, ◌/◌, ◌<◌, ◌≤◌, false, List, [], ◌∷◌, ◌++◌, length, get_or, map, take, drop}
use Rattle.std.proofs.Common.{replicate, slice_index, slice_range, sym, ◌∙◌, ap, subst, append_assoc, arith}
use Rattle.std.specs.List.{All}
use Rattle.std.proofs.Math.Nat.{mul-le-mul_right}
use Rattle.std.proofs.lemmas.List.{length-append, length-take-le, length-map, length-replicate, get_or-take, get_or_default}
use Rattle.std.proofs.lemmas.List.{get_or_append_left, get_or-append-add, same_lists}
use Rattle.std.proofs.lemmas.List.Concat.{get_or-flat_map}
use Rattle.std.proofs.lemmas.List.Edits.{length-between, get_or-between}
use Rattle.std.proofs.lemmas.List.Elements.{All-append, All-take, All-drop, All-map}
use Rattle.std.proofs.lemmas.Grind.{flat_map-append, same_number_lists}
use Rattle.rt11_volume.specs.Rewriting.Draft.{words_of_all, IsRewritten, IsHead, made_entry, assembled}
use Rattle.rt11_volume.specs.Entry.{entry_size, is_end, status}
use Rattle.rt11_volume.specs.Segment.{entries, entry_words, entry_place, extra_bytes}
use Rattle.rt11_volume.proofs.Rewriting.Draft.{length-entry_at}
use Rattle.rt11_volume.proofs.Rewriting.Entries.{entries-count, entries-at, entries-no_end, place-room}

-- An entry has so many words, and is no end mark.
pub record IsWhole (size : ℕ) (e : List ℕ) : Type 0 where
  pub long : length e ≡ size
  pub no_end : is_end (status e) ≡ false

length-all : (size : ℕ) (es : List (List ℕ)) → All (IsWhole size) es → length (words_of_all es) ≡ length es * size
length-all size [] whole = omega arith
length-all size (e ∷ es) whole =
    let first = (whole 0 e (omega arith)).long in
    let rest = length-all size es (λ k d within. whole (suc k) d (omega (arith, within))) in
    omega (arith, length-append e (words_of_all es), first, rest)

-- a word of one of them
all-at : (size : ℕ) (es : List (List ℕ)) (i k : ℕ) → All (IsWhole size) es → i < length es → k < size
    → slice_index (words_of_all es) (i * size + k) ≡ slice_index (get_or es i []) k
all-at size es i k whole inside within =
    let before : length (words_of_all (take i es)) ≡ i * size = length-all size (take i es) (All-take (IsWhole size) i es whole)
    ∙ ap (λ n. n * size) (length-take-le i es (omega (arith, inside))) in
    ap (λ n. slice_index (words_of_all es) (n + k)) (sym before)
    ∙ get_or-flat_map (λ (e : List ℕ). e) es i k [] 0 inside (omega (arith, within, (whole i [] inside).long))

-- What was written of a segment: the header, the entries and an end mark.
pub record IsWritten (header : List ℕ) (extra : ℕ) (es : List (List ℕ)) (s : List ℕ) : Type 0 where
  pub header_long : length header ≡ 5
  pub extra_is : slice_index header 3 ≡ extra
  pub whole : All (IsWhole (entry_size extra)) es
  pub room : entry_place extra (length es) < 512
  pub long : length s ≡ 512
  pub words : take (entry_place extra (length es) + 1) s ≡ header ++ (words_of_all es ++ 2048 ∷ [])

-- a word of it
written-at : (header : List ℕ) (extra : ℕ) (es : List (List ℕ)) (s : List ℕ) → IsWritten header extra es s → (j : ℕ)
    → j < entry_place extra (length es) + 1
    → slice_index s j ≡ slice_index (header ++ (words_of_all es ++ 2048 ∷ [])) j
written-at header extra es s is j within =
    sym (get_or-take (entry_place extra (length es) + 1) s j 0 within) ∙ ap (λ ws. slice_index ws j) is.words

-- a word behind the header
written-behind : (header : List ℕ) (extra : ℕ) (es : List (List ℕ)) (s : List ℕ) → IsWritten header extra es s → (j : ℕ)
    → 5 + j < entry_place extra (length es) + 1
    → slice_index s (5 + j) ≡ slice_index (words_of_all es ++ 2048 ∷ []) j
written-behind header extra es s is j within =
    written-at header extra es s is (5 + j) within
    ∙ ap (λ n. slice_index (header ++ (words_of_all es ++ 2048 ∷ [])) (n + j)) (sym is.header_long)
    ∙ get_or-append-add header (words_of_all es ++ 2048 ∷ []) j 0

-- where an entry before the end mark stands there is room for it
place-below : (size i n k : ℕ) → i < n → k < size → i * size + k < n * size
place-below size i n k inside within =
    let h : (i + 1) * size ≤ n * size = mul-le-mul_right size (omega (arith, inside)) in omega (arith, h, within)

written-word : (header : List ℕ) (extra : ℕ) (es : List (List ℕ)) (s : List ℕ) → IsWritten header extra es s → (i k : ℕ) → i < length es
    → k < entry_size extra
    → slice_index s (entry_place extra i + k) ≡ slice_index (get_or es i []) k
written-word header extra es s is i k inside within =
    let size : ℕ = entry_size extra in
    let below : i * size + k < length es * size = place-below size i (length es) k inside within in
    ap (slice_index s) (let p : entry_place extra i + k ≡ 5 + (i * size + k) = omega arith in p)
    ∙ written-behind header extra es s is (i * size + k) (omega (arith, below))
    ∙ get_or_append_left (words_of_all es) (2048 ∷ []) 0 (i * size + k) (omega (arith, below, length-all size es is.whole))
    ∙ all-at size es i k is.whole inside within

-- the end mark
written-end : (header : List ℕ) (extra : ℕ) (es : List (List ℕ)) (s : List ℕ) → IsWritten header extra es s
    → slice_index s (entry_place extra (length es)) ≡ 2048
written-end header extra es s is =
    let size = length-all (entry_size extra) es is.whole in
    written-behind header extra es s is (length es * entry_size extra) (omega arith)
    ∙ ap (slice_index (words_of_all es ++ 2048 ∷ []))
    (let p : length es * entry_size extra ≡ length (words_of_all es) + 0 = omega (arith, size) in p)
    ∙ get_or-append-add (words_of_all es) (2048 ∷ []) 0 0

-- its entries
written-count : (header : List ℕ) (extra : ℕ) (es : List (List ℕ)) (s : List ℕ) → IsWritten header extra es s
    → length (entries extra s) ≡ length es
written-count header extra es s is =
    entries-count extra s (length es) (place-room extra (length es) is.room)
    (λ k before.
    let first = written-word header extra es s is k 0 before (omega arith) in
    ap is_end (ap (slice_index s) (let p : entry_place extra k ≡ entry_place extra k + 0 = omega arith in p) ∙ first)
    ∙ (is.whole k [] before).no_end)
    (λ less. ap is_end (written-end header extra es s is))

written-entry : (header : List ℕ) (extra : ℕ) (es : List (List ℕ)) (s : List ℕ) → IsWritten header extra es s → (i : ℕ) → i < length es
    → entry_words extra s i ≡ get_or es i []
written-entry header extra es s is i inside =
    let size : ℕ = entry_size extra in
    let below : i * size + (size - 1) < length es * size = place-below size i (length es) (size - 1) inside (omega arith) in
    let fits : entry_place extra (i + 1) ≤ 512 = omega (arith, below, is.room) in
    let long : length (entry_words extra s i) ≡ size = length-between s (entry_place extra i) (entry_place extra (i + 1))
    (omega (arith, fits, is.long)) ∙ omega arith in
    same_number_lists (entry_words extra s i) (get_or es i []) (long ∙ sym (is.whole i [] inside).long) (λ k within.
    let few : k < size = omega (arith, within, long) in
    get_or-between s (entry_place extra i) (entry_place extra (i + 1)) k 0 (omega (arith, few))
    ∙ written-word header extra es s is i k inside few)

written-entries : (header : List ℕ) (extra : ℕ) (es : List (List ℕ)) (s : List ℕ) → IsWritten header extra es s → entries extra s ≡ es
written-entries header extra es s is =
    let count = written-count header extra es s is in
    same_lists (entries extra s) es count (λ k d within.
    let inside : k < length es = omega (arith, within, count) in
    entries-at extra s k d within ∙ written-entry header extra es s is k inside ∙ get_or_default es k [] d inside)

-- so the segment has them
pub rewritten : (header : List ℕ) (extra : ℕ) (es : List (List ℕ)) (s : List ℕ) → IsWritten header extra es s → IsRewritten header es s
rewritten header extra es s is =
    let n : ℕ = entry_place extra (length es) + 1 in
    let words : List ℕ = header ++ (words_of_all es ++ 2048 ∷ []) in
    let extra_is : extra_bytes s ≡ extra = written-at header extra es s is 3 (omega arith)
    ∙ get_or_append_left header (words_of_all es ++ 2048 ∷ []) 0 3 (omega (arith, is.header_long)) ∙ is.extra_is in
    let five : length (take 5 s) ≡ 5 = length-take-le 5 s (omega (arith, is.long)) in
    record {
      header_is = same_number_lists (take 5 s) header (five ∙ sym is.header_long) (λ k within.
          let few : k < 5 = omega (arith, within, five) in
          get_or-take 5 s k 0 few ∙ written-at header extra es s is k (omega (arith, few))
          ∙ get_or_append_left header (words_of_all es ++ 2048 ∷ []) 0 k (omega (arith, few, is.header_long)));
      entries_are = ap (λ x. entries x s) extra_is ∙ written-entries header extra es s is;
      ends = record {
        place = length es;
        within = subst (λ x. entry_place x (length es) < 512) (sym extra_is) is.room;
        end = ap (λ x. is_end (slice_index s (entry_place x (length es)))) extra_is ∙ ap is_end (written-end header extra es s is);
      };
    }

-- the entries of a segment are whole
pub entries-whole : (extra : ℕ) (s : List ℕ) → length s ≡ 512 → All (IsWhole (entry_size extra)) (entries extra s)
entries-whole extra s size k d within =
    record { long = length-entry_at extra s k d size within; no_end = entries-no_end extra s k d within }

-- and so are those that are made
made-whole : (extra : ℕ) (heads : List (List ℕ)) → All IsHead heads → All (IsWhole (entry_size extra)) (map (made_entry extra) heads)
made-whole extra heads are = All-map (IsWhole (entry_size extra)) (made_entry extra) heads (λ k d within.
    let head : List ℕ = get_or heads k d in
    let is = are k d within in
    record {
      long = length-append head (replicate (extra / 2) 0) ∙ omega (arith, is.size, length-replicate {A = ℕ} (extra / 2) 0);
      no_end = ap is_end (get_or_append_left head (replicate (extra / 2) 0) 0 0 (omega (arith, is.size))) ∙ is.no_end;
    })

-- all that are assembled
pub assembled-whole : (extra : ℕ) (s : List ℕ) (a first : ℕ) (heads : List (List ℕ)) (end b : ℕ) → length s ≡ 512 → All IsHead heads
    → All (IsWhole (entry_size extra)) (assembled extra (entries extra s) a first heads end b)
assembled-whole extra s a first heads end b size heads_are =
    let W = IsWhole (entry_size extra) in
    let es : List (List ℕ) = entries extra s in
    let whole = entries-whole extra s size in
    let part = λ (i j : ℕ). All-take W (j - i) (drop i es) (All-drop W i es whole) in
    All-append W (slice_range es a first) (map (made_entry extra) heads ++ slice_range es end b) (part a first)
    (All-append W (map (made_entry extra) heads) (slice_range es end b) (made-whole extra heads heads_are) (part end b))

pub length-assembled : (extra : ℕ) (es : List (List ℕ)) (a first : ℕ) (heads : List (List ℕ)) (end b : ℕ) → first ≤ length es
    → b ≤ length es
    → length (assembled extra es a first heads end b) ≡ (first - a) + (length heads + (b - end))
length-assembled extra es a first heads end b within inside =
    let one = length-between es a first within in
    let two = length-between es end b inside in
    let made : length (map (made_entry extra) heads) ≡ length heads = length-map heads (made_entry extra) in
    omega (
      arith,
      length-append (slice_range es a first) (map (made_entry extra) heads ++ slice_range es end b),
      length-append (map (made_entry extra) heads) (slice_range es end b),
      one,
      two,
      made,
    )

-- the words that were put, one piece after another
pub assembled-words : (header words : List ℕ) (extra : ℕ) (es : List (List ℕ)) (a first : ℕ) (heads : List (List ℕ)) (end b : ℕ)
    → words ≡ (((header ++ words_of_all (slice_range es a first)) ++ words_of_all (map (made_entry extra) heads)) ++ words_of_all
    (slice_range es end b)) ++ 2048 ∷ []
    → words ≡ header ++ (words_of_all (assembled extra es a first heads end b) ++ 2048 ∷ [])
assembled-words header words extra es a first heads end b is =
    let A : List ℕ = words_of_all (slice_range es a first) in
    let M : List ℕ = words_of_all (map (made_entry extra) heads) in
    let B : List ℕ = words_of_all (slice_range es end b) in
    let all : words_of_all (assembled extra es a first heads end b) ≡ A ++ (M ++ B) =
    flat_map-append (λ (e : List ℕ). e) (slice_range es a first) (map (made_entry extra) heads ++ slice_range es end b)
    ∙ ap (λ ws. A ++ ws) (flat_map-append (λ (e : List ℕ). e) (map (made_entry extra) heads) (slice_range es end b)) in
    is
    ∙ ap (λ ws. (ws ++ B) ++ 2048 ∷ []) (append_assoc header A M)
    ∙ ap (λ ws. ws ++ 2048 ∷ []) (append_assoc header (A ++ M) B)
    ∙ append_assoc header ((A ++ M) ++ B) (2048 ∷ [])
    ∙ ap (λ ws. header ++ (ws ++ 2048 ∷ [])) (append_assoc A M B ∙ sym all)

-- where the end mark of a segment with so many entries stands
pub place-of_pieces : (p q r size at0 at1 at2 at3 at4 : ℕ) → at0 ≡ 0 → at1 ≡ at0 + 5 → at2 ≡ at1 + p * size → at3 ≡ at2 + q * size
    → at4 ≡ at3 + r * size → at4 ≡ 5 + (p + (q + r)) * size
place-of_pieces p q r size at0 at1 at2 at3 at4 none one two three four = omega (arith, none, one, two, three, four)
