-- The entries of a segment without a file.
use Rattle.std.proofs.Common.{◌≡◌, ◌≢◌, inl, inr, ℕ, zero, suc, ◌+◌, ◌-◌, ◌*◌, ◌<◌, ◌≤◌, ◌==◌, Bool, true, false, nat_lt, if◌then◌else◌}
use Rattle.std.proofs.Common.{List, [], ◌∷◌, ◌++◌, length, get_or, take, drop, slice_index, slice_range, sum_by, refl, sym, ◌∙◌, ap, arith}
use Rattle.std.specs.List.{All}
use Rattle.std.proofs.Math.Nat.{mul-le-mul_right}
use Rattle.std.proofs.lemmas.Bool.{cases_lt, and_parts, ltb-true, eq-eqb, eqb-true, ne_eqb}
use Rattle.std.proofs.lemmas.List.Edits.{get_or-between}
use Rattle.std.proofs.lemmas.List.{length-drop, take_all, take-take, drop-drop}
use Rattle.std.proofs.lemmas.List.Elements.{All-append, All-take, All-drop}
use Rattle.std.proofs.lemmas.List.Sums.{sum_by_more, sum_by-take-drop, sum_by-cons, sum_by-append}
use Rattle.std.proofs.lemmas.Slice.{between_from_start, between_is}
use Rattle.rt11_volume.specs.Rewriting.Draft.{assembled, made_entry}
use Rattle.rt11_volume.specs.Entry.{entry_size, is_end, is_empty, is_one_kind, status, area_length, empty_entry, file_entry}
use Rattle.rt11_volume.specs.Operations.{entry_at, joined_length, joins_before, joins_behind, rest_of, with_file, without_file}
use Rattle.rt11_volume.specs.Segment.{entries, entry_place, HasEnd}
use Rattle.rt11_volume.proofs.Rewriting.Entries.{entries-no_end, entries-at, entry_words-at}

-- a segment with an end has room for it behind its entries
pub ends-room : (extra : ℕ) (s : List ℕ) → HasEnd extra s → entry_place extra (length (entries extra s)) < 512
ends-room extra s ends = elim (cases_lt ends.place (length (entries extra s))) [
  | inl before ↦
      let k : ℕ = ends.place in
      let none = entries-no_end extra s k [] before in
      let at : slice_index (get_or (entries extra s) k []) 0 ≡ slice_index s (entry_place extra k) =
      ap (λ (e : List ℕ). slice_index e 0) (entries-at extra s k [] before) ∙ entry_words-at extra s k 0 (omega arith)
      ∙ ap (slice_index s) (omega arith) in
      let clash : true ≡ false = sym ends.end ∙ sym (ap is_end at) ∙ none in
      absurd (cc)
  | inr behind ↦
      let h : length (entries extra s) * entry_size extra ≤ ends.place * entry_size extra = mul-le-mul_right (entry_size extra) behind in
      omega (arith, h, ends.within)
]

-- no more entries than before have room
pub room-fewer : (extra n m : ℕ) → n ≤ m → entry_place extra m < 512 → 5 + n * entry_size extra < 512
room-fewer extra n m fewer room =
    let h : n * entry_size extra ≤ m * entry_size extra = mul-le-mul_right (entry_size extra) fewer in omega (arith, h, room)

-- where the neighbours are
pub before-some : (es : List (List ℕ)) (i : ℕ) → joins_before es i ≡ true → 0 < i
before-some es i joins = ltb-true 0 i (and_parts (nat_lt 0 i) (is_empty (entry_at es (i - 1))) joins).0

pub behind-some : (es : List (List ℕ)) (i : ℕ) → joins_behind es i ≡ true → i + 1 < length es
behind-some es i joins = ltb-true (i + 1) (length es) (and_parts (nat_lt (i + 1) (length es)) (is_empty (entry_at es (i + 1))) joins).0

-- the blocks that are joined are those of the entries that go
pub joined-sum : (es : List (List ℕ)) (i : ℕ) (before behind : Bool) → (before ≡ true → 0 < i) → (behind ≡ true → i + 1 < length es)
    → i < length es
    → sum_by area_length (take (if before then i - 1 else i) es)
    + (joined_length before es (i - 1) + area_length (entry_at es i) + joined_length behind es (i + 1))
    + sum_by area_length (drop (if behind then i + 2 else i + 1) es) ≡ sum_by area_length es
joined-sum es i true true some more inside =
    let a = sum_by_more area_length es (i - 1) [] (omega (arith, inside)) in
    let b = sum_by_more area_length es i [] inside in
    let c = sum_by_more area_length es (i + 1) [] (more refl) in
    let d = sum_by-take-drop area_length es (i + 2) in
    let at : i - 1 + 1 ≡ i = omega (arith, some refl) in
    let one = ap (λ n. sum_by area_length (take n es)) at in
    let two = ap (λ n. sum_by area_length (take n es)) (let e : i + 1 + 1 ≡ i + 2 = omega arith in e) in
    omega (arith, a, b, c, d, one, two)
joined-sum es i true false some more inside =
    let a = sum_by_more area_length es (i - 1) [] (omega (arith, inside)) in
    let b = sum_by_more area_length es i [] inside in
    let d = sum_by-take-drop area_length es (i + 1) in
    let at : i - 1 + 1 ≡ i = omega (arith, some refl) in
    let one = ap (λ n. sum_by area_length (take n es)) at in
    omega (arith, a, b, d, one)
joined-sum es i false true some more inside =
    let b = sum_by_more area_length es i [] inside in
    let c = sum_by_more area_length es (i + 1) [] (more refl) in
    let d = sum_by-take-drop area_length es (i + 2) in
    let two = ap (λ n. sum_by area_length (take n es)) (let e : i + 1 + 1 ≡ i + 2 = omega arith in e) in
    omega (arith, b, c, d, two)
joined-sum es i false false some more inside =
    let b = sum_by_more area_length es i [] inside in
    let d = sum_by-take-drop area_length es (i + 1) in
    omega (arith, b, d)

-- the rest of a list
pub slice_to_end : (es : List (List ℕ)) (end count : ℕ) → count ≡ length es → slice_range es end count ≡ drop end es
slice_to_end es end count all = take_all (count - end) (drop end es) (omega (arith, all, length-drop end es))

-- what is assembled is what is meant
pub without-assembled : (extra : ℕ) (es : List (List ℕ)) (i first end count blocks : ℕ) → count ≡ length es
    → first ≡ (if joins_before es i then i - 1 else i) → end ≡ (if joins_behind es i then i + 2 else i + 1)
    → blocks ≡ joined_length (joins_before es i) es (i - 1) + area_length (entry_at es i) + joined_length (joins_behind es i) es (i + 1)
    → assembled extra es 0 first ((512 ∷ 0 ∷ 0 ∷ 0 ∷ blocks ∷ 0 ∷ 0 ∷ []) ∷ []) end count ≡ without_file extra es i
unfolding without_file
without-assembled extra es i first end count blocks all first_is end_is blocks_are =
    (λ t. between_from_start es first t ++ (empty_entry extra blocks ∷ slice_to_end es end count all t))
    ∙ (λ t. take (first_is t) es ++ (empty_entry extra (blocks_are t) ∷ drop (end_is t) es))

-- one entry stands where one stood at least
pub joined-fewer : (i count first end : ℕ) (before behind : Bool) → i < count → first ≡ (if before then i - 1 else i)
    → end ≡ (if behind then i + 2 else i + 1) → first - 0 + (1 + (count - end)) ≤ count
joined-fewer i count first end true true inside one two = omega (arith, inside, one, two)
joined-fewer i count first end true false inside one two = omega (arith, inside, one, two)
joined-fewer i count first end false true inside one two = omega (arith, inside, one, two)
joined-fewer i count first end false false inside one two = omega (arith, inside, one, two)

-- the areas of the entries without a file are as long as those with it, and each is of one kind
pub without-sum : (extra : ℕ) (es : List (List ℕ)) (i : ℕ) → i < length es
    → sum_by area_length (without_file extra es i) ≡ sum_by area_length es
unfolding without_file
without-sum extra es i inside =
    let before : Bool = joins_before es i in
    let behind : Bool = joins_behind es i in
    let blocks : ℕ = joined_length before es (i - 1) + area_length (entry_at es i) + joined_length behind es (i + 1) in
    let first : List (List ℕ) = take (if before then i - 1 else i) es in
    let rest : List (List ℕ) = drop (if behind then i + 2 else i + 1) es in
    let all = joined-sum es i before behind (before-some es i) (behind-some es i) inside in
    let parts = sum_by-append area_length first (empty_entry extra blocks ∷ rest) in
    let one : sum_by area_length (empty_entry extra blocks ∷ rest) ≡ blocks + sum_by area_length rest =
    sum_by-cons area_length (empty_entry extra blocks) rest in
    omega (arith, all, parts, one)

All-more : (e : List ℕ) (xs : List (List ℕ)) → is_one_kind (status e) ≡ true → All (λ x. is_one_kind (status x) ≡ true) xs
    → All (λ x. is_one_kind (status x) ≡ true) (e ∷ xs)
All-more e xs one more zero d within = one
All-more e xs one more (suc k) d within = more k d (omega (arith, within))

pub without-kinds : (extra : ℕ) (es : List (List ℕ)) (i : ℕ) → All (λ e. is_one_kind (status e) ≡ true) es
    → All (λ e. is_one_kind (status e) ≡ true) (without_file extra es i)
unfolding without_file
without-kinds extra es i are =
    let P = λ (e : List ℕ). is_one_kind (status e) ≡ true in
    let before : Bool = joins_before es i in
    let behind : Bool = joins_behind es i in
    let blocks : ℕ = joined_length before es (i - 1) + area_length (entry_at es i) + joined_length behind es (i + 1) in
    All-append P (take (if before then i - 1 else i) es) (empty_entry extra blocks ∷ drop (if behind then i + 2 else i + 1) es)
    (All-take P (if before then i - 1 else i) es are)
    (All-more (empty_entry extra blocks) (drop (if behind then i + 2 else i + 1) es) refl
    (All-drop P (if behind then i + 2 else i + 1) es are))

-- a part of some entries
take-part : (es : List (List ℕ)) (a i b : ℕ) → a ≤ i → i ≤ b → take (i - a) (slice_range es a b) ≡ slice_range es a i
take-part es a i b low high = take-take (i - a) (b - a) (drop a es) (omega (arith, low, high))

pub at-part : (es : List (List ℕ)) (a i b : ℕ) → a ≤ i → i < b → entry_at (slice_range es a b) (i - a) ≡ entry_at es i
at-part es a i b low high =
    get_or-between es a b (i - a) [] (omega (arith, low, high))
    ∙ ap (λ n. get_or es n []) (let p : a + (i - a) ≡ i = omega (arith, low) in p)

drop-part : (es : List (List ℕ)) (a i b : ℕ) → a ≤ i → i < b → drop (i - a + 1) (slice_range es a b) ≡ slice_range es (i + 1) b
drop-part es a i b low high =
    ap (drop (i - a + 1)) (between_is es a b) ∙ drop-drop (i - a + 1) a (take b es)
    ∙ ap (λ n. drop n (take b es)) (let p : a + (i - a + 1) ≡ i + 1 = omega (arith, low) in p)
    ∙ sym (between_is es (i + 1) b)

-- what is assembled is what is meant: the area fits exactly, or something is left of it
with-parts : (extra : ℕ) (es : List (List ℕ)) (a i b : ℕ) (name : List ℕ) (n0 n1 n2 blocks day : ℕ) (rest : List (List ℕ)) → a ≤ i → i < b
    → name ≡ n0 ∷ n1 ∷ n2 ∷ []
    → rest ≡ rest_of extra (area_length (entry_at es i)) blocks
    → slice_range es a i ++ (made_entry extra (1024 ∷ n0 ∷ n1 ∷ n2 ∷ blocks ∷ 0 ∷ day ∷ []) ∷ (rest ++ slice_range es (i + 1) b))
    ≡ with_file extra (slice_range es a b) (i - a) name blocks day
with-parts extra es a i b name n0 n1 n2 blocks day rest low high name_is rest_is =
    let one = sym (take-part es a i b low (omega (arith, high))) in
    let two = rest_is ∙ ap (λ (e : List ℕ). rest_of extra (area_length e) blocks) (sym (at-part es a i b low high)) in
    let three = sym (drop-part es a i b low high) in
    let words = sym name_is in
    λ t. one t ++ (file_entry extra (words t) blocks day ∷ (two t ++ three t))

pub with-exact : (extra : ℕ) (es : List (List ℕ)) (a i b : ℕ) (name : List ℕ) (n0 n1 n2 blocks day : ℕ) → a ≤ i → i < b
    → name ≡ n0 ∷ n1 ∷ n2 ∷ [] → blocks ≡ area_length (entry_at es i)
    → assembled extra es a i ((1024 ∷ n0 ∷ n1 ∷ n2 ∷ blocks ∷ 0 ∷ day ∷ []) ∷ []) (i + 1) b ≡ with_file extra (slice_range es a b) (i - a)
    name blocks day
with-exact extra es a i b name n0 n1 n2 blocks day low high name_is exact =
    with-parts extra es a i b name n0 n1 n2 blocks day [] low high name_is
    (sym (ap (λ (c : Bool). if c then [] else empty_entry extra (area_length (entry_at es i) - blocks) ∷ [])
    (eq-eqb blocks (area_length (entry_at es i)) exact)))

pub with-rest : (extra : ℕ) (es : List (List ℕ)) (a i b : ℕ) (name : List ℕ) (n0 n1 n2 blocks left day : ℕ) → a ≤ i → i < b
    → name ≡ n0 ∷ n1 ∷ n2 ∷ [] → blocks ≢ area_length (entry_at es i)
    → left ≡ area_length (entry_at es i) - blocks
    → assembled extra es a i ((1024 ∷ n0 ∷ n1 ∷ n2 ∷ blocks ∷ 0 ∷ day ∷ []) ∷ (512 ∷ 0 ∷ 0 ∷ 0 ∷ left ∷ 0 ∷ 0 ∷ []) ∷ []) (i + 1)
    b ≡ with_file extra (slice_range es a b) (i - a) name blocks day
with-rest extra es a i b name n0 n1 n2 blocks left day low high name_is more left_is =
    with-parts extra es a i b name n0 n1 n2 blocks day (empty_entry extra left ∷ []) low high name_is
    (ap (λ n. empty_entry extra n ∷ []) left_is
    ∙ sym (ap (λ (c : Bool). if c then [] else empty_entry extra (area_length (entry_at es i) - blocks) ∷ [])
    (ne_eqb blocks (area_length (entry_at es i)) more)))

-- the name's three words
pub three_words : (name : List ℕ) → length name ≡ 3 → name ≡ slice_index name 0 ∷ slice_index name 1 ∷ slice_index name 2 ∷ []
three_words (a ∷ b ∷ c ∷ []) size = refl
three_words [] size = absurd (omega arith)
three_words (a ∷ []) size = absurd (omega arith)
three_words (a ∷ b ∷ []) size = absurd (omega arith)
three_words (a ∷ b ∷ c ∷ d ∷ more) size = absurd (omega arith)

-- the areas of the entries with a new file are as long as those without it, and each is of one kind
pub with-sum : (extra : ℕ) (es : List (List ℕ)) (i : ℕ) (name : List ℕ) (blocks day : ℕ) → i < length es → length name ≡ 3
    → blocks ≤ area_length (entry_at es i)
    → sum_by area_length (with_file extra es i name blocks day) ≡ sum_by area_length es
with-sum extra es i name blocks day inside three fits =
    let area : ℕ = area_length (entry_at es i) in
    let file : List ℕ = file_entry extra name blocks day in
    let rest : List (List ℕ) = rest_of extra area blocks in
    let more = sum_by_more area_length es i [] inside in
    let all = sum_by-take-drop area_length es (i + 1) in
    let one = sum_by-append area_length (take i es) (file ∷ (rest ++ drop (i + 1) es)) in
    let two = sum_by-cons area_length file (rest ++ drop (i + 1) es) in
    let four = sum_by-append area_length rest (drop (i + 1) es) in
    let long : area_length file ≡ blocks = ap (λ (n : List ℕ). area_length (file_entry extra n blocks day)) (three_words name three) in
    omega (arith, more, all, one, two, four, long, rest-sum (blocks == area) refl, fits)
  where
    rest-sum : (b : Bool) → b ≡ (blocks == area_length (entry_at es i))
        → sum_by area_length (rest_of extra (area_length (entry_at es i)) blocks) ≡ area_length (entry_at es i) - blocks
    rest-sum true is =
        let same : blocks ≡ area_length (entry_at es i) = eqb-true blocks (area_length (entry_at es i)) (sym is) in
        ap (λ (c : Bool). sum_by area_length (if c then [] else empty_entry extra (area_length (entry_at es i) - blocks) ∷ [])) (sym is)
        ∙ omega (arith, same)
    rest-sum false is =
        ap (λ (c : Bool). sum_by area_length (if c then [] else empty_entry extra (area_length (entry_at es i) - blocks) ∷ [])) (sym is)
        ∙ sum_by-cons area_length (empty_entry extra (area_length (entry_at es i) - blocks)) [] ∙ omega arith

pub with-kinds : (extra : ℕ) (es : List (List ℕ)) (i : ℕ) (name : List ℕ) (blocks day : ℕ) → All (λ e. is_one_kind (status e) ≡ true) es
    → All (λ e. is_one_kind (status e) ≡ true) (with_file extra es i name blocks day)
with-kinds extra es i name blocks day are =
    let P = λ (e : List ℕ). is_one_kind (status e) ≡ true in
    All-append P (take i es) (file_entry extra name blocks day ∷ (rest_of extra (area_length (entry_at es i)) blocks ++ drop (i + 1) es))
    (All-take P i es are)
    (All-more (file_entry extra name blocks day) (rest_of extra (area_length (entry_at es i)) blocks ++ drop (i + 1) es) refl
    (All-append P (rest_of extra (area_length (entry_at es i)) blocks) (drop (i + 1) es)
    (rest-kinds (blocks == area_length (entry_at es i))) (All-drop P (i + 1) es are)))
  where
    rest-kinds : (b : Bool) → All (λ e. is_one_kind (status e) ≡ true)
        (if b then [] else empty_entry extra (area_length (entry_at es i) - blocks) ∷ [])
    rest-kinds true k d within = absurd (omega (arith, within))
    rest-kinds false zero d within = refl
    rest-kinds false (suc k) d within = absurd (omega (arith, within))
