-- What a new file, and a file that goes, change of the areas of a directory.
use Rattle.std.proofs.Common.{◌≡◌, ℕ, ◌+◌, ◌-◌, ◌<◌, ◌≤◌, ◌==◌, Bool, true, false, if◌then◌else◌, List, [], ◌∷◌, ◌++◌, length, take, drop}
use Rattle.std.proofs.Common.{sum_by, refl, sym, ◌∙◌, ap, append_assoc, append-nil, arith, Some}
use Rattle.std.specs.List.{slice_get}
use Rattle.std.proofs.lemmas.Bool.{and_parts}
use Rattle.std.proofs.lemmas.List.{drop_more, take_more}
use Rattle.std.proofs.lemmas.List.Sums.{sum_by-append, sum_by-cons, sum_by-take-drop}
use Rattle.rt11_volume.specs.Entry.{area_length, empty_entry, file_entry, is_empty}
use Rattle.rt11_volume.specs.Named.{Placed, placed, placed_in}
use Rattle.rt11_volume.specs.Operations.{entry_at, joined_length, joins_before, joins_behind, rest_of, with_entries, with_file}
use Rattle.rt11_volume.specs.Operations.{without_file}
use Rattle.rt11_volume.specs.Segment.{Segment, area_start}
use Rattle.rt11_volume.proofs.Named.Placing.{all-around, all-entries, at_start, placed-append, placed-more, placed-nil, regroup}
use Rattle.rt11_volume.proofs.Rewriting.Edit.{before-some, behind-some, joined-sum, three_words, with-sum}

-- nothing but empty areas
pub data AreEmpty : List Placed → Type 0 where
  none : AreEmpty []
  one : (e : List ℕ) (start : ℕ) → is_empty e ≡ true → AreEmpty (at_start e start ∷ [])

-- A file was put where an empty area was, and what is left of that is empty.
pub record IsPut (old new : List Placed) (area file : List ℕ) : Type 0 where
  pub start : ℕ
  pub before : List Placed
  pub behind : List Placed
  pub left : List Placed
  pub was : old ≡ before ++ (at_start area start ∷ behind)
  pub is : new ≡ before ++ (at_start file start ∷ (left ++ behind))
  pub left_empty : AreEmpty left

-- what is left of an area
rest-empty : (extra area blocks start : ℕ) → AreEmpty (placed start (rest_of extra area blocks))
unfolding placed
rest-empty extra area blocks start = by_test (blocks == area)
  where
    by_test : (b : Bool) → AreEmpty (placed start (if b then [] else empty_entry extra (area - blocks) ∷ []))
    by_test true = AreEmpty.none
    by_test false = AreEmpty.one (empty_entry extra (area - blocks)) start refl

-- the entries of a segment with a file in the front of an area
entries-put : (first extra : ℕ) (es : List (List ℕ)) (i : ℕ) (name : List ℕ) (blocks day : ℕ) → i < length es → length name ≡ 3
    → blocks ≤ area_length (entry_at es i)
    → placed first (with_file extra es i name blocks day)
    ≡ placed first (take i es) ++ (at_start (file_entry extra name blocks day) (first + sum_by area_length (take i es))
    ∷ (placed (first + sum_by area_length (take i es) + blocks) (rest_of extra (area_length (entry_at es i)) blocks) ++ placed
    (first + sum_by area_length (take (i + 1) es)) (drop (i + 1) es)))
entries-put first extra es i name blocks day inside three fits =
    let file : List ℕ = file_entry extra name blocks day in
    let rest : List (List ℕ) = rest_of extra (area_length (entry_at es i)) blocks in
    let more : List (List ℕ) = drop (i + 1) es in
    let start : ℕ = first + sum_by area_length (take i es) in
    let long : area_length file ≡ blocks = ap (λ (n : List ℕ). area_length (file_entry extra n blocks day)) (three_words name three) in
    let all = with-sum extra es i name blocks day inside three fits in
    let one = sum_by-append area_length (take i es) (file ∷ (rest ++ more)) in
    let two = sum_by-cons area_length file (rest ++ more) in
    let four = sum_by-append area_length rest more in
    let parts = sum_by-take-drop area_length es (i + 1) in
    let next : start + blocks + sum_by area_length rest ≡ first + sum_by area_length (take (i + 1) es) =
    omega (arith, all, one, two, four, parts, long) in
    placed-append first (take i es) (file ∷ (rest ++ more))
    ∙ ap (λ ps. placed first (take i es) ++ ps)
    (placed-more start file (rest ++ more)
    ∙ ap (λ n. at_start file start ∷ placed (start + n) (rest ++ more)) long
    ∙ ap (λ ps. at_start file start ∷ ps)
    (placed-append (start + blocks) rest more ∙ ap (λ n. placed (start + blocks) rest ++ placed n more) next))

pub put-in : (segs : List Segment) (place : ℕ) (seg : Segment) (extra i : ℕ) (name : List ℕ) (blocks day : ℕ)
    → slice_get segs place ≡ Some seg → i < length seg.entries → length name ≡ 3 → blocks ≤ area_length (entry_at seg.entries i)
    → IsPut (placed_in segs) (placed_in (with_entries segs place (with_file extra seg.entries i name blocks day))) (entry_at seg.entries i)
    (file_entry extra name blocks day)
put-in segs place seg extra i name blocks day at inside three fits =
    let p : List Placed = placed_in (take place segs) in
    let q : List Placed = placed_in (drop (place + 1) segs) in
    let a : List Placed = placed seg.first (take i seg.entries) in
    let b : List Placed = placed (seg.first + sum_by area_length (take (i + 1) seg.entries)) (drop (i + 1) seg.entries) in
    let left : List Placed = placed (area_start seg i + blocks) (rest_of extra (area_length (entry_at seg.entries i)) blocks) in
    let file : Placed = at_start (file_entry extra name blocks day) (area_start seg i) in
    record {
      start = area_start seg i;
      before = p ++ a;
      behind = b ++ q;
      left = left;
      was = all-around segs place seg i at inside;
      is = all-entries segs place seg (with_file extra seg.entries i name blocks day) at
          ∙ ap (λ ps. p ++ (ps ++ q)) (entries-put seg.first extra seg.entries i name blocks day inside three fits)
          ∙ regroup p a (file ∷ (left ++ b)) q
          ∙ ap (λ ps. (p ++ a) ++ (file ∷ ps)) (append_assoc left b q);
      left_empty = rest-empty extra (area_length (entry_at seg.entries i)) blocks (area_start seg i + blocks);
    }

-- An area was joined with the empty ones beside it.
pub record IsJoined (segs : List Segment) (new : List Placed) (place : ℕ) (seg : Segment) (i : ℕ) : Type 0 where
  pub before : List Placed
  pub behind : List Placed
  pub ahead : List Placed
  pub after : List Placed
  pub whole : List Placed
  pub front : placed_in (take place segs) ++ placed seg.first (take i seg.entries) ≡ before ++ ahead
  pub was : placed_in segs ≡ before ++ (ahead ++ (at_start (entry_at seg.entries i) (area_start seg i) ∷ (after ++ behind)))
  pub is : new ≡ before ++ (whole ++ behind)
  pub ahead_empty : AreEmpty ahead
  pub after_empty : AreEmpty after
  pub whole_empty : AreEmpty whole

-- The entries before one, but for an empty one right before it.
record AreBefore (first : ℕ) (es : List (List ℕ)) (i kept : ℕ) : Type 0 where
  ahead : List Placed
  same : placed first (take i es) ≡ placed first (take kept es) ++ ahead
  empty : AreEmpty ahead

before-are : (first : ℕ) (es : List (List ℕ)) (i : ℕ) (b : Bool) → i < length es → (b ≡ true → 0 < i)
    → (b ≡ true → is_empty (entry_at es (i - 1)) ≡ true) → AreBefore first es i (if b then i - 1 else i)
before-are first es i false inside some is =
    record { ahead = []; same = sym (append-nil (placed first (take i es))); empty = AreEmpty.none }
before-are first es i true inside some is =
    let at : i - 1 + 1 ≡ i = omega (arith, some refl) in
    let start : ℕ = first + sum_by area_length (take (i - 1) es) in
    record {
      ahead = at_start (entry_at es (i - 1)) start ∷ [];
      same = ap (λ n. placed first (take n es)) (sym at)
          ∙ ap (placed first) (take_more es (i - 1) [] (omega (arith, inside)))
          ∙ placed-append first (take (i - 1) es) (entry_at es (i - 1) ∷ [])
          ∙ ap (λ ps. placed first (take (i - 1) es) ++ ps)
          (placed-more start (entry_at es (i - 1)) [] ∙ ap (λ ps. at_start (entry_at es (i - 1)) start ∷ ps)
          (placed-nil (start + area_length (entry_at es (i - 1)))));
      empty = AreEmpty.one (entry_at es (i - 1)) start (is refl);
    }

-- The entries behind one, but for an empty one right behind it.
record AreBehind (first : ℕ) (es : List (List ℕ)) (i kept : ℕ) : Type 0 where
  after : List Placed
  same : placed (first + sum_by area_length (take (i + 1) es)) (drop (i + 1) es) ≡ after ++ placed
      (first + sum_by area_length (take kept es)) (drop kept es)
  empty : AreEmpty after

behind-are : (first : ℕ) (es : List (List ℕ)) (i : ℕ) (b : Bool) → (b ≡ true → i + 1 < length es)
    → (b ≡ true → is_empty (entry_at es (i + 1)) ≡ true) → AreBehind first es i (if b then i + 2 else i + 1)
behind-are first es i false some is = record { after = []; same = refl; empty = AreEmpty.none }
behind-are first es i true some is =
    let start : ℕ = first + sum_by area_length (take (i + 1) es) in
    let e : List ℕ = entry_at es (i + 1) in
    let next : i + 1 + 1 ≡ i + 2 = omega arith in
    let taken : sum_by area_length (take (i + 1 + 1) es) ≡ sum_by area_length (take (i + 1) es) + area_length e =
    ap (sum_by area_length) (take_more es (i + 1) [] (some refl)) ∙ sum_by-append area_length (take (i + 1) es) (e ∷ [])
    ∙ ap (λ n. sum_by area_length (take (i + 1) es) + n) (sum_by-cons area_length e [] ∙ omega arith) in
    record {
      after = at_start e start ∷ [];
      same = ap (placed start) (drop_more es (i + 1) [] (some refl))
          ∙ placed-more start e (drop (i + 1 + 1) es)
          ∙ ap (λ n. at_start e start ∷ placed n (drop (i + 1 + 1) es))
          (let n : start + area_length e ≡ first + sum_by area_length (take (i + 1 + 1) es) = omega (arith, taken) in n)
          ∙ ap (λ n. at_start e start ∷ placed (first + sum_by area_length (take n es)) (drop n es)) next;
      empty = AreEmpty.one e start (is refl);
    }

pub joined-in : (segs : List Segment) (place : ℕ) (seg : Segment) (extra i : ℕ) → slice_get segs place ≡ Some seg → i < length seg.entries
    → IsJoined segs (placed_in (with_entries segs place (without_file extra seg.entries i))) place seg i
unfolding without_file
joined-in segs place seg extra i at inside =
    let es : List (List ℕ) = seg.entries in
    let joins : Bool = joins_before es i in
    let follows : Bool = joins_behind es i in
    let ahead : AreBefore seg.first es i (if joins then i - 1 else i) = before-are seg.first es i joins inside (before-some es i)
    (λ is. (and_parts _ _ is).1) in
    let after : AreBehind seg.first es i (if follows then i + 2 else i + 1) = behind-are seg.first es i follows (behind-some es i)
    (λ is. (and_parts _ _ is).1) in
    let from : ℕ = if joins then i - 1 else i in
    let to : ℕ = if follows then i + 2 else i + 1 in
    let blocks : ℕ = joined_length joins es (i - 1) + area_length (entry_at es i) + joined_length follows es (i + 1) in
    let start : ℕ = seg.first + sum_by area_length (take from es) in
    let sums = joined-sum es i joins follows (before-some es i) (behind-some es i) inside in
    let parts = sum_by-take-drop area_length es to in
    let next : start + blocks ≡ seg.first + sum_by area_length (take to es) = omega (arith, sums, parts) in
    let p : List Placed = placed_in (take place segs) in
    let q : List Placed = placed_in (drop (place + 1) segs) in
    let a : List Placed = placed seg.first (take from es) in
    let b : List Placed = placed (seg.first + sum_by area_length (take to es)) (drop to es) in
    let here : Placed = at_start (entry_at es i) (area_start seg i) in
    let whole : Placed = at_start (empty_entry extra blocks) start in
    record {
      before = p ++ a;
      behind = b ++ q;
      ahead = ahead.ahead;
      after = after.after;
      whole = whole ∷ [];
      front = ap (λ ps. p ++ ps) ahead.same ∙ sym (append_assoc p a ahead.ahead);
      was = all-around segs place seg i at inside
          ∙ (λ t. (p ++ ahead.same t) ++ (here ∷ (after.same t ++ q)))
          ∙ ap (λ ps. ps ++ (here ∷ ((after.after ++ b) ++ q))) (sym (append_assoc p a ahead.ahead))
          ∙ append_assoc (p ++ a) ahead.ahead (here ∷ ((after.after ++ b) ++ q))
          ∙ ap (λ ps. (p ++ a) ++ (ahead.ahead ++ (here ∷ ps))) (append_assoc after.after b q);
      is = all-entries segs place seg (without_file extra es i) at
          ∙ ap (λ ps. p ++ (ps ++ q))
          (placed-append seg.first (take from es) (empty_entry extra blocks ∷ drop to es)
          ∙ ap (λ ps. a ++ ps) (placed-more start (empty_entry extra blocks) (drop to es) ∙ ap (λ n. whole ∷ placed n (drop to es)) next))
          ∙ regroup p a (whole ∷ b) q;
      ahead_empty = ahead.empty;
      after_empty = after.empty;
      whole_empty = AreEmpty.one (empty_entry extra blocks) start refl;
    }
