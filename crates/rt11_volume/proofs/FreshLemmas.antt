-- A fresh volume is accepted, and has one empty area.
use Rattle.std.proofs.Common.{◌≡◌, ◌⊎◌, inl, inr, ⊎_elim, ℕ, ◌+◌, ◌*◌, ◌/◌, ◌%◌, ◌<◌, ◌≤◌, true, false, List, [], ◌∷◌, ◌++◌, length, get_or}
use Rattle.std.proofs.Common.{map, slice_index, Some, refl, sym, ◌∙◌, ap, subst, arith, Result, Ok, Err, OnErr}
use Rattle.std.specs.Prelude.{slice_set}
use Rattle.std.specs.List.{slice_get}
use Rattle.std.proofs.lemmas.Bool.{cases_eq}
use Rattle.std.proofs.lemmas.List.{length-set, length-map}
use Rattle.std.proofs.lemmas.List.FromFn.{length-range_with_len}
use Rattle.std.proofs.lemmas.List.Edits.{length-between}
use Rattle.std.proofs.lemmas.Option.{slice_get_within, get_or_from_slice_get}
use Rattle.f11_bytes.specs.Block.{zero_block}
use Rattle.f11_bytes.specs.Words.{word}
use Rattle.f11_dev.specs.Image.{Image, image_block}
use Rattle.f11_dev.proofs.ImageLemmas.{image_block-written, image_block-other}
use Rattle.rt11_volume.specs.Directory.{count_of, start_of, IsSized, next_of, visited, segment_of, is_extra_wrong, are_extra_wrong}
use Rattle.rt11_volume.specs.Directory.{end_before}
use Rattle.rt11_volume.specs.Entry.{status, area_length, is_end, is_one_kind, empty_entry}
use Rattle.rt11_volume.specs.Verifying.Faults.{IsDirectoryFault, IsHighestBelow, IsHighestAbove}
use Rattle.rt11_volume.specs.Verifying.Faults.IsDirectoryFault.{links_outside, links_back, extra_wrong, no_end, status_wrong, area_outside}
use Rattle.rt11_volume.specs.Verifying.Faults.IsDirectoryFault.{begins_early, highest_wrong}
use Rattle.rt11_volume.specs.Fresh.{HasRoom, space_of, fresh_block, IsFreshDirectory, MayStand, IsFreshStore}
use Rattle.rt11_volume.specs.Segment.{segment_words, words_in, extra_bytes, entry_place, entry_words, entries, HasEnd, area_start}
use Rattle.rt11_volume.specs.Store.{rt_store_of}
use Rattle.rt11_volume.specs.Verifying.Verdict.{IsRtFault, IsRtAccepted}
use Rattle.rt11_volume.specs.Verifying.Verdict.IsRtFault.{size_wrong, of_directory}
use Rattle.rt11_volume.proofs.Rewriting.Entries.{entries-count, entries-at, entry_words-at, area_start-more}
use Rattle.rt11_volume.proofs.Walking.Visit.{visited-one}
use Rattle.rt11_volume.proofs.Rewriting.Words.{words_of-low}

-- The blocks of the directory behind its first, up to one, are zeros, and all others are as they were.
pub record ClearsUpTo (upto : ℕ) (old new : Image) : Type 0 where
  pub size : length new ≡ length old
  pub rest : (lbn : ℕ) → 6 < lbn → lbn < upto → image_block new lbn ≡ zero_block
  pub others : (lbn : ℕ) → (lbn < 7) ⊎ (upto ≤ lbn) → image_block new lbn ≡ image_block old lbn

pub ClearsUpTo-none : (image : Image) → ClearsUpTo 7 image image
ClearsUpTo-none image = record { size = refl; rest = λ lbn low high. absurd (omega arith); others = λ lbn place. refl }

-- one block more
pub ClearsUpTo-more : (upto : ℕ) (old now next : Image) → 7 ≤ upto → upto < length old → next ≡ slice_set now upto zero_block
    → ClearsUpTo upto old now → ClearsUpTo (upto + 1) old next
ClearsUpTo-more upto old now next low within is clears = subst (ClearsUpTo (upto + 1) old) (sym is) record {
  size = length-set now upto zero_block ∙ clears.size;
  rest = λ lbn above below. elim (cases_eq lbn upto) [
    | inl same ↦ ap (image_block (slice_set now upto zero_block)) same ∙ image_block-written now upto zero_block (omega
        (arith, clears.size))
    | inr apart ↦ image_block-other now upto lbn zero_block apart ∙ clears.rest lbn above (omega arith)
  ];
  others =
      λ lbn place. image_block-other now upto lbn zero_block
      (λ same. ⊎_elim (λ before. omega (arith, before)) (λ behind. omega (arith, behind)) place)
      ∙ clears.others lbn (⊎_elim (λ before. inl before) (λ behind. inr (omega (arith, behind))) place);
}

-- and then the first
pub ClearsUpTo-first : (n : ℕ) (old now : Image) → 0 < n → 6 < length old → ClearsUpTo (start_of n) old now → IsFreshDirectory n old
    (slice_set now 6 (fresh_block n (length old)))
ClearsUpTo-first n old now some within clears = record {
  size = length-set now 6 (fresh_block n (length old)) ∙ clears.size;
  first = image_block-written now 6 (fresh_block n (length old)) (omega (arith, clears.size));
  rest = λ lbn above below. image_block-other now 6 lbn (fresh_block n (length old)) (λ same. omega (arith, same))
      ∙ clears.rest lbn above below;
  others = λ lbn place. image_block-other now 6 lbn (fresh_block n (length old)) (λ same. ⊎_elim (λ before. omega (arith, before))
      (λ behind. omega (arith, behind)) place)
      ∙ clears.others lbn (⊎_elim (λ before. inl (omega (arith, before))) (λ behind. inr behind) place);
}

-- what stands when a block behind the first was written
pub MayStand-cleared : (n upto : ℕ) (old now : Image) (block : List ℕ) → 7 ≤ upto → upto < start_of n → ClearsUpTo upto old now
    → MayStand n old (slice_set now upto block)
MayStand-cleared n upto old now block low high clears = record {
  size = length-set now upto block ∙ clears.size;
  keeps = λ lbn place. image_block-other now upto lbn block (λ same. ⊎_elim (λ before. omega (arith, before)) (λ behind. omega
      (arith, behind)) place)
      ∙ clears.others lbn (⊎_elim (λ before. inl (omega (arith, before))) (λ behind. inr (omega (arith, behind))) place);
  first = inl (image_block-other now upto 6 block (λ same. omega (arith, same)) ∙ clears.others 6 (inl (omega arith)));
}

-- and when the first was
pub MayStand-made : (n : ℕ) (old new : Image) → IsFreshDirectory n old new → MayStand n old new
MayStand-made n old new fresh = record { size = fresh.size; keeps = fresh.others; first = inr fresh }

-- What the words of segment 1 of a fresh directory are.
record HasFreshWords (n space : ℕ) (s : List ℕ) : Type 0 where
  pub count : slice_index s 0 ≡ n
  pub next : slice_index s 1 ≡ 0
  pub highest : slice_index s 2 ≡ 1
  pub extra : slice_index s 3 ≡ 0
  pub first : slice_index s 4 ≡ start_of n
  pub status : slice_index s 5 ≡ 512
  pub name : slice_index s 6 ≡ 0
  pub name_more : slice_index s 7 ≡ 0
  pub type : slice_index s 8 ≡ 0
  pub space_is : slice_index s 9 ≡ space
  pub job : slice_index s 10 ≡ 0
  pub date : slice_index s 11 ≡ 0
  pub end : slice_index s 12 ≡ 2048

-- the words of its first block
length-fresh : (n blocks : ℕ) → length (fresh_block n blocks) ≡ 512
unfolding fresh_block zero_block
length-fresh n blocks = refl

fresh_words : (n blocks : ℕ) (high : List ℕ) → HasFreshWords n (space_of n blocks) (words_in (fresh_block n blocks ++ high))
unfolding fresh_block zero_block
fresh_words n blocks high = record {
  count = at 0 (omega arith) ∙ (let e : n % 256 + 256 * (n / 256) ≡ n = omega arith in e);
  next = at 1 (omega arith);
  highest = at 2 (omega arith);
  extra = at 3 (omega arith);
  first = at 4 (omega arith) ∙ (let e : start_of n % 256 + 256 * (start_of n / 256) ≡ start_of n = omega arith in e);
  status = at 5 (omega arith);
  name = at 6 (omega arith);
  name_more = at 7 (omega arith);
  type = at 8 (omega arith);
  space_is = at 9 (omega arith)
      ∙ (let e : space_of n blocks % 256 + 256 * (space_of n blocks / 256) ≡ space_of n blocks = omega arith in e);
  job = at 10 (omega arith);
  date = at 11 (omega arith);
  end = at 12 (omega arith);
}
  where
    at : (i : ℕ) → i < 256 → slice_index (words_in (fresh_block n blocks ++ high)) i ≡ word (fresh_block n blocks) (2 * i)
    at i within = words_of-low (fresh_block n blocks) high i (length-fresh n blocks) within

-- A fresh image: what its directory says.
record IsFresh (n space : ℕ) (image : Image) : Type 0 where
  pub words : HasFreshWords n space (segment_words image 1)
  pub visits : visited image ≡ 1 ∷ []
  pub one : length (segment_of image 1).entries ≡ 1

is_fresh : (n : ℕ) (old new : Image) → IsFreshDirectory n old new → IsFresh n (space_of n (length old)) new
unfolding segment_words
is_fresh n old new fresh =
    let words : HasFreshWords n (space_of n (length old)) (words_in (image_block new 6 ++ image_block new 7)) =
    subst (λ (b : List ℕ). HasFreshWords n (space_of n (length old)) (words_in (b ++ image_block new 7))) (sym fresh.first)
    (fresh_words n (length old) (image_block new 7)) in
    record {
      words = words;
      visits = visited-one new words.next;
      one = ap (λ x. length (entries x (segment_words new 1))) words.extra
          ∙ entries-count 0 (segment_words new 1) 1 (let few : 1 ≤ 72 = omega arith in few)
          (λ k before. let none : k ≡ 0 = omega arith in ap (λ j. is_end (slice_index (segment_words new 1) (entry_place 0 j))) none
          ∙ ap is_end words.status)
          (λ less. ap is_end words.end);
    }

-- its one entry
fresh_entry : (n space : ℕ) (image : Image) → IsFresh n space image
    → get_or (segment_of image 1).entries 0 [] ≡ entry_words 0 (segment_words image 1) 0
fresh_entry n space image fresh =
    ap (λ x. get_or (entries x (segment_words image 1)) 0 []) fresh.words.extra
    ∙ entries-at 0 (segment_words image 1) 0 []
    (omega (arith, ap (λ x. length (entries x (segment_words image 1))) (sym fresh.words.extra), fresh.one))

-- a word of it
fresh_entry-at : (n space : ℕ) (image : Image) → IsFresh n space image → (k : ℕ) → k < 7
    → slice_index (get_or (segment_of image 1).entries 0 []) k ≡ slice_index (segment_words image 1) (5 + k)
fresh_entry-at n space image fresh k within =
    ap (λ (e : List ℕ). slice_index e k) (fresh_entry n space image fresh) ∙ entry_words-at 0 (segment_words image 1) 0 k within

-- segment 1 alone is visited
only_first : (image : Image) (place k : ℕ) → visited image ≡ 1 ∷ [] → slice_get (visited image) place ≡ Some k → (place ≡ 0) × (k ≡ 1)
only_first image place k visits is =
    let at : slice_get (1 ∷ []) place ≡ Some k = ap (λ ks. slice_get ks place) (sym visits) ∙ is in
    let inside : place < 1 = slice_get_within (1 ∷ []) place k at in
    let first : place ≡ 0 = omega arith in
    (first, sym (get_or_from_slice_get (1 ∷ []) place k 0 at) ∙ ap (λ p. get_or (1 ∷ []) p 0) first)

-- what holds where there is an error
pub OnErr-given : {T E : Type 0} (r : Result T E) (X : Type 0) → X → OnErr r X
OnErr-given (Ok y) X x = tt
OnErr-given (Err e) X x = x

-- the entry's fields
fresh_status : (n space : ℕ) (image : Image) → IsFresh n space image → status (get_or (segment_of image 1).entries 0 []) ≡ 512
fresh_status n space image fresh = fresh_entry-at n space image fresh 0 (omega arith) ∙ fresh.words.status

fresh_length : (n space : ℕ) (image : Image) → IsFresh n space image → area_length (get_or (segment_of image 1).entries 0 []) ≡ space
fresh_length n space image fresh = fresh_entry-at n space image fresh 4 (omega arith) ∙ fresh.words.space_is

-- where its area ends
fresh_end : (n space : ℕ) (image : Image) → IsFresh n space image → area_start (segment_of image 1) 1 ≡ start_of n + space
fresh_end n space image fresh =
    let more = area_start-more (segment_of image 1) 0 (omega (arith, fresh.one)) in
    omega (arith, more, fresh_length n space image fresh, fresh.words.first)

-- the end of the areas before the first segment
end_first : (image : Image) → end_before image 0 ≡ 6 + 2 * count_of image
unfolding end_before
end_first image = refl

-- a fresh directory has no fault
fresh_sound : (n blocks : ℕ) (image : Image) → HasRoom n blocks → length image ≡ blocks → IsFresh n (space_of n blocks) image
    → (code a b : ℕ) → ¬ IsDirectoryFault image code a b
fresh_sound n blocks image room size fresh _ _ _ (links_outside place k judged outside) =
    let is = only_first image place k fresh.visits judged.visited_at in
    omega (arith, outside, ap (next_of image) is.1, fresh.words.next, fresh.words.count)
fresh_sound n blocks image room size fresh _ _ _ (links_back place k judged back) =
    let is = only_first image place k fresh.visits judged.visited_at in
    let next = only_first image back.earlier (next_of image k) fresh.visits back.visited_at in
    omega (arith, next.1, ap (next_of image) is.1, fresh.words.next)
fresh_sound n blocks image room size fresh _ _ _ (extra_wrong k wrong) =
    let is = only_first image wrong.place k fresh.visits wrong.visited_at in
    let right : is_extra_wrong image 1 ≡ false = ap (λ x. are_extra_wrong x x) fresh.words.extra in
    let clash : true ≡ false = sym wrong.wrong ∙ ap (is_extra_wrong image) is.1 ∙ right in
    cc
fresh_sound n blocks image room size fresh _ _ _ (no_end place k judged none) =
    let is = only_first image place k fresh.visits judged.visited_at in
    let ends : HasEnd 0 (segment_words image 1) = record { place = 1; within = omega arith; end = ap is_end fresh.words.end } in
    none (subst (λ j. HasEnd (extra_bytes (segment_words image j)) (segment_words image j)) (sym is.1)
    (subst (λ x. HasEnd x (segment_words image 1)) (sym fresh.words.extra) ends))
fresh_sound n blocks image room size fresh _ _ _ (status_wrong place k i entry is wrong) =
    let at = only_first image place k fresh.visits is.judged.visited_at in
    let es : List (List ℕ) = (segment_of image 1).entries in
    let here : slice_get es i ≡ Some entry = ap (λ j. slice_get (segment_of image j).entries i) (sym at.1) ∙ is.entry_is in
    let first : i ≡ 0 = omega (arith, slice_get_within es i entry here, fresh.one) in
    let entry_is : entry ≡ get_or es 0 [] = sym (get_or_from_slice_get es i entry [] here) ∙ ap (λ j. get_or es j []) first in
    let clash : true ≡ false = sym (ap is_one_kind (ap status entry_is ∙ fresh_status n (space_of n blocks) image fresh)) ∙ wrong in
    cc
fresh_sound n blocks image room size fresh _ _ _ (area_outside place k i entry is outside) =
    let at = only_first image place k fresh.visits is.judged.visited_at in
    let es : List (List ℕ) = (segment_of image 1).entries in
    let here : slice_get es i ≡ Some entry = ap (λ j. slice_get (segment_of image j).entries i) (sym at.1) ∙ is.entry_is in
    let first : i ≡ 0 = omega (arith, slice_get_within es i entry here, fresh.one) in
    let end : area_start (segment_of image k) (i + 1) ≡ start_of n + space_of n blocks = ap (λ j. area_start (segment_of image j) (i + 1))
    at.1 ∙ ap (λ j. area_start (segment_of image 1) (j + 1)) first ∙ fresh_end n (space_of n blocks) image fresh in
    omega (arith, outside, end, size, room.room, room.few)
fresh_sound n blocks image room size fresh _ _ _ (begins_early place k judged early) =
    let is = only_first image place k fresh.visits judged.visited_at in
    let less : (segment_of image 1).first < end_before image 0 = subst (λ j. (segment_of image 1).first < end_before image j) is.0
    (subst (λ j. (segment_of image j).first < end_before image place) is.1 early) in
    omega (arith, less, end_first image, fresh.words.first, fresh.words.count)
fresh_sound n blocks image room size fresh _ _ _ (highest_wrong none wrong) = ⊎_elim
    (λ (below : IsHighestBelow image). let is = only_first image below.place below.segment fresh.visits below.visited_at in
    omega (arith, below.below, is.1, fresh.words.highest))
    (λ (above : IsHighestAbove image). omega (arith, above, fresh.words.highest, fresh.words.count, room.some)) wrong

-- so the image is accepted
pub fresh_accepted : (n : ℕ) (old new : Image) → HasRoom n (length old) → IsFreshDirectory n old new → IsRtAccepted new
fresh_accepted n old new room written = λ code a b fault. judge code a b fault
  where
    fresh : IsFresh n (space_of n (length old)) new
    fresh = is_fresh n old new written

    judge : (code a b : ℕ) → IsRtFault new code a b → ⊥
    judge _ _ _ (size_wrong unsized) = unsized record {
      some = omega (arith, room.some, fresh.words.count);
      few = omega (arith, room.few, fresh.words.count);
      within = omega (arith, room.room, fresh.words.count, written.size);
    }
    judge _ _ _ (of_directory code a b sized fault) = fresh_sound n (length old) new room written.size fresh code a b fault

-- a list of one, and one of seven words
one_entry : (es : List (List ℕ)) → length es ≡ 1 → es ≡ get_or es 0 [] ∷ []
one_entry [] size = absurd (omega arith)
one_entry (e ∷ []) size = refl
one_entry (e ∷ f ∷ more) size = absurd (omega arith)

seven_words : (e : List ℕ) → length e ≡ 7
    → e ≡ slice_index e 0 ∷ slice_index e 1 ∷ slice_index e 2 ∷ slice_index e 3 ∷ slice_index e 4 ∷ slice_index e 5 ∷ slice_index e 6 ∷ []
seven_words (a ∷ b ∷ c ∷ d ∷ e ∷ f ∷ g ∷ []) size = refl
seven_words [] size = absurd (omega arith)
seven_words (a ∷ []) size = absurd (omega arith)
seven_words (a ∷ b ∷ []) size = absurd (omega arith)
seven_words (a ∷ b ∷ c ∷ []) size = absurd (omega arith)
seven_words (a ∷ b ∷ c ∷ d ∷ []) size = absurd (omega arith)
seven_words (a ∷ b ∷ c ∷ d ∷ e ∷ []) size = absurd (omega arith)
seven_words (a ∷ b ∷ c ∷ d ∷ e ∷ f ∷ []) size = absurd (omega arith)
seven_words (a ∷ b ∷ c ∷ d ∷ e ∷ f ∷ g ∷ h ∷ more) size = absurd (omega arith)

-- a segment has 512 words, and its first entry is whole
length-segment : (image : Image) (k : ℕ) → length (segment_words image k) ≡ 512
unfolding segment_words words_in
length-segment image k = simp (length-map, length-range_with_len)

length-entry : (s : List ℕ) → length s ≡ 512 → length (entry_words 0 s 0) ≡ 7
length-entry s size = length-between s 5 12 (omega arith)

-- its entry is that of an empty area
fresh_entry_is : (n space : ℕ) (image : Image) → IsFresh n space image → (segment_of image 1).entries ≡ empty_entry 0 space ∷ []
fresh_entry_is n space image fresh =
    let e : List ℕ = get_or (segment_of image 1).entries 0 [] in
    let long : length e ≡ 7 = ap (λ (w : List ℕ). length w) (fresh_entry n space image fresh)
    ∙ length-entry (segment_words image 1) (length-segment image 1) in
    let zero_word = λ (k : ℕ) (within : k < 7) (is : slice_index (segment_words image 1) (5 + k) ≡ 0).
    fresh_entry-at n space image fresh k within ∙ is in
    let words : e ≡ empty_entry 0 space =
    seven_words e long ∙ (λ i. fresh_status n space image fresh i ∷ zero_word 1 (omega arith) fresh.words.name i ∷ zero_word 2 (omega arith)
    fresh.words.name_more i ∷ zero_word 3 (omega arith) fresh.words.type i
    ∷ fresh_length n space image fresh i ∷ zero_word 5 (omega arith) fresh.words.job i ∷ zero_word 6 (omega arith) fresh.words.date i ∷ [])
    in
    one_entry (segment_of image 1).entries fresh.one ∙ ap (λ (w : List ℕ). w ∷ []) words

-- and the store has that area alone
pub fresh_store : (n : ℕ) (old new : Image) → HasRoom n (length old) → IsFreshDirectory n old new → IsFreshStore n (length old)
    (rt_store_of new)
unfolding rt_store_of
fresh_store n old new room written =
    let fresh = is_fresh n old new written in
    record {
      count = fresh.words.count;
      highest = fresh.words.highest;
      extra = fresh.words.extra;
      one_area = ap (map (segment_of new)) fresh.visits
          ∙ (λ i. record { number = 1; first = fresh.words.first i; entries = fresh_entry_is n (space_of n (length old)) new fresh i } ∷
          []);
    }

-- how many segments there are stands in the first block
count_of-first : (image : Image) → length (image_block image 6) ≡ 512 → count_of image ≡ word (image_block image 6) 0
unfolding segment_words
count_of-first image size = words_of-low (image_block image 6) (image_block image 7) 0 size (omega arith)

-- so a directory of a wrong size is one while its first block stays
pub unsized-kept : (old new : Image) → length (image_block old 6) ≡ 512 → length new ≡ length old
    → image_block new 6 ≡ image_block old 6 → ¬ IsSized old → ¬ IsSized new
unsized-kept old new whole size same unsized sized =
    let count : count_of new ≡ count_of old =
    count_of-first new (ap (λ (b : List ℕ). length b) same ∙ whole) ∙ ap (λ (b : List ℕ). word b 0) same ∙ sym (count_of-first old whole) in
    unsized record {
      some = omega (arith, count, sized.some);
      few = omega (arith, count, sized.few);
      within = omega
          (arith, count, size, sized.within);
    }
