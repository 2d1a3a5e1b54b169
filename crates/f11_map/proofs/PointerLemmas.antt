-- Facts about the bytes of a map area that are written.
use Rattle.std.proofs.Common.{◌≡◌, ◌≢◌, ◌⊎◌, inl, inr, ⊎_elim, ℕ, ◌+◌, ◌-◌, ◌*◌, ◌/◌, ◌%◌, ◌<◌, ◌≤◌, min, List, [], ◌∷◌, ◌++◌, length, take}
use Rattle.std.proofs.Common.{drop, map, refl, sym, ap, ◌∙◌, arith}
use Rattle.std.specs.Prelude.{slice_index}
use Rattle.std.specs.List.{range_with_len}
use Rattle.std.proofs.Math.ListN.{set}
use Rattle.std.proofs.lemmas.Grind.{same_number_lists}
use Rattle.std.proofs.lemmas.List.{length-set, length-take, length-drop, get_or-take, get_or-drop, get_or-set_same, get_or-set_other}
use Rattle.std.proofs.lemmas.List.{take_all}
use Rattle.std.proofs.lemmas.List.FromFn.{fill_by_all, get_or-map-range_with_len, map-range_with_len_more}
use Rattle.f11_header.specs.bytes.Words.{word, with_word}
use Rattle.f11_header.proofs.bytes.WordLemmas.{length-with_word, slice_index-with_word, word-with_word, word-with_word_apart}
use Rattle.f11_header.specs.MapFields.{IsMapArea, words_in_use, most_words, places}
use Rattle.f11_header.proofs.HeaderFacts.{PointerFacts, pointer_facts, holds_pointers-from}
use Rattle.f11_map.specs.MapArea.{run_at, runs_of}
use Rattle.f11_map.specs.MapWriting.{with_run, with_words_in_use, WritesPointers, WritesLink}
use Rattle.f11_header.specs.store.declared.files.FileId.{FileId}
use Rattle.f11_map.proofs.MapLemmas.{length-runs_of}

-- the size of an area with another pointer
length-with_run : (m : List ℕ) (i : ℕ) (run : ℕ × ℕ) → length (with_run m i run) ≡ length m
length-with_run m i run =
    let at : ℕ = 10 + 4 * i in
    let high : List ℕ = set m at (run.0 / 65536) in
    let count : List ℕ = set high (at + 1) (run.1 - 1) in
    length-set (set count (at + 2) (run.0 % 65536 % 256)) (at + 2 + 1) (run.0 % 65536 / 256)
    ∙ length-set count (at + 2) (run.0 % 65536 % 256)
    ∙ length-set high (at + 1) (run.1 - 1) ∙ length-set m at (run.0 / 65536)

-- a byte outside of the pointer that is written
slice_index-with_run : (m : List ℕ) (i k : ℕ) (run : ℕ × ℕ) → k < 10 + 4 * i ⊎ 14 + 4 * i ≤ k
    → slice_index (with_run m i run) k ≡ slice_index m k
slice_index-with_run m i k run apart =
    let at : ℕ = 10 + 4 * i in
    let high : List ℕ = set m at (run.0 / 65536) in
    let count : List ℕ = set high (at + 1) (run.1 - 1) in
    let differs : (j : ℕ) → j < 4 → k ≢ at + j = λ j few is. ⊎_elim (λ before. omega arith) (λ behind. omega arith) apart in
    slice_index-with_word count (at + 2) (run.0 % 65536) k (differs 2 (omega arith)) (λ is. differs 3 (omega arith) (omega arith))
    ∙ get_or-set_other high (at + 1) k (run.1 - 1) 0 (differs 1 (omega arith))
    ∙ get_or-set_other m at k (run.0 / 65536) 0 (λ is. differs 0 (omega arith) (omega arith))

-- the pointer that is written
run_at-with_run : (m : List ℕ) (i : ℕ) (run : ℕ × ℕ) → 14 + 4 * i ≤ length m → 0 < run.1 → run_at (with_run m i run) i ≡ run
run_at-with_run m i run room some =
    let at : ℕ = 10 + 4 * i in
    let high : List ℕ = set m at (run.0 / 65536) in
    let count : List ℕ = set high (at + 1) (run.1 - 1) in
    let high_long : length high ≡ length m = length-set m at (run.0 / 65536) in
    let count_long : length count ≡ length m = length-set high (at + 1) (run.1 - 1) ∙ high_long in
    let first : slice_index (with_run m i run) at ≡ run.0 / 65536 =
    slice_index-with_word count (at + 2) (run.0 % 65536) at (λ is. omega arith) (λ is. omega arith)
    ∙ get_or-set_other high (at + 1) at (run.1 - 1) 0 (λ is. omega arith) ∙ get_or-set_same m at (run.0 / 65536) 0 (omega arith) in
    let second : slice_index (with_run m i run) (at + 1) ≡ run.1 - 1 =
    slice_index-with_word count (at + 2) (run.0 % 65536) (at + 1) (λ is. omega arith) (λ is. omega arith)
    ∙ get_or-set_same high (at + 1) (run.1 - 1) 0 (omega arith) in
    let low : word (with_run m i run) (at + 2) ≡ run.0 % 65536 = word-with_word count (at + 2) (run.0 % 65536) (omega arith) in
    let lbn : slice_index (with_run m i run) at * 65536 + word (with_run m i run) (at + 2) ≡ run.0 = omega (arith, first, low) in
    let blocks : slice_index (with_run m i run) (at + 1) + 1 ≡ run.1 = omega (arith, second) in
    λ k. (lbn k, blocks k)

-- a pointer whose bytes stay
run_at-same : (old new : List ℕ) (i : ℕ) → ((k : ℕ) → 10 + 4 * i ≤ k → k < 14 + 4 * i → slice_index new k ≡ slice_index old k)
    → run_at new i ≡ run_at old i
run_at-same old new i same =
    let at : ℕ = 10 + 4 * i in
    let high = same at (omega arith) (omega arith) in
    let count = same (at + 1) (omega arith) (omega arith) in
    let low = same (at + 2) (omega arith) (omega arith) in
    let middle = same (at + 2 + 1) (omega arith) (omega arith) in
    λ k. (high k * 65536 + (low k + 256 * middle k), count k + 1)

-- pointers whose bytes stay
runs_front : (old new : List ℕ) (n : ℕ) → n ≤ length (runs_of old)
    → ((k : ℕ) → 10 ≤ k → k < 10 + 4 * n → slice_index new k ≡ slice_index old k)
    → map (run_at new) (range_with_len 0 n) ≡ take n (runs_of old)
unfolding runs_of
runs_front old new n few same =
    sym (fill_by_all (run_at new) (take n (runs_of old)) n (0, 0) (omega (arith, length-take n (runs_of old)))
    (λ k below.
    get_or-take n (runs_of old) k (0, 0) below
    ∙ get_or-map-range_with_len (run_at old) 0 (words_in_use old / 2) k k (0, 0) (omega (arith, length-runs_of old)) (omega arith)
    ∙ sym (run_at-same old new k (λ j from to. same j (omega arith) (omega arith)))))

-- all pointers stay
runs_of-same : (old new : List ℕ) → words_in_use new ≡ words_in_use old → ((k : ℕ) → 10 ≤ k → slice_index new k ≡ slice_index old k)
    → runs_of new ≡ runs_of old
unfolding runs_of
runs_of-same old new in_use same =
    let all : length (runs_of old) ≡ words_in_use old / 2 = length-runs_of old in
    ap (λ (words : ℕ). map (run_at new) (range_with_len 0 (words / 2))) in_use
    ∙ runs_front old new (words_in_use old / 2) (omega arith) (λ k from to. same k from)
    ∙ take_all (words_in_use old / 2) (runs_of old) (omega arith)

-- All bytes stay but M.USE, which is right for n pointers, and the pointers from i on.
pub record Rewrites (old new : List ℕ) (i n : ℕ) : Type 0 where
  pub size : length new ≡ length old
  pub in_use : words_in_use new ≡ 2 * n
  pub others : (k : ℕ) → k ≢ 8 → k < 10 + 4 * i ⊎ 10 + 4 * n ≤ k → slice_index new k ≡ slice_index old k

-- M.USE is written
pub Rewrites-kept : (m : List ℕ) (n : ℕ) → 10 ≤ length m → Rewrites m (with_words_in_use m (2 * n)) n n
Rewrites-kept m n long = record {
  size = length-set m 8 (2 * n);
  in_use = get_or-set_same m 8 (2 * n) 0 (omega arith);
  others = λ k other apart. get_or-set_other m 8 k (2 * n) 0 other;
}

-- a pointer and M.USE are written
pub Rewrites-last : (m : List ℕ) (i : ℕ) (run : ℕ × ℕ) → 14 + 4 * i ≤ length m
    → Rewrites m (with_words_in_use (with_run m i run) (2 * (i + 1))) i (i + 1)
Rewrites-last m i run room =
    let long : length (with_run m i run) ≡ length m = length-with_run m i run in
    record {
      size = length-set (with_run m i run) 8 (2 * (i + 1)) ∙ long;
      in_use = get_or-set_same (with_run m i run) 8 (2 * (i + 1)) 0 (omega arith);
      others = λ k other apart. get_or-set_other (with_run m i run) 8 k (2 * (i + 1)) 0 other
          ∙ slice_index-with_run m i k run (⊎_elim (λ before. inl before) (λ behind. inr (omega arith)) apart);
    }

-- the pointers of an area that keeps some
pub runs_of-kept : (old new : List ℕ) (n : ℕ) → Rewrites old new n n → n ≤ length (runs_of old) → runs_of new ≡ take n (runs_of old)
unfolding runs_of
runs_of-kept old new n writes few =
    let in_use : words_in_use new ≡ 2 * n = writes.in_use in
    ap (λ (c : ℕ). map (run_at new) (range_with_len 0 c)) (omega arith)
    ∙ runs_front old new n few (λ k from to. writes.others k (λ is. omega arith) (inl to))

-- the pointers of an area with this one as the last
pub runs_of-last : (old : List ℕ) (i : ℕ) (run : ℕ × ℕ) → 14 + 4 * i ≤ length old → 0 < run.1 → i ≤ length (runs_of old)
    → runs_of (with_words_in_use (with_run old i run) (2 * (i + 1))) ≡ take i (runs_of old) ++ run ∷ []
unfolding runs_of
runs_of-last old i run room some few =
    let put : List ℕ = with_run old i run in
    let new : List ℕ = with_words_in_use put (2 * (i + 1)) in
    let writes : Rewrites old new i (i + 1) = Rewrites-last old i run room in
    let in_use : words_in_use new ≡ 2 * (i + 1) = writes.in_use in
    let last : run_at new i ≡ run = run_at-same put new i (λ k from to. get_or-set_other put 8 k (2 * (i + 1)) 0 (λ is. omega arith))
    ∙ run_at-with_run old i run room some in
    ap (λ (c : ℕ). map (run_at new) (range_with_len 0 c)) (omega arith) ∙ map-range_with_len_more (run_at new) 0 i i (omega arith)
    ∙ ap (λ (front : List (ℕ × ℕ)). front ++ run_at new i ∷ [])
    (runs_front old new i few (λ k from to. writes.others k (λ is. omega arith) (inl to)))
    ∙ ap (λ (x : ℕ × ℕ). take i (runs_of old) ++ x ∷ []) last

-- the places are as many
places-same : (old new : List ℕ) → length new ≡ length old → most_words new ≡ most_words old → places new ≡ places old
places-same old new size most =
    ap (λ (w : ℕ). min w ((length new - 10) / 2) / 2) most ∙ ap (λ (l : ℕ). min (most_words old) ((l - 10) / 2) / 2) size

-- it is still a map area
IsMapArea-from : (old new : List ℕ) (i n : ℕ) → Rewrites old new i n → IsMapArea old → n ≤ places old → IsMapArea new
IsMapArea-from old new i n writes area few =
    let size : length new ≡ length old = writes.size in
    let facts : PointerFacts old = pointer_facts old area.pointers in
    let same : places new ≡ places old = places-same old new size (writes.others 9 (λ is. omega arith) (inl (omega arith))) in
    record {
      in_block = omega (arith, area.in_block);
      fields = omega (arith, area.fields);
      pointers = holds_pointers-from new (record {
        count_is = writes.others 6 (λ is. omega arith) (inl (omega arith)) ∙ facts.count_is;
        lbn_is = writes.others 7 (λ is. omega arith) (inl (omega arith)) ∙ facts.lbn_is;
        even = omega (arith, writes.in_use);
        within = omega (arith, writes.in_use, same);
      });
    }

-- where pointers were written there are as many places
pub places-written : (old new : List ℕ) → WritesPointers old new → places new ≡ places old
places-written old new writes = places-same old new writes.size writes.most

-- what else stays
pub WritesPointers-from : (old new : List ℕ) (i n : ℕ) → Rewrites old new i n → IsMapArea old → n ≤ places old → WritesPointers old new
WritesPointers-from old new i n writes area few =
    let size : length new ≡ length old = writes.size in
    let count : length (runs_of new) ≡ n = omega (arith, length-runs_of new, writes.in_use) in
    let byte : (k : ℕ) → k < 8
    → slice_index new k ≡ slice_index old k = λ k front. writes.others k (λ is. omega arith) (inl (omega arith)) in
    record {
      valid = IsMapArea-from old new i n writes area few;
      size = size;
      front = same_number_lists (take 8 new) (take 8 old) (omega (arith, length-take 8 new, length-take 8 old))
          (λ k below. let front : k < 8 = omega (arith, length-take 8 new) in get_or-take 8 new k 0 front
          ∙ writes.others k (λ is. omega arith) (inl (omega arith)) ∙ sym (get_or-take 8 old k 0 front));
      segment_stays = byte 0 (omega arith);
      link_stays = λ k. record {
        number = byte 2 (omega arith) k + 256 * byte 3 (omega arith) k;
        sequence = byte 4 (omega arith) k + 256 * byte 5 (omega arith) k;
        volume = byte 1 (omega arith) k;
      };
      most = writes.others 9 (λ is. omega arith) (inl (omega arith));
      behind = λ k past. writes.others k (λ is. omega arith) (inr (omega arith));
    }

-- nothing is written
pub WritesPointers-same : (m : List ℕ) → IsMapArea m → WritesPointers m m
WritesPointers-same m area =
    record { valid = area; size = refl; front = refl; segment_stays = refl; link_stays = refl; most = refl; behind = λ i past. refl }

-- pointers are written twice, the second time no fewer
pub WritesPointers-then : (old mid new : List ℕ) → length (runs_of mid) ≤ length (runs_of new) → WritesPointers old mid
    → WritesPointers mid new → WritesPointers old new
WritesPointers-then old mid new more one two = record {
  valid = two.valid;
  size = two.size ∙ one.size;
  front = two.front ∙ one.front;
  segment_stays = two.segment_stays ∙ one.segment_stays;
  link_stays = two.link_stays ∙ one.link_stays;
  most = two.most ∙ one.most;
  behind = λ i past. two.behind i past ∙ one.behind i (omega (arith, past, more));
}

-- an area with another link
abbrev with_link : List ℕ → ℕ → ℕ → ℕ → List ℕ
with_link m volume number sequence = with_word (with_word (set m 1 volume) 2 number) 4 sequence

slice_index-with_link : (m : List ℕ) (volume number sequence k : ℕ) → k ≡ 0 ⊎ 6 ≤ k
    → slice_index (with_link m volume number sequence) k ≡ slice_index m k
slice_index-with_link m volume number sequence k apart =
    let differs : (j : ℕ) → 0 < j → j < 6 → k ≢ j = λ j some few is. ⊎_elim (λ first. omega arith) (λ behind. omega arith) apart in
    slice_index-with_word (with_word (set m 1 volume) 2 number) 4 sequence k (differs 4 (omega arith) (omega arith))
    (differs 5 (omega arith) (omega arith))
    ∙ slice_index-with_word (set m 1 volume) 2 number k (differs 2 (omega arith) (omega arith)) (differs 3 (omega arith) (omega arith))
    ∙ get_or-set_other m 1 k volume 0 (differs 1 (omega arith) (omega arith))

-- its pointers stay
pub runs_of-with_link : (m : List ℕ) (volume number sequence : ℕ) → runs_of (with_link m volume number sequence) ≡ runs_of m
runs_of-with_link m volume number sequence =
    runs_of-same m (with_link m volume number sequence) (slice_index-with_link m volume number sequence 8 (inr (omega arith)))
    (λ k from. slice_index-with_link m volume number sequence k (inr (omega arith)))

-- it is still a map area
IsMapArea-with_link : (m : List ℕ) (volume number sequence : ℕ) → IsMapArea m → IsMapArea (with_link m volume number sequence)
IsMapArea-with_link m volume number sequence area =
    let new : List ℕ = with_link m volume number sequence in
    let facts : PointerFacts m = pointer_facts m area.pointers in
    let long : length new ≡ length m = grind (arith, length-set) in
    let byte : (k : ℕ) → k ≡ 0 ⊎ 6 ≤ k → slice_index new k ≡ slice_index m k = slice_index-with_link m volume number sequence in
    let in_use : words_in_use new ≡ words_in_use m = byte 8 (inr (omega arith)) in
    let same : places new ≡ places m = places-same m new long (byte 9 (inr (omega arith))) in
    record {
      in_block = omega (arith, area.in_block);
      fields = omega (arith, area.fields);
      pointers = holds_pointers-from new (record {
        count_is = byte 6 (inr (omega arith)) ∙ facts.count_is;
        lbn_is = byte 7 (inr (omega arith)) ∙ facts.lbn_is;
        even = ap (λ (words : ℕ). words % 2) in_use ∙ facts.even;
        within = omega (arith, facts.within);
      });
    }

-- the link that is written, and what stays
pub WritesLink-with_link : (m : List ℕ) (id : FileId) → IsMapArea m → WritesLink m (with_link m 0 id.number id.sequence) id
WritesLink-with_link m id area =
    let once : List ℕ = set m 1 0 in
    let twice : List ℕ = with_word once 2 id.number in
    let new : List ℕ = with_link m 0 id.number id.sequence in
    let long : length new ≡ length m = grind (arith, length-set) in
    let byte : (k : ℕ) → k ≡ 0 ⊎ 6 ≤ k → slice_index new k ≡ slice_index m k = slice_index-with_link m 0 id.number id.sequence in
    let number : word new 2 ≡ id.number = word-with_word_apart twice 4 id.sequence 2 (inl (omega arith))
    ∙ word-with_word once 2 id.number (omega (arith, area.fields, length-set m 1 0)) in
    let sequence : word new 4 ≡ id.sequence =
    word-with_word twice 4 id.sequence (omega (arith, area.fields, length-with_word once 2 id.number, length-set m 1 0)) in
    let volume : slice_index new 1 ≡ 0 =
    slice_index-with_word twice 4 id.sequence 1 (λ is. omega arith) (λ is. omega arith)
    ∙ slice_index-with_word once 2 id.number 1 (λ is. omega arith) (λ is. omega arith)
    ∙ get_or-set_same m 1 0 0 (omega (arith, area.fields)) in
    record {
      valid = IsMapArea-with_link m 0 id.number id.sequence area;
      size = long;
      link_is = λ k. record { number = number k; sequence = sequence k; volume = volume k };
      segment_stays = byte 0 (inl refl);
      rest = same_number_lists (drop 6 new) (drop 6 m) (omega (arith, length-drop 6 new, length-drop 6 m, long))
          (λ k below. get_or-drop 6 new k 0 ∙ byte (6 + k) (inr (omega arith)) ∙ sym (get_or-drop 6 m k 0));
    }
