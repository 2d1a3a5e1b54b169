-- A segment that is written entry by entry.
use Rattle.std.proofs.Common.{◌≡◌, ℕ, ◌+◌, ◌-◌, ◌*◌, ◌<◌, ◌≤◌, List, [], ◌∷◌, ◌++◌, length, get_or, take, slice_index, slice_range, sym}
use Rattle.std.proofs.Common.{◌∙◌, ap, append_assoc, arith}
use Rattle.std.proofs.lemmas.List.{take_more, take_all, append-nil}
use Rattle.std.proofs.lemmas.List.Edits.{length-between, get_or-between, between_more}
use Rattle.std.proofs.lemmas.Grind.{flat_map-append}
use Rattle.rt11_volume.specs.Rewriting.Draft.{draft_words, words_of_all, Puts}
use Rattle.rt11_volume.specs.Entry.{entry_size}
use Rattle.rt11_volume.specs.Segment.{entries, entry_place}
use Rattle.rt11_volume.specs.declared.rewrite.draft.Draft.{Draft}
use Rattle.rt11_volume.proofs.Rewriting.Entries.{entries-few, entries-at, room-place}

-- the words of an entry
pub length-entry_at : (extra : ℕ) (s : List ℕ) (i : ℕ) (d : List ℕ) → length s ≡ 512 → i < length (entries extra s)
    → length (get_or (entries extra s) i d) ≡ entry_size extra
length-entry_at extra s i d size inside =
    let fits : entry_place extra (i + 1) ≤ 512 = (room-place extra i).0 (omega (arith, inside, entries-few extra s)) in
    ap (λ (e : List ℕ). length e) (entries-at extra s i d inside)
    ∙ length-between s (entry_place extra i) (entry_place extra (i + 1)) (omega (arith, fits, size)) ∙ omega arith

pub entry_word-at : (extra : ℕ) (s : List ℕ) (i k : ℕ) (d : List ℕ) → i < length (entries extra s) → k < entry_size extra
    → slice_index (get_or (entries extra s) i d) k ≡ slice_index s (entry_place extra i + k)
entry_word-at extra s i k d inside within =
    ap (λ (e : List ℕ). slice_index e k) (entries-at extra s i d inside)
    ∙ get_or-between s (entry_place extra i) (entry_place extra (i + 1)) k 0 (omega (arith, within))

-- one word more of an entry
pub Puts-word : (old mid new : Draft) (e : List ℕ) (k w : ℕ) → k < length e → w ≡ slice_index e k → Puts old mid (take k e) k
    → Puts mid new (w ∷ []) 1 → Puts old new (take (k + 1) e) (k + 1)
Puts-word old mid new e k w inside is first then = record {
  words_are = then.words_are ∙ (λ i. first.words_are i ++ is i ∷ []) ∙ append_assoc (draft_words old) (take k e) (slice_index e k ∷ [])
      ∙ ap (λ ws. draft_words old ++ ws) (sym (take_more e k 0 inside));
  at_is = omega (arith, then.at_is, first.at_is);
}

-- all of it
pub Puts-all : (old new : Draft) (e : List ℕ) (k : ℕ) → length e ≡ k → Puts old new (take k e) k → Puts old new e k
Puts-all old new e k size puts =
    record { words_are = puts.words_are ∙ ap (λ ws. draft_words old ++ ws) (take_all k e (omega (arith, size))); at_is = puts.at_is }

-- one entry more
pub Puts-entry : (old mid new : Draft) (es : List (List ℕ)) (first i size : ℕ) → first ≤ i → i < length es
    → Puts old mid (words_of_all (slice_range es first i)) ((i - first) * size)
    → Puts mid new (get_or es i []) size → Puts old new (words_of_all (slice_range es first (i + 1))) ((i + 1 - first) * size)
Puts-entry old mid new es first i size order inside so_far then = record {
  words_are = then.words_are ∙ ap (λ ws. ws ++ get_or es i []) so_far.words_are
      ∙ append_assoc (draft_words old) (words_of_all (slice_range es first i)) (get_or es i [])
      ∙ ap (λ ws. draft_words old ++ ws) more;
  at_is = (let t = then.at_is in let s = so_far.at_is in let p : i + 1 - first ≡ (i - first) + 1 = omega (arith, order) in
      let q : (i + 1 - first) * size ≡ (i - first) * size + size = ap (λ n. n * size) p ∙ omega arith in omega (arith, t, s, q));
}
  where
    more : words_of_all (slice_range es first i) ++ get_or es i [] ≡ words_of_all (slice_range es first (i + 1))
    more =
        ap (λ ws. words_of_all (slice_range es first i) ++ ws) (sym (append-nil (get_or es i [])))
        ∙ sym (flat_map-append (λ (e : List ℕ). e) (slice_range es first i) (get_or es i [] ∷ []))
        ∙ ap words_of_all (sym (between_more es first i [] order inside))
