-- The words of a line, one after another.
use Rattle.std.proofs.Common.{◌≡◌, ℕ, ◌+◌, ◌≤◌, ◌==◌, Bool, true, false, List, [], ◌∷◌, length, take, drop, position, nat_lt, Some, None}
use Rattle.std.proofs.Common.{if◌then◌else◌, refl, ◌∙◌, arith}
use Rattle.std.specs.List.{onto_first, position_or_len}
use Rattle.std.proofs.lemmas.Bool.{ltb-true, ltb-false}
use Rattle.std.proofs.lemmas.List.Splits.{slice_split_first, slice_split_none}
use Rattle.std.proofs.lemmas.List.Sums.{fails_before_first}
use Rattle.f11_script.specs.Reading.{words_between, at_end}

-- a space
abbrev is_space : ℕ → Bool
is_space c = c == 32

-- where no space stands, the text is the one word
pub words_of-one : (text : List ℕ) → position is_space text ≡ None → words_between text ≡ text ∷ []
words_of-one text h = by_test (nat_lt (position_or_len is_space text) (length text)) refl h
  where
    by_test : (b : Bool) → nat_lt (position_or_len is_space text) (length text) ≡ b →
        (if b then Some (position_or_len is_space text) else None) ≡ None → words_between text ≡ text ∷ []
    by_test true e k = absurd (cc)
    by_test false e k =
        let past : length text ≤ position_or_len is_space text = ltb-false _ _ e in
        slice_split_none is_space text (λ k d l. fails_before_first is_space text k d (omega (arith, l, past)))

-- a word ends at the first space
pub words_of-more : (text : List ℕ) (at : ℕ) → position is_space text ≡ Some at
    → words_between text ≡ take at text ∷ words_between (drop (at + 1) text)
words_of-more text at h = by_test (nat_lt (position_or_len is_space text) (length text)) refl h
  where
    by_test : (b : Bool) → nat_lt (position_or_len is_space text) (length text) ≡ b →
        (if b then Some (position_or_len is_space text) else None) ≡ Some at
        → words_between text ≡ take at text ∷ words_between (drop (at + 1) text)
    by_test true e k =
        let same : position_or_len is_space text ≡ at = cc in
        slice_split_first is_space text 0 (ltb-true _ _ e) ∙ rw same refl
    by_test false e k = absurd (cc)

-- a text has a word, if an empty one
pub some_word : {X : Type 0} (text : List ℕ) (x : X) → at_end (words_between text) x ≡ None
some_word [] x = refl
some_word (c ∷ cs) x = by_test (is_space c) (words_between cs)
  where
    by_test : (b : Bool) (parts : List (List ℕ)) → at_end (if b then [] ∷ parts else onto_first c parts) x ≡ None
    by_test true parts = refl
    by_test false [] = refl
    by_test false (part ∷ parts) = refl
