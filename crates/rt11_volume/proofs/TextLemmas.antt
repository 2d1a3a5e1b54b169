-- The texts of names.
use Rattle.std.proofs.Common.{◌≡◌, ℕ, ◌-◌, List, [], ◌∷◌, ◌++◌, length, take, slice_index, IsUtf8, IsAscii, drop, Result, Ok, Err, IsOk}
use Rattle.std.proofs.Common.{Option, Some, None, SomeIff, IsSome, MatchResult, refl, sym, ◌∙◌, ap, subst, append_assoc, arith}
use Rattle.std.proofs.lemmas.List.{length-append}
use Rattle.std.proofs.Math.Seq.{take-append_seam}
use Rattle.std.proofs.lemmas.Str.{IsAscii-append, IsUtf8-from_ascii}
use Rattle.std.proofs.lemmas.Str.Ascii.{IsAscii-cons}
use Rattle.f11_rad50.specs.Name.{IsName, IsProper, name_text, name_of, type_of, words_of, octal}
use Rattle.f11_rad50.specs.Radix50.{radix50}
use Rattle.f11_rad50.proofs.Texts.{part-ascii}
use Rattle.f11_rad50.proofs.Words.{name_of-words_of, type_of-words_of}
use Rattle.rt11_volume.specs.RtName.{IsRtName, RtSpells, rt_name_text, rt_name_of, rt_type_of, rt_words_of, with_version}
use Rattle.rt11_volume.proofs.NameLemmas.{IsName-from_rt, third_none}

-- the words of a name are three
pub three_words : (words : List ℕ) → IsRtName words → words ≡ slice_index words 0 ∷ slice_index words 1 ∷ slice_index words 2 ∷ []
unfolding rt_words_of
three_words words is = subst (λ (ws : List ℕ). ws ≡ slice_index ws 0 ∷ slice_index ws 1 ∷ slice_index ws 2 ∷ []) is.same_words refl

-- with a version they are a Files-11 name
pub IsName-with_version : (words : List ℕ) → IsRtName words → IsName (with_version words)
IsName-with_version words is =
    (IsName-from_rt (slice_index words 0) (slice_index words 1) (slice_index words 2) (subst IsRtName (three_words words is) is)).1

-- the text spells the name
pub RtSpells-text : (words : List ℕ) → IsRtName words → RtSpells (rt_name_text words) words
unfolding rt_name_text
RtSpells-text words is =
    record { name = rt_name_of words; type = rt_type_of words; is_text = refl; proper = is.proper; same_words = is.same_words }

-- its parts, as those of a name with version 1
proper-with_version : (words : List ℕ) → IsRtName words → IsProper (rt_name_of words) (rt_type_of words) 1
proper-with_version words is = record {
  name_characters = is.proper.name_characters;
  name_length = omega (arith, is.proper.name_length);
  type_characters = is.proper.type_characters;
  type_length = is.proper.type_length;
  not_empty = omega (arith, is.proper.name_some);
  version_from = omega arith;
  version_to = omega arith;
}

words-with_version : (words : List ℕ) → IsRtName words → words_of (rt_name_of words) (rt_type_of words) 1 ≡ with_version words
unfolding words_of rt_words_of
words-with_version words is =
    let none = third_none (rt_name_of words) is.proper.name_length in
    (λ i. radix50 (rt_name_of words) ∷ radix50 (drop 3 (rt_name_of words)) ∷ none i ∷ radix50 (rt_type_of words) ∷ 1 ∷ [])
    ∙ ap with_version is.same_words

octal-one : octal 1 ≡ 49 ∷ []
unfolding octal
octal-one = refl

-- the text with a version is the text, a semicolon and 1
text-with_version : (words : List ℕ) → IsRtName words → name_text (with_version words) ≡ rt_name_text words ++ (59 ∷ 49 ∷ [])
unfolding name_text rt_name_text
text-with_version words is =
    let p = proper-with_version words is in
    let name : name_of (with_version words) ≡ rt_name_of words = ap name_of (sym (words-with_version words is))
    ∙ name_of-words_of (rt_name_of words) (rt_type_of words) 1 p in
    let type : type_of (with_version words) ≡ rt_type_of words = ap type_of (sym (words-with_version words is))
    ∙ type_of-words_of (rt_name_of words) (rt_type_of words) 1 p in
    (λ i. name i ++ (46 ∷ (type i ++ (59 ∷ octal-one i)))) ∙ sym (append_assoc (rt_name_of words) (46 ∷ rt_type_of words) (59 ∷ 49 ∷ []))

-- so the bytes before the last two are the text
pub text-front : (words spelled rest : List ℕ) (n : ℕ) (buffer : List ℕ) → IsRtName words → spelled ≡ with_version words
    → n ≡ length (name_text spelled) → buffer ≡ name_text spelled ++ rest
    → take (n - 2) buffer ≡ rt_name_text words
text-front words spelled rest n buffer is same size holds =
    let whole = ap name_text same ∙ text-with_version words is in
    let long : n - 2 ≡ length (rt_name_text words) =
    omega (arith, size, ap (λ (t : List ℕ). length t) whole, length-append (rt_name_text words) (59 ∷ 49 ∷ [])) in
    let all : buffer ≡ rt_name_text words ++ (59 ∷ 49 ∷ rest) = holds ∙ ap (λ (t : List ℕ). t ++ rest) whole
    ∙ append_assoc (rt_name_text words) (59 ∷ 49 ∷ []) rest in
    (λ i. take (long i) (all i)) ∙ take-append_seam (rt_name_text words) (59 ∷ 49 ∷ rest)

-- it is ASCII
ascii : (words : List ℕ) → IsRtName words → IsAscii (rt_name_text words)
unfolding rt_name_text
ascii words is =
    IsAscii-append (rt_name_of words) _ (part-ascii _ is.proper.name_characters)
    (IsAscii-cons 46 _ (omega arith) (part-ascii _ is.proper.type_characters))

-- what fails only at other than UTF-8 succeeds at a name's text
pub ok_at_text : {T E : Type 0} (r : Result T E) (P : T → Type 0) (Q : E → Type 0) (bytes words : List ℕ)
    → MatchResult r P (λ e. ¬ (IsUtf8 bytes) × Q e) → IsRtName words → bytes ≡ rt_name_text words → IsOk r
ok_at_text (Ok x) P Q bytes words h is same = refl
ok_at_text (Err y) P Q bytes words h is same = absurd (h.0 (rw same (IsUtf8-from_ascii (rt_name_text words) (ascii words is))))

-- an answer that is there just where five words are a name
pub is_some-name : (r : Option (List ℕ)) (P : Type 0) (v : List ℕ) → SomeIff r P v → P → IsSome r
is_some-name None P v none is = absurd (none is)
is_some-name (Some w) P v some is = refl
