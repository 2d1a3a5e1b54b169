-- The one file that a word names, and the last part of a path.
use Rattle.std.proofs.Common.{◌≡◌, ◌≢◌, ◌==◌, ◌||◌, inl, inr, ℕ, suc, ◌+◌, ◌<◌, ◌≤◌, Bool, true, false, List, [], ◌∷◌, ◌++◌, All}
use Rattle.std.proofs.Common.{length, take, drop, get_or, refl, sym, ap, subst, ◌∙◌, arith, Option, Some, None, SomeIff, IsSomeAnd}
use Rattle.std.proofs.Common.{unwrap_or, slice_index_or, length-take}
use Rattle.std.specs.Char.{to_ascii_uppercase}
use Rattle.std.specs.List.{AllPass}
use Rattle.std.specs.Str.{str_to_ascii_uppercase}
use Rattle.std.proofs.Math.Seq.{take-suc}
use Rattle.std.proofs.lemmas.Bool.Decides.{nat_tests}
use Rattle.std.proofs.lemmas.List.{append-nil, append_assoc, drop-append-le, drop_all, get_or-drop, get_or-map, length-map}
use Rattle.std.proofs.lemmas.List.Elements.{All-cons, All-nil, All-push}
use Rattle.f11_rad50.specs.Name.{IsName, IsProper, is_name_character, name_of, type_of, version_of, words_of}
use Rattle.f11_rad50.specs.Radix50.{IsCharacter, radix50}
use Rattle.f11_rad50.proofs.Padded.{IsName-from_named, named-from_IsName}
use Rattle.f11_rad50.proofs.Words.{IsCharacter-place, name_of-words_of, type_of-words_of}
use Rattle.f11_patterns.specs.Giving.{IsLastPart}
use Rattle.f11_patterns.specs.Meant.{word_at}
use Rattle.f11_patterns.specs.Naming.{FitsWith}
use Rattle.f11_patterns.specs.Next.{with_version}
use Rattle.f11_patterns.specs.Parts.{AreParts, Parts, is_pattern_character}
use Rattle.f11_patterns.specs.Pattern.{IsOne, IsPlain}
use Rattle.f11_patterns.proofs.NextLemmas.{five}
use Rattle.f11_patterns.proofs.PlainLemmas.{plain-like}

-- three characters of a part, from a place on
abbrev pub three_at : List ℕ → ℕ → List ℕ
three_at cs at = slice_index_or cs at 32 ∷ slice_index_or cs (at + 1) 32 ∷ slice_index_or cs (at + 2) 32 ∷ []

pub value-at : (cs : List ℕ) (at : ℕ) → radix50 (three_at cs at) ≡ radix50 (drop at cs)
unfolding radix50
value-at cs at =
    let none : at + 0 ≡ at = omega arith in
    let first : get_or (drop at cs) 0 32 ≡ get_or cs at 32 = get_or-drop at cs 0 32 ∙ ap (λ (n : ℕ). get_or cs n 32) none in
    rw (first, get_or-drop at cs 1 32, get_or-drop at cs 2 32) refl

pub are-characters : (cs : List ℕ) (at : ℕ) → AllPass is_name_character cs → All IsCharacter (three_at cs at)
are-characters cs at named =
    All-cons IsCharacter (slice_index_or cs at 32) (slice_index_or cs (at + 1) 32 ∷ slice_index_or cs (at + 2) 32 ∷ [])
    (IsCharacter-place cs named at)
    (All-cons IsCharacter (slice_index_or cs (at + 1) 32) (slice_index_or cs (at + 2) 32 ∷ []) (IsCharacter-place cs named (at + 1))
    (All-cons IsCharacter (slice_index_or cs (at + 2) 32) [] (IsCharacter-place cs named (at + 2)) (All-nil IsCharacter)))

or-none : (b : Bool) → (b || (false || false)) ≡ true → b ≡ true
or-none true h = refl
or-none false h = absurd (cc)

-- a plain character of a pattern is one of a name, as a capital
capital : (c : ℕ) → is_pattern_character c ≡ true → IsPlain c → is_name_character (to_ascii_uppercase c) ≡ true
unfolding is_pattern_character
capital c is plain =
    let star : (c == 42) ≡ false = grind (arith, nat_tests, plain.0) in
    let percent : (c == 37) ≡ false = grind (arith, nat_tests, plain.1) in
    or-none (is_name_character (to_ascii_uppercase c)) (rw (star, percent) at is)

capitals : (cs : List ℕ) → AllPass is_pattern_character cs → All IsPlain cs → AllPass is_name_character (str_to_ascii_uppercase cs)
capitals cs are plain k d below =
    let within : k < length cs = omega (arith, below, length-map cs to_ascii_uppercase) in
    let same = get_or-map to_ascii_uppercase cs k d d within in
    rw same (capital (get_or cs k d) (are k d within) (plain k d within))

-- so the parts of a pattern that means one name are those of a name
pub one-proper : (name kind : List ℕ) (version : ℕ) → AreParts name kind → All IsPlain name → All IsPlain kind
    → 0 < version → version < 32768 → IsProper (str_to_ascii_uppercase name) (str_to_ascii_uppercase kind) version
one-proper name kind version are plain_name plain_kind low high =
    let n = length-map name to_ascii_uppercase in
    let k = length-map kind to_ascii_uppercase in
    record {
      name_characters = capitals name are.name_characters plain_name;
      name_length = omega (arith, n, are.name_length);
      type_characters = capitals kind are.kind_characters plain_kind;
      type_length = omega (arith, k, are.kind_length);
      not_empty = omega (arith, n, k, are.not_empty);
      version_from = low;
      version_to = high;
    }

-- and the name with them fits it
module _ (parts : Parts) (version : ℕ) (one : IsOne parts)
    (proper : IsProper (str_to_ascii_uppercase parts.name) (str_to_ascii_uppercase parts.kind) version) where
  abbrev words : List ℕ
  words = words_of (str_to_ascii_uppercase parts.name) (str_to_ascii_uppercase parts.kind) version

  version-is : version_of words ≡ version
  unfolding words_of
  version-is = refl

  fits-with : FitsWith parts version words
  fits-with = record {
    fits = record {
      name = (plain-like parts.name (name_of words) one.name).1 (name_of-words_of _ _ version proper);
      kind = (plain-like parts.kind (type_of words) one.kind).1 (type_of-words_of _ _ version proper);
      version = tt;
    };
    version_is = version-is;
  }

  pub made-fits : (made : Option (List ℕ))
      → made ≡ Some (words_of (str_to_ascii_uppercase parts.name) (str_to_ascii_uppercase parts.kind) version)
      → IsSomeAnd made (FitsWith parts version)
  made-fits made same = subst (λ (m : Option (List ℕ)). IsSomeAnd m (FitsWith parts version)) (sym same) fits-with

-- a name with the last version is one
last-named : (name : List ℕ) → IsName name → IsName (with_version name 32767)
last-named name named =
    let codes = (named-from_IsName (word_at name 0) (word_at name 1) (word_at name 2) (word_at name 3) (word_at name 4)
    (subst IsName (five name named) named)).0 in
    IsName-from_named (word_at name 0) (word_at name 1) (word_at name 2) (word_at name 3) 32767 codes (omega arith) (omega arith)

pub last-made : (given name : List ℕ) (made : Option (List ℕ)) → given ≡ name → IsName name
    → SomeIff made (IsName (with_version given 32767)) (with_version given 32767) → unwrap_or made name ≡ with_version name 32767
last-made given name None same named h =
    absurd (h (subst (λ (ws : List ℕ). IsName (with_version ws 32767)) (sym same) (last-named name named)))
last-made given name (Some made) same named h = h.1 ∙ ap (λ (ws : List ℕ). with_version ws 32767) same

-- the last part of more and more of a path
pub record IsLastSoFar (path : List ℕ) (at start : ℕ) : Type 0 where
  pub within : start ≤ at
  pub last : IsLastPart (take at path) (drop start (take at path))

pub none-so-far : (path : List ℕ) → IsLastSoFar path 0 0
none-so-far path = record {
  within = omega arith;
  last = record { front = []; whole = refl; behind = inl refl; last = All-nil (λ c. c ≢ 47) };
}

module _ (path : List ℕ) (at start : ℕ) (some : at < length path) (is : IsLastSoFar path at start) where
  more : take (at + 1) path ≡ take at path ++ get_or path at 0 ∷ []
  more = let next : at + 1 ≡ suc at = omega arith in ap (λ (n : ℕ). take n path) next ∙ take-suc path at 0 some

  short : length (take (at + 1) path) ≤ at + 1
  short = omega (arith, length-take (at + 1) path)

  -- behind a slash it begins anew,
  pub slash-more : get_or path at 0 ≡ 47 → IsLastSoFar path (at + 1) (at + 1)
  slash-more slash =
      let none = drop_all (at + 1) (take (at + 1) path) short in
      record {
        within = omega arith;
        last = record {
          front = take (at + 1) path;
          whole = sym (ap (λ (xs : List ℕ). take (at + 1) path ++ xs) none ∙ append-nil (take (at + 1) path));
          behind = inr (take at path, more ∙ ap (λ (x : ℕ). take at path ++ x ∷ []) slash);
          last = subst (All (λ c. c ≢ 47)) (sym none) (All-nil (λ c. c ≢ 47));
        };
      }

  -- else it goes on
  pub other-more : get_or path at 0 ≢ 47 → IsLastSoFar path (at + 1) start
  other-more other =
      let long : start ≤ length (take at path) = omega (arith, is.within, some, length-take at path) in
      let behind : drop start (take (at + 1) path) ≡ drop start (take at path) ++ get_or path at 0 ∷ [] =
      ap (drop start) more ∙ drop-append-le start (take at path) (get_or path at 0 ∷ []) long in
      record {
        within = omega (arith, is.within);
        last = record {
          front = is.last.front;
          whole =
              more ∙ ap (λ (xs : List ℕ). xs ++ get_or path at 0 ∷ []) is.last.whole
              ∙ append_assoc is.last.front (drop start (take at path)) (get_or path at 0 ∷ [])
              ∙ ap (λ (xs : List ℕ). is.last.front ++ xs) (sym behind);
          behind = is.last.behind;
          last = subst (All (λ c. c ≢ 47)) (sym behind)
              (All-push (λ c. c ≢ 47) (drop start (take at path)) (get_or path at 0) is.last.last other);
        };
      }
