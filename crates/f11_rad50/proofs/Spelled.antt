-- The words that a text spells, as a function and as a relation.
use Rattle.std.proofs.Common.{◌≡◌, ℕ, ◌+◌, ◌&&◌, ◌==◌, Bool, true, false, List, [], ◌∷◌, ◌++◌, length, take, drop, position, Option, Some}
use Rattle.std.proofs.Common.{None, IfSome, SomeIff, option_map, if◌then◌else◌, refl, sym, ◌∙◌, ap}
use Rattle.std.specs.Char.{is_digit}
use Rattle.std.specs.List.{list_all, AllPass}
use Rattle.std.specs.Option.{option_and_then, option_map_or}
use Rattle.std.specs.Str.{bytes_eq}
use Rattle.std.proofs.lemmas.Slice.Eq.{bytes_eq-Decides}
use Rattle.std.specs.Str.Parse.{AllDigits, digits_value}
use Rattle.std.proofs.lemmas.Bool.{ltb-true, leb-true, lt-ltb, le-leb}
use Rattle.std.proofs.lemmas.List.Sums.{AllPass-from_list_all, list_all-from_AllPass}
use Rattle.f11_rad50.specs.Name.{is_name_character, IsProper, IsVersion, Spells, words_of, cut_at, are_parts, words_behind, words_spelled}
use Rattle.f11_rad50.specs.Name.{IsName, is_name, name_text}
use Rattle.f11_rad50.proofs.Places.{position-front, parts_at, split_at_front}
use Rattle.f11_rad50.proofs.Texts.{Spells-name_text}
use Rattle.f11_rad50.proofs.Words.{without, dot_out, semicolon_out, IsName-from_parts}

-- two tests both pass
pub both : (b c : Bool) → (b && c) ≡ true → (b ≡ true) × (c ≡ true)
both true true h = (refl, refl)
both true false h = absurd (cc)
both false c h = absurd (cc)

-- digits that pass the test are octal
pub octal_digits : (ds : List ℕ) → list_all (λ d. is_digit d 8) ds ≡ true → AllDigits 8 ds
octal_digits [] h = tt
octal_digits (d ∷ ds) h = (ltb-true _ _ (both (is_digit d 8) _ h).0, octal_digits ds (both (is_digit d 8) _ h).1)

pub octal_passes : (ds : List ℕ) → AllDigits 8 ds → list_all (λ d. is_digit d 8) ds ≡ true
octal_passes [] h = refl
octal_passes (d ∷ ds) h = rw (lt-ltb _ _ h.0) (octal_passes ds h.1)

-- a text is cut at the first such character
pub cut_at-parts : (c : ℕ) (text front back : List ℕ) → cut_at c text ≡ Some (front, back) → text ≡ front ++ (c ∷ back)
cut_at-parts c text front back h = by_place (position (λ x. x == c) text) refl h
  where
    by_place : (o : Option ℕ) → position (λ x. x == c) text ≡ o
        → option_map {U = List ℕ × List ℕ} (λ i. (take i text, drop (i + 1) text)) o ≡ Some (front, back) →
        text ≡ front ++ (c ∷ back)
    by_place None e k = absurd (cc)
    by_place (Some i) e k =
        let parts : (take i text, drop (i + 1) text) ≡ (front, back) = cc in
        let same : take i text ≡ front = ap (λ (p : List ℕ × List ℕ). p.0) parts in
        let rest : drop (i + 1) text ≡ back = ap (λ (p : List ℕ × List ℕ). p.1) parts in
        parts_at c text i e ∙ rw (same, rest) refl

pub cut_at-front : (c : ℕ) (text front back : List ℕ) → AllPass is_name_character front → is_name_character c ≡ false
    → text ≡ front ++ (c ∷ back) →
    cut_at c text ≡ Some (front, back)
cut_at-front c text front back clean out e =
    let place : position (λ x. x == c) text ≡ Some (length front) = position-front c text front back (without c front out clean) e in
    let parts = split_at_front c front back text (length front) e refl in
    rw (place, parts.0, parts.1) refl

-- the parts of a name pass the test, and what passes it are the parts of one
pub are_parts-true : (name type digits : List ℕ) → IsProper name type (digits_value 8 digits) → IsVersion digits
    → are_parts name type digits ≡ true
unfolding are_parts
are_parts-true name type digits p v =
    rw (
      list_all-from_AllPass is_name_character name p.name_characters,
      le-leb _ _ p.name_length,
      list_all-from_AllPass is_name_character type p.type_characters,
      le-leb _ _ p.type_length,
      lt-ltb _ _ p.not_empty,
      octal_passes digits v.octal_digits,
      lt-ltb _ _ v.some_digit,
      le-leb _ _ v.five_digits,
      lt-ltb _ _ p.version_from,
      lt-ltb _ _ p.version_to,
    ) refl

-- what passes the test
pub record Parts (name type digits : List ℕ) : Type 0 where
  pub proper : IsProper name type (digits_value 8 digits)
  pub version : IsVersion digits

pub parts_of_test : (name type digits : List ℕ) → are_parts name type digits ≡ true → Parts name type digits
unfolding are_parts
parts_of_test name type digits h =
    let a = both _ _ h in
    let name_part = both _ _ a.0 in
    let b = both _ _ a.1 in
    let type_part = both _ _ b.0 in
    let c = both _ _ b.1 in
    let d = both _ _ c.1 in
    let digits_part = both _ _ d.0 in
    let count = both _ _ digits_part.1 in
    let value = both _ _ d.1 in
    record {
      proper = record {
        name_characters = AllPass-from_list_all is_name_character name name_part.0;
        name_length = leb-true _ _ name_part.1;
        type_characters = AllPass-from_list_all is_name_character type type_part.0;
        type_length = leb-true _ _ type_part.1;
        not_empty = ltb-true _ _ c.0;
        version_from = ltb-true _ _ value.0;
        version_to = ltb-true _ _ value.1;
      };
      version = record {
        octal_digits = octal_digits digits digits_part.0;
        some_digit = ltb-true _ _ count.0;
        five_digits = leb-true _ _ count.1;
      };
    }

-- what a text spells are its words
pub words_spelled-every : (text words : List ℕ) → Spells text words → words_spelled text ≡ Some words
unfolding words_spelled
words_spelled-every text words s =
    let front = cut_at-front 46 text s.name (s.type ++ (59 ∷ s.digits)) s.proper.name_characters dot_out s.is_text in
    let back = cut_at-front 59 (s.type ++ (59 ∷ s.digits)) s.type s.digits s.proper.type_characters semicolon_out refl in
    ap (option_and_then (λ parts. words_behind parts.0 (cut_at 59 parts.1))) front ∙ ap (words_behind s.name) back
    ∙ ap (λ b. if b then Some (words_of s.name s.type (digits_value 8 s.digits)) else None)
    (are_parts-true s.name s.type s.digits s.proper s.version)
    ∙ ap Some s.same_words

pub words_spelled-only : (text words : List ℕ) → words_spelled text ≡ Some words → Spells text words
unfolding words_spelled
words_spelled-only text words h = by_dot (cut_at 46 text) refl h
  where
    by_test : (name type digits rest : List ℕ) (b : Bool) → are_parts name type digits ≡ b → text ≡ name ++ (46 ∷ rest)
        → rest ≡ type ++ (59 ∷ digits) →
        (if b then Some (words_of name type (digits_value 8 digits)) else None) ≡ Some words → Spells text words
    by_test name type digits rest false e t u k = absurd (cc)
    by_test name type digits rest true e t u k =
        let parts = parts_of_test name type digits e in
        record {
          name = name;
          type = type;
          digits = digits;
          is_text = t ∙ ap (λ r. name ++ (46 ∷ r)) u;
          version = parts.version;
          proper = parts.proper;
          same_words = (let w : words_of name type (digits_value 8 digits) ≡ words = cc in w);
        }

    by_semicolon : (name rest : List ℕ) (o : Option (List ℕ × List ℕ)) → cut_at 59 rest ≡ o → text ≡ name ++ (46 ∷ rest)
        → words_behind name o ≡ Some words → Spells text words
    by_semicolon name rest None e t k = absurd (cc)
    by_semicolon name rest (Some (type, digits)) e t k =
        by_test name type digits rest (are_parts name type digits) refl t (cut_at-parts 59 rest type digits e) k

    by_dot : (o : Option (List ℕ × List ℕ)) → cut_at 46 text ≡ o
        → option_and_then (λ parts. words_behind parts.0 (cut_at 59 parts.1)) o ≡ Some words → Spells text words
    by_dot None e k = absurd (cc)
    by_dot (Some (name, rest)) e k = by_semicolon name rest (cut_at 59 rest) refl (cut_at-parts 46 text name rest e) k

-- what is read exactly where a text spells it is what the function gives
pub reads_spelled : (r : Option (List ℕ)) (text : List ℕ) → IfSome r (λ words. Spells text words)
    → ((words : List ℕ) → Spells text words → r ≡ Some words) →
    r ≡ words_spelled text
reads_spelled (Some words) text spelled every = sym (words_spelled-every text words spelled)
reads_spelled None text spelled every = by_words (words_spelled text) refl
  where
    by_words : (o : Option (List ℕ)) → words_spelled text ≡ o → None ≡ o
    by_words None e = refl
    by_words (Some words) e = every words (words_spelled-only text words e)

-- a list is the same as itself
same_list : (xs : List ℕ) → bytes_eq xs xs ≡ true
same_list xs = (bytes_eq-Decides xs xs).1 refl

-- words are a name exactly where their text spells them
pub is_name-true : (words : List ℕ) → IsName words → is_name words ≡ true
is_name-true words n =
    ap (λ o. option_map_or (λ found. bytes_eq found words) o false) (words_spelled-every (name_text words) words (Spells-name_text words n))
    ∙ same_list words

pub IsName-from_test : (words : List ℕ) → is_name words ≡ true → IsName words
IsName-from_test words h = by_words (words_spelled (name_text words)) refl h
  where
    by_words : (o : Option (List ℕ)) → words_spelled (name_text words) ≡ o → option_map_or (λ found. bytes_eq found words) o false ≡ true
        → IsName words
    by_words None e k = absurd (cc)
    by_words (Some found) e k =
        let same : found ≡ words = (bytes_eq-Decides found words).0 k in
        let s = words_spelled-only (name_text words) words (e ∙ ap Some same) in
        IsName-from_parts words s.name s.type _ s.proper s.same_words

-- what is there exactly under that fact is there exactly under the test
pub name_by_test : (r : Option (List ℕ)) (words : List ℕ) → SomeIff r (IsName words) words
    → r ≡ (if is_name words then Some words else None)
name_by_test r words h = by_test (is_name words) refl r h
  where
    by_test : (b : Bool) → is_name words ≡ b → (r : Option (List ℕ)) → SomeIff r (IsName words) words → r ≡ (if b then Some words else None)
    by_test true e None h = absurd (h (IsName-from_test words e))
    by_test true e (Some found) h = ap Some h.1
    by_test false e None h = refl
    by_test false e (Some found) h =
        let t : is_name words ≡ true = is_name-true words h.0 in
        absurd (cc)
