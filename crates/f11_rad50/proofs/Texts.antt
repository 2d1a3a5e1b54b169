-- The text of a name: its digits, its length, and that it spells the name.
use Rattle.std.proofs.Common.{◌≡◌, ℕ, true, ◌+◌, ◌/◌, ◌%◌, ◌<◌, ◌≤◌, List, [], ◌∷◌, ◌++◌, map, length, IsAscii, Result, Ok, Err}
use Rattle.std.proofs.Common.{MatchResult, IsOk, IsUtf8, arith, refl, ◌∙◌, ap, append_assoc, length-append}
use Rattle.std.specs.Char.{digit_value}
use Rattle.std.specs.List.{AllPass}
use Rattle.std.specs.Int.Digits.{AllBelowBase, digits_of}
use Rattle.std.specs.Str.Parse.{AllDigits, digits_value}
use Rattle.std.proofs.lemmas.Bool.Decides.{nat_tests}
use Rattle.std.proofs.lemmas.Int.Digits.{digits_value_is, all_below_base_digits_of, number_digits_of, length-digits_of-le}
use Rattle.std.proofs.lemmas.Int.Digits.{length-digits_of_step, digits_of_step}
use Rattle.std.proofs.lemmas.List.{length-map, map-append}
use Rattle.std.proofs.lemmas.List.Elements.{All-head, All-tail}
use Rattle.std.proofs.lemmas.Str.{IsAscii-append, IsUtf8-from_ascii}
use Rattle.std.proofs.lemmas.Str.Ascii.{IsAscii-nil, IsAscii-cons}
use Rattle.f11_rad50.specs.Name.{is_name_character, name_of, type_of, version_of, IsName, octal, name_text, IsVersion, Spells}

-- a digit below eight is written as a digit of that value
digit_value-written : (d : ℕ) → d < 8 → digit_value (48 + d) ≡ d
digit_value-written d h = grind (arith, nat_tests)

pub digits-written : (ds : List ℕ) → AllBelowBase 8 ds → AllDigits 8 (map (λ d. 48 + d) ds) × (map digit_value (map (λ d. 48 + d) ds) ≡ ds)
digits-written [] h = (tt, refl)
digits-written (d ∷ ds) h =
    let e = digit_value-written d h.0 in
    let r = digits-written ds h.1 in
    ((rw e h.0, r.0), rw (e, r.1) refl)

digits-ascii : (ds : List ℕ) → AllBelowBase 8 ds → IsAscii (map (λ d. 48 + d) ds)
digits-ascii [] h = IsAscii-nil
digits-ascii (d ∷ ds) h = IsAscii-cons (48 + d) _ (omega (arith, h.0)) (digits-ascii ds h.1)

-- 0 has no digits, and a larger number has those of its eighth and one more
pub octal-zero : octal 0 ≡ []
unfolding octal
octal-zero = refl

pub octal-step : (n : ℕ) → 0 < n → octal n ≡ octal (n / 8) ++ ((48 + n % 8) ∷ [])
unfolding octal
octal-step n h =
    ap (map (λ d. 48 + d)) (digits_of_step 8 n (omega arith) h) ∙ map-append (λ d. 48 + d) (digits_of 8 (n / 8)) (n % 8 ∷ [])

pub length-octal-step : (n : ℕ) → 0 < n → length (octal n) ≡ length (octal (n / 8)) + 1
length-octal-step n h = ap length (octal-step n h) ∙ length-append (octal (n / 8)) ((48 + n % 8) ∷ [])

-- a number in octal is that number
pub digits_value-octal : (n : ℕ) → digits_value 8 (octal n) ≡ n
unfolding octal
digits_value-octal n =
    digits_value_is 8 (map (λ d. 48 + d) (digits_of 8 n))
    ∙ rw ((digits-written (digits_of 8 n) (all_below_base_digits_of 8 n (omega arith))).1) (number_digits_of 8 n (omega arith))

-- up to 32767 it has at most five digits
pub length-octal-le : (n : ℕ) → n < 32768 → length (octal n) ≤ 5
unfolding octal
length-octal-le n h = rw length-map (length-digits_of-le 8 5 n (omega arith) h)

-- and is a version from 1 on
pub IsVersion-octal : (n : ℕ) → 0 < n → n < 32768 → IsVersion (octal n)
unfolding octal
IsVersion-octal n low high = record {
  octal_digits = (digits-written (digits_of 8 n) (all_below_base_digits_of 8 n (omega arith))).0;
  some_digit = rw (length-map, length-digits_of_step 8 n (omega arith) low) (omega arith);
  five_digits = rw length-map (length-digits_of-le 8 5 n (omega arith) high);
}

-- the pieces of a name's text, one after another
pub name_text-eq : (words name type : List ℕ) → name ≡ name_of words → type ≡ type_of words
    → (((name ++ (46 ∷ [])) ++ type) ++ (59 ∷ [])) ++ octal (version_of words) ≡ name_text words
unfolding name_text
name_text-eq words name type e f = rw (e, f) (simp append_assoc)

-- the text of a name spells it
pub Spells-name_text : (words : List ℕ) → IsName words → Spells (name_text words) words
unfolding name_text
Spells-name_text words n =
    let v = digits_value-octal (version_of words) in
    record {
      name = name_of words;
      type = type_of words;
      digits = octal (version_of words);
      is_text = refl;
      version = IsVersion-octal (version_of words) n.proper.version_from n.proper.version_to;
      proper = rw v n.proper;
      same_words = rw v n.same_words;
    }

-- and has at most nineteen bytes
pub length-name_text : (words : List ℕ) → IsName words → length (name_text words) ≤ 19
unfolding name_text
length-name_text words n =
    simp length-append (omega (arith, n.proper.name_length, n.proper.type_length, length-octal-le (version_of words) n.proper.version_to))

-- the characters of a name are ASCII
pub part-ascii : (cs : List ℕ) → AllPass is_name_character cs → IsAscii cs
unfolding is_name_character
part-ascii [] h = IsAscii-nil
part-ascii (c ∷ cs) h =
    let e = All-head (λ x. is_name_character x ≡ true) c cs h in
    IsAscii-cons c cs (grind (arith, nat_tests)) (part-ascii cs (All-tail (λ x. is_name_character x ≡ true) c cs h))

octal-ascii : (n : ℕ) → IsAscii (octal n)
unfolding octal
octal-ascii n = digits-ascii (digits_of 8 n) (all_below_base_digits_of 8 n (omega arith))

pub IsAscii-name_text : (words : List ℕ) → IsName words → IsAscii (name_text words)
unfolding name_text
IsAscii-name_text words n =
    IsAscii-append (name_of words) _ (part-ascii _ n.proper.name_characters)
    (IsAscii-cons 46 _ (omega arith)
    (IsAscii-append (type_of words) _ (part-ascii _ n.proper.type_characters)
    (IsAscii-cons 59 _ (omega arith) (octal-ascii (version_of words)))))

-- what fails only at other than UTF-8 succeeds at a name's text
pub ok_at_name_text : {T E : Type 0} (r : Result T E) (P : T → Type 0) (Q : E → Type 0) (bytes words : List ℕ)
    → MatchResult r P (λ e. ¬ (IsUtf8 bytes) × Q e) → IsName words → bytes ≡ name_text words → IsOk r
ok_at_name_text (Ok x) P Q bytes words h n e = refl
ok_at_name_text (Err y) P Q bytes words h n e = absurd (h.0 (rw e (IsUtf8-from_ascii (name_text words) (IsAscii-name_text words n))))
