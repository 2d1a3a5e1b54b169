-- Words that are joined by spaces.
use Rattle.std.proofs.Common.{◌≡◌, ℕ, ◌<◌, ◌≤◌, ◌==◌, ◌^◌, Bool, true, false, not, All, List, [], ◌∷◌, ◌++◌, length, Some, option_map, refl}
use Rattle.std.proofs.Common.{sym, ◌∙◌, ap, arith}
use Rattle.std.specs.Char.{digit_value, is_digit}
use Rattle.std.specs.Fmt.{decimal}
use Rattle.std.specs.List.{list_all, join_with_byte, AllPass}
use Rattle.std.specs.Str.Parse.{AllDigits}
use Rattle.std.proofs.lemmas.Bool.{ne_eqb, ltb-true}
use Rattle.std.proofs.lemmas.Bool.Decides.{nat_tests}
use Rattle.std.proofs.lemmas.Fmt.{decimal_is_IsNumeral}
use Rattle.std.proofs.lemmas.List.Folds.{list_all-append}
use Rattle.std.proofs.lemmas.List.Splits.{slice_split_at, slice_split_none}
use Rattle.std.proofs.lemmas.List.Sums.{AllPass-from_list_all, list_all-from_AllPass}
use Rattle.std.proofs.lemmas.Str.Parse.{digit_from_value}
use Rattle.f11_rad50.specs.Name.{IsName, is_name_character, name_of, type_of, version_of, name_text, octal}
use Rattle.f11_rad50.proofs.Spelled.{both}
use Rattle.f11_rad50.proofs.Texts.{IsVersion-octal}
use Rattle.f11_rad50.proofs.Words.{is_name_character-space}
use Rattle.f11_store.specs.Text.{id_text, octal_digits, uic_text}
use Rattle.f11_store.specs.declared.callers.Uic.{Uic}
use Rattle.f11_store.specs.declared.files.FileId.{FileId}
use Rattle.f11_store.specs.declared.files.Mode.TheVariants as mode
use Rattle.f11_script.specs.Reading.{words_between}
use Rattle.f11_script.specs.Fields.{is_hex}
use Rattle.f11_script.specs.Lines.{is_comment, request_line}
use Rattle.f11_script.specs.Spelling.{Sentence, create, extend, contiguous, truncate, delete, grow, access, close, release, read, fill}
use Rattle.f11_script.specs.Spelling.{write, find, enter, remove, attr, set_attr, protect, space, sentence_words, line_words, line_text}
use Rattle.f11_script.specs.Spelling.{line_call, IsInRange, IsId, SpelledIsRead}
use Rattle.f11_script.proofs.LineLemmas.{call}
use Rattle.f11_script.proofs.SpellingLemmas.{id_text-alone, octal_numeral, uic_text-inside, words_read}

-- a byte that is no space, and a word without one
abbrev is_plain : ℕ → Bool
is_plain c = not (c == 32)

abbrev plain : List ℕ → Bool
plain word = list_all is_plain word

no_space : (word : List ℕ) → plain word ≡ true → All (λ c. (c == 32) ≡ false) word
no_space word h k d within = turned _ (AllPass-from_list_all is_plain word h k d within)
  where
    turned : (b : Bool) → not b ≡ true → b ≡ false
    turned false e = refl
    turned true e = absurd (cc)

-- words without a space are the words of their line
words_of-joined : (w : List ℕ) (ws : List (List ℕ)) → list_all plain (w ∷ ws) ≡ true → words_between (join_with_byte 32 (w ∷ ws)) ≡ w ∷ ws
words_of-joined w [] h = slice_split_none (λ c. c == 32) w (no_space w (both _ _ h).0)
words_of-joined w (v ∷ ws) h =
    slice_split_at (λ c. c == 32) w 32 (join_with_byte 32 (v ∷ ws)) (no_space w (both _ _ h).0) refl
    ∙ ap (λ t. w ∷ t) (words_of-joined v ws (both _ _ h).1)

-- digits have no space
plain_digit : (c : ℕ) → digit_value c < 10 → is_plain c ≡ true
plain_digit c h = let range = digit_from_value c h in grind (arith, nat_tests, range)

plain_digits : (radix : ℕ) (ds : List ℕ) → radix ≤ 10 → AllDigits radix ds → plain ds ≡ true
plain_digits radix [] few h = refl
plain_digits radix (d ∷ ds) few h = rw (plain_digit d (omega (arith, h.0, few))) (plain_digits radix ds few h.1)

plain_number : (n : ℕ) → n ≤ 4294967295 → plain (decimal n) ≡ true
plain_number n small =
    let below : n < 2 ^ 64 = omega (arith, small) in
    plain_digits 10 (decimal n) (omega arith) (decimal_is_IsNumeral n below).0.1

plain_octal : (n : ℕ) → n ≤ 65535 → plain (octal_digits n) ≡ true
plain_octal n small = plain_digits 8 (octal_digits n) (omega arith) (octal_numeral n small).0.1

plain_id : (id : FileId) → IsId id → plain (id_text id) ≡ true
plain_id id h =
    ap plain (id_text-alone id h)
    ∙ list_all-append is_plain (decimal id.number) (44 ∷ decimal id.sequence)
    ∙ rw (plain_number id.number (omega (arith, h.number)), plain_number id.sequence (omega (arith, h.sequence))) refl

plain_code : (uic : Uic) → uic.group ≤ 255 → uic.member ≤ 255 → plain (uic_text uic) ≡ true
plain_code uic group member =
    ap plain (uic_text-inside uic)
    ∙ list_all-append is_plain (octal_digits uic.group ++ (44 ∷ octal_digits uic.member)) (93 ∷ [])
    ∙ rw (
      list_all-append is_plain (octal_digits uic.group) (44 ∷ octal_digits uic.member),
      plain_octal uic.group (omega (arith, group)),
      plain_octal uic.member (omega (arith, member)),
    ) refl

plain_part : (cs : List ℕ) → AllPass is_name_character cs → plain cs ≡ true
plain_part cs h = list_all-from_AllPass is_plain cs (λ k d within. turned _ (ne_eqb _ 32 (is_name_character-space _ (h k d within))))
  where
    turned : (b : Bool) → b ≡ false → not b ≡ true
    turned false e = refl
    turned true e = absurd (cc)

plain_name : (words : List ℕ) → IsName words → plain (name_text words) ≡ true
unfolding name_text
plain_name words n =
    list_all-append is_plain (name_of words) (46 ∷ (type_of words ++ (59 ∷ octal (version_of words))))
    ∙ rw (
      plain_part (name_of words) n.proper.name_characters,
      list_all-append is_plain (type_of words) (59 ∷ octal (version_of words)),
      plain_part (type_of words) n.proper.type_characters,
      plain_digits 8 (octal (version_of words)) (omega arith)
          (IsVersion-octal (version_of words) n.proper.version_from n.proper.version_to).octal_digits,
    ) refl

plain_hex : (text : List ℕ) → is_hex text ≡ true → plain text ≡ true
unfolding is_hex
plain_hex text h = digits text (both _ _ h).1
  where
    digit : (c : ℕ) → is_digit c 16 ≡ true → is_plain c ≡ true
    digit c k = let below : digit_value c < 16 = ltb-true _ _ k in grind (arith, nat_tests)

    digits : (ds : List ℕ) → list_all (λ c. is_digit c 16) ds ≡ true → plain ds ≡ true
    digits [] k = refl
    digits (d ∷ ds) k = rw (digit d (both _ _ k).0) (digits ds (both _ _ k).1)

plain_sentence : (s : Sentence) → IsInRange s → list_all plain (sentence_words s) ≡ true
plain_sentence (create name word) h = rw (plain_name name h.0, plain_octal word h.1) refl
plain_sentence (extend lun n) h = rw (plain_number lun (omega (arith, h.0)), plain_number n h.1) refl
plain_sentence (contiguous lun n) h = rw (plain_number lun (omega (arith, h.0)), plain_number n h.1) refl
plain_sentence (truncate lun n) h = rw (plain_number lun (omega (arith, h.0)), plain_number n h.1) refl
plain_sentence (delete f) h = rw (plain_id f h) refl
plain_sentence (grow n) h = rw (plain_number n h) refl
plain_sentence (access f mode.Read lun) h = rw (plain_id f h.0, plain_number lun (omega (arith, h.1))) refl
plain_sentence (access f mode.Locked lun) h = rw (plain_id f h.0, plain_number lun (omega (arith, h.1))) refl
plain_sentence (access f mode.Write lun) h = rw (plain_id f h.0, plain_number lun (omega (arith, h.1))) refl
plain_sentence (close lun) h = rw (plain_number lun (omega (arith, h))) refl
plain_sentence release h = refl
plain_sentence (read lun vbn) h = rw (plain_number lun (omega (arith, h.0)), plain_number vbn h.1) refl
plain_sentence (fill lun vbn byte) h =
    rw (plain_number lun (omega (arith, h.0)), plain_number vbn h.1, plain_octal byte (omega (arith, h.2))) refl
plain_sentence (write lun vbn hex) h = rw (plain_number lun (omega (arith, h.0)), plain_number vbn h.1, plain_hex hex h.2) refl
plain_sentence (find d name) h = rw (plain_id d h.0, plain_name name h.1) refl
plain_sentence (enter d name f) h = rw (plain_id d h.0, plain_name name h.1, plain_id f h.2) refl
plain_sentence (remove d name) h = rw (plain_id d h.0, plain_name name h.1) refl
plain_sentence (attr f) h = rw (plain_id f h) refl
plain_sentence (set_attr f rtyp ratt rsiz hibk efbk ffby) h =
    rw (
      plain_id f h.0,
      plain_number rtyp (omega (arith, h.1)),
      plain_number ratt (omega (arith, h.2)),
      plain_number rsiz (omega (arith, h.3)),
      plain_number hibk h.4,
      plain_number efbk h.5,
      plain_number ffby (omega (arith, h.6)),
    ) refl
plain_sentence (protect f word) h = rw (plain_id f h.0, plain_octal word h.1) refl
plain_sentence space h = refl

-- the words of a line
words_of-line : (task : ℕ) (uic : Uic) (s : Sentence) → task ≤ 7 → uic.group ≤ 255 → uic.member ≤ 255 → IsInRange s
    → words_between (line_text task uic s) ≡ line_words task uic s
words_of-line task uic s t group member h =
    words_of-joined (octal_digits task) (uic_text uic ∷ sentence_words s)
    (rw (plain_octal task (omega (arith, t)), plain_code uic group member) (plain_sentence s h))

-- a line begins with a digit
no_comment : (digits rest : List ℕ) → 0 < length digits → AllDigits 8 digits → is_comment (digits ++ rest) ≡ false
no_comment [] rest some h = absurd (omega (arith, some))
no_comment (d ∷ ds) rest some h =
    let range = digit_from_value d (omega (arith, h.0)) in
    let other : (d == 59) ≡ false = grind (arith, nat_tests, range) in
    let long : (length (d ∷ ds ++ rest) == 0) ≡ false = ne_eqb _ 0 (λ e. absurd (omega (arith, e))) in
    rw (long, other) refl

pub spelled_is_read : SpelledIsRead
spelled_is_read task uic s block t group member h short =
    let digits = (octal_numeral task (omega (arith, t))).0 in
    sym (call (line_text task uic s) block (line_words task uic s) (Some (request_line (line_call task uic s block))) short
    (no_comment (octal_digits task) (32 ∷ join_with_byte 32 (uic_text uic ∷ sentence_words s)) digits.0 digits.1)
    (sym (words_of-line task uic s t group member h)) (ap (option_map request_line) (words_read task uic s block t group member h)) _ refl)
