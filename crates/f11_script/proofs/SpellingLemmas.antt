-- What is spelled is read.
use Rattle.std.proofs.Common.{◌≡◌, inl, inr, ℕ, ◌+◌, ◌<◌, ◌≤◌, ◌==◌, ◌^◌, true, false, List, [], ◌∷◌, ◌++◌, length, take, get_or, nat_le}
use Rattle.std.proofs.Common.{◌-◌, ◌/◌, ◌%◌, zero, suc, Option, Some, None, refl, sym, subst, ◌∙◌, ap, arith, append_assoc, length-append}
use Rattle.std.specs.Char.{digit_value, is_digit}
use Rattle.std.specs.Fmt.{decimal, digit_glyph, digits, digits_onto}
use Rattle.std.specs.List.{list_all}
use Rattle.std.specs.Str.Parse.{AllDigits, IsNumeral, digits_value}
use Rattle.std.proofs.lemmas.Bool.{cases_Bool, cond-false, cond-true, eq-eqb, lt-ltb, le-leb}
use Rattle.std.proofs.lemmas.Bool.Decides.{nat_tests}
use Rattle.std.proofs.lemmas.Fmt.{decimal_is_IsNumeral, digits_is_IsNumeral, length-decimal-le}
use Rattle.std.proofs.Math.Nat.{pow-suc}
use Rattle.std.proofs.Math.Seq.{take-append_seam}
use Rattle.std.proofs.lemmas.List.{append-nil, get_or-append-add}
use Rattle.std.proofs.lemmas.List.Sums.{AllPass-from_list_all}
use Rattle.std.proofs.lemmas.Str.Parse.{digit_from_value}
use Rattle.f11_rad50.specs.Name.{IsName, is_name_character, name_text, words_spelled}
use Rattle.f11_rad50.proofs.Spelled.{cut_at-front, words_spelled-every}
use Rattle.f11_rad50.proofs.Texts.{Spells-name_text}
use Rattle.f11_store.specs.Text.{id_text, octal_digits, uic_text, volume_text}
use Rattle.f11_store.specs.declared.callers.Uic.{Uic}
use Rattle.f11_store.specs.declared.files.FileId.{FileId}
use Rattle.f11_store.specs.declared.files.Mode.TheVariants as mode
use Rattle.f11_script.specs.declared.verb.Verb.{Verb}
use Rattle.f11_script.specs.Reading.{◌>>=◌, argument}
use Rattle.f11_script.specs.Fields.{numeral, value_up_to, id_of, mode_of, bracketed, uic_of}
use Rattle.f11_script.specs.Lines.{call_of}
use Rattle.f11_script.specs.Verbs.{verb_of}
use Rattle.f11_script.specs.Requests.{create_asks, extend_asks, contiguous_asks, truncate_asks, delete_asks, grow_asks, access_asks}
use Rattle.f11_script.specs.Requests.{close_asks, release_asks, read_asks, fill_asks, write_asks, find_asks, enter_asks, remove_asks}
use Rattle.f11_script.specs.Requests.{attr_asks, set_attr_asks, protect_asks, space_asks, Ask, verb_asks}
use Rattle.f11_script.specs.Spelling.{create, extend, contiguous, truncate, delete, grow, access, close, release, read, fill, find, enter}
use Rattle.f11_script.specs.Spelling.{remove, attr, write, set_attr, protect, space, Sentence, sentence_words, sentence_asks, IsInRange}
use Rattle.f11_script.specs.Spelling.{IsId, line_words, line_call}

digits_pass : (radix : ℕ) (ds : List ℕ) → AllDigits radix ds → list_all (λ c. is_digit c radix) ds ≡ true
digits_pass radix [] h = refl
digits_pass radix (d ∷ ds) h = rw (lt-ltb _ _ h.0) (digits_pass radix ds h.1)

numeral_of : (radix digits most n : ℕ) (ds : List ℕ) → IsNumeral radix ds → length ds ≤ digits → digits_value radix ds ≡ n → n ≤ most →
    numeral radix digits most ds ≡ Some n
unfolding numeral value_up_to
numeral_of radix digits most n ds is short value small =
    rw (lt-ltb 0 (length ds) is.0, le-leb (length ds) digits short, digits_pass radix ds is.1, value, le-leb n most small) refl

-- a number in decimal
number_read : (most n : ℕ) → most ≤ 4294967295 → n ≤ most → numeral 10 10 most (decimal n) ≡ Some n
number_read most n bound small =
    let below : n < 2 ^ 64 = omega (arith, bound, small) in
    let ten : n < 10 ^ 10 = omega (arith, bound, small) in
    let is = decimal_is_IsNumeral n below in
    numeral_of 10 10 most n (decimal n) is.0 (length-decimal-le 10 n (omega arith) ten below) is.1 small

-- a number in octal
pub octal_numeral : (n : ℕ) → n ≤ 65535 → IsNumeral 8 (octal_digits n) × (digits_value 8 (octal_digits n) ≡ n)
octal_numeral n small = digits_is_IsNumeral 8 false (omega arith) (omega arith) n (omega (arith, small))

length-onto : (k j n : ℕ) (last : List ℕ) → n < 8 ^ suc j → length (digits_onto k 8 false n last) ≤ suc j + length last
length-onto zero j n last below = omega arith
length-onto (suc k) zero n last below =
    let more : List ℕ = digit_glyph false (n % 8) ∷ last in
    omega (arith, ap length (cond-true (n / 8 == 0) more (digits_onto k 8 false (n / 8) more) (eq-eqb (n / 8) 0 (omega (arith, below)))))
length-onto (suc k) (suc j) n last below =
    let more : List ℕ = digit_glyph false (n % 8) ∷ last in
    let longer = length-onto k j (n / 8) more (omega (arith, below, pow-suc 8 (suc j))) in
    elim (cases_Bool (n / 8 == 0)) [
      | inl is ↦ omega (arith, ap length (cond-true (n / 8 == 0) more (digits_onto k 8 false (n / 8) more) is))
      | inr is ↦ omega (arith, longer, ap length (cond-false (n / 8 == 0) more (digits_onto k 8 false (n / 8) more) is))
    ]

length-octal_digits : (j n : ℕ) → n < 8 ^ suc j → length (octal_digits n) ≤ suc j
unfolding digits
length-octal_digits j n below =
    let none : suc j + length {A = ℕ} [] ≡ suc j = omega arith in
    subst (λ (m : ℕ). length (digits_onto 64 8 false n []) ≤ m) none (length-onto 64 j n [] below)

word_read : (n : ℕ) → n ≤ 65535 → numeral 8 6 65535 (octal_digits n) ≡ Some n
word_read n small =
    let is = octal_numeral n small in
    numeral_of 8 6 65535 n (octal_digits n) is.0 (length-octal_digits 5 n (omega (arith, small))) is.1 small

byte_read : (n : ℕ) → n ≤ 255 → numeral 8 3 255 (octal_digits n) ≡ Some n
byte_read n small =
    let is = octal_numeral n (omega (arith, small)) in
    numeral_of 8 3 255 n (octal_digits n) is.0 (length-octal_digits 2 n (omega (arith, small))) is.1 small

-- decimal digits may stand in a name, and a comma may not
pub name_digit : (c : ℕ) → digit_value c < 10 → is_name_character c ≡ true
unfolding is_name_character
name_digit c h = let range = digit_from_value c h in grind (arith, nat_tests, range)

name_digits : (ds : List ℕ) → AllDigits 10 ds → list_all is_name_character ds ≡ true
name_digits [] h = refl
name_digits (d ∷ ds) h = rw (name_digit d h.0) (name_digits ds h.1)

name_octal_digits : (ds : List ℕ) → AllDigits 8 ds → list_all is_name_character ds ≡ true
name_octal_digits [] h = refl
name_octal_digits (d ∷ ds) h = rw (name_digit d (omega (arith, h.0))) (name_octal_digits ds h.1)

comma_out : is_name_character 44 ≡ false
unfolding is_name_character
comma_out = refl

same_id : (id : FileId) → IsId id → record { number = id.number; sequence = id.sequence; volume = 0 } ≡ id
same_id id h = λ i. record { number = id.number; sequence = id.sequence; volume = sym h.volume i }

-- an identification on a volume that stands alone
pub id_text-alone : (id : FileId) → IsId id → id_text id ≡ decimal id.number ++ (44 ∷ decimal id.sequence)
id_text-alone id h =
    ap (λ v. decimal id.number ++ (44 ∷ (decimal id.sequence ++ volume_text v))) h.volume
    ∙ ap (λ t. decimal id.number ++ (44 ∷ t)) (append-nil (decimal id.sequence))

id_read : (id : FileId) → IsId id → id_of (id_text id) ≡ Some id
unfolding id_of
id_read id h =
    let alone : List ℕ = decimal id.number ++ (44 ∷ decimal id.sequence) in
    let below : id.number < 2 ^ 64 = omega (arith, h.number) in
    let digits = (decimal_is_IsNumeral id.number below).0 in
    let cut = cut_at-front 44 alone (decimal id.number) (decimal id.sequence)
    (AllPass-from_list_all is_name_character (decimal id.number) (name_digits (decimal id.number) digits.1)) comma_out refl in
    ap id_of (id_text-alone id h)
    ∙ rw (cut, number_read 65535 id.number (omega arith) h.number, number_read 65535 id.sequence (omega arith) h.sequence)
    (ap Some (same_id id h))

-- a name
name_read : (words : List ℕ) → IsName words → words_spelled (name_text words) ≡ Some words
name_read words n = words_spelled-every (name_text words) words (Spells-name_text words n)

-- the request of a verb and its arguments
abbrev words_ask : List (List ℕ) → Option Ask
words_ask words = do
  next ← argument verb_of words
  verb_asks next.0 next.1

sentence_read : (s : Sentence) → IsInRange s → words_ask (sentence_words s) ≡ Some (sentence_asks s)
unfolding verb_of mode_of create_asks extend_asks contiguous_asks truncate_asks delete_asks grow_asks access_asks close_asks release_asks
    read_asks fill_asks write_asks find_asks enter_asks remove_asks attr_asks set_attr_asks protect_asks space_asks
sentence_read (create name word) h = rw (name_read name h.0, word_read word h.1) refl
sentence_read (extend lun n) h = rw (number_read 3 lun (omega arith) h.0, number_read 4294967295 n (omega arith) h.1) refl
sentence_read (contiguous lun n) h = rw (number_read 3 lun (omega arith) h.0, number_read 4294967295 n (omega arith) h.1) refl
sentence_read (truncate lun n) h = rw (number_read 3 lun (omega arith) h.0, number_read 4294967295 n (omega arith) h.1) refl
sentence_read (delete f) h = rw (id_read f h) refl
sentence_read (grow n) h = rw (number_read 4294967295 n (omega arith) h) refl
sentence_read (access f mode.Read lun) h = rw (id_read f h.0, number_read 3 lun (omega arith) h.1) refl
sentence_read (access f mode.Locked lun) h = rw (id_read f h.0, number_read 3 lun (omega arith) h.1) refl
sentence_read (access f mode.Write lun) h = rw (id_read f h.0, number_read 3 lun (omega arith) h.1) refl
sentence_read (close lun) h = rw (number_read 3 lun (omega arith) h) refl
sentence_read release h = refl
sentence_read (read lun vbn) h = rw (number_read 3 lun (omega arith) h.0, number_read 4294967295 vbn (omega arith) h.1) refl
sentence_read (fill lun vbn byte) h =
    rw (number_read 3 lun (omega arith) h.0, number_read 4294967295 vbn (omega arith) h.1, byte_read byte h.2) refl
sentence_read (write lun vbn hex) h = rw (number_read 3 lun (omega arith) h.0, number_read 4294967295 vbn (omega arith) h.1, h.2) refl
sentence_read (find d name) h = rw (id_read d h.0, name_read name h.1) refl
sentence_read (enter d name f) h = rw (id_read d h.0, name_read name h.1, id_read f h.2) refl
sentence_read (remove d name) h = rw (id_read d h.0, name_read name h.1) refl
sentence_read (attr f) h = rw (id_read f h) refl
sentence_read (set_attr f rtyp ratt rsiz hibk efbk ffby) h =
    rw (
      id_read f h.0,
      number_read 255 rtyp (omega arith) h.1,
      number_read 255 ratt (omega arith) h.2,
      number_read 65535 rsiz (omega arith) h.3,
      number_read 4294967295 hibk (omega arith) h.4,
      number_read 4294967295 efbk (omega arith) h.5,
      number_read 65535 ffby (omega arith) h.6,
    ) refl
sentence_read (protect f word) h = rw (id_read f h.0, word_read word h.1) refl
sentence_read space h = refl

-- the last byte, and what stands before it
at_last : (xs : List ℕ) (y n : ℕ) → n ≡ length xs → get_or (xs ++ y ∷ []) n 0 ≡ y
at_last xs y n e =
    ap (λ k. get_or (xs ++ y ∷ []) k 0) (let k : n ≡ length xs + 0 = omega (arith, e) in k) ∙ get_or-append-add xs (y ∷ []) 0 0

before_last : (xs : List ℕ) (y n : ℕ) → n ≡ length xs → take n (xs ++ y ∷ []) ≡ xs
before_last xs y n e = ap (λ k. take k (xs ++ y ∷ [])) e ∙ take-append_seam xs (y ∷ [])

-- what stands between brackets
bracketed-inside : (inside : List ℕ) → bracketed (91 ∷ inside ++ 93 ∷ []) ≡ Some inside
unfolding bracketed
bracketed-inside inside =
    let long : length (91 ∷ inside ++ 93 ∷ []) ≡ length inside + 2 = omega (arith, length-append (91 ∷ inside) (93 ∷ [])) in
    let two : nat_le 2 (length (91 ∷ inside ++ 93 ∷ [])) ≡ true = le-leb 2 _ (omega (arith, long)) in
    let last : get_or (91 ∷ inside ++ 93 ∷ []) (length (91 ∷ inside ++ 93 ∷ []) - 1) 0 ≡ 93 =
    at_last (91 ∷ inside) 93 (length (91 ∷ inside ++ 93 ∷ []) - 1) (omega (arith, long)) in
    let rest : take (length (91 ∷ inside ++ 93 ∷ []) - 1 - 1) (inside ++ 93 ∷ []) ≡ inside =
    before_last inside 93 (length (91 ∷ inside ++ 93 ∷ []) - 1 - 1) (omega (arith, long)) in
    rw (two, last, rest) refl

-- what is made of a request once it is read
asked_then : {B : Type 0} (o : Option (Verb × List (List ℕ))) (ask : Ask) (g : Ask → B) → (o >>= λ v. verb_asks v.0 v.1) ≡ Some ask →
    (o >>= λ v. (verb_asks v.0 v.1 >>= λ a. Some (g a))) ≡ Some (g ask)
asked_then None ask g h = absurd (cc)
asked_then (Some v) ask g h = rw h refl

task_read : (n : ℕ) → n ≤ 7 → numeral 8 1 7 (octal_digits n) ≡ Some n
task_read n small =
    let is = octal_numeral n (omega (arith, small)) in
    numeral_of 8 1 7 n (octal_digits n) is.0 (length-octal_digits 0 n (omega (arith, small))) is.1 small

-- a user's code is what stands between its brackets
pub uic_text-inside : (uic : Uic) → uic_text uic ≡ 91 ∷ (octal_digits uic.group ++ (44 ∷ octal_digits uic.member)) ++ 93 ∷ []
uic_text-inside uic = ap (λ t. 91 ∷ t) (sym (append_assoc (octal_digits uic.group) (44 ∷ octal_digits uic.member) (93 ∷ [])))

code_read : (uic : Uic) → uic.group ≤ 255 → uic.member ≤ 255 → uic_of (uic_text uic) ≡ Some uic
unfolding uic_of
code_read uic group member =
    let digits = (octal_numeral uic.group (omega (arith, group))).0 in
    let cut = cut_at-front 44 (octal_digits uic.group ++ (44 ∷ octal_digits uic.member)) (octal_digits uic.group) (octal_digits uic.member)
    (AllPass-from_list_all is_name_character (octal_digits uic.group) (name_octal_digits (octal_digits uic.group) digits.1)) comma_out refl
    in
    ap uic_of (uic_text-inside uic)
    ∙ rw (
      bracketed-inside (octal_digits uic.group ++ (44 ∷ octal_digits uic.member)),
      cut,
      byte_read uic.group group,
      byte_read uic.member member,
    ) refl

pub words_read : (task : ℕ) (uic : Uic) (s : Sentence) (block : List ℕ) → task ≤ 7 → uic.group ≤ 255 → uic.member ≤ 255 → IsInRange s →
    call_of (line_words task uic s) block ≡ Some (line_call task uic s block)
unfolding call_of
words_read task uic s block t group member h =
    rw (task_read task t, code_read uic group member)
    (asked_then (argument verb_of (sentence_words s)) (sentence_asks s)
    (λ a. record { task = task; caller = uic; request = a.request; block = a.block block }) (sentence_read s h))
