-- Digits that are read one after another.
use Rattle.std.proofs.Common.{◌≡◌, ℕ, ◌+◌, ◌*◌, ◌<◌, ◌≤◌, ◌&&◌, Bool, true, false, List, length, map, take, get_or, nat_le, Option, Some}
use Rattle.std.proofs.Common.{None, IsSome, IfSome, ◌↔◌, if◌then◌else◌, refl, sym, ◌∙◌, ap, arith}
use Rattle.std.specs.Char.{digit_value, is_digit}
use Rattle.std.specs.List.{list_all, range_with_len}
use Rattle.std.specs.Str.Parse.{digits_value}
use Rattle.std.proofs.lemmas.Bool.{le-ltb, lt-ltb, le-leb, ltb-true}
use Rattle.std.proofs.lemmas.Bool.Decides.{nat_tests}
use Rattle.std.proofs.lemmas.Int.Digits.{digits_value_more}
use Rattle.std.proofs.lemmas.List.FromFn.{get_or-map-range_with_len}
use Rattle.std.proofs.lemmas.List.Folds.{list_all_at, list_all_more}
use Rattle.std.proofs.lemmas.List.Sums.{AllPass-from_list_all}
use Rattle.std.proofs.lemmas.Str.Parse.{digits_value-take-le}
use Rattle.std.proofs.lemmas.List.{take_all}
use Rattle.f11_script.specs.declared.fields.TheConstants.{VALUES}
use Rattle.f11_script.specs.Fields.{value_up_to, hex_byte, is_hex, AreHexDigits}

-- all digits so far, and one more
pub digits_so_far : (radix : ℕ) (text : List ℕ) (i d : ℕ) → i < length text → digit_value (get_or text i 0) ≡ d → d < radix →
    list_all (λ c. is_digit c radix) (take i text) ≡ true → list_all (λ c. is_digit c radix) (take (i + 1) text) ≡ true
digits_so_far radix text i d within is below all =
    list_all_more (λ c. is_digit c radix) text i 0 within ∙ rw (all, is, lt-ltb d radix below) refl

-- their value
pub value_so_far : (radix : ℕ) (text : List ℕ) (i d value : ℕ) → i < length text → digit_value (get_or text i 0) ≡ d →
    value ≡ digits_value radix (take i text) → value * radix + d ≡ digits_value radix (take (i + 1) text)
value_so_far radix text i d value within is so_far = rw (so_far, ← is) (sym (digits_value_more radix text i within))

-- what is no digit
pub no_digit : (radix most : ℕ) (text : List ℕ) (i d : ℕ) → i < length text → digit_value (get_or text i 0) ≡ d → radix ≤ d →
    None ≡ value_up_to radix most text
unfolding value_up_to
no_digit radix most text i d within is above =
    let out : is_digit (get_or text i 0) radix ≡ false = rw is (le-ltb d radix above) in
    sym (ap (λ b. if b && nat_le (digits_value radix text) most then Some (digits_value radix text) else None)
    (list_all_at (λ c. is_digit c radix) text i 0 within out))

-- too great a value
pub too_great : (radix most : ℕ) (text : List ℕ) (i value : ℕ) → 1 ≤ radix → value ≡ digits_value radix (take (i + 1) text) → most < value →
    None ≡ value_up_to radix most text
unfolding value_up_to
too_great radix most text i value some is above =
    by_test (list_all (λ c. is_digit c radix) text) (nat_le (digits_value radix text) most) great
  where
    great : nat_le (digits_value radix text) most ≡ false
    great =
        let less = digits_value-take-le radix text (i + 1) some in
        let past : most < digits_value radix text = omega (arith, less, is, above) in grind (arith, nat_tests)

    by_test : (a b : Bool) → b ≡ false → None ≡ (if a && b then Some (digits_value radix text) else None)
    by_test true b h = rw h refl
    by_test false b h = refl

-- all digits
pub all_read : (radix most : ℕ) (text : List ℕ) (i value : ℕ) → length text ≤ i → value ≡ digits_value radix (take i text) →
    list_all (λ c. is_digit c radix) (take i text) ≡ true → value ≤ most → Some value ≡ value_up_to radix most text
unfolding value_up_to
all_read radix most text i value end is all small =
    let whole : take i text ≡ text = take_all i text end in
    let same : value ≡ digits_value radix text = rw whole at is in
    let digits : list_all (λ c. is_digit c radix) text ≡ true = rw whole at all in
    let below : nat_le (digits_value radix text) most ≡ true = le-leb _ _ (omega (arith, same, small)) in
    rw (digits, below, same) refl

-- what is made of a number that fits is made of it
pub made_of : (r : Option ℕ) (n : ℕ) (P : Type 0) → (IsSome r ↔ P) → IfSome r (λ m. m ≡ n) → P → r ≡ Some n
made_of None n P there value fits = let none = there.1 fits in absurd (cc)
made_of (Some m) n P there value fits = ap Some value

-- digits that pass the test for hex digits are such
pub hex_digits : (text : List ℕ) → is_hex text ≡ true → AreHexDigits text
unfolding is_hex
hex_digits text h k within =
    ltb-true _ _ (AllPass-from_list_all (λ c. is_digit c 16) text (second_passes _ _ h) k 0 within)
  where
    second_passes : (a b : Bool) → (a && b) ≡ true → b ≡ true
    second_passes true b e = e
    second_passes false b e = absurd (cc)

-- past the last digit a block in hex is zero
pub hex_byte-past : (text : List ℕ) (k : ℕ) → length text ≤ 2 * k + 1 → hex_byte text k ≡ 0
hex_byte-past text k past = rw (le-ltb (2 * k + 1) (length text) past) refl

-- the value of each byte
values-are : VALUES ≡ map digit_value (range_with_len 0 256)
values-are = refl

pub value_of_byte : (c : ℕ) → c < 256 → get_or VALUES c 0 ≡ digit_value c
value_of_byte c within =
    ap (λ (l : List ℕ). get_or l c 0) values-are ∙ get_or-map-range_with_len digit_value 0 256 c c 0 within (omega arith)
