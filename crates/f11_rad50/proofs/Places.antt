-- A separator's place in a text, pieces put one after another, and the digits of a version.
use Rattle.std.proofs.Common.{◌≡◌, ◌≢◌, ℕ, ◌+◌, ◌<◌, ◌≤◌, true, false, not, List, [], ◌∷◌, ◌++◌, length, get_or, take, drop, All, Some}
use Rattle.std.proofs.Common.{position, nat_lt, ◌==◌, arith, refl, sym, ◌∙◌, ap, length-append, take-append-drop, drop-cons, drop-drop}
use Rattle.std.proofs.Common.{add-one, lt_of_lt_of_le}
use Rattle.std.specs.List.{position_or_len}
use Rattle.std.specs.Str.Parse.{digits_value}
use Rattle.std.proofs.lemmas.Bool.Decides.{nat_tests}
use Rattle.std.proofs.lemmas.List.Elements.{All-head, All-tail}
use Rattle.std.proofs.lemmas.List.Quantifiers.{position-Some}
use Rattle.std.proofs.lemmas.Int.Digits.{digits_value-lt}
use Rattle.std.proofs.Math.Nat.{pow-le-pow_right}
use Rattle.f11_bytes.specs.Octal.{IsOctal}
use Rattle.f11_bytes.specs.Part.{with_bytes}
use Rattle.f11_bytes.proofs.PartLemmas.{with_bytes-append}
use Rattle.f11_rad50.specs.Buffer.{IsPut}
use Rattle.f11_rad50.specs.Name.{IsVersion}
use Rattle.std.proofs.Math.Seq.{take-append_seam, drop-append_seam}

-- the separator's place is the length of what stands before it
position_or_len-front : (sep : ℕ) (front back : List ℕ) → All (λ c. c ≢ sep) front
    → position_or_len (λ c. c == sep) (front ++ (sep ∷ back)) ≡ length front
position_or_len-front sep [] back h =
    let e : not (sep == sep) ≡ false = grind (arith, nat_tests) in
    rw e refl
position_or_len-front sep (c ∷ front) back h =
    let differs = All-head (λ x. x ≢ sep) c front h in
    let e : not (c == sep) ≡ true = grind (arith, nat_tests) in
    rw (e, position_or_len-front sep front back (All-tail (λ x. x ≢ sep) c front h)) (omega arith)

pub position-front : (sep : ℕ) (text front back : List ℕ) → All (λ c. c ≢ sep) front → text ≡ front ++ (sep ∷ back)
    → position (λ c. c == sep) text ≡ Some (length front)
position-front sep text front back h e =
    let place = position_or_len-front sep front back h in
    let within : nat_lt (length front) (length (front ++ (sep ∷ back))) ≡ true = simp length-append (grind (arith, nat_tests)) in
    rw (e, place, within) refl

-- a text is what stands before a separator, the separator, and what stands after it
pub parts_at : (sep : ℕ) (text : List ℕ) (i : ℕ) → position (λ c. c == sep) text ≡ Some i → text ≡ take i text ++ (sep ∷ drop (i + 1) text)
parts_at sep text i h =
    let p = position-Some (λ c. c == sep) text i 0 h in
    let here : get_or text i 0 ≡ sep = grind (arith, nat_tests, p.1) in
    let within : i < length text = p.0 in
    let rest : drop i text ≡ sep ∷ drop (i + 1) text = drop-cons text i 0 within ∙ rw (here, add-one) refl in
    sym (take-append-drop i text) ∙ ap (λ t. take i text ++ t) rest

-- and these are all the parts that it has
pub split_at_front : (sep : ℕ) (front back text : List ℕ) (i : ℕ) → text ≡ front ++ (sep ∷ back) → i ≡ length front
    → (take i text ≡ front) × (drop (i + 1) text ≡ back)
split_at_front sep front back text i e f =
    rw (e, f) (
      take-append_seam front _,
      sym (drop-drop 1 (length front) (front ++ (sep ∷ back)))
          ∙ ap (drop 1) (drop-append_seam front (sep ∷ back)),
    )

-- a piece put after another one
pub IsPut-append : (old mid new p q : List ℕ) (at last next : ℕ) → at ≤ length old → IsPut old mid p at last → IsPut mid new q last next
    → IsPut old new (p ++ q) at next
IsPut-append old mid new p q at last next fits a b = record {
  next_is = omega (arith, length-append p q, a.next_is, b.next_is);
  written = b.written ∙ ap (λ m. with_bytes m last q) a.written ∙ ap (λ k. with_bytes (with_bytes old at p) k q) a.next_is
      ∙ with_bytes-append old at p q fits;
}

-- a version has up to five digits, so its value is below 32768
pub IsOctal-version : (ds : List ℕ) → IsVersion ds → IsOctal ds 32767
IsOctal-version ds is =
    let few : length ds ≤ 5 = is.five_digits in
    let below : digits_value 8 ds < 32768 =
    lt_of_lt_of_le (digits_value-lt 8 ds is.octal_digits) (pow-le-pow_right {n = 8} (omega arith) {i = length ds} {j = 5} few) in
    record { octal_digits = is.octal_digits; some_digit = is.some_digit; at_most = omega arith }
