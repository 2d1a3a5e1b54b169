-- Two digits, and a time of the day in six.
use Rattle.std.proofs.Common.{◌≡◌, ℕ, ◌+◌, ◌-◌, ◌*◌, ◌/◌, ◌%◌, ◌≤◌, ◌&&◌, true, List, [], ◌∷◌, ◌++◌, length, get_or, Option, Some, None}
use Rattle.std.proofs.Common.{SomeIff, refl, arith, ap, sym, ◌∙◌, subst}
use Rattle.std.proofs.lemmas.Bool.{and_parts}
use Rattle.std.proofs.lemmas.Option.{cond_some}
use Rattle.std.proofs.lemmas.Slice.Eq.{bytes_eq-Decides}
use Rattle.std.specs.Int.{IsInRange}
use Rattle.std.specs.Str.{bytes_eq}
use Rattle.f11_dates.specs.Calendar.{Clock, IsClock, is_time}
use Rattle.f11_dates.specs.Files11.{number_in, clock_bytes, clock_in, clock_spelled, clock_held, is_blank, SpellsClock, HoldsClock}
use Rattle.f11_dates.specs.Text.{two_digits}
use Rattle.f11_dates.proofs.CalendarLemmas.{is_time-complete, is_time-sound, same_clock}
use Rattle.f11_dates.proofs.HeldLemmas.{found_if, held-Holds, none_of}
use Rattle.f11_dates.proofs.Places.{all_listed}

-- a number in two characters has these, and these have it
pub two_digits-number_in : (ten one : ℕ) → 48 ≤ ten → IsInRange 48 57 one → two_digits (number_in ten one) ≡ ten ∷ one ∷ []
two_digits-number_in ten one from digit =
    let first : 48 + ((ten - 48) * 10 + (one - 48)) / 10 ≡ ten = omega (arith, digit) in
    let second : 48 + ((ten - 48) * 10 + (one - 48)) % 10 ≡ one = omega (arith, digit) in
    rw (first, second) refl

pub number_in-two_digits : (n : ℕ) → number_in (48 + n / 10) (48 + n % 10) ≡ n
number_in-two_digits n = omega arith

-- the numbers of a time's bytes are the time's
pub clock_in-clock_bytes : (t : Clock) → clock_in (clock_bytes t) ≡ t
clock_in-clock_bytes t =
    same_clock _ t (number_in-two_digits t.hour) (number_in-two_digits t.minute) (number_in-two_digits t.second)

-- the bytes of a time are digits
pub clock_digits : (bs : List ℕ) (t : Clock) → SpellsClock bs t
    → (IsInRange 48 57 (get_or bs 0 0) × IsInRange 48 57 (get_or bs 1 0))
    × (IsInRange 48 57 (get_or bs 2 0) × IsInRange 48 57 (get_or bs 3 0))
    × (IsInRange 48 57 (get_or bs 4 0) × IsInRange 48 57 (get_or bs 5 0))
clock_digits bs t spells =
    let is = spells.0 in
    let a = ap (λ l. get_or l 0 0) spells.1 in
    let b = ap (λ l. get_or l 1 0) spells.1 in
    let c = ap (λ l. get_or l 2 0) spells.1 in
    let d = ap (λ l. get_or l 3 0) spells.1 in
    let e = ap (λ l. get_or l 4 0) spells.1 in
    let f = ap (λ l. get_or l 5 0) spells.1 in (
      ((omega (arith, is, a), omega (arith, is, a)), (omega (arith, is, b), omega (arith, is, b))),
      ((omega (arith, is, c), omega (arith, is, c)), (omega (arith, is, d), omega (arith, is, d))),
      ((omega (arith, is, e), omega (arith, is, e)), (omega (arith, is, f), omega (arith, is, f))),
    )

-- and where six bytes are digits, they are the bytes of their numbers
pub clock_bytes-clock_in : (bs : List ℕ) → length bs ≡ 6
    → IsInRange 48 57 (get_or bs 0 0) × IsInRange 48 57 (get_or bs 1 0)
    → IsInRange 48 57 (get_or bs 2 0) × IsInRange 48 57 (get_or bs 3 0)
    → IsInRange 48 57 (get_or bs 4 0) × IsInRange 48 57 (get_or bs 5 0)
    → clock_bytes (clock_in bs) ≡ bs
clock_bytes-clock_in bs six hour minute second =
    ap (λ l. l ++ (two_digits (clock_in bs).minute ++ two_digits (clock_in bs).second)) (two_digits-number_in _ _ hour.0.0 hour.1)
    ∙ ap (λ l. (get_or bs 0 0 ∷ get_or bs 1 0 ∷ []) ++ (l ++ two_digits (clock_in bs).second))
    (two_digits-number_in _ _ minute.0.0 minute.1)
    ∙ ap (λ l. (get_or bs 0 0 ∷ get_or bs 1 0 ∷ []) ++ ((get_or bs 2 0 ∷ get_or bs 3 0 ∷ []) ++ l))
    (two_digits-number_in _ _ second.0.0 second.1)
    ∙ sym (all_listed bs 6 six)

-- what bytes spell, as a function and as a relation
pub clock_spelled-sound : (bs : List ℕ) (t : Clock) → clock_spelled bs ≡ Some t → SpellsClock bs t
unfolding clock_spelled
clock_spelled-sound bs t found =
    let parts = cond_some _ (clock_in bs) t found in
    let tests = and_parts _ _ parts.0 in
    subst (SpellsClock bs) parts.1 (is_time-sound _ _ _ tests.0, (bytes_eq-Decides (clock_bytes (clock_in bs)) bs).0 tests.1)

pub clock_spelled-complete : (bs : List ℕ) (t : Clock) → SpellsClock bs t → clock_spelled bs ≡ Some t
unfolding clock_spelled
clock_spelled-complete bs t spells =
    let same : clock_in bs ≡ t = ap clock_in (sym spells.1) ∙ clock_in-clock_bytes t in
    let test : (is_time (clock_in bs).hour (clock_in bs).minute (clock_in bs).second && bytes_eq (clock_bytes (clock_in bs)) bs) ≡ true =
    ap (λ x. is_time x.hour x.minute x.second && bytes_eq (clock_bytes x) bs) same
    ∙ rw (is_time-complete t.hour t.minute t.second spells.0, (bytes_eq-Decides (clock_bytes t) bs).1 spells.1) refl in
    rw (test, same) refl

-- nothing where they spell nothing
pub clock_spelled-none : (bs : List ℕ) → ((t : Clock) → ¬ SpellsClock bs t) → clock_spelled bs ≡ None
clock_spelled-none bs none = none_of (clock_spelled bs) (λ t found. none t (clock_spelled-sound bs t found))

pub HoldsClock-clock_held : (bs : List ℕ) → HoldsClock bs (clock_held bs)
HoldsClock-clock_held bs =
    held-Holds _ (SpellsClock bs) (is_blank bs) (clock_spelled bs) (λ e. e) (λ e. e) (clock_spelled-sound bs) (clock_spelled-complete bs)

-- what is made of their numbers, if these are a time
pub clock_spelled-found : (bs : List ℕ) (found : Option Clock) → clock_bytes (clock_in bs) ≡ bs
    → SomeIff found (IsClock (clock_in bs)) (clock_in bs)
    → found ≡ clock_spelled bs
unfolding clock_spelled
clock_spelled-found bs found same is =
    found_if _ found _ (clock_in bs)
    (λ valid. rw (
      is_time-complete (clock_in bs).hour (clock_in bs).minute (clock_in bs).second valid,
      (bytes_eq-Decides (clock_bytes (clock_in bs)) bs).1 same,
    ) refl)
    (λ test. is_time-sound (clock_in bs).hour (clock_in bs).minute (clock_in bs).second (and_parts _ _ test).0) is
