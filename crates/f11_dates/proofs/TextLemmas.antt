-- What `{}` and `{:02}` write of the numbers of a date.
use Rattle.std.proofs.Common.{◌≡◌, ℕ, ◌+◌, ◌-◌, ◌^◌, ◌/◌, ◌%◌, ◌<◌, ◌≤◌, [], ◌∷◌, ◌++◌, arith, ◌∙◌, ap, refl, ⊎_elim}
use Rattle.std.specs.Fmt.{decimal, padded_integral, format_spec, styled_decimal, char_count}
use Rattle.std.proofs.lemmas.Fmt.{decimal_digit, decimal_step}
use Rattle.std.proofs.lemmas.Bool.{cases_lt}
use Rattle.f11_dates.specs.Calendar.{Day, Clock, IsDay, IsClock}
use Rattle.f11_dates.proofs.CalendarLemmas.{day_few}
use Rattle.f11_dates.specs.Text.{two_digits, day_text, clock_text}

-- a number from 10 to 99
decimal_two : (n : ℕ) → 10 ≤ n → n < 100 → decimal n ≡ two_digits n
decimal_two n large small =
    decimal_step n large (omega arith) ∙ ap (λ front. front ++ ((48 + n % 10) ∷ [])) (decimal_digit (n / 10) (omega arith))

-- one of four digits
decimal_four : (n : ℕ) → 1900 ≤ n → n ≤ 2099 → decimal n ≡ two_digits (n / 100) ++ two_digits (n % 100)
decimal_four n large small =
    let third : n / 10 % 10 ≡ n % 100 / 10 = omega arith in
    let hundreds : n / 10 / 10 ≡ n / 100 = omega arith in
    let last : n % 10 ≡ n % 100 % 10 = omega arith in
    decimal_step n (omega arith) (omega arith)
    ∙ ap (λ front. front ++ ((48 + n % 10) ∷ [])) (
    decimal_step (n / 10) (omega arith) (omega arith)
    ∙ ap (λ front. front ++ ((48 + n / 10 % 10) ∷ [])) (ap decimal hundreds ∙ decimal_two (n / 100) (omega arith) (omega arith)))
    ∙ rw (third, last) refl

-- what `{:02}` writes of a number below 100
padded_two : (n : ℕ) → n < 100 → styled_decimal (format_spec 32 0 4 2 (2 ^ 64 - 1)) n ≡ two_digits n
unfolding padded_integral char_count
padded_two n small = ⊎_elim
    (λ one. let high : n / 10 ≡ 0 = omega arith in let low : n % 10 ≡ n = omega arith in rw (decimal_digit n one, high, low))
    (λ two. rw (decimal_two n two small))
    (cases_lt n 10)

-- the pieces of a day's text
pub day_written : (d : Day) → IsDay d
    → decimal d.year ++ (45 ∷
    (styled_decimal (format_spec 32 0 4 2 (2 ^ 64 - 1)) d.month ++ (45 ∷ styled_decimal (format_spec 32 0 4 2 (2 ^ 64 - 1)) d.day)))
    ≡ day_text d
day_written d is =
    let few = day_few d is in
    rw (
      decimal_four d.year (omega (arith, is.0)) (omega (arith, is.0)),
      padded_two d.month (omega (arith, is.1)),
      padded_two d.day (omega (arith, few)),
    )
    refl

-- and of a time's
pub clock_written : (d : Clock) → IsClock d
    → styled_decimal (format_spec 32 0 4 2 (2 ^ 64 - 1)) d.hour
    ++ (58 ∷ (styled_decimal (format_spec 32 0 4 2 (2 ^ 64 - 1))
    d.minute ++ (58 ∷ styled_decimal (format_spec 32 0 4 2 (2 ^ 64 - 1)) d.second)))
    ≡ clock_text d
clock_written d is =
    rw (padded_two d.hour (omega (arith, is)), padded_two d.minute (omega (arith, is)), padded_two d.second (omega (arith, is))) refl
