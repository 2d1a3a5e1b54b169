-- A date in seven characters.
use Rattle.std.proofs.Common.{◌≡◌, ℕ, suc, zero, ◌+◌, ◌-◌, ◌/◌, ◌%◌, ◌≤◌, ◌&&◌, ◌==◌, List, [], ◌∷◌, ◌++◌, length, get_or, Option, Some}
use Rattle.std.proofs.Common.{None, SomeIff, refl, arith, ap, sym, ◌∙◌, subst, if◌then◌else◌}
use Rattle.std.proofs.lemmas.Bool.{and_parts}
use Rattle.std.proofs.lemmas.Option.{cond_some}
use Rattle.std.proofs.lemmas.Slice.Eq.{bytes_eq-Decides}
use Rattle.std.specs.Int.{IsInRange}
use Rattle.std.specs.Str.{bytes_eq}
use Rattle.f11_dates.specs.Calendar.{Day, IsDay, IsDate, is_date}
use Rattle.f11_dates.specs.Files11.{number_in, month_name, month_named, day_bytes, day_in, day_spelled, day_held, with_zero, is_blank}
use Rattle.f11_dates.specs.Files11.{SpellsDay, HoldsDay}
use Rattle.f11_dates.specs.Text.{two_digits}
use Rattle.f11_dates.proofs.CalendarLemmas.{is_date-complete, is_date-sound, same_day, day_few}
use Rattle.f11_dates.proofs.ClockLemmas.{two_digits-number_in, number_in-two_digits}
use Rattle.f11_dates.proofs.HeldLemmas.{found_if, held-Holds, none_of}
use Rattle.f11_dates.proofs.Places.{all_listed}

-- the name of a month is three letters, and names it
month_letters : (m : ℕ) → IsInRange 1 12 m
    → month_name m ≡ get_or (month_name m) 0 0 ∷ get_or (month_name m) 1 0 ∷ get_or (month_name m) 2 0 ∷ []
month_letters (suc zero) h = refl
month_letters (suc (suc zero)) h = refl
month_letters (suc (suc (suc zero))) h = refl
month_letters (suc (suc (suc (suc zero)))) h = refl
month_letters (suc (suc (suc (suc (suc zero))))) h = refl
month_letters (suc (suc (suc (suc (suc (suc zero)))))) h = refl
month_letters (suc (suc (suc (suc (suc (suc (suc zero))))))) h = refl
month_letters (suc (suc (suc (suc (suc (suc (suc (suc zero)))))))) h = refl
month_letters (suc (suc (suc (suc (suc (suc (suc (suc (suc zero))))))))) h = refl
month_letters (suc (suc (suc (suc (suc (suc (suc (suc (suc (suc zero)))))))))) h = refl
month_letters (suc (suc (suc (suc (suc (suc (suc (suc (suc (suc (suc zero))))))))))) h = refl
month_letters (suc (suc (suc (suc (suc (suc (suc (suc (suc (suc (suc (suc zero)))))))))))) h = refl
month_letters zero h = absurd (omega arith)
month_letters (suc (suc (suc (suc (suc (suc (suc (suc (suc (suc (suc (suc (suc k))))))))))))) h = absurd (omega arith)

month_named-month_name : (m : ℕ) → IsInRange 1 12 m → month_named (month_name m) ≡ m
month_named-month_name (suc zero) h = refl
month_named-month_name (suc (suc zero)) h = refl
month_named-month_name (suc (suc (suc zero))) h = refl
month_named-month_name (suc (suc (suc (suc zero)))) h = refl
month_named-month_name (suc (suc (suc (suc (suc zero))))) h = refl
month_named-month_name (suc (suc (suc (suc (suc (suc zero)))))) h = refl
month_named-month_name (suc (suc (suc (suc (suc (suc (suc zero))))))) h = refl
month_named-month_name (suc (suc (suc (suc (suc (suc (suc (suc zero)))))))) h = refl
month_named-month_name (suc (suc (suc (suc (suc (suc (suc (suc (suc zero))))))))) h = refl
month_named-month_name (suc (suc (suc (suc (suc (suc (suc (suc (suc (suc zero)))))))))) h = refl
month_named-month_name (suc (suc (suc (suc (suc (suc (suc (suc (suc (suc (suc zero))))))))))) h = refl
month_named-month_name (suc (suc (suc (suc (suc (suc (suc (suc (suc (suc (suc (suc zero)))))))))))) h = refl
month_named-month_name zero h = absurd (omega arith)
month_named-month_name (suc (suc (suc (suc (suc (suc (suc (suc (suc (suc (suc (suc (suc k))))))))))))) h = absurd (omega arith)

-- a date's bytes, with the letters of its month spelled out
letters_spelled : (day month year a b c : ℕ) → month_name month ≡ a ∷ b ∷ c ∷ []
    → two_digits day ++ (month_name month ++ two_digits year)
    ≡ (48 + day / 10) ∷ (48 + day % 10) ∷ a ∷ b ∷ c ∷ (48 + year / 10) ∷ (48 + year % 10) ∷ []
letters_spelled day month year a b c e = ap (λ name. two_digits day ++ (name ++ two_digits year)) e

pub day_letters : (d : Day) → IsInRange 1 12 d.month
    → day_bytes d ≡ (48 + d.day / 10) ∷ (48 + d.day % 10) ∷ get_or (month_name d.month) 0 0 ∷ get_or (month_name d.month) 1 0
    ∷ get_or (month_name d.month) 2 0 ∷ (48 + (d.year - 1900) / 10) ∷ (48 + (d.year - 1900) % 10) ∷ []
day_letters d is = letters_spelled d.day d.month (d.year - 1900) _ _ _ (month_letters d.month is)

-- the numbers of a date's bytes are the date's
day_in-day_bytes : (d : Day) → IsInRange 1 12 d.month → 1900 ≤ d.year → day_in (day_bytes d) ≡ d
day_in-day_bytes d is from =
    ap day_in (day_letters d is)
    ∙ same_day _ d (
    ap (λ n. 1900 + n) (number_in-two_digits (d.year - 1900)) ∙ omega arith)
    (ap month_named (sym (month_letters d.month is)) ∙ month_named-month_name d.month is)
    (number_in-two_digits d.day)

-- the bytes of a date are digits, and between them the month
pub day_digits : (bs : List ℕ) (d : Day) → IsDay d → day_bytes d ≡ bs
    → (IsInRange 48 57 (get_or bs 0 0) × IsInRange 48 57 (get_or bs 1 0))
    × (month_name d.month ≡ get_or bs 2 0 ∷ get_or bs 3 0 ∷ get_or bs 4 0 ∷ [])
    × (IsInRange 48 67 (get_or bs 5 0) × IsInRange 48 57 (get_or bs 6 0))
day_digits bs d is e =
    let few = day_few d is in
    let spelled = sym (day_letters d is.1) ∙ e in
    let a = ap (λ l. get_or l 0 0) spelled in
    let b = ap (λ l. get_or l 1 0) spelled in
    let f = ap (λ l. get_or l 5 0) spelled in
    let g = ap (λ l. get_or l 6 0) spelled in (
      ((omega (arith, few, a), omega (arith, few, a)), (omega (arith, b), omega (arith, b))),
      month_letters d.month is.1 ∙ ap (λ l. get_or l 2 0 ∷ get_or l 3 0 ∷ get_or l 4 0 ∷ []) spelled,
      ((omega (arith, is.0, f), omega (arith, is.0, f)), (omega (arith, g), omega (arith, g))),
    )

-- what bytes spell, as a function and as a relation
pub day_spelled-sound : (bs : List ℕ) (d : Day) → day_spelled bs ≡ Some d → IsDay d × (day_bytes d ≡ bs)
unfolding day_spelled
day_spelled-sound bs d found =
    let parts = cond_some _ (day_in bs) d found in
    let tests = and_parts _ _ parts.0 in
    subst (λ x. IsDay x × (day_bytes x ≡ bs)) parts.1
    (is_date-sound (day_in bs).year (day_in bs).month (day_in bs).day tests.0, (bytes_eq-Decides (day_bytes (day_in bs)) bs).0 tests.1)

pub day_spelled-found : (bs : List ℕ) (d : Day) (found : Option Day) → day_in bs ≡ d → day_bytes d ≡ bs → SomeIff found (IsDay d) d
    → found ≡ day_spelled bs
unfolding day_spelled
day_spelled-found bs d found numbers same is =
    found_if (IsDay d) found (is_date d.year d.month d.day && bytes_eq (day_bytes d) bs) d
    (λ valid. rw (is_date-complete d.year d.month d.day valid, (bytes_eq-Decides (day_bytes d) bs).1 same) refl)
    (λ test. is_date-sound d.year d.month d.day (and_parts _ _ test).0) is
    ∙ ap (λ x. if is_date x.year x.month x.day && bytes_eq (day_bytes x) bs then Some x else None) (sym numbers)

pub day_spelled-complete : (bs : List ℕ) (d : Day) → IsDay d → day_bytes d ≡ bs → day_spelled bs ≡ Some d
day_spelled-complete bs d is same =
    sym (day_spelled-found bs d (Some d) (ap day_in (sym same) ∙ day_in-day_bytes d is.1 is.0.0) same (is, refl))

-- nothing where they spell nothing
pub day_spelled-none : (bs : List ℕ) → ((d : Day) → IsDay d → day_bytes d ≡ bs → ⊥) → day_spelled bs ≡ None
day_spelled-none bs none =
    none_of (day_spelled bs) (λ d found. let spells = day_spelled-sound bs d found in none d spells.0 spells.1)

-- seven bytes, with `0` for a space at the front
pub with_zero-seven : (bs : List ℕ) → length bs ≡ 7
    → with_zero bs ≡ (if get_or bs 0 0 == 32 then 48 else get_or bs 0 0) ∷ get_or bs 1 0 ∷ get_or bs 2 0 ∷ get_or bs 3 0
    ∷ get_or bs 4 0 ∷ get_or bs 5 0 ∷ get_or bs 6 0 ∷ []
with_zero-seven bs seven = ap with_zero (all_listed bs 7 seven)

-- where seven characters are digits and the letters of a month, they spell what is made of their numbers, if these are a date
pub day_spelled-letters : (ten one a b c tens ones m : ℕ) (found : Option Day) → IsInRange 48 57 ten × IsInRange 48 57 one
    → IsInRange 1 12 m × (month_name m ≡ a ∷ b ∷ c ∷ []) → IsInRange 48 67 tens × IsInRange 48 57 ones
    → SomeIff found (IsDate (1900 + number_in tens ones) m (number_in ten one))
    (record { year = 1900 + number_in tens ones; month = m; day = number_in ten one })
    → found ≡ day_spelled (ten ∷ one ∷ a ∷ b ∷ c ∷ tens ∷ ones ∷ [])
day_spelled-letters ten one a b c tens ones m found day month year is =
    let d : Day = record { year = 1900 + number_in tens ones; month = m; day = number_in ten one } in
    let named : month_named (a ∷ b ∷ c ∷ []) ≡ m = ap month_named (sym month.1) ∙ month_named-month_name m month.0 in
    let behind : 1900 + number_in tens ones - 1900 ≡ number_in tens ones = omega arith in
    day_spelled-found (ten ∷ one ∷ a ∷ b ∷ c ∷ tens ∷ ones ∷ []) d found (same_day _ d refl named refl)
    (letters_spelled (number_in ten one) m (1900 + number_in tens ones - 1900) a b c month.1
    ∙ ap (λ l. two_digits (number_in ten one) ++ ((a ∷ b ∷ c ∷ []) ++ l))
    (ap two_digits behind ∙ two_digits-number_in tens ones year.0.0 year.1)
    ∙ ap (λ l. l ++ (a ∷ b ∷ c ∷ tens ∷ ones ∷ [])) (two_digits-number_in ten one day.0.0 day.1))
    is

pub HoldsDay-day_held : (bs : List ℕ) → HoldsDay bs (day_held bs)
HoldsDay-day_held bs =
    held-Holds _ (SpellsDay bs) (is_blank bs) (day_spelled (with_zero bs)) (λ e. e) (λ e. e)
    (day_spelled-sound (with_zero bs)) (λ d spells. day_spelled-complete (with_zero bs) d spells.0 spells.1)
