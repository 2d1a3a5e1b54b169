-- Dates and times as Files-11 keeps them (Files-11 On-Disk Structure Level 1, ident area: I.RVDT, I.RVTI, I.CRDT, I.CRTI,
-- I.EXDT). Characters are named by their ASCII codes.
use Rattle.std.specs.Prelude.{◌≡◌, ℕ, ◌+◌, ◌-◌, ◌*◌, Bool, ◌&&◌, ◌||◌, ◌==◌, List, [], ◌∷◌, ◌++◌, take, drop, slice_index_or, IsTrue}
use Rattle.std.specs.Prelude.{Option, Some, None, bytes_eq, codes, if◌then◌else◌}
use Rattle.std.specs.List.{list_all, position_or_len}
use Rattle.f11_dates.specs.Calendar.{Day, Clock, IsDay, IsClock, is_date, is_time}
use Rattle.f11_dates.specs.Text.{two_digits}
use Rattle.f11_dates.specs.Dated.{held, Holds}
use Rattle.f11_dates.specs.declared.dated.Dated.{Dated}

-- the months, in capitals
abbrev pub months : List (List ℕ)
months =
    codes "JAN" ∷ codes "FEB" ∷ codes "MAR" ∷ codes "APR" ∷ codes "MAY" ∷ codes "JUN"
    ∷ codes "JUL" ∷ codes "AUG" ∷ codes "SEP" ∷ codes "OCT" ∷ codes "NOV" ∷ codes "DEC" ∷ []

-- the letters of a month, 1 to 12
abbrev pub month_name : ℕ → List ℕ
month_name month = slice_index_or months (month - 1) []

-- A date is `DDMMMYY`: the day in two digits, the month, and the years behind 1900 in two characters. The first of these
-- counts tens, and runs on past `9` from the year 2000 (`:0`) on.
abbrev pub day_bytes : Day → List ℕ
day_bytes d = two_digits d.day ++ (month_name d.month ++ two_digits (d.year - 1900))

-- a time is `HHMMSS`: hour, minute and second in two digits each
abbrev pub clock_bytes : Clock → List ℕ
clock_bytes t = two_digits t.hour ++ (two_digits t.minute ++ two_digits t.second)

-- nothing is kept where all bytes are NULs, or all are spaces
abbrev pub is_blank : List ℕ → Bool
is_blank bytes = list_all (λ b. b == 0) bytes || list_all (λ b. b == 32) bytes

-- a day may begin with a space in place of `0`
abbrev pub with_zero : List ℕ → List ℕ
with_zero [] = []
with_zero (first ∷ rest) = (if first == 32 then 48 else first) ∷ rest

-- bytes spell a day that the calendar has and that is written so, but for a space at the front
abbrev pub SpellsDay : List ℕ → Day → Type 0
SpellsDay bytes d = IsDay d × (day_bytes d ≡ with_zero bytes)

-- bytes spell a time of the day that is written so
abbrev pub SpellsClock : List ℕ → Clock → Type 0
SpellsClock bytes t = IsClock t × (clock_bytes t ≡ bytes)

-- what bytes hold: no date, the one that they spell, or what is none
abbrev pub HoldsDay : List ℕ → Dated Day → Type 0
HoldsDay bytes answer = Holds (IsTrue (is_blank bytes)) (SpellsDay bytes) answer

abbrev pub HoldsClock : List ℕ → Dated Clock → Type 0
HoldsClock bytes answer = Holds (IsTrue (is_blank bytes)) (SpellsClock bytes) answer

-- the number in two characters that count from `0`
abbrev pub number_in : ℕ → ℕ → ℕ
number_in high low = (high - 48) * 10 + (low - 48)

-- the month with these letters, 13 if there is none
abbrev pub month_named : List ℕ → ℕ
month_named letters = position_or_len (λ name. bytes_eq name letters) months + 1

-- the numbers at the places of year, month and day, be they a date or not
abbrev pub day_in : List ℕ → Day
day_in bytes = record {
  year = 1900 + number_in (slice_index_or bytes 5 0) (slice_index_or bytes 6 0);
  month = month_named (take 3 (drop 2 bytes));
  day = number_in (slice_index_or bytes 0 0) (slice_index_or bytes 1 0);
}

-- they are one where the calendar has it and it is written so
unfoldable pub day_spelled : List ℕ → Option Day
day_spelled bytes =
    let d = day_in bytes in
    if is_date d.year d.month d.day && bytes_eq (day_bytes d) bytes then Some d else None

-- the same of hour, minute and second
abbrev pub clock_in : List ℕ → Clock
clock_in bytes = record {
  hour = number_in (slice_index_or bytes 0 0) (slice_index_or bytes 1 0);
  minute = number_in (slice_index_or bytes 2 0) (slice_index_or bytes 3 0);
  second = number_in (slice_index_or bytes 4 0) (slice_index_or bytes 5 0);
}

unfoldable pub clock_spelled : List ℕ → Option Clock
clock_spelled bytes =
    let t = clock_in bytes in
    if is_time t.hour t.minute t.second && bytes_eq (clock_bytes t) bytes then Some t else None

-- what bytes hold, as a function of them
abbrev pub day_held : List ℕ → Dated Day
day_held bytes = held (is_blank bytes) (day_spelled (with_zero bytes))

abbrev pub clock_held : List ℕ → Dated Clock
clock_held bytes = held (is_blank bytes) (clock_spelled bytes)
