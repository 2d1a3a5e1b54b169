-- Days of the Gregorian calendar and times of the day, as far as volumes hold them.
use Rattle.std.specs.Prelude.{ℕ, ◌%◌, Bool, not, ◌&&◌, ◌||◌, ◌==◌, if◌then◌else◌}
use Rattle.std.specs.Int.{IsInRange, is_in_range}

-- a day: its year, its month from 1, and which day of the month it is, from 1
pub record Day : Type 0 where
  pub year : ℕ
  pub month : ℕ
  pub day : ℕ

-- a time of the day
pub record Clock : Type 0 where
  pub hour : ℕ
  pub minute : ℕ
  pub second : ℕ

-- each fourth year is a leap year, of the full centuries each fourth
abbrev pub is_leap_year : ℕ → Bool
is_leap_year year = (year % 4 == 0) && (not (year % 100 == 0) || (year % 400 == 0))

-- February has 28 days, and 29 in a leap year; April, June, September and November have 30, the others 31
abbrev pub days_in_month : ℕ → ℕ → ℕ
days_in_month year month =
    if month == 2 then (if is_leap_year year then 29 else 28)
    else (if (month == 4) || (month == 6) || (month == 9) || (month == 11) then 30 else 31)

-- The calendar has the day, in a year that volumes can hold (profile): the last that RT-11's word can say is 2099.
abbrev pub IsDate : ℕ → ℕ → ℕ → Type 0
IsDate year month day = IsInRange 1900 2099 year × IsInRange 1 12 month × IsInRange 1 (days_in_month year month) day

-- the same as a test
abbrev pub is_date : ℕ → ℕ → ℕ → Bool
is_date year month day =
    is_in_range 1900 2099 year && (is_in_range 1 12 month && is_in_range 1 (days_in_month year month) day)

-- a day has 24 hours of 60 minutes of 60 seconds
abbrev pub IsTime : ℕ → ℕ → ℕ → Type 0
IsTime hour minute second = IsInRange 0 23 hour × IsInRange 0 59 minute × IsInRange 0 59 second

-- the same as a test
abbrev pub is_time : ℕ → ℕ → ℕ → Bool
is_time hour minute second = is_in_range 0 23 hour && (is_in_range 0 59 minute && is_in_range 0 59 second)

-- what is known of a day and of a time that are valid
abbrev pub IsDay : Day → Type 0
IsDay d = IsDate d.year d.month d.day

abbrev pub IsClock : Clock → Type 0
IsClock t = IsTime t.hour t.minute t.second
