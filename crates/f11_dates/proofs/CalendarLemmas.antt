-- What is known of a day of the calendar.
use Rattle.std.proofs.Common.{◌≡◌, ℕ, ◌≤◌, ◌==◌, ◌||◌, Bool, true, false, arith, if◌then◌else◌}
use Rattle.std.proofs.lemmas.Bool.Decides.{nat_tests}
use Rattle.f11_dates.specs.Calendar.{Day, Clock, IsDay, IsDate, IsTime, is_date, is_time, is_leap_year, days_in_month}

if_at_most : (test : Bool) (a b most : ℕ) → a ≤ most → b ≤ most → (if test then a else b) ≤ most
if_at_most true a b most h k = h
if_at_most false a b most h k = k

-- no month has more than 31 days
pub days_few : (year month : ℕ) → days_in_month year month ≤ 31
days_few year month =
    if_at_most (month == 2) _ _ 31 (if_at_most (is_leap_year year) 29 28 31 (omega arith) (omega arith))
    (if_at_most ((month == 4) || (month == 6) || (month == 9) || (month == 11)) 30 31 31 (omega arith) (omega arith))

-- so the day of a month is at most 31
pub day_few : (d : Day) → IsDay d → d.day ≤ 31
day_few d is = omega (arith, is.2.1, days_few d.year d.month)

-- the test of a day, and that of a time
pub is_date-complete : (year month day : ℕ) → IsDate year month day → is_date year month day ≡ true
is_date-complete year month day is = grind (arith, nat_tests)

pub is_date-sound : (year month day : ℕ) → is_date year month day ≡ true → IsDate year month day
is_date-sound year month day is = grind (arith, nat_tests)

pub is_time-complete : (hour minute second : ℕ) → IsTime hour minute second → is_time hour minute second ≡ true
is_time-complete hour minute second is = grind (arith, nat_tests)

pub is_time-sound : (hour minute second : ℕ) → is_time hour minute second ≡ true → IsTime hour minute second
is_time-sound hour minute second is = grind (arith, nat_tests)

pub same_day : (a b : Day) → a.year ≡ b.year → a.month ≡ b.month → a.day ≡ b.day → a ≡ b
same_day a b year month day = λ i. record { year = year i; month = month i; day = day i }

pub same_clock : (a b : Clock) → a.hour ≡ b.hour → a.minute ≡ b.minute → a.second ≡ b.second → a ≡ b
same_clock a b hour minute second = λ i. record { hour = hour i; minute = minute i; second = second i }
