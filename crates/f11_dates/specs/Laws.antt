-- Laws of dates, which show that their definitions say what is meant, and worked values.
use Rattle.std.specs.Prelude.{◌≡◌, ◌≤◌, ℕ, List, take, drop, replicate, codes, Some, IsTrue, MatchOption}
use Rattle.f11_dates.specs.Calendar.{Day, Clock, IsDay, IsClock}
use Rattle.f11_dates.specs.Files11.{day_bytes, clock_bytes, day_held, clock_held, with_zero, is_blank, HoldsDay, HoldsClock}
use Rattle.f11_dates.specs.Moments.{IsMoment, moment_bytes, moment_held}
use Rattle.f11_dates.specs.Rt11.{day_word, word_held, HoldsWord}
use Rattle.f11_dates.specs.Text.{moment_text}
use Rattle.f11_dates.specs.declared.dated.Dated.{Dated}
use Rattle.f11_dates.specs.declared.dated.Dated.TheVariants.{Unset, Set, Invalid}
use Rattle.f11_dates.specs.declared.moment.Moment.{Moment}

-- what is written reads back as the same: a date, a time, both together, and from 1972 on a date in a word
abbrev pub DateBack : Type 0
DateBack = (d : Day) → IsDay d → day_held (day_bytes d) ≡ Set d

abbrev pub TimeBack : Type 0
TimeBack = (t : Clock) → IsClock t → clock_held (clock_bytes t) ≡ Set t

abbrev pub MomentBack : Type 0
MomentBack = (m : Moment) → IsMoment m → moment_held (moment_bytes m) ≡ Set m

abbrev pub WordBack : Type 0
WordBack = (d : Day) → IsDay d → 1972 ≤ d.year → word_held (day_word d) ≡ Set d

-- What is read and written again is the same, but for a space at the front, which becomes `0`.
abbrev pub DateSame : Type 0
DateSame = (bytes : List ℕ) (d : Day) → day_held bytes ≡ Set d → day_bytes d ≡ with_zero bytes

abbrev pub TimeSame : Type 0
TimeSame = (bytes : List ℕ) (t : Clock) → clock_held bytes ≡ Set t → clock_bytes t ≡ bytes

abbrev pub WordSame : Type 0
WordSame = (word : ℕ) (d : Day) → word_held word ≡ Set d → day_word d ≡ word

-- So are the date and the time of what is read from both; where there is no time, none is there.
abbrev pub MomentSame : Type 0
MomentSame =
    (bytes : List ℕ) (m : Moment) → moment_held bytes ≡ Set m
    → (day_bytes m.date ≡ with_zero (take 7 bytes))
    × MatchOption m.time (IsTrue (is_blank (drop 7 bytes))) (λ t. clock_bytes t ≡ drop 7 bytes)

-- there is just one answer that is right
abbrev pub OneDate : Type 0
OneDate = (bytes : List ℕ) (answer : Dated Day) → HoldsDay bytes answer → answer ≡ day_held bytes

abbrev pub OneTime : Type 0
OneTime = (bytes : List ℕ) (answer : Dated Clock) → HoldsClock bytes answer → answer ≡ clock_held bytes

abbrev pub OneWord : Type 0
OneWord = (word : ℕ) (answer : Dated Day) → HoldsWord word answer → answer ≡ word_held word

-- a day, by year, month and day
abbrev day : ℕ → ℕ → ℕ → Day
day y m d = record { year = y; month = m; day = d }

-- 12 January 1979, twelve seconds past 9:53
abbrev moment : Moment
moment = record { date = day 1979 1 12; time = Some (record { hour = 9; minute = 53; second = 12 }) }

abbrev pub MomentWorks : Type 0
MomentWorks = (moment_held (codes "12JAN79095312") ≡ Set moment) × (moment_text moment ≡ codes "1979-01-12 09:53:12")

-- years from 2000 on, a day that begins with a space, and no date
abbrev pub YearsWork : Type 0
YearsWork =
    (day_held (codes " 1MAR:0") ≡ Set (day 2000 3 1))
    × (day_held (codes "31DEC;9") ≡ Set (day 2019 12 31))
    × (day_held (codes "31DECC9") ≡ Set (day 2099 12 31))
    × (day_held (codes "31DECD0") ≡ Invalid)
    × (day_held (replicate 7 32) ≡ Unset)

-- 1900 and 1979 are no leap years, 2000 is one
abbrev pub LeapDaysWork : Type 0
LeapDaysWork =
    (day_held (codes "29FEB00") ≡ Invalid)
    × (day_held (codes "29FEB79") ≡ Invalid)
    × (day_held (codes "29FEB:0") ≡ Set (day 2000 2 29))

-- words of 23 April 1981, and of 1 January at the beginning of each age
abbrev pub WordsWork : Type 0
WordsWork =
    (word_held 0o11351 ≡ Set (day 1981 4 23))
    × (word_held 0o2040 ≡ Set (day 1972 1 1))
    × (word_held 0o42040 ≡ Set (day 2004 1 1))
    × (word_held 0o102040 ≡ Set (day 2036 1 1))
    × (word_held 0o142040 ≡ Set (day 2068 1 1))

-- no date is kept; 30 February, 1 January's day in month 0 and in month 13, and a day 0 are none
abbrev pub WordsRefused : Type 0
WordsRefused =
    (word_held 0 ≡ Unset)
    × (word_held 0o5700 ≡ Invalid)
    × (word_held 0o40 ≡ Invalid)
    × (word_held 0o32040 ≡ Invalid)
    × (word_held 0o2000 ≡ Invalid)
