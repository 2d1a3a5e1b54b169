-- Dates as RT-11 keeps them, in a word (RT-11 Volume and File Formats Manual, directory entries).
use Rattle.std.specs.Prelude.{◌≡◌, ℕ, ◌+◌, ◌-◌, ◌*◌, ◌/◌, ◌%◌, ◌≤◌, ◌==◌, Option, Some, None, if◌then◌else◌}
use Rattle.f11_dates.specs.Calendar.{Day, IsDay, is_date}
use Rattle.f11_dates.specs.Dated.{held, Holds}
use Rattle.f11_dates.specs.declared.dated.Dated.{Dated}

-- Bits 0 to 4 are the years behind 1972 within an age of 32 years, 5 to 9 the day, 10 to 13 the month, 14 and 15 the age.
abbrev pub day_word : Day → ℕ
day_word d = (d.year - 1972) % 32 + 32 * d.day + 1024 * d.month + 16384 * ((d.year - 1972) / 32)

-- a word spells a day that the calendar has, from 1972 on, and that is written so
abbrev pub WordSpells : ℕ → Day → Type 0
WordSpells word d = IsDay d × (1972 ≤ d.year) × (day_word d ≡ word)

-- what a word holds: no date where it is 0, the one that it spells, or what is none
abbrev pub HoldsWord : ℕ → Dated Day → Type 0
HoldsWord word answer = Holds (word ≡ 0) (WordSpells word) answer

-- the numbers in the bits of year and age, month and day, be they a date or not
abbrev pub day_in_word : ℕ → Day
day_in_word word = record {
  year = 1972 + word % 32 + 32 * (word / 16384);
  month = word / 1024 % 16;
  day = word / 32 % 32;
}

-- they are one where the calendar has it
unfoldable pub word_spelled : ℕ → Option Day
word_spelled word =
    let d = day_in_word word in
    if is_date d.year d.month d.day then Some d else None

-- what a word holds, as a function of it
abbrev pub word_held : ℕ → Dated Day
word_held word = held (word == 0) (word_spelled word)
