-- Dates and times as they are shown: `1979-01-12 09:53:12`.
use Rattle.std.specs.Prelude.{ℕ, ◌+◌, ◌/◌, ◌%◌, List, [], ◌∷◌, ◌++◌}
use Rattle.std.specs.Option.{option_map_or}
use Rattle.f11_dates.specs.Calendar.{Day, Clock}
use Rattle.f11_dates.specs.declared.moment.Moment.{Moment}

-- a number below 100 in two digits; `0` is 48 in ASCII
abbrev pub two_digits : ℕ → List ℕ
two_digits n = (48 + n / 10) ∷ (48 + n % 10) ∷ []

-- year, month and day, in four digits and twice two, with hyphens (45) between them
abbrev pub day_text : Day → List ℕ
day_text d = two_digits (d.year / 100) ++ (two_digits (d.year % 100) ++ (45 ∷ two_digits d.month ++ (45 ∷ two_digits d.day)))

-- hour, minute and second, twice two digits each, with colons (58) between them
abbrev pub clock_text : Clock → List ℕ
clock_text t = two_digits t.hour ++ (58 ∷ two_digits t.minute ++ (58 ∷ two_digits t.second))

-- the date, and behind a space (32) the time, where there is one
abbrev pub moment_text : Moment → List ℕ
moment_text m = day_text m.date ++ option_map_or (λ t. 32 ∷ clock_text t) m.time []
