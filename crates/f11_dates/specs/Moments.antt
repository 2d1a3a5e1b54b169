-- A date with its time, where there is one, as Files-11 keeps both: the time behind the date.
use Rattle.std.specs.Prelude.{ℕ, List, ◌++◌, take, drop, replicate, Some, None, IfSome}
use Rattle.std.specs.Option.{option_map_or}
use Rattle.f11_dates.specs.Calendar.{Day, Clock, IsDay, IsClock}
use Rattle.f11_dates.specs.Files11.{day_bytes, clock_bytes, day_held, clock_held}
use Rattle.f11_dates.specs.declared.dated.Dated.{Dated}
use Rattle.f11_dates.specs.declared.dated.Dated.TheVariants.{Unset, Set, Invalid}
use Rattle.f11_dates.specs.declared.moment.Moment.{Moment}

-- A date without a time is a date; neither is nothing; a time alone, and what is no date or no time, is no date.
abbrev pub moment_of : Dated Day → Dated Clock → Dated Moment
moment_of Unset Unset = Unset
moment_of Unset (Set t) = Invalid
moment_of Unset Invalid = Invalid
moment_of (Set d) Unset = Set (record { date = d; time = None })
moment_of (Set d) (Set t) = Set (record { date = d; time = Some t })
moment_of (Set d) Invalid = Invalid
moment_of Invalid t = Invalid

-- 13 bytes hold a date in the first seven and its time in the others
abbrev pub moment_held : List ℕ → Dated Moment
moment_held bytes = moment_of (day_held (take 7 bytes)) (clock_held (drop 7 bytes))

-- the date, and behind it the time or NULs
abbrev pub moment_bytes : Moment → List ℕ
moment_bytes m = day_bytes m.date ++ option_map_or clock_bytes m.time (replicate 6 0)

-- what is known of a moment's date and time
abbrev pub IsMoment : Moment → Type 0
IsMoment m = IsDay m.date × IfSome m.time IsClock
