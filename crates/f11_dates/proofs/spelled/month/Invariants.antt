use Rattle.std.proofs.Common.{◌≢◌, ℕ, ◌<◌, ◌≤◌}
use Rattle.f11_dates.specs.Files11.{month_name}
use Rattle.f11_dates.proofs.spelled.month.Given as goal

abbrev pub invariant-loop-month : goal.invariant-loop-month
invariant-loop-month l = (m : ℕ) → 1 ≤ m → m < l.month → month_name m ≢ l.letters
