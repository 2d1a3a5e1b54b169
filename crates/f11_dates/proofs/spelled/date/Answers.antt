use Rattle.std.proofs.Common.{sym}
use Rattle.f11_dates.proofs.DayLemmas.{day_digits, day_spelled-letters, day_spelled-none, with_zero-seven}
use Rattle.f11_dates.proofs.spelled.date.Goals as goal

pub returns-in_err-year : goal.returns-in_err-year
returns-in_err-year c =
    rw (c.from_residual.ensures, with_zero-seven c.args.bytes.now c.told-bytes)
    (sym (day_spelled-none _ (λ d is spells. c.in_err-year.ensures (day_digits _ d is spells).2)))

pub returns-in_err-month : goal.returns-in_err-month
returns-in_err-month c =
    rw (c.from_residual-in_err-month.ensures, with_zero-seven c.args.bytes.now c.told-bytes)
    (sym (day_spelled-none _ (λ d is spells. c.in_err-month.ensures d.month is.1 (day_digits _ d is spells).1)))

pub returns-in_err-number : goal.returns-in_err-number
returns-in_err-number c =
    rw (c.from_residual-in_err-number.ensures, with_zero-seven c.args.bytes.now c.told-bytes, ← c.zero_for_space-ten.ensures)
    (sym (day_spelled-none _ (λ d is spells. c.in_err-number.ensures (day_digits _ d is spells).0)))

pub returns : goal.returns
returns c =
    rw (with_zero-seven c.args.bytes.now c.told-bytes, ← c.zero_for_space-ten.ensures)
    (day_spelled-letters _ _ _ _ _ _ _ _ c.new.result c.in_ok-number.ensures.0 c.in_ok-month.ensures c.in_ok-year.ensures.0
    (rw (c.in_ok-number.ensures.1, c.in_ok-year.ensures.1) at c.new.ensures))
