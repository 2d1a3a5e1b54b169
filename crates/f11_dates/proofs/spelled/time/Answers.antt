use Rattle.std.proofs.Common.{sym}
use Rattle.f11_dates.proofs.ClockLemmas.{clock_bytes-clock_in, clock_digits, clock_spelled-found, clock_spelled-none}
use Rattle.f11_dates.proofs.spelled.time.Goals as goal

pub returns-in_err-number : goal.returns-in_err-number
returns-in_err-number c =
    rw c.from_residual.ensures (sym (clock_spelled-none c.args.bytes.now (λ t spells. c.in_err-number.ensures (clock_digits _ t spells).0)))

pub returns-in_err-number-2 : goal.returns-in_err-number-2
returns-in_err-number-2 c =
    rw c.from_residual-in_err-number-2.ensures
    (sym (clock_spelled-none c.args.bytes.now (λ t spells. c.in_err-number-2.ensures (clock_digits _ t spells).1)))

pub returns-in_err-number-3 : goal.returns-in_err-number-3
returns-in_err-number-3 c =
    rw c.from_residual-in_err-number-3.ensures
    (sym (clock_spelled-none c.args.bytes.now (λ t spells. c.in_err-number-3.ensures (clock_digits _ t spells).2)))

pub returns : goal.returns
returns c =
    clock_spelled-found c.args.bytes.now c.new.result
    (clock_bytes-clock_in c.args.bytes.now c.told-bytes c.in_ok-number.ensures.0 c.in_ok-number-2.ensures.0 c.in_ok-number-3.ensures.0)
    (rw (c.in_ok-number.ensures.1, c.in_ok-number-2.ensures.1, c.in_ok-number-3.ensures.1) at c.new.ensures)
