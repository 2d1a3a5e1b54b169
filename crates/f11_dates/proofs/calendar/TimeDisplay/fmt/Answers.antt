use Rattle.std.proofs.Common.{subst, ◌∙◌, ap}
use Rattle.std.specs.Fmt.{HasWritten}
use Rattle.f11_dates.specs.Calendar.{Clock}
use Rattle.f11_dates.specs.Text.{clock_text}
use Rattle.f11_dates.proofs.TextLemmas.{clock_written}
use Rattle.f11_dates.proofs.calendar.TimeDisplay.fmt.Goals as goal

pub returns-clause-writes : goal.returns-clause-writes
returns-clause-writes g c plain ok =
    let t : Clock = record { hour = c.self.inside.hour; minute = c.self.inside.minute; second = c.self.inside.second } in
    subst (λ text. HasWritten g.W.Write.write_str_gives c.args.f.now text c.write.new.self)
    (clock_written t c.self.invariant ∙ ap clock_text c.self.view_is)
    (rw (c.laid_out.ensures, c.laid_out-2.ensures, c.laid_out-3.ensures) at c.write.ensures.writes plain ok)
