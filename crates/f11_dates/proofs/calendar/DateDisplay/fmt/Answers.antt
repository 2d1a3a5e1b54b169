use Rattle.std.proofs.Common.{subst, ◌∙◌, ap}
use Rattle.std.specs.Fmt.{HasWritten}
use Rattle.f11_dates.specs.Calendar.{Day}
use Rattle.f11_dates.specs.Text.{day_text}
use Rattle.f11_dates.proofs.TextLemmas.{day_written}
use Rattle.f11_dates.proofs.calendar.DateDisplay.fmt.Goals as goal

pub returns-clause-writes : goal.returns-clause-writes
returns-clause-writes g c plain ok =
    let d : Day = record { year = c.self.inside.year; month = c.self.inside.month; day = c.self.inside.day } in
    subst (λ text. HasWritten g.W.Write.write_str_gives c.args.f.now text c.write.new.self)
    (day_written d c.self.invariant ∙ ap day_text c.self.view_is)
    (rw (c.laid_out.ensures, c.laid_out-2.ensures) at c.write.ensures.writes plain ok)
