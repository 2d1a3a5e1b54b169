use Rattle.std.proofs.Common.{ap, sym}
use Rattle.f11_dates.specs.Moments.{moment_held}
use Rattle.f11_dates.proofs.Places.{all_listed}
use Rattle.f11_dates.proofs.reading.read_moment.Goals as goal

pub returns : goal.returns
returns c =
    rw (c.moment_of.ensures, c.read_date.ensures.exact, c.read_time.ensures.exact)
    (sym (ap moment_held (all_listed c.args.bytes.now 13 c.told-bytes)))
