use Rattle.std.proofs.Common.{◌++◌, ap, sym, ◌∙◌}
use Rattle.f11_dates.proofs.Places.{all_listed, listed}
use Rattle.f11_dates.proofs.writing.joined.Goals as goal

pub returns : goal.returns
returns c =
    sym (ap (λ front. front ++ c.args.time.now) (all_listed c.args.date.now 7 c.told-date)
    ∙ ap (λ back. listed 0 7 c.args.date.now ++ back) (all_listed c.args.time.now 6 c.told-time))
