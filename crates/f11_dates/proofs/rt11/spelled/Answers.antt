use Rattle.f11_dates.specs.Rt11.{word_spelled}
use Rattle.f11_dates.proofs.CalendarLemmas.{is_date-complete, is_date-sound}
use Rattle.f11_dates.proofs.HeldLemmas.{found_if}
use Rattle.f11_dates.proofs.rt11.spelled.Goals as goal

pub returns : goal.returns
unfolding word_spelled
returns c = found_if _ c.new.result _ _ (is_date-complete _ _ _) (is_date-sound _ _ _) c.new.ensures
