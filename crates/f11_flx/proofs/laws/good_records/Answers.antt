use Rattle.f11_flx.proofs.Texts.RecordLemmas.{all_are_good}
use Rattle.f11_flx.proofs.laws.good_records.Goals as goal

pub returns : goal.returns
returns c = record { all = all_are_good }
