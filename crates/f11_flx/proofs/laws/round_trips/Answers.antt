use Rattle.f11_flx.proofs.Texts.LineLemmas.{lines_come_back}
use Rattle.f11_flx.proofs.Texts.RecordLemmas.{records_come_back}
use Rattle.f11_flx.proofs.laws.round_trips.Goals as goal

pub returns : goal.returns
returns c = record { lines = lines_come_back; records = records_come_back }
