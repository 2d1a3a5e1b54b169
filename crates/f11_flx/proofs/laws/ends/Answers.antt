use Rattle.f11_flx.proofs.Texts.EndLemmas.{text_ends, text_is_refused, records_end}
use Rattle.f11_flx.proofs.laws.ends.Goals as goal

pub returns : goal.returns
returns c = record { text = text_ends; refused = text_is_refused; records = records_end }
