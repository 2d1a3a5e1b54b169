use Rattle.f11_flx.proofs.Texts.LineLemmas.{lines_of-line, lines_of-last}
use Rattle.f11_flx.proofs.laws.lines.Goals as goal

pub returns : goal.returns
returns c = record { ended = lines_of-line; last = lines_of-last }
