use Rattle.f11_script.proofs.LineLemmas.{cut_line_is_alike}
use Rattle.f11_script.proofs.laws.cut_lines.Goals as goal

pub returns : goal.returns
returns c = cut_line_is_alike
