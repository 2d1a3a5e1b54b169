use Rattle.f11_script.proofs.PieceLemmas.{Puts-then}
use Rattle.f11_script.proofs.answer.put_file.Goals as goal

pub returns : goal.returns
returns c = Puts-then c.put.ensures (c.put_id.ensures)
