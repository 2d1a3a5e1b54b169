use Rattle.f11_script.proofs.PieceLemmas.{Puts-then}
use Rattle.f11_script.proofs.answer.put_attr.Goals as goal

pub returns : goal.returns
returns c = Puts-then c.put_owner.ensures (Puts-then c.put_name.ensures (c.put_user_attr.ensures))
