use Rattle.f11_script.proofs.PieceLemmas.{Puts-then}
use Rattle.f11_script.proofs.answer.put_owner.Goals as goal

pub returns : goal.returns
returns c =
    Puts-then c.put.ensures
    (Puts-then c.put_uic.ensures
    (Puts-then c.put-2.ensures
    (Puts-then c.put_octal.ensures (Puts-then c.put-3.ensures (Puts-then c.put_octal-2.ensures (c.put-4.ensures))))))
