use Rattle.f11_script.proofs.PieceLemmas.{Puts-then}
use Rattle.f11_script.proofs.answer.put_uic.Goals as goal

pub returns : goal.returns
returns c =
    rw (c.from.ensures, c.from-2.ensures) at
    (Puts-then c.put.ensures
    (Puts-then c.put_octal.ensures (Puts-then c.put-2.ensures (Puts-then c.put_octal-2.ensures (c.put-3.ensures)))))
