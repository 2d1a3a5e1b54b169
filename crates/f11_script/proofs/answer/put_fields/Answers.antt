use Rattle.f11_script.proofs.PieceLemmas.{Puts-then}
use Rattle.f11_script.proofs.answer.put_fields.Goals as goal

pub returns : goal.returns
returns c =
    rw (c.from.ensures, c.from-2.ensures, c.from-3.ensures) at
    (Puts-then c.put.ensures
    (Puts-then c.put_number.ensures
    (Puts-then c.put-2.ensures
    (Puts-then c.put_number-2.ensures
    (Puts-then c.put-3.ensures (Puts-then c.put_number-3.ensures (Puts-then c.put-4.ensures (c.put_number-4.ensures))))))))
