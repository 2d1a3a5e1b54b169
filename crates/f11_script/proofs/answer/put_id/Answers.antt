use Rattle.f11_script.proofs.PieceLemmas.{Puts-then}
use Rattle.f11_script.proofs.answer.put_id.Goals as goal

pub returns : goal.returns
returns c =
    rw (c.from.ensures, c.from-2.ensures) at
    (Puts-then c.put_number.ensures (Puts-then c.put.ensures (Puts-then c.put_number-2.ensures (c.put_volume.ensures))))
