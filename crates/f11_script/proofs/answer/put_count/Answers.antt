use Rattle.f11_script.proofs.PieceLemmas.{Puts-fewer, Puts-then}
use Rattle.std.proofs.Common.{arith}
use Rattle.f11_script.proofs.answer.put_count.Goals as goal

pub returns : goal.returns
returns c =
    Puts-fewer (omega arith) (Puts-then c.put.ensures (Puts-then c.put-2.ensures (Puts-then c.put-3.ensures (c.put_number.ensures))))
