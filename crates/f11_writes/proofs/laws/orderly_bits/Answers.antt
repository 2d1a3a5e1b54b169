use Rattle.f11_writes.proofs.OrderLemmas.{bit-set-orderly, bit-clear-orderly}
use Rattle.f11_writes.proofs.laws.orderly_bits.Goals as goal

pub returns : goal.returns
returns c = record {
  set = λ image home n after is. bit-set-orderly image home is n after;
  clear = λ image home n after is. bit-clear-orderly image home is n after;
}
