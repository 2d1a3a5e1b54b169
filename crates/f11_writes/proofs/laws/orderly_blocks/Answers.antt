use Rattle.f11_writes.proofs.OrderLemmas.{file-orderly, lost-orderly, bitmap-orderly}
use Rattle.f11_writes.proofs.laws.orderly_blocks.Goals as goal

pub returns : goal.returns
returns c = record {
  file = λ image home f vbn lbn block is. file-orderly image home is f vbn lbn block;
  lost = λ image home lbn block is. lost-orderly image home is lbn block;
  bitmap = λ old new home is. bitmap-orderly old home is new;
}
