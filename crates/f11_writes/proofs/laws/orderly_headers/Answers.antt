use Rattle.f11_writes.proofs.OrderLemmas.{unused-orderly, kill-orderly, rewrite-orderly, file-rewrite-orderly, names-orderly, links-orderly}
use Rattle.f11_writes.proofs.laws.orderly_headers.Goals as goal

pub returns : goal.returns
returns c = record {
  unused = λ image home n block is. unused-orderly image home is n block;
  killed = λ image home n block is. kill-orderly image home is n block;
  any = λ image home n block is. rewrite-orderly image home is n block;
  file = λ image home f n block is. file-rewrite-orderly image home is n block f;
  grows = λ image home n block lbn count is. names-orderly image home is n block lbn count;
  links = λ image home n m block lbn count is. links-orderly image home is n block m lbn count;
}
