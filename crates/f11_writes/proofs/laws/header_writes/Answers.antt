use Rattle.f11_writes.proofs.HeaderLemmas.{unused-keeps, kill-keeps, rewrite-keeps, file-rewrite-keeps}
use Rattle.f11_writes.proofs.laws.header_writes.Goals as goal

pub returns : goal.returns
returns c = record {
  unused = λ image home n block is. unused-keeps image home is n block;
  killed = λ image home n block is. kill-keeps image home is n block;
  any = λ image home n block is. rewrite-keeps image home is n block;
  file = λ image home f n block is. file-rewrite-keeps image home is n block f;
}
