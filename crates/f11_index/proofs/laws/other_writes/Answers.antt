use Rattle.f11_index.proofs.ForLemmas.{IsFor-other}
use Rattle.f11_index.proofs.LawLemmas.{other_images, other_write}
use Rattle.f11_index.proofs.laws.other_writes.Goals as goal

pub returns : goal.returns
returns c = record {
  images = λ old new home good. other_images old home good new;
  keeps = λ image home lbn block good. other_write image home good lbn block;
  stays = IsFor-other;
}
