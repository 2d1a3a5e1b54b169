use Rattle.f11_index.proofs.ForLemmas.{IsFor-header}
use Rattle.f11_index.proofs.LawLemmas.{header_write}
use Rattle.f11_index.proofs.laws.header_writes.Goals as goal

pub returns : goal.returns
returns c = record { keeps = λ image home n block good. header_write image home good n block; stays = IsFor-header }
