use Rattle.f11_index.proofs.BitLemmas.{SetsBit-others}
use Rattle.f11_index.proofs.ForLemmas.{IsFor-bit}
use Rattle.f11_index.proofs.LawLemmas.{bit_write}
use Rattle.f11_index.proofs.laws.bit_writes.Goals as goal

pub returns : goal.returns
returns c =
    record { keeps = λ image home value n after good. bit_write image home good value n after; others = SetsBit-others; stays = IsFor-bit }
