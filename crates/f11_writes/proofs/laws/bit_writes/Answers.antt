use Rattle.f11_writes.proofs.BitLemmas.{set-keeps, clear-keeps}
use Rattle.f11_writes.proofs.laws.bit_writes.Goals as goal

pub returns : goal.returns
returns c = record { set = set-keeps; clear = clear-keeps }
