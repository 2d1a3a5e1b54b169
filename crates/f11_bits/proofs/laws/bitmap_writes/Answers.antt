use Rattle.f11_bits.proofs.ReplaceLemmas.{replaces-write}
use Rattle.f11_bits.proofs.laws.bitmap_writes.Goals as goal

pub returns : goal.returns
returns c = record { replaces = replaces-write }
