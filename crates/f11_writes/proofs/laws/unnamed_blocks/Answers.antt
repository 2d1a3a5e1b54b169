use Rattle.f11_writes.proofs.NameLemmas.{free-unnamed, taken-unreferenced, lost-unnamed}
use Rattle.f11_writes.proofs.laws.unnamed_blocks.Goals as goal

pub returns : goal.returns
returns c = record { free = free-unnamed; taken = taken-unreferenced; lost = lost-unnamed }
