use Rattle.f11_writes.proofs.NameLemmas.{part-unreferenced, unreferenced-stay, other-unreferenced, unentered-unreferenced}
use Rattle.f11_writes.proofs.laws.unreferenced_blocks.Goals as goal

pub returns : goal.returns
returns c = record { part = part-unreferenced; stay = unreferenced-stay; others = other-unreferenced; unentered = unentered-unreferenced }
