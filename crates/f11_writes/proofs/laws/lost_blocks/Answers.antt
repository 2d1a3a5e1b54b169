use Rattle.f11_writes.proofs.LostLemmas.{lost-looked, lost-then, noted-lost, orphan-lost}
use Rattle.f11_writes.proofs.laws.lost_blocks.Goals as goal

pub returns : goal.returns
returns c = record { noted = noted-lost; orphans = orphan-lost; looked = lost-looked; kept = lost-then }
