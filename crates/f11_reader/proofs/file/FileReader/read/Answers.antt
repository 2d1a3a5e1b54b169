use Rattle.std.proofs.Common.{refl}
use Rattle.f11_reader.proofs.ReadLemmas.{reads-on}
use Rattle.f11_reader.proofs.file.FileReader.read.Goals as goal

pub returns-clause-reads : goal.returns-clause-reads
returns-clause-reads g c = λ _.
    reads-on _ _ _ _ _ _ _ _ _ (rw c.in-Some.is at c.in_ok-lbn.ensures.comes) refl refl refl c.in_ok-read_or_zeros.ensures.reads
