use Rattle.std.proofs.Common.{Err, ap}
use Rattle.f11_reader.proofs.ReadLemmas.{none-last, none-wrong, steps-on}
use Rattle.f11_reader.proofs.file.FileReader.next_header.Goals as goal

pub returns-in-Ok-Some-clause-steps : goal.returns-in-Ok-Some-clause-steps
returns-in-Ok-Some-clause-steps g c = λ _.
    steps-on _ _ _ c.requires.reading _ _ _ _ c.begin.ensures.number c.begin.ensures.header c.begin.ensures.place
    (rw c.in-Ok-Some.field-0-is at c.in-Ok-Some.ensures.reads)

pub returns-in-Ok-None-clause-none : goal.returns-in-Ok-None-clause-none
returns-in-Ok-None-clause-none g c = λ _.
    none-last _ _ _ c.requires.reading _ _ (rw c.in-Ok-None.field-0-is at c.in-Ok-None.ensures.last)

pub returns-in-Err-Damaged-clause-none : goal.returns-in-Err-Damaged-clause-none
returns-in-Err-Damaged-clause-none g c = λ _.
    none-wrong _ _ _ c.requires.reading _ (c.in-Err-Damaged.ensures.damaged (ap Err c.in-Err-Damaged.field-0-is))
