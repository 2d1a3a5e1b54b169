use Rattle.std.proofs.lemmas.Bool.{both_ways}
use Rattle.f11_reader.proofs.ReadLemmas.{no-slot, opens-slot}
use Rattle.f11_reader.proofs.file.FileReader.open_slot.Goals as goal

pub returns-then-not-has_slot-clause-none : goal.returns-then-not-has_slot-clause-none
returns-then-not-has_slot-clause-none g c =
    no-slot _ _ _ (λ is. both_ways c.has_slot.result c.if-not-has_slot.true (c.has_slot.ensures.1 is))

pub returns-in-Ok-clause-opens : goal.returns-in-Ok-clause-opens
returns-in-Ok-clause-opens g c =
    opens-slot _ _ _ _ _ _ c.begin.ensures.number c.begin.ensures.header c.begin.ensures.place c.in-Ok.ensures.reads
