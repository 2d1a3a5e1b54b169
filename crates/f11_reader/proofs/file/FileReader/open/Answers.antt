use Rattle.std.proofs.Common.{sym, ◌∙◌}
use Rattle.std.proofs.lemmas.Bool.{both_ways}
use Rattle.f11_reader.proofs.ReadLemmas.{finds-none, opens}
use Rattle.f11_reader.proofs.file.FileReader.open.Goals as goal

pub returns-then-not-is_slot-clause-none : goal.returns-then-not-is_slot-clause-none
returns-then-not-is_slot-clause-none g c =
    finds-none _ _ _ (λ is. both_ways c.is_slot.result c.if-not-is_slot.true (c.is_slot.ensures.1 is))

pub returns-clause-opens : goal.returns-clause-opens
returns-clause-opens g c =
    opens _ _ _ _ _ _ c.begin.ensures.number c.begin.ensures.header c.begin.ensures.place
    (c.is_slot.ensures.0 c.if-not-is_slot.false).0 (sym c.sequence.ensures ∙ c.if-sequence-id.false) c.in-Ok.ensures.reads
