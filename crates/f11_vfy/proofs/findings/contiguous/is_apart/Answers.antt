use Rattle.std.proofs.lemmas.Bool.{both_ways}
use Rattle.f11_vfy.proofs.Scanning.Contiguous.{apart-tested, apart-none}
use Rattle.f11_vfy.proofs.findings.contiguous.is_apart.Goals as goal

pub returns-then-is_marked_contiguous : goal.returns-then-is_marked_contiguous
returns-then-is_marked_contiguous c = λ t keeps knows.
    apart-tested t c.args.slots.now c.args.k c.requires.slot keeps c.extent_of_file.result c.is_scattered.result c.is_scattered.ensures
    (c.is_marked_contiguous.ensures.0 c.if-is_marked_contiguous.true)
    (c.extent_of_file.ensures t keeps knows)

pub returns-else-is_marked_contiguous : goal.returns-else-is_marked_contiguous
returns-else-is_marked_contiguous c = λ t keeps knows.
    apart-none t c.args.slots.now c.args.k c.requires.slot keeps c.is_marked_contiguous.result c.if-is_marked_contiguous.false
    (λ is. both_ways c.is_marked_contiguous.result c.if-is_marked_contiguous.false (c.is_marked_contiguous.ensures.1 is))
