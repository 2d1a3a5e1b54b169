use Rattle.f11_header.proofs.HeaderFacts.{ident_within}
use Rattle.f11_files.proofs.Finding.First.{first-segment}
use Rattle.f11_files.proofs.change.attributes.attr_of.Goals as goal

pub ident-requires-clause-first : goal.ident-requires-clause-first
ident-requires-clause-first c = rw c.new-header.ensures (first-segment c.args.f c.args.block.now c.requires)

pub ident-requires-clause-within : goal.ident-requires-clause-within
ident-requires-clause-within c =
    rw c.new-header.ensures (ident_within c.args.block.now c.requires.valid.holds (first-segment c.args.f c.args.block.now c.requires))
