use Rattle.f11_header.proofs.HeaderFacts.{ident_within}
use Rattle.f11_catalog.proofs.FactsLemmas.{first-segment}
use Rattle.f11_catalog.proofs.facts.FileFacts.of.Goals as goal

pub ident-requires-clause-first : goal.ident-requires-clause-first
ident-requires-clause-first c = rw c.new-header.ensures (first-segment c.args.header.now c.requires.first)

pub ident-requires-clause-within : goal.ident-requires-clause-within
ident-requires-clause-within c =
    rw c.new-header.ensures (ident_within c.args.header.now c.requires.header (first-segment c.args.header.now c.requires.first))
