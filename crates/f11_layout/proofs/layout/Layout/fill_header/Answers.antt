use Rattle.f11_layout.proofs.HeaderLemmas.{fresh-named}
use Rattle.f11_layout.proofs.layout.Layout.fill_header.Goals as goal

pub name_blocks-requires-clause-none : goal.name_blocks-requires-clause-none
name_blocks-requires-clause-none c = c.fill_fields.ensures.none

pub returns : goal.returns
returns c = fresh-named _ _ _ _ c.fill_fields.ensures (rw c.own_file-file.ensures.file at c.name_blocks.ensures)
