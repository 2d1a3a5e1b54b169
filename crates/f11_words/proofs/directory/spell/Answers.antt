use Rattle.std.proofs.Common.{rules}
use Rattle.std.proofs.lemmas.Slice.{overwrites}
use Rattle.f11_words.proofs.directory.spell.Goals as goal

pub returns-else-contains-clause-text : goal.returns-else-contains-clause-text
returns-else-contains-clause-text c = search (rules, overwrites)
