use Rattle.std.proofs.Common.{subst}
use Rattle.f11_words.specs.Directory.{SpellsBare}
use Rattle.f11_words.proofs.DirectoryLemmas.{within-one}
use Rattle.f11_words.proofs.directory.read_directory.Goals as goal

pub returns-clause-every : goal.returns-clause-every
returns-clause-every c words spells =
    c.read_bare.ensures.every words
    (subst (λ t. SpellsBare t words) (within-one _ spells.inner _ spells.within c.unbracketed.ensures) spells.spells)
