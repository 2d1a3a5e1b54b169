use Rattle.std.proofs.Common.{◌∙◌}
use Rattle.f11_patterns.proofs.NamingLemmas.{last-made}
use Rattle.f11_patterns.proofs.naming.last_version.Goals as goal

pub returns : goal.returns
returns c =
    c.unwrap_or.ensures
    ∙ last-made c.words.result c.args.name c.from_words.result c.words.ensures.value c.words.ensures.name c.from_words.ensures.name
