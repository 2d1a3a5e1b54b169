use Rattle.f11_patterns.proofs.NextLemmas.{next-made, none-made}
use Rattle.f11_patterns.proofs.next.next_version.Goals as goal

pub returns-clause-next : goal.returns-clause-next
returns-clause-next c =
    next-made c.args.names.now c.args.name.now c.top_version.result c.top_version.ensures c.words.result c.from_words.result
    c.words.ensures.value c.from_words.ensures.name

pub returns-clause-none : goal.returns-clause-none
returns-clause-none c =
    none-made c.args.names.now c.args.name.now c.top_version.result c.top_version.ensures c.words.result c.from_words.result
    c.words.ensures.value c.words.ensures.name c.from_words.ensures.name
