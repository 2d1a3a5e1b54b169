use Rattle.f11_words.proofs.MetLemmas.{met-reads}
use Rattle.f11_words.proofs.reading.words_in.Goals as goal

pub returns-clause-asks : goal.returns-clause-asks
returns-clause-asks c line is =
    met-reads c.args.matches.now c.in_ok-name.name.now c.in_ok-name.ensures.name c.in_ok-named.field-0 c.in_ok-named.ensures.named
    c.in_ok-name.given.now c.in_ok-name.ensures.rows c.words_of.result c.words_of.ensures line is
