use Rattle.f11_vfy.proofs.Surveying.Words.{word-shown}
use Rattle.f11_vfy.proofs.survey.tally.Tally.mark_word.Goals as goal

pub returns-clause-shows : goal.returns-clause-shows
returns-clause-shows c = λ f s.
    word-shown c.args.self.now _ c.args.mask c.word-before.result c.args.i f s c.word-before.ensures c.add_word-2.ensures.adds
    c.add_word.ensures.adds c.add_word-2.ensures.limit c.requires.inside
