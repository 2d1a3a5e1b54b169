use Rattle.std.proofs.Common.{◌∙◌, arith}
use Rattle.std.proofs.lemmas.List.{get_or_default}
use Rattle.f11_vfy.specs.Surveying.Bits.{has}
use Rattle.f11_vfy.proofs.Surveying.Words.{word-put}
use Rattle.f11_vfy.proofs.survey.bits.Bits.add_word.Goals as goal

pub returns-clause-adds : goal.returns-clause-adds
unfolding has
returns-clause-adds c = λ j. word-put c.args.self.now.words.items c.args.i j c.index.result.now c.args.mask
    (omega (arith, c.args.self.now.words.ok.0, c.args.self.now.room, c.requires))
    (c.index.ensures ∙ get_or_default c.args.self.now.words.items c.args.i c.index.result.now 0
    (omega (arith, c.args.self.now.words.ok.0, c.args.self.now.room, c.requires)))
