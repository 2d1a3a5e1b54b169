use Rattle.std.proofs.Common.{arith}
use Rattle.f11_vfy.specs.Surveying.Bits.{has}
use Rattle.f11_vfy.proofs.Surveying.Bits.{inserted}
use Rattle.f11_vfy.proofs.survey.bits.Bits.insert.Goals as goal

pub returns-clause-adds : goal.returns-clause-adds
unfolding has
returns-clause-adds c =
    λ j. inserted c.args.self.now.words.items c.args.k j c.index.result.now
    (omega (arith, c.args.self.now.words.ok.0, c.args.self.now.room)) c.index.ensures
