use Rattle.std.proofs.Common.{arith}
use Rattle.f11_header.proofs.FieldLemmas.{keeps-with_check_word, sum-with_check_word, header_in-with_check_word}
use Rattle.f11_header.proofs.header_mut.HeaderMut.seal.Goals as goal

pub returns-clause-sealed : goal.returns-clause-sealed
returns-clause-sealed c =
    rw (c.write_word.ensures, c.word_sum-sum.ensures) record {
      keeps = keeps-with_check_word c.args.self.now.block.now;
      sum = sum-with_check_word c.args.self.now.block.now (omega arith);
    }

pub returns-clause-fields : goal.returns-clause-fields
returns-clause-fields c = rw (c.write_word.ensures, c.word_sum-sum.ensures) (header_in-with_check_word c.args.self.now.block.now)
