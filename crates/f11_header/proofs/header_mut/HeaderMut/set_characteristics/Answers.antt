use Rattle.std.proofs.Common.{arith}
use Rattle.f11_header.proofs.FieldLemmas.{keeps-with_characteristics, header_in-with_characteristics}
use Rattle.f11_header.proofs.header_mut.HeaderMut.set_characteristics.Goals as goal

pub returns-clause-header : goal.returns-clause-header
returns-clause-header c = rw c.write_word.ensures (keeps-with_characteristics c.args.self.now.block.now c.args.characteristics)

pub returns-clause-fields : goal.returns-clause-fields
returns-clause-fields c =
    rw c.write_word.ensures (header_in-with_characteristics c.args.self.now.block.now c.args.characteristics (omega arith))
