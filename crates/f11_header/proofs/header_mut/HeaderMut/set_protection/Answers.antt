use Rattle.std.proofs.Common.{arith}
use Rattle.f11_header.proofs.FieldLemmas.{keeps-with_protection, header_in-with_protection}
use Rattle.f11_header.proofs.header_mut.HeaderMut.set_protection.Goals as goal

pub returns-clause-header : goal.returns-clause-header
returns-clause-header c = rw c.write_word.ensures (keeps-with_protection c.args.self.now.block.now c.args.protection)

pub returns-clause-fields : goal.returns-clause-fields
returns-clause-fields c = rw c.write_word.ensures (header_in-with_protection c.args.self.now.block.now c.args.protection (omega arith))
