use Rattle.std.proofs.Common.{arith}
use Rattle.f11_header.proofs.FieldLemmas.{keeps-with_attributes, header_in-with_attributes}
use Rattle.f11_header.proofs.header_mut.HeaderMut.set_attributes.Goals as goal

pub returns-clause-header : goal.returns-clause-header
returns-clause-header c =
    rw c.put_bytes.ensures (keeps-with_attributes c.args.self.now.block.now c.args.attributes.now (omega arith) c.told-attributes)

pub returns-clause-fields : goal.returns-clause-fields
returns-clause-fields c =
    rw c.put_bytes.ensures (header_in-with_attributes c.args.self.now.block.now c.args.attributes.now (omega arith) c.told-attributes)
