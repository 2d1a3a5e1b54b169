use Rattle.std.proofs.Common.{rules, arith}
use Rattle.f11_header.proofs.FieldLemmas.{keeps-with_owner, header_in-with_owner}
use Rattle.f11_header.proofs.header_mut.HeaderMut.set_owner.Goals as goal

pub returns-clause-header : goal.returns-clause-header
returns-clause-header c = rw (c.write_word.ensures, c.owner_word.ensures) (keeps-with_owner c.args.self.now.block.now c.args.owner)

pub returns-clause-fields : goal.returns-clause-fields
returns-clause-fields c =
    rw (c.write_word.ensures, c.owner_word.ensures)
    (header_in-with_owner c.args.self.now.block.now c.args.owner (omega arith) (search rules))
