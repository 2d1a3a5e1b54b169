use Rattle.std.proofs.Common.{arith}
use Rattle.f11_header.proofs.FieldLemmas.{header_in-with_id}
use Rattle.f11_header.proofs.header_mut.HeaderMut.set_id.Goals as goal

pub returns-clause-fields : goal.returns-clause-fields
returns-clause-fields c = λ holds some_number some_sequence.
    rw (c.write_word-2.ensures, c.write_word.ensures)
    (header_in-with_id c.args.self.now.block.now c.args.id (omega arith) holds some_number some_sequence)
