use Rattle.std.proofs.Common.{arith}
use Rattle.f11_header.proofs.FieldLemmas.{keeps-with_ident}
use Rattle.f11_header.proofs.HeaderFacts.{ident_within}
use Rattle.f11_header.proofs.header_mut.HeaderMut.set_ident.Goals as goal

pub put_bytes-requires : goal.put_bytes-requires
put_bytes-requires c =
    omega (arith, ident_within c.args.self.now.block.now c.requires.holds c.requires.first, c.from-at.ensures, c.told-ident)

pub returns-clause-header : goal.returns-clause-header
returns-clause-header c =
    let within = ident_within c.args.self.now.block.now c.requires.holds c.requires.first in
    rw (c.put_bytes.ensures, c.from-at.ensures)
    ((keeps-with_ident c.args.self.now.block.now c.args.ident.now (omega arith) c.requires.first c.told-ident c.requires.holds).0)

pub returns-clause-fields : goal.returns-clause-fields
returns-clause-fields c =
    let within = ident_within c.args.self.now.block.now c.requires.holds c.requires.first in
    rw (c.put_bytes.ensures, c.from-at.ensures)
    ((keeps-with_ident c.args.self.now.block.now c.args.ident.now (omega arith) c.requires.first c.told-ident c.requires.holds).1)
