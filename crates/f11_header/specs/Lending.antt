-- What a header's area that was lent leaves, once the loan is over.
use Rattle.std.specs.Prelude.{ℕ, List, []}
use Rattle.std.specs.Borrow.{Lends, MutBor, Fml, Array, u8}
use mir.Syntax.{named}
use Rattle.f11_header.specs.Writing.{with_ident, with_map}
use Rattle.f11_header.specs.declared.header_mut.HeaderMut.{HeaderMut}
use Rattle.f11_header.specs.contracts.header_mut.HeaderMut.{the_row}

-- the header over a block with these bytes
abbrev pub over : HeaderMut → List ℕ → HeaderMut
over h b = record h { block = record h.block { now = b } }

-- the header ends with the ident area as it was left
abbrev pub LendsIdent : MutBor HeaderMut → MutBor (List ℕ) → Fml
LendsIdent h r = Lends (the_row (record { mir = named 1; lft = [] })) (Array u8 0) h r
    (λ ident. over h.now (with_ident h.now.block.now ident))

-- the header ends with the map area as it was left
abbrev pub LendsMap : MutBor HeaderMut → MutBor (List ℕ) → Fml
LendsMap h r = Lends (the_row (record { mir = named 1; lft = [] })) (Array u8 0) h r (λ map. over h.now (with_map h.now.block.now map))
