-- The block that a header is read or written in.
use Rattle.std.specs.Prelude.{ℕ, List}
use Rattle.f11_header.specs.declared.header.Header.{Header}
use Rattle.f11_header.specs.declared.header_mut.HeaderMut.{HeaderMut}

-- the block that is read
abbrev pub header_block : Header → List ℕ
header_block h = h.block.now

-- the block that is written
abbrev pub written_block : HeaderMut → List ℕ
written_block h = h.block.now

-- the name of the loan of that block
abbrev pub block_loan : HeaderMut → ℕ
block_loan h = h.block.ghost_name
