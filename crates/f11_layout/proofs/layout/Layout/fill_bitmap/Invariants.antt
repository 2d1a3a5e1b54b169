use Rattle.f11_layout.proofs.BitmapLemmas.{PutsBits}
use Rattle.f11_layout.proofs.layout.Layout.fill_bitmap.Given as goal

-- the bits so far are put
abbrev pub invariant-loop-bit : goal.invariant-loop-bit
invariant-loop-bit l = PutsBits l.self l.i l.bit l.block
