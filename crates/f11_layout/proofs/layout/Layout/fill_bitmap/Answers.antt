use Rattle.std.proofs.Common.{arith}
use Rattle.f11_layout.proofs.BitmapLemmas.{PutsBits-none}
use Rattle.f11_layout.proofs.layout.Layout.fill_bitmap.Goals as goal

pub loop-bit-init : goal.loop-bit-init
loop-bit-init c = rw c.zeros.ensures (PutsBits-none _ _)

pub returns : goal.returns
returns c =
    record {
      size = c.loop-bit.invariant.size;
      bits = λ k below.
          c.loop-bit.invariant.front k (omega (arith, below, c.loop-bit-test.false));
    }
