use Rattle.f11_writes.proofs.BitmapLemmas.{bitmap-keeps, used-keeps, free-keeps}
use Rattle.f11_writes.proofs.laws.bitmap_writes.Goals as goal

pub returns : goal.returns
returns c = record { any = λ old new home is others. bitmap-keeps old new home is others; used = used-keeps; free = free-keeps }
