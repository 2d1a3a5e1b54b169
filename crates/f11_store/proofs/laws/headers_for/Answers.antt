use Rattle.f11_store.proofs.SlotsFirst.{enough-are-free, ready-may-extend}
use Rattle.f11_store.proofs.laws.headers_for.Goals as goal

pub returns : goal.returns
returns c = record { enough = enough-are-free; extend = ready-may-extend }
