use Rattle.f11_floppies.proofs.FloppyLemmas.{length-told, order-counted}
use Rattle.f11_floppies.proofs.laws.orders.Goals as goal

pub returns : goal.returns
returns c = record { blocks = order-counted; length = length-told }
