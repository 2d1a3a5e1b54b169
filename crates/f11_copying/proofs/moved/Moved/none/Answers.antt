use Rattle.f11_copying.proofs.MovedLemmas.{none-copied}
use Rattle.f11_copying.proofs.moved.Moved.none.Goals as goal

pub returns-in-Ok : goal.returns-in-Ok
returns-in-Ok c = record { none = none-copied c.in-Ok.ids.items (c.in-Ok.ensures.items_if_clones_equal (λ y e. e)) }
