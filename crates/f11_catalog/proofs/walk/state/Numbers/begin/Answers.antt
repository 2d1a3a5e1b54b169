use Rattle.std.proofs.Common.{refl}
use Rattle.f11_catalog.proofs.NumbersLemmas.{is-new}
use Rattle.f11_catalog.proofs.walk.state.Numbers.begin.Goals as goal

pub returns-in-Ok : goal.returns-in-Ok
returns-in-Ok c = is-new _ (c.in-Ok.ensures.items_if_clones_equal (λ y e. e)) refl
