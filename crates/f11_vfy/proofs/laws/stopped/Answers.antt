use Rattle.std.proofs.Common.{inl, inr, ⊎_elim}
use Rattle.f11_volume.proofs.AcceptedLemmas.{accepted-sound}
use Rattle.f11_volume.proofs.FreshLemmas.{fresh-sound}
use Rattle.f11_vfy.proofs.LayLemmas.{no_home-kept}
use Rattle.f11_vfy.proofs.laws.stopped.Goals as goal

pub returns : goal.returns
returns c = λ l old image none is room may.
    ⊎_elim (λ makes. inl (no_home-kept old image may.keeps.size none makes))
    (λ fresh. inr ((accepted-sound image is).1 (fresh-sound image l is room fresh.front))) may.home
