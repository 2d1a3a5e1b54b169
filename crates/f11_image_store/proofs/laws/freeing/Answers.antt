use Rattle.f11_image_store.proofs.FreeingLemmas.{orphan-killed, dead-freed, unnamed-freed}
use Rattle.f11_image_store.proofs.laws.freeing.Goals as goal

pub returns-clause-orphan : goal.returns-clause-orphan
returns-clause-orphan c =
    λ image home n block is live fileless dead sequence. orphan-killed image home n is block live fileless dead sequence

pub returns-clause-slot : goal.returns-clause-slot
returns-clause-slot c = λ image home n after is dead bit. dead-freed image home n is after dead bit

pub returns-clause-blocks : goal.returns-clause-blocks
returns-clause-blocks c = λ old new home is others only stays. unnamed-freed old new home is others only stays
