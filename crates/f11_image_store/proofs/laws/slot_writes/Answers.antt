use Rattle.f11_image_store.proofs.InstanceLemmas.{unused-given, file-entered, fileless-set}
use Rattle.f11_image_store.proofs.SlotLemmas.{slot-stored}
use Rattle.f11_image_store.proofs.laws.slot_writes.Goals as goal

pub returns-clause-any : goal.returns-clause-any
returns-clause-any c = λ old new home n f slot blocks concerns. slot-stored old new home n slot f blocks concerns

pub returns-clause-unused : goal.returns-clause-unused
returns-clause-unused c = unused-given

pub returns-clause-entered : goal.returns-clause-entered
returns-clause-entered c = file-entered

pub returns-clause-set : goal.returns-clause-set
returns-clause-set c = fileless-set
