use Rattle.f11_store.proofs.WorkedLagLemmas.{create_gets_slot_first, extend_gets_slot_first}
use Rattle.f11_store.proofs.worked.no_lags_behind_slots.Goals as goal

pub returns : goal.returns
returns c = record { create = create_gets_slot_first; extend = extend_gets_slot_first }
