use Rattle.f11_store.specs.Store.{free_slots}
use Rattle.f11_fcp.proofs.volume.Volume.free.Goals as goal

pub returns-clause-headers : goal.returns-clause-headers
unfolding free_slots
returns-clause-headers g c = λ honest alive. (c.space-blocks.ensures.space honest alive).headers_are
