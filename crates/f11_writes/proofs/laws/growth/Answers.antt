use Rattle.f11_writes.proofs.GrowLemmas.{names-keep, links-keep}
use Rattle.f11_writes.proofs.laws.growth.Goals as goal

pub returns : goal.returns
returns c = record { names = names-keep; links = links-keep }
