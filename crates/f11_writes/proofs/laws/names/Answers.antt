use Rattle.f11_writes.proofs.NameLemmas.{unreferenced-names, own-names, more-names, fewer-names}
use Rattle.f11_writes.proofs.laws.names.Goals as goal

pub returns : goal.returns
returns c = record { unreferenced = unreferenced-names; own = own-names; more = more-names; fewer = fewer-names }
