use Rattle.f11_catalog.proofs.SlotLemmas.{each-first-header}
use Rattle.f11_catalog.proofs.laws.files_out_of_use.Goals as goal

pub returns : goal.returns
returns c = each-first-header
