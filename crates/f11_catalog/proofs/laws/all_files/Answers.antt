use Rattle.f11_catalog.proofs.FilesLemmas.{none-left-out}
use Rattle.f11_catalog.proofs.PlacesLemmas.{record-placed}
use Rattle.f11_catalog.proofs.laws.all_files.Goals as goal

pub returns : goal.returns
returns c = record { files = none-left-out; records = record-placed }
