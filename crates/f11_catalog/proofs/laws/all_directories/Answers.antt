use Rattle.f11_catalog.proofs.LedLemmas.{no-unused-left-out}
use Rattle.f11_catalog.proofs.SlotLemmas.{no-directory-left-out}
use Rattle.f11_catalog.proofs.laws.all_directories.Goals as goal

pub returns : goal.returns
returns c = record { in_use = no-directory-left-out; unused = no-unused-left-out }
