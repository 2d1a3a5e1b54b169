use Rattle.f11_catalog.proofs.StoredLemmas.{files-are-stored, found-stored, listed-entries, named-is-stored, shown-file}
use Rattle.f11_catalog.proofs.laws.stored_files.Goals as goal

pub returns : goal.returns
returns c = record { named = named-is-stored; files = files-are-stored; entries = listed-entries; found = found-stored; lines = shown-file }
