use Rattle.f11_index.proofs.LoadLemmas.{finds_past, loads}
use Rattle.f11_index.proofs.index_file.IndexFile.load.Goals as goal

pub returns-in-Some-clause-past : goal.returns-in-Some-clause-past
returns-in-Some-clause-past g c = finds_past _ _ _ _ _ c.in_ok-index.ensures.reads c.in-Some.ensures

pub returns-in-None-clause-loads : goal.returns-in-None-clause-loads
returns-in-None-clause-loads g c = loads _ _ _ _ c.in_ok-index.ensures.reads c.in-None.ensures
