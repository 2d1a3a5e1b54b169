use Rattle.rt11_volume.proofs.Named.Laws.{file-first, no-file}
use Rattle.rt11_volume.proofs.laws.names.Goals as goal

pub returns-clause-first : goal.returns-clause-first
returns-clause-first c = file-first

pub returns-clause-none : goal.returns-clause-none
returns-clause-none c = no-file
