use Rattle.rt11_volume.proofs.Named.Laws.{created-made, deleted-gone, written-replaced}
use Rattle.rt11_volume.proofs.Named.Entry.{protected-protected, renamed-renamed}
use Rattle.rt11_volume.proofs.laws.changes.Goals as goal

pub returns-clause-made : goal.returns-clause-made
returns-clause-made c = created-made

pub returns-clause-replaced : goal.returns-clause-replaced
returns-clause-replaced c = written-replaced

pub returns-clause-gone : goal.returns-clause-gone
returns-clause-gone c = deleted-gone

pub returns-clause-renamed : goal.returns-clause-renamed
returns-clause-renamed c = renamed-renamed

pub returns-clause-protected : goal.returns-clause-protected
returns-clause-protected c = protected-protected
