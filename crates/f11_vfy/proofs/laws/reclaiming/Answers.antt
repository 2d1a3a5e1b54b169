use Rattle.f11_vfy.proofs.Reclaiming.Nothing.{none-idle}
use Rattle.f11_vfy.proofs.Reclaiming.Order.{orphans-first, blocks-last}
use Rattle.f11_vfy.proofs.Reclaiming.Places.{files-keep, files-were, orphans-killed}
use Rattle.f11_vfy.proofs.laws.reclaiming.Goals as goal

pub returns-clause-files : goal.returns-clause-files
returns-clause-files c = files-keep

pub returns-clause-no_more : goal.returns-clause-no_more
returns-clause-no_more c = files-were

pub returns-clause-orphans : goal.returns-clause-orphans
returns-clause-orphans c = orphans-killed

pub returns-clause-none : goal.returns-clause-none
returns-clause-none c = none-idle

pub returns-clause-first : goal.returns-clause-first
returns-clause-first c = orphans-first

pub returns-clause-last : goal.returns-clause-last
returns-clause-last c = blocks-last
