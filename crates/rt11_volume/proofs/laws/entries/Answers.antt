use Rattle.rt11_volume.proofs.SurveyFiles.{finds-file}
use Rattle.rt11_volume.proofs.SurveyLemmas.{lists-areas}
use Rattle.rt11_volume.proofs.laws.entries.Goals as goal

pub returns-clause-areas : goal.returns-clause-areas
returns-clause-areas c = lists-areas

pub returns-clause-file : goal.returns-clause-file
returns-clause-file c = finds-file
