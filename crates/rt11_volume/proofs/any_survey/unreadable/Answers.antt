use Rattle.rt11_volume.proofs.SurveyLemmas.{finds-unsized}
use Rattle.rt11_volume.proofs.any_survey.unreadable.Goals as goal

pub returns : goal.returns
returns c = λ old new unsized looked.
    finds-unsized _ _ old new c.in_ok-faults.ensures.0 c.in_ok-faults.ensures.1 unsized looked
