use Rattle.std.proofs.Common.{not, ap}
use Rattle.f11_vfy.proofs.Surveying.Over.{told-verdict}
use Rattle.f11_vfy.proofs.verifier.is_faulty.Goals as goal

pub returns-in-Ok-clause-told : goal.returns-in-Ok-clause-told
returns-in-Ok-clause-told g c = record {
  verdict = λ honest. told-verdict _ _ _ (ap not c.is_empty.ensures) (c.in-Ok.ensures.judges.faults_are honest);
  looked = c.in-Ok.ensures.judges.looked;
  spared = c.in-Ok.ensures.judges.spared (λ none. none);
}
