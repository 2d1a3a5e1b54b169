use Rattle.std.proofs.Common.{refl}
use Rattle.f11_catalog.proofs.FilesLemmas.{begins-entered}
use Rattle.f11_catalog.proofs.walk.state.EnteredFiles.begin.Goals as goal

pub returns-in-Ok-clause-begins : goal.returns-in-Ok-clause-begins
returns-in-Ok-clause-begins g c = begins-entered _ _ _ _ _ _ c.in-Ok.ensures.opens refl c.in-Some.ensures c.requires.first
