use Rattle.f11_flx.proofs.ThereAndBackLemmas.{file-comes-back, rt-file-comes-back, source-is-kept}
use Rattle.f11_flx.proofs.copy_laws.there_and_back.Goals as goal

pub returns : goal.returns
returns c = record { file = file-comes-back; source = source-is-kept; rt_file = rt-file-comes-back }
