use Rattle.std.proofs.Common.{arith}
use Rattle.f11_flx.proofs.RtFiles.TargetLemmas.{transfers-looked, transfers-within}
use Rattle.f11_flx.proofs.target.refusal_of.Goals as goal

pub returns-in-Ok-clause-went : goal.returns-in-Ok-clause-went
returns-in-Ok-clause-went g c = transfers-within (transfers-looked c.in-Ok.ensures.looked) (omega arith)

pub returns-in-Err-NoSuchFile-clause-went : goal.returns-in-Err-NoSuchFile-clause-went
returns-in-Err-NoSuchFile-clause-went g c =
    transfers-within (transfers-looked (rw c.in-Err-NoSuchFile.field-0-is at c.in-Err-NoSuchFile.ensures.looked)) (omega arith)

pub returns-in-Err-clause-went : goal.returns-in-Err-clause-went
returns-in-Err-clause-went g c = transfers-within (transfers-looked c.in-Err.ensures.looked) (omega arith)
