use Rattle.rt11_text.proofs.TextLemmas.{text-works, there-and-back}
use Rattle.rt11_text.proofs.laws.laws.Goals as goal

pub returns-clause-back : goal.returns-clause-back
returns-clause-back c = there-and-back

pub returns-clause-worked : goal.returns-clause-worked
returns-clause-worked c = text-works
