use Rattle.f11_reader.proofs.LawLemmas.{opened-has, reached-blocks}
use Rattle.f11_reader.proofs.laws.opened.Goals as goal

pub returns-clause-contents : goal.returns-clause-contents
returns-clause-contents c = opened-has

pub returns-clause-whole : goal.returns-clause-whole
returns-clause-whole c = reached-blocks
