use Rattle.f11_script.proofs.JoinedLemmas.{spelled_is_read}
use Rattle.f11_script.proofs.laws.spelling.Goals as goal

pub returns : goal.returns
returns c = spelled_is_read
