use Rattle.f11_runs.proofs.WorkedLemmas.{small-stands, locked-is-answered, both-are-locked}
use Rattle.f11_runs.proofs.worked.examples.Goals as goal

pub returns : goal.returns
returns c = record { stands = small-stands; answered = locked-is-answered; locked = both-are-locked }
