use Rattle.f11_runs.proofs.StandingSteps.{unaccessed-stands, step-stands, run-stands, standing-is-empty, standing-run-is-tidy}
use Rattle.f11_runs.proofs.StandingSteps.{accesses-stay}
use Rattle.f11_runs.proofs.laws.standing.Goals as goal

pub returns : goal.returns
returns c = record {
  first = unaccessed-stands;
  step = step-stands;
  run = run-stands;
  empty = standing-is-empty;
  tidy = standing-run-is-tidy;
  accesses = accesses-stay;
}
