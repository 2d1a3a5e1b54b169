use Rattle.f11_runs.proofs.EachLaws.{run-is-steps, steps-are-run, kept-along}
use Rattle.f11_runs.proofs.laws.steps.Goals as goal

pub returns : goal.returns
returns c = record { run = run-is-steps; steps = steps-are-run; kept = kept-along }
