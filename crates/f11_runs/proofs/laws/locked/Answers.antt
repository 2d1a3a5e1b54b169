use Rattle.f11_runs.proofs.LockedLaws.{locked-begins, locked-stays, locked-is-read, end-is-served, locked-read-is, tidy-locks-hold}
use Rattle.f11_runs.proofs.LockedLaws.{run-locks-hold}
use Rattle.f11_runs.proofs.laws.locked.Goals as goal

pub returns : goal.returns
returns c = record {
  begins = locked-begins;
  stays = locked-stays;
  read = locked-is-read;
  ends = end-is-served;
  between = locked-read-is;
  tidy = tidy-locks-hold;
  run = run-locks-hold;
}
