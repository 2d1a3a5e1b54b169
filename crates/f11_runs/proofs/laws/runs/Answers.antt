use Rattle.f11_runs.proofs.EachLaws.{empty-changes-nothing, each-is-answered, two-are-one, one-is-two, one-more-runs, last-is-step}
use Rattle.f11_runs.proofs.laws.runs.Goals as goal

pub returns : goal.returns
returns c = record {
  empty = empty-changes-nothing;
  answered = each-is-answered;
  two = two-are-one;
  parts = one-is-two;
  more = one-more-runs;
  last = last-is-step;
}
