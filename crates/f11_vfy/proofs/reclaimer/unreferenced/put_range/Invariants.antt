use Rattle.std.proofs.Common.{◌≤◌}
use Rattle.f11_vfy.specs.Frames.Earlier.{Puts}
use Rattle.f11_vfy.proofs.Frames.Earlier.{InRun}
use Rattle.f11_vfy.proofs.reclaimer.unreferenced.put_range.Given as goal

abbrev pub invariant-loop-k : goal.invariant-loop-k
invariant-loop-k l = record {
  start : l.first ≤ l.k;
  puts : Puts (InRun l.first l.k l.k-end) l.initial.unreferenced l.unreferenced;
}
