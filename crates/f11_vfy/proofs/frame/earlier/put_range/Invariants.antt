use Rattle.std.proofs.Common.{◌≤◌}
use Rattle.f11_home.specs.Home.{candidates}
use Rattle.f11_vfy.specs.Frames.Earlier.{Puts}
use Rattle.f11_vfy.proofs.Frames.Earlier.{InRun}
use Rattle.f11_vfy.proofs.frame.earlier.put_range.Given as goal

abbrev pub invariant-loop-k : goal.invariant-loop-k
invariant-loop-k l = record {
  start : candidates l.lbn ≤ l.k;
  puts : Puts (InRun (candidates l.lbn) l.k l.k-end) l.initial.named l.named;
}
