use Rattle.f11_commands.proofs.CountingLemmas.{CountedSoFar}
use Rattle.f11_commands.specs.RtPutEach.{counts_of}
use Rattle.f11_pip.specs.Stopping.{stops}
use Rattle.f11_pip.proofs.rt_each.put_all.Given as goal

-- so many files were put, or left out, and counted
abbrev pub invariant-loop-at : goal.invariant-loop-at
invariant-loop-at g l = CountedSoFar (stops l.each.manner) l.at (counts_of l.initial.puts) (counts_of l.puts)
