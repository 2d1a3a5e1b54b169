use Rattle.std.proofs.Common.{false}
use Rattle.f11_commands.proofs.CountingLemmas.{CountedSoFar}
use Rattle.f11_commands.specs.PutEach.{counts_of}
use Rattle.f11_pip.proofs.tree.put_files.Given as goal

-- so many files were put, or left out, and counted
abbrev pub invariant-loop-at : goal.invariant-loop-at
invariant-loop-at g l = CountedSoFar false l.at (counts_of l.initial.puts) (counts_of l.puts)
