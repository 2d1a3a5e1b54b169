use Rattle.std.proofs.Common.{take}
use Rattle.rt11_copy.specs.Fitting.{files_to_copy}
use Rattle.rt11_copy.proofs.FitLemmas.{AreCounted}
use Rattle.rt11_copy.proofs.fitting.need_of.Given as goal

-- so many entries were looked at
abbrev pub invariant-loop-i : goal.invariant-loop-i
invariant-loop-i l = record {
  are : AreCounted (files_to_copy l.size (take l.i l.entries)) l.tally.files l.tally.blocks l.tally.ends_empty;
}
