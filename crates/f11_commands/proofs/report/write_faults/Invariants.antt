use Rattle.std.proofs.Common.{take}
use Rattle.std.specs.Io.KnownBytes.{Appends}
use Rattle.f11_commands.specs.Lines.{fault_lines}
use Rattle.f11_commands.proofs.report.write_faults.Given as goal

-- the lines of the findings so far were written
abbrev pub invariant-loop-i : goal.invariant-loop-i
invariant-loop-i g l =
    Appends (g.W.Write.contents l.initial.writer) (g.W.Write.contents l.writer) (fault_lines l.system (take l.i l.faults))
