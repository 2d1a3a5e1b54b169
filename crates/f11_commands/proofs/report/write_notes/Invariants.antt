use Rattle.std.proofs.Common.{take}
use Rattle.std.specs.Io.KnownBytes.{Appends}
use Rattle.f11_commands.specs.Lines.{note_lines}
use Rattle.f11_commands.proofs.report.write_notes.Given as goal

-- the lines of the findings so far were written
abbrev pub invariant-loop-i : goal.invariant-loop-i
invariant-loop-i g l = Appends (g.W.Write.contents l.initial.writer) (g.W.Write.contents l.writer) (note_lines l.system (take l.i l.notes))
