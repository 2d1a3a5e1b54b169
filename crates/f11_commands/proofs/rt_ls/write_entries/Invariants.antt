use Rattle.std.proofs.Common.{take}
use Rattle.std.specs.Io.KnownBytes.{Appends}
use Rattle.f11_commands.specs.RtLs.{entry_lines}
use Rattle.f11_commands.proofs.rt_ls.write_entries.Given as goal

-- the lines so far were written
abbrev pub invariant-loop-entry : goal.invariant-loop-entry
invariant-loop-entry g l =
    Appends (g.W.Write.contents l.initial.writer) (g.W.Write.contents l.writer) (entry_lines l.bad l.size (take l.entry-index l.entries))
