use Rattle.std.proofs.Common.{take}
use Rattle.std.specs.Io.KnownBytes.{Appends}
use Rattle.f11_catalog.specs.map.Map.{area_of}
use Rattle.f11_catalog.specs.map.MapArea.{runs_of}
use Rattle.f11_commands.specs.Dump.{run_lines}
use Rattle.f11_commands.proofs.dump.write_runs.Given as goal

-- the lines of the pointers so far were written
abbrev pub invariant-loop-i : goal.invariant-loop-i
invariant-loop-i g l =
    Appends (g.W.Write.contents l.initial.writer) (g.W.Write.contents l.writer) (run_lines (take l.i (runs_of (area_of l.map))))
