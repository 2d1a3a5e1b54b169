use Rattle.std.proofs.Common.{take}
use Rattle.std.specs.Io.KnownBytes.{Appends}
use Rattle.f11_commands.specs.RtList.{area_lines}
use Rattle.f11_commands.proofs.rt_list.write_areas.Given as goal

-- the lines so far were written
abbrev pub invariant-loop-area : goal.invariant-loop-area
invariant-loop-area g l =
    Appends (g.W.Write.contents l.initial.writer) (g.W.Write.contents l.writer) (area_lines (take l.area-index l.areas))
