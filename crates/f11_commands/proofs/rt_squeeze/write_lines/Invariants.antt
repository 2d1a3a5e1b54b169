use Rattle.std.proofs.Common.{take}
use Rattle.std.specs.Io.KnownBytes.{Appends}
use Rattle.f11_commands.specs.RtSqueeze.{squeezed_line}
use Rattle.std.specs.List.{flat_map, zip}
use Rattle.rt11_squeeze.specs.declared.moving.FileToMove.{FileToMove}
use Rattle.rt11_squeeze.specs.declared.outcome.Squeezed.{Squeezed}
use Rattle.f11_commands.proofs.rt_squeeze.write_lines.Given as goal

-- the lines so far were written
abbrev pub invariant-loop-at : goal.invariant-loop-at
invariant-loop-at g l =
    Appends (g.W.Write.contents l.initial.writer) (g.W.Write.contents l.writer)
    (flat_map (λ (one : FileToMove × Squeezed). squeezed_line one.0 one.1) (take l.at (zip l.files l.outcomes)))
