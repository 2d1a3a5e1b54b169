use Rattle.std.proofs.Common.{map, take}
use Rattle.std.specs.List.{concat}
use Rattle.f11_commands.specs.Output.{WriterTakes}
use Rattle.f11_actions.specs.Lines.{copy_line}
use Rattle.f11_actions.proofs.taking.tell_taking.Given as goal

-- the lines so far
abbrev pub invariant-loop-name : goal.invariant-loop-name
invariant-loop-name g l =
    WriterTakes g.W.Write.contents l.fn.writer l.writer (concat (map copy_line (take l.name-index l.names)))
