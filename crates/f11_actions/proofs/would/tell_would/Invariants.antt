use Rattle.std.proofs.Common.{map, take}
use Rattle.std.specs.List.{concat}
use Rattle.f11_commands.specs.Output.{WriterTakes}
use Rattle.f11_actions.specs.Lines.{would_line}
use Rattle.f11_actions.proofs.would.tell_would.Given as goal

-- the lines so far
abbrev pub invariant-loop-action : goal.invariant-loop-action
invariant-loop-action g l =
    WriterTakes g.W.Write.contents l.fn.writer l.writer (concat (map would_line (take l.action-index l.actions)))
