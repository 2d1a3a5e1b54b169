use Rattle.std.proofs.Common.{take}
use Rattle.std.specs.Io.KnownBytes.{Appends}
use Rattle.f11_commands.specs.RtAny.{replaced_text}
use Rattle.f11_commands.proofs.rt_any.write_replaced.Given as goal

-- what is told of the bad blocks so far was written
abbrev pub invariant-loop-number : goal.invariant-loop-number
invariant-loop-number g l =
    Appends (g.W.Write.contents l.initial.writer) (g.W.Write.contents l.writer) (replaced_text (take l.number-index l.bad) l.first l.blocks)
