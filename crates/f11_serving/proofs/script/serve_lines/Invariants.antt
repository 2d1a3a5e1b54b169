use Rattle.std.proofs.Common.{◌-◌}
use Rattle.f11_script.specs.Input.{left_of, number_read}
use Rattle.f11_serving.proofs.ScriptLemmas.{SoFar}
use Rattle.f11_serving.proofs.script.serve_lines.Given as goal

abbrev pub invariant-loop-error : goal.invariant-loop-error
invariant-loop-error g l =
    SoFar g.S.Asked.service.serves (left_of g.R.Read.remaining l.fn.script) (left_of g.R.Read.remaining l.script) l.fn.service l.service
    l.block
    (g.W.Write.contents l.fn.writer) (g.W.Write.contents l.writer) l.count (number_read l.script)

abbrev pub decreases-loop-error : goal.decreases-loop-error
decreases-loop-error g l = 16777217 - number_read l.script
