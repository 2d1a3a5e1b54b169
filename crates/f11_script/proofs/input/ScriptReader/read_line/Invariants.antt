use Rattle.std.proofs.Common.{◌-◌}
use Rattle.f11_script.specs.Input.{left_of, number_read}
use Rattle.f11_script.proofs.InputLemmas.{Collected}
use Rattle.f11_script.proofs.input.ScriptReader.read_line.Given as goal

abbrev pub invariant-loop-line : goal.invariant-loop-line
invariant-loop-line g l =
    Collected (left_of g.R.Read.remaining l.fn.self) (left_of g.R.Read.remaining l.self) (number_read l.fn.self) (number_read l.self)
    l.line.items

abbrev pub decreases-loop-line : goal.decreases-loop-line
decreases-loop-line g l = 16777217 - l.self.count
