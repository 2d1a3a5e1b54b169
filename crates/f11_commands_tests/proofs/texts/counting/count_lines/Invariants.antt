use Rattle.std.proofs.Common.{◌-◌, ◌≤◌}
use Rattle.f11_script.specs.Input.{left_of, number_read}
use Rattle.f11_commands_tests.proofs.CountLemmas.{Counted}
use Rattle.f11_commands_tests.proofs.texts.counting.count_lines.Given as goal

abbrev pub invariant-loop-script : goal.invariant-loop-script
invariant-loop-script g l =
    Counted (g.R.Read.remaining l.fn.reader) (left_of g.R.Read.remaining l.script) l.count × (l.count ≤ number_read l.script)

abbrev pub decreases-loop-script : goal.decreases-loop-script
decreases-loop-script g l = 16777217 - number_read l.script
