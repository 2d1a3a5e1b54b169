use Rattle.std.proofs.Common.{arith}
use Rattle.f11_commands_tests.proofs.CountLemmas.{counted_none, counted_more, counted_all}
use Rattle.f11_commands_tests.proofs.texts.counting.count_lines.Goals as goal

pub loop-script-init : goal.loop-script-init
loop-script-init g c = (counted_none _ _ c.new-script.ensures.bytes, omega (arith, c.new-script.ensures.number))

pub overflow_add-count : goal.overflow_add-count
overflow_add-count g c =
    let t = rw c.if-branch.true at c.in_ok-read_line.ensures in
    omega (arith, t.number, t.some, t.few, c.loop-script.invariant.1)

pub loop-script-smaller : goal.loop-script-smaller
loop-script-smaller g c =
    let t = rw c.if-branch.true at c.in_ok-read_line.ensures in
    omega (arith, t.number, t.some, t.few)

pub loop-script-preserved : goal.loop-script-preserved
loop-script-preserved g c =
    let t = rw c.if-branch.true at c.in_ok-read_line.ensures in
    (counted_more _ _ _ _ _ _ _ c.loop-script.invariant.0 t, omega (arith, t.number, t.some, c.loop-script.invariant.1))

pub returns : goal.returns
returns g c = counted_all _ _ _ _ _ _ _ c.loop-script.invariant.0 (rw c.if-branch.false at c.in_ok-read_line.ensures)
