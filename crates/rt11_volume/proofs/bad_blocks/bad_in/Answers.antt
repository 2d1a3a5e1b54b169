use Rattle.std.proofs.Common.{◌∙◌, ◌+◌, ◌++◌, ap, sym, List, ℕ, arith}
use Rattle.rt11_volume.proofs.BadBlockLemmas.{bad-all, bad-ends, bad-more, bad_from}
use Rattle.rt11_volume.proofs.bad_blocks.bad_in.Goals as goal

pub loop-i-init : goal.loop-i-init
loop-i-init c = sym (ap (λ (xs : List ℕ). xs ++ bad_from c.args.block.now 0) c.new-bad.ensures.items)

pub returns-then-number-eq0 : goal.returns-then-number-eq0
returns-then-number-eq0 c =
    bad-ends c.args.block.now c.loop-i.bad.items c.loop-i.i c.read_word-number.result (omega (arith, c.loop-i-test.true))
    c.read_word-number.ensures c.if-number-eq0.true c.loop-i.invariant

pub loop-i-preserved : goal.loop-i-preserved
loop-i-preserved c =
    bad-more c.args.block.now c.loop-i.bad.items c.loop-i.i c.read_word-number.result (omega (arith, c.loop-i-test.true))
    c.read_word-number.ensures c.if-number-eq0.false c.loop-i.invariant
    ∙ ap (λ (xs : List ℕ). xs ++ bad_from c.args.block.now (c.loop-i.i + 1)) (sym c.in_ok-push.ensures)

pub returns : goal.returns
returns c =
    bad-all c.args.block.now c.loop-i.bad.items c.loop-i.i (omega (arith, c.loop-i-test.false, c.loop-i.auto.i-end)) c.loop-i.invariant
