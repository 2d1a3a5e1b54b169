use Rattle.std.proofs.Common.{arith}
use Rattle.f11_map.proofs.FewestLemmas.{PutsRuns-more, length-puts}
use Rattle.f11_map.proofs.pointer.put_runs.Goals as goal

pub put_last-requires-clause-pointer : goal.put_last-requires-clause-pointer
put_last-requires-clause-pointer c =
    omega (arith, c.requires.pointers, length-puts c.args.lbn c.args.count c.loop-i.i c.args.area.now c.loop-i.area c.loop-i.invariant)

pub loop-i-preserved : goal.loop-i-preserved
loop-i-preserved c =
    PutsRuns-more c.args.lbn c.args.count c.loop-i.i c.args.pointers _ _ _ c.loop-i.invariant c.requires.pointers
    (rw c.min-named.ensures at c.put_last.ensures.pointers) c.put_last.ensures.rest
