use Rattle.std.proofs.Common.{arith}
use Rattle.f11_floppies.proofs.ArrangeLemmas.{put-all, put-next}
use Rattle.f11_floppies.proofs.arrange.put_block.Goals as goal

pub loop-k-preserved : goal.loop-k-preserved
loop-k-preserved c = put-next _ _ _ _ _ _ _ _ _ _ _ c.requires.block c.loop-k-test.true c.told-block c.loop-k.invariant
    c.sectors_of_block-count.ensures c.sector_bytes-size.ensures c.start_of-at.ensures.start
    (omega (arith, c.start_of-at.ensures.within, c.requires.whole)) c.part.ensures c.put_bytes.ensures

pub returns-clause-puts : goal.returns-clause-puts
returns-clause-puts c = put-all _ _ _ _ _ _ (omega (arith, c.loop-k-test.false, c.loop-k.auto.k-end, c.sectors_of_block-count.ensures))
    c.loop-k.invariant
