use Rattle.std.proofs.Common.{arith}
use Rattle.f11_floppies.proofs.ArrangeLemmas.{read-all, read-next, read-none}
use Rattle.f11_floppies.proofs.arrange.block_of.Goals as goal

pub loop-k-init : goal.loop-k-init
loop-k-init c = read-none _ _ _ _ c.zeros-block.ensures

pub loop-k-preserved : goal.loop-k-preserved
loop-k-preserved c = read-next _ _ _ _ _ _ _ _ _ _ c.loop-k-test.true c.loop-k.invariant c.sectors_of_block-count.ensures
    c.sector_bytes-size.ensures c.start_of.ensures.start c.part-sector.ensures c.put_bytes.ensures

pub returns : goal.returns
returns c = read-all _ _ _ _ _ (omega (arith, c.loop-k-test.false, c.loop-k.auto.k-end, c.sectors_of_block-count.ensures))
    c.loop-k.invariant
