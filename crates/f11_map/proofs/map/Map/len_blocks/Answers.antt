use Rattle.std.proofs.Common.{arith}
use Rattle.f11_map.specs.MapArea.{runs_of}
use Rattle.f11_map.specs.Map.{area_of}
use Rattle.f11_map.proofs.MapLemmas.{length-blocks_in-more}
use Rattle.f11_map.proofs.map.Map.len_blocks.Goals as goal

pub loop-i-preserved : goal.loop-i-preserved
loop-i-preserved c = record {
  so_far = length-blocks_in-more (runs_of (area_of c.args.self.now)) c.loop-i.i c.loop-i.blocks c.run-blocks.result c.run-blocks.ensures.run
      c.loop-i.invariant.so_far;
  few = omega arith;
}
