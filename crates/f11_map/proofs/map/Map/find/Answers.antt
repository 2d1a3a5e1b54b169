use Rattle.std.proofs.Common.{refl, arith}
use Rattle.f11_map.specs.MapArea.{runs_of}
use Rattle.f11_map.specs.Map.{area_of}
use Rattle.f11_map.proofs.MapLemmas.{length-blocks_in-more}
use Rattle.f11_map.proofs.map.Map.find.Goals as goal

pub loop-i-preserved : goal.loop-i-preserved
loop-i-preserved c =
    omega (arith, length-blocks_in-more (runs_of (area_of c.args.self.now)) c.loop-i.i _ c.run-count.result c.run-count.ensures.run refl)
