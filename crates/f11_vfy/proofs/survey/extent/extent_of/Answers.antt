use Rattle.std.proofs.Common.{arith}
use Rattle.f11_header.specs.Fields.{map_area}
use Rattle.f11_map.specs.MapArea.{runs_of}
use Rattle.f11_vfy.proofs.Surveying.Extents.{pointer-joins, pointer-lies, pointers-all}
use Rattle.f11_vfy.proofs.survey.extent.extent_of.Goals as goal

pub loop-i-preserved : goal.loop-i-preserved
loop-i-preserved c =
    let at = rw c.map-map.ensures at c.run-first.ensures.run in
    pointer-joins (runs_of (map_area c.args.block.now)) c.loop-i.i c.run-first.result c.join-extent.result at
    (c.join-extent.ensures _ _ c.loop-i.invariant (pointer-lies c.run-first.result.0 c.run-first.result.1 c.run-first.ensures.bounds.1))

pub returns : goal.returns
returns c =
    let count = rw c.map-map.ensures at c.runs-i-end.ensures.count in
    pointers-all c.args.block.now c.loop-i.i c.loop-i.extent (omega (arith, count, c.loop-i-test.false)) c.loop-i.invariant
