use Rattle.std.proofs.Common.{◌≤◌, length, arith}
use Rattle.f11_header.specs.Fields.{map_area}
use Rattle.f11_map.specs.MapArea.{runs_of}
use Rattle.f11_vfy.proofs.Frames.Earlier.{header-none, header-more, header-all}
use Rattle.f11_vfy.proofs.frame.earlier.put_header.Goals as goal

pub loop-i-init : goal.loop-i-init
loop-i-init c = header-none (runs_of (map_area c.args.block.now)) _

pub loop-i-preserved : goal.loop-i-preserved
loop-i-preserved c =
    let at = rw c.map-map.ensures at c.run-lbn.ensures.run in
    header-more (runs_of (map_area c.args.block.now)) c.loop-i.i c.run-lbn.result _ _ _ at c.loop-i.invariant c.put_range.ensures.puts

few : (c : goal.After-loop-i) → length (runs_of (map_area c.args.block.now)) ≤ c.loop-i.i
few c = let count = rw c.map-map.ensures at c.runs-i-end.ensures.count in omega (arith, count, c.loop-i-test.false)

pub returns : goal.returns
returns c = record { puts = header-all c.args.block.now c.loop-i.i _ _ (few c) c.loop-i.invariant }
