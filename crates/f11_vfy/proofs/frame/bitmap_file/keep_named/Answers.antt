use Rattle.std.proofs.Common.{◌≤◌, ◌++◌, length, take, ap, arith}
use Rattle.std.proofs.lemmas.List.{length-take}
use Rattle.f11_header.specs.Fields.{map_area}
use Rattle.f11_map.specs.MapArea.{runs_of, blocks_in}
use Rattle.f11_vfy.proofs.Frames.Parts.{keeps-none, keeps-more, keeps-all, past-end}
use Rattle.f11_vfy.proofs.frame.bitmap_file.keep_named.Goals as goal

pub loop-i-init : goal.loop-i-init
loop-i-init c = record { keeps = keeps-none (runs_of (map_area c.args.block.now)) c.args.end _ c.requires.few; room = c.requires.room }

pub returns-then-end-lbn-clause-keeps : goal.returns-then-end-lbn-clause-keeps
returns-then-end-lbn-clause-keeps c =
    let at = rw c.map-map.ensures at c.run-lbn.ensures.run in
    past-end c.args.block.now c.loop-i.i c.args.end c.run-lbn.result at c.run-lbn.ensures.bounds.1 (omega (arith, c.if-end-lbn.true))

pub keep_run-requires-clause-few : goal.keep_run-requires-clause-few
keep_run-requires-clause-few c =
    omega (
      arith,
      ap length c.loop-i.invariant.keeps.1,
      length-take 127 (c.args.kept.now.items ++ blocks_in (take c.loop-i.i (runs_of (map_area c.args.block.now)))),
    )

pub loop-i-preserved : goal.loop-i-preserved
loop-i-preserved c =
    let at = rw c.map-map.ensures at c.run-lbn.ensures.run in
    record {
      keeps = keeps-more (runs_of (map_area c.args.block.now)) c.args.end c.loop-i.i c.run-lbn.result _ _ _ at
          (omega (arith, c.if-end-lbn.false)) c.loop-i.invariant.keeps c.keep_run.ensures.keeps;
      room = omega (arith, c.keep_run.ensures.room, c.loop-i.invariant.room);
    }

few : (c : goal.After-loop-i) → length (runs_of (map_area c.args.block.now)) ≤ c.loop-i.i
few c = let count = rw c.map-map.ensures at c.runs-i-end.ensures.count in omega (arith, count, c.loop-i-test.false)

pub returns-clause-keeps : goal.returns-clause-keeps
returns-clause-keeps c = keeps-all c.args.block.now c.loop-i.i c.args.end _ _ (few c) c.loop-i.invariant.keeps
