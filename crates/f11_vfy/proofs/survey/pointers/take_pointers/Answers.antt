use Rattle.std.proofs.Common.{◌≤◌, length, arith}
use Rattle.f11_header.specs.Fields.{map_area}
use Rattle.f11_map.specs.MapArea.{runs_of}
use Rattle.f11_vfy.proofs.Surveying.Pointers.{named-none, named-more, named-all, outside-none, outside-more, outside-all}
use Rattle.f11_vfy.proofs.survey.pointers.take_pointers.Goals as goal

pub loop-i-init : goal.loop-i-init
loop-i-init c = record {
  room = omega arith;
  named = λ f shows. named-none (runs_of (map_area c.args.block.now)) _ f shows;
  outside = outside-none c.args.block.now c.args.n c.args.size _;
}

pub loop-i-preserved : goal.loop-i-preserved
loop-i-preserved c =
    let at = rw c.map-map.ensures at c.run-lbn.ensures.run in
    record {
      room = omega (arith, c.loop-i.invariant.room, c.in_ok-make_room.ensures.room, c.mark_run.ensures.limit);
      named = λ f shows. named-more (runs_of (map_area c.args.block.now)) c.loop-i.i c.run-lbn.result _ f at
          (c.mark_run.ensures.shows _ (c.in_ok-make_room.ensures.shows _ (c.loop-i.invariant.named f shows)));
      outside = outside-more c.args.block.now c.args.n c.args.size c.loop-i.i c.run-lbn.result _ _ _ at c.loop-i.invariant.outside
          (rw c.from.ensures at c.in_ok-add_if.ensures.adds);
    }

few : (c : goal.After-loop-i) → length (runs_of (map_area c.args.block.now)) ≤ c.loop-i.i
few c = let count = rw c.map-map.ensures at c.runs-i-end.ensures.count in omega (arith, count, c.loop-i-test.false)

pub returns-clause-named : goal.returns-clause-named
returns-clause-named c = λ f shows.
    named-all c.args.block.now c.loop-i.i _ f (few c) (c.loop-i.invariant.named f shows)

pub returns-clause-outside : goal.returns-clause-outside
returns-clause-outside c =
    outside-all c.args.block.now c.args.n c.args.size c.loop-i.i _ _ (few c) c.loop-i.invariant.outside
