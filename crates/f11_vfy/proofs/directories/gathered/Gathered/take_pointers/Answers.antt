use Rattle.std.proofs.Common.{refl, arith, take, length}
use Rattle.std.proofs.lemmas.List.FromFn.{length-range_with_len}
use Rattle.f11_chain.proofs.AlongLemmas.{handed-on}
use Rattle.f11_dev.proofs.LookedLemmas.{looked_more, looked_within}
use Rattle.f11_header.specs.Fields.{map_area}
use Rattle.f11_map.specs.MapArea.{runs_of, blocks_in}
use Rattle.f11_map.proofs.MapLemmas.{length-blocks_in-more}
use Rattle.f11_vfy.proofs.Directory.Walk.{pointers-more, pointers-all, pointers-looked, pointers-taken}
use Rattle.f11_vfy.proofs.directories.gathered.Gathered.take_pointers.Goals as goal

pub returns-in_err-take_pointer-clause-failed : goal.returns-in_err-take_pointer-clause-failed
returns-in_err-take_pointer-clause-failed g c = λ is.
    pointers-looked c.args.slots.now c.args.dir c.args.at c.args.block.now _ c.args.self.now c.loop-i.i c.loop-i.behind c.run-run.result _ _
    1 (rw c.map-map.ensures at c.run-run.ensures.run) c.loop-i.invariant.place
    c.loop-i.invariant.looked (c.in_err-take_pointer.ensures.failed (handed-on _ _ _ c.from_residual.ensures.1 is))

pub returns-in_err-take_pointer-clause-no_memory : goal.returns-in_err-take_pointer-clause-no_memory
returns-in_err-take_pointer-clause-no_memory g c = λ is.
    pointers-looked c.args.slots.now c.args.dir c.args.at c.args.block.now _ c.args.self.now c.loop-i.i c.loop-i.behind c.run-run.result _ _
    0 (rw c.map-map.ensures at c.run-run.ensures.run) c.loop-i.invariant.place
    c.loop-i.invariant.looked (c.in_err-take_pointer.ensures.no_memory (handed-on _ _ _ c.from_residual.ensures.1 is))

pub loop-i-preserved : goal.loop-i-preserved
loop-i-preserved g c =
    let here = rw c.map-map.ensures at c.run-run.ensures.run in
    let runs = runs_of (map_area c.args.block.now) in
    let takes = c.in_ok-take_pointer.ensures.takes in
    record {
      place = omega (
        arith,
        c.loop-i.invariant.place,
        length-blocks_in-more runs c.loop-i.i (length (blocks_in (take c.loop-i.i runs)))
            c.run-run.result here refl,
      );
      few = omega (arith, c.loop-i.invariant.few, c.run-run.ensures.bounds.1);
      takes =
          pointers-more c.args.slots.now c.args.dir c.args.at c.args.block.now _ c.args.self.now c.loop-i.i c.loop-i.behind c.run-run.result
          _ _ _ _ here c.loop-i.invariant.place c.loop-i.invariant.takes
          c.loop-i.invariant.looked takes;
      looked = looked_within (looked_more c.loop-i.invariant.looked takes.looked)
          (omega (arith, c.loop-i.invariant.place, length-range_with_len c.run-run.result.0 c.run-run.result.1));
    }

pub returns-clause-count : goal.returns-clause-count
returns-clause-count g c =
    let all = pointers-all c.args.slots.now c.args.dir c.args.at c.args.block.now (g.D.Device.disk c.args.device.now) c.args.self.now
    c.loop-i.i c.loop-i.behind
    (omega (arith, rw c.map-map.ensures at c.runs-i-end.ensures.count, c.loop-i-test.false)) c.loop-i.invariant.place in
    omega (arith, all)

pub returns-clause-takes : goal.returns-clause-takes
returns-clause-takes g c =
    let all = pointers-all c.args.slots.now c.args.dir c.args.at c.args.block.now (g.D.Device.disk c.args.device.now) c.args.self.now
    c.loop-i.i c.loop-i.behind
    (omega (arith, rw c.map-map.ensures at c.runs-i-end.ensures.count, c.loop-i-test.false)) c.loop-i.invariant.place in
    pointers-taken c.args.slots.now c.args.dir c.args.at c.args.block.now _ c.args.self.now c.loop-i.behind _ _ all c.loop-i.invariant.takes
    c.loop-i.invariant.looked
