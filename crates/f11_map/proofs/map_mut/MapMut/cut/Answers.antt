use Rattle.std.proofs.Common.{sym, ap, ◌∙◌, arith}
use Rattle.std.proofs.lemmas.Option.{get_or_from_slice_get}
use Rattle.f11_map.specs.MapArea.{runs_of, blocks_in}
use Rattle.f11_map.specs.Map.{area_of, written_area}
use Rattle.f11_map.proofs.MapLemmas.{length-runs_of-le}
use Rattle.f11_map.proofs.RunLemmas.{AreSome-runs_of, cut_to-all, cut_to-between, cut_to-inside, blocks_in-cut_to}
use Rattle.f11_map.proofs.PointerLemmas.{WritesPointers-same}
use Rattle.f11_map.proofs.map_mut.MapMut.cut.Goals as goal

pub returns-in_default-clause-pointers : goal.returns-in_default-clause-pointers
returns-in_default-clause-pointers c =
    let m = written_area c.args.self.now in
    sym (cut_to-all (runs_of m) c.args.place (AreSome-runs_of m) (rw c.map-map.ensures at c.in_default.ensures.found))

pub returns-in_default-clause-rest : goal.returns-in_default-clause-rest
returns-in_default-clause-rest c = WritesPointers-same (written_area c.args.self.now) c.args.self.now.is_map

pub put_last-requires-clause-place : goal.put_last-requires-clause-place
put_last-requires-clause-place c =
    let lies = rw c.map-map.ensures at c.in-Some.ensures.found in
    omega (arith, lies.pointer, length-runs_of-le (written_area c.args.self.now) c.args.self.now.is_map)

pub put_last-requires-clause-count : goal.put_last-requires-clause-count
put_last-requires-clause-count c =
    let is = get_or_from_slice_get (runs_of (area_of c.map-map.result)) c.in-Some.i c.run-lbn.result (0, 0) c.run-lbn.ensures.run in
    let within = rw is at c.in-Some.ensures.found.within in
    (omega arith, omega arith)

pub returns-then-left-eq0-clause-pointers : goal.returns-then-left-eq0-clause-pointers
returns-then-left-eq0-clause-pointers c =
    let m = written_area c.args.self.now in
    c.keep.ensures.pointers ∙ sym
    (cut_to-between (runs_of m) c.args.place c.in-Some.i c.in-Some.left (AreSome-runs_of m)
    (rw c.map-map.ensures at c.in-Some.ensures.found) c.if-left-eq0.true)

pub returns-then-left-eq0-clause-blocks : goal.returns-then-left-eq0-clause-blocks
returns-then-left-eq0-clause-blocks c =
    ap blocks_in (returns-then-left-eq0-clause-pointers c) ∙ blocks_in-cut_to (runs_of (written_area c.args.self.now)) c.args.place

pub returns-else-left-eq0-clause-pointers : goal.returns-else-left-eq0-clause-pointers
returns-else-left-eq0-clause-pointers c =
    let m = written_area c.args.self.now in
    let at = rw c.map-map.ensures at c.run-lbn.ensures.run in
    c.put_last.ensures.pointers
    ∙ sym (cut_to-inside (runs_of m) c.args.place c.in-Some.i c.in-Some.left c.run-lbn.result (AreSome-runs_of m)
    (rw c.map-map.ensures at c.in-Some.ensures.found) at (omega arith))

pub returns-else-left-eq0-clause-blocks : goal.returns-else-left-eq0-clause-blocks
returns-else-left-eq0-clause-blocks c =
    ap blocks_in (returns-else-left-eq0-clause-pointers c) ∙ blocks_in-cut_to (runs_of (written_area c.args.self.now)) c.args.place
