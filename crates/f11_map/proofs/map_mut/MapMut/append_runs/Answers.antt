use Rattle.std.proofs.Common.{◌≡◌, ◌-◌, length, arith}
use Rattle.f11_map.specs.MapArea.{runs_of, places}
use Rattle.f11_map.specs.Map.{written_area}
use Rattle.f11_map.proofs.FewestLemmas.{blocks_in-behind}
use Rattle.f11_map.proofs.MapLemmas.{length-runs_of-le}
use Rattle.f11_map.proofs.map_mut.MapMut.append_runs.Goals as goal

pub put_runs-requires-clause-pointers : goal.put_runs-requires-clause-pointers
put_runs-requires-clause-pointers c = rw c.map-map.ensures at c.runs-pointers.ensures.count

pub put_runs-requires-clause-places : goal.put_runs-requires-clause-places
put_runs-requires-clause-places c =
    let m = written_area c.args.self.now in
    let count : c.runs-pointers.result ≡ length (runs_of m) = rw c.map-map.ensures at c.runs-pointers.ensures.count in
    let left : c.places_left.result ≡ places m - length (runs_of m) = rw c.map-map.ensures at c.places_left.ensures in
    omega (arith, length-runs_of-le m c.args.self.now.is_map)

pub returns-then-run_pointers-places_left-clause-blocks : goal.returns-then-run_pointers-places_left-clause-blocks
returns-then-run_pointers-places_left-clause-blocks c = λ ok. blocks_in-behind _ _ c.args.lbn c.args.count c.put_runs.ensures.pointers
