use Rattle.std.proofs.Common.{◌≡◌, ◌-◌, true, false, [], ◌∷◌, ◌++◌, length, refl, sym, ap, ◌∙◌, arith}
use Rattle.std.proofs.lemmas.List.{take_all}
use Rattle.std.proofs.lemmas.Option.{slice_get_within}
use Rattle.f11_map.specs.MapArea.{runs_of, blocks_in, places}
use Rattle.f11_map.specs.MapWriting.{joins, joins_last}
use Rattle.f11_map.specs.Map.{written_area}
use Rattle.f11_map.proofs.MapLemmas.{length-runs_of-le}
use Rattle.f11_map.proofs.RunLemmas.{joins_last-at, joins-fits, with_blocks-joined, with_blocks-apart, blocks_in-with_blocks}
use Rattle.f11_map.proofs.PointerLemmas.{WritesPointers-same}
use Rattle.f11_map.proofs.map_mut.MapMut.append.Goals as goal

pub put_last-requires-clause-place : goal.put_last-requires-clause-place
put_last-requires-clause-place c =
    let m = written_area c.args.self.now in
    let at = rw c.map-map.ensures at c.run-first.ensures.run in
    omega (
      arith,
      slice_get_within (runs_of m) (c.runs-pointers.result - 1) c.run-first.result at,
      length-runs_of-le m c.args.self.now.is_map,
    )

pub put_last-requires-clause-count : goal.put_last-requires-clause-count
put_last-requires-clause-count c =
    let m = written_area c.args.self.now in
    let run = c.run-first.result in
    let at = rw c.map-map.ensures at c.run-first.ensures.run in
    let within = slice_get_within (runs_of m) (c.runs-pointers.result - 1) run at in
    let count : c.runs-pointers.result ≡ length (runs_of m) = rw c.map-map.ensures at c.runs-pointers.ensures.count in
    let joined : joins_last (runs_of m) c.args.lbn c.args.count ≡ true = sym (rw c.map-map.ensures at c.joins_last.ensures)
    ∙ c.if-joins_last.true in
    let here : joins run c.args.lbn c.args.count ≡ true =
    sym (joins_last-at (runs_of m) (c.runs-pointers.result - 1) c.args.lbn c.args.count run (omega arith) at) ∙ joined in
    (omega arith, joins-fits run c.args.lbn c.args.count here)

pub returns-then-joins_last-clause-pointers : goal.returns-then-joins_last-clause-pointers
returns-then-joins_last-clause-pointers c = λ ok.
    let m = written_area c.args.self.now in
    let run = c.run-first.result in
    let at = rw c.map-map.ensures at c.run-first.ensures.run in
    let count : c.runs-pointers.result ≡ length (runs_of m) = rw c.map-map.ensures at c.runs-pointers.ensures.count in
    let within = slice_get_within (runs_of m) (c.runs-pointers.result - 1) run at in
    let joined : joins_last (runs_of m) c.args.lbn c.args.count ≡ true = sym (rw c.map-map.ensures at c.joins_last.ensures)
    ∙ c.if-joins_last.true in
    c.put_last.ensures.pointers
    ∙ sym (with_blocks-joined (runs_of m) (c.runs-pointers.result - 1) c.args.lbn c.args.count run (omega arith) at joined)

pub returns-then-joins_last-clause-blocks : goal.returns-then-joins_last-clause-blocks
returns-then-joins_last-clause-blocks c = λ ok.
    ap blocks_in (returns-then-joins_last-clause-pointers c ok)
    ∙ blocks_in-with_blocks (runs_of (written_area c.args.self.now)) c.args.lbn c.args.count

pub returns-then-places_left-eq0-clause-full : goal.returns-then-places_left-eq0-clause-full
returns-then-places_left-eq0-clause-full c =
    let m = written_area c.args.self.now in
    let left : c.places_left.result ≡ places m - length (runs_of m) = rw c.map-map.ensures at c.places_left.ensures in
    let apart : joins_last (runs_of m) c.args.lbn c.args.count ≡ false = sym (rw c.map-map.ensures at c.joins_last.ensures)
    ∙ c.if-joins_last.false in
    (λ full. (omega (arith, length-runs_of-le m c.args.self.now.is_map), apart), λ full. refl)

pub returns-then-places_left-eq0-clause-rest : goal.returns-then-places_left-eq0-clause-rest
returns-then-places_left-eq0-clause-rest c = WritesPointers-same (written_area c.args.self.now) c.args.self.now.is_map

pub returns-clause-pointers : goal.returns-clause-pointers
returns-clause-pointers c = λ ok.
    let m = written_area c.args.self.now in
    let apart : joins_last (runs_of m) c.args.lbn c.args.count ≡ false = sym (rw c.map-map.ensures at c.joins_last.ensures)
    ∙ c.if-joins_last.false in
    let count : c.runs-pointers.result ≡ length (runs_of m) = rw c.map-map.ensures at c.runs-pointers.ensures.count in
    c.put_last-2.ensures.pointers
    ∙ ap (λ runs. runs ++ (c.args.lbn, c.args.count) ∷ []) (take_all c.runs-pointers.result (runs_of m) (omega arith))
    ∙ sym (with_blocks-apart (runs_of m) c.args.lbn c.args.count apart)

pub returns-clause-blocks : goal.returns-clause-blocks
returns-clause-blocks c = λ ok.
    ap blocks_in (returns-clause-pointers c ok) ∙ blocks_in-with_blocks (runs_of (written_area c.args.self.now)) c.args.lbn c.args.count
