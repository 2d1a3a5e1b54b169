use Rattle.std.proofs.Common.{◌≡◌, ◌<◌, ◌≤◌, ℕ, List, drop, ◌∙◌, length, Some, sym, ap, arith}
use Rattle.std.specs.List.{slice_get}
use Rattle.f11_header.specs.Fields.{map_area}
use Rattle.f11_map.specs.HeaderBlock.{blocks_named}
use Rattle.f11_map.specs.MapArea.{runs_of}
use Rattle.f11_image_store.specs.FileLaws.{pointers_in}
use Rattle.f11_files.proofs.AnswerLemmas.{handed}
use Rattle.f11_files.proofs.Removing.Freeing.{broken-stays, handed-stays}
use Rattle.f11_files.proofs.Removing.Giving.{giving-none, giving-at, giving-end, next-unreferenced, giving-breaks, giving-next, giving-done}
use Rattle.f11_files.proofs.Removing.Giving.{giving-stays}
use Rattle.f11_files.proofs.Confining.Parts.{parts-none, parts-then, stands-same, stands-then}
use Rattle.f11_image_store.specs.Confines.{no_header}
use Rattle.f11_files.proofs.structure.Structure.give_from.Goals as goal

-- a pointer, and how many there are
run-at : (area block : List ℕ) (i : ℕ) (run : ℕ × ℕ) → area ≡ map_area block → slice_get (runs_of area) i ≡ Some run
    → slice_get (runs_of (map_area block)) i ≡ Some run
run-at area block i run is at = ap (λ (m : List ℕ). slice_get (runs_of m) i) (sym is) ∙ at

counted : (area block : List ℕ) (n : ℕ) → area ≡ map_area block → n ≡ length (runs_of area) → n ≡ length (runs_of (map_area block))
counted area block n is count = count ∙ ap (λ (m : List ℕ). length (runs_of m)) is

pub loop-i-init : goal.loop-i-init
unfolding blocks_named
loop-i-init g c = record {
  giving = giving-none c.args.self.now _ _ c.requires.is_for c.requires.unreferenced;
  confined = parts-none c.args.self.now no_header _;
  places = stands-same c.args.self.now;
}

pub give_run-requires-clause-is_for : goal.give_run-requires-clause-is_for
give_run-requires-clause-is_for g c = c.loop-i.invariant.giving.is_for

pub give_run-requires-clause-unreferenced : goal.give_run-requires-clause-unreferenced
give_run-requires-clause-unreferenced g c =
    next-unreferenced _ _ _ _ _ _ _ _ _
    (giving-at _ _ _ _ c.run-lbn.result (run-at _ c.args.block.now _ _ c.map-map.ensures c.run-lbn.ensures.run) c.min-kept.ensures
    c.loop-i.invariant.giving)

pub returns-in_err-give_run-clause-refused : goal.returns-in_err-give_run-clause-refused
returns-in_err-give_run-clause-refused g c =
    let count = counted _ c.args.block.now _ c.map-map.ensures c.runs-i-end.ensures.count in
    let more : c.loop-i.i < pointers_in c.args.block.now = omega (arith, count, c.loop-i-test.true) in
    handed _ c.from_residual.result _ c.from_residual.ensures.1
    (giving-breaks {lbns = drop c.args.keep (blocks_named c.args.block.now)} c.loop-i.invariant.giving _ more
    c.in_err-give_run.ensures.refused)

pub returns-in_err-give_run-clause-stays : goal.returns-in_err-give_run-clause-stays
returns-in_err-give_run-clause-stays g c =
    let giving = c.loop-i.invariant.giving in
    let breaks = c.in_err-give_run.ensures.refused in
    let count = counted _ c.args.block.now _ c.map-map.ensures c.runs-i-end.ensures.count in
    let more : c.loop-i.i < pointers_in c.args.block.now = omega (arith, count, c.loop-i-test.true) in
    handed-stays c.from_residual.result _ _ _ _ c.from_residual.ensures.1 breaks.fatal
    (broken-stays c.args.self.now _ _ _ _ (c.in_err-give_run.ensures.stays.home ∙ giving.home) c.requires.is_for
    (giving-breaks {lbns = drop c.args.keep (blocks_named c.args.block.now)} giving _ more breaks))

pub loop-i-preserved : goal.loop-i-preserved
loop-i-preserved g c = record {
  giving =
      giving-next _ _ _ _ _ _ _ _ _
      (giving-at _ _ _ _ c.run-lbn.result (run-at _ c.args.block.now _ _ c.map-map.ensures c.run-lbn.ensures.run) c.min-kept.ensures
      c.loop-i.invariant.giving) _ _
      c.in_ok-give_run.ensures.given (rw c.in_ok-give_run.was at c.give_run.ensures.stays);
  confined = parts-then c.args.self.now c.loop-i.self no_header c.loop-i.invariant.places c.loop-i.invariant.confined
      c.give_run.ensures.confined;
  places = stands-then c.args.self.now c.loop-i.self c.give_run.new.self c.loop-i.invariant.places c.in_ok-give_run.ensures.places;
}

pub returns-clause-given : goal.returns-clause-given
unfolding blocks_named
returns-clause-given g c =
    let count = counted _ c.args.block.now _ c.map-map.ensures c.runs-i-end.ensures.count in
    let past : pointers_in c.args.block.now ≤ c.loop-i.i = omega (arith, count, c.loop-i-test.false) in
    let few : c.loop-i.i ≤ pointers_in c.args.block.now = omega (arith, count, c.loop-i.auto.i-end) in
    giving-done _ _ _ _ _ _ (giving-end {lbns = drop c.args.keep (blocks_named c.args.block.now)} _ _ _ past c.loop-i.invariant.giving) _
    few

pub returns-clause-stays : goal.returns-clause-stays
returns-clause-stays g c = giving-stays c.loop-i.invariant.giving

pub returns-in_err-give_run-clause-confined : goal.returns-in_err-give_run-clause-confined
returns-in_err-give_run-clause-confined g c =
    parts-then c.args.self.now c.loop-i.self no_header c.loop-i.invariant.places c.loop-i.invariant.confined c.give_run.ensures.confined

pub returns-clause-confined : goal.returns-clause-confined
returns-clause-confined g c = c.loop-i.invariant.confined

pub returns-clause-places : goal.returns-clause-places
returns-clause-places g c = c.loop-i.invariant.places
