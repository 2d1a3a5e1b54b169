use Rattle.std.proofs.Common.{◌≡◌, ℕ, List, false, length, take, Some, refl, sym, subst, ap, ◌∙◌, arith}
use Rattle.std.specs.List.{slice_get, range_with_len}
use Rattle.std.proofs.lemmas.Bool.{both_ways}
use Rattle.std.proofs.lemmas.List.FromFn.{length-range_with_len}
use Rattle.std.proofs.lemmas.List.{take_all}
use Rattle.f11_map.specs.header.Fields.{map_area}
use Rattle.f11_map.specs.HeaderBlock.{blocks_named}
use Rattle.f11_index.specs.Walk.{FitFrom, AddsTo}
use Rattle.f11_index.proofs.BlockLemmas.{Adds-none, Adds-append, FitFrom-none, FitFrom-append, FitFrom-pointer, blocks_in-more}
use Rattle.f11_map.specs.MapArea.{runs_of, blocks_in}
use Rattle.f11_index.proofs.blocks.Blocks.add.Goals as goal

pub loop-i-init : goal.loop-i-init
loop-i-init c = record {
  adds = Adds-none c.args.home.now _ _ c.requires.few;
  fit = FitFrom-none _ _ _;
  few = omega arith;
}

pub fits-requires-clause-places : goal.fits-requires-clause-places
fits-requires-clause-places c = omega (arith, c.run-lbn.ensures.bounds, c.runs-i-end.ensures.few)

pub keep-requires-clause-places : goal.keep-requires-clause-places
keep-requires-clause-places c = omega (arith, c.run-lbn.ensures.bounds, c.runs-i-end.ensures.few)

pub returns-then-not-fits-clause-adds : goal.returns-then-not-fits-clause-adds
unfolding blocks_named
returns-then-not-fits-clause-adds c = λ fit.
    let runs = runs_of (map_area c.args.block.now) in
    let at : slice_get runs c.loop-i.i ≡ Some c.run-lbn.result = ap (λ (m : List ℕ). slice_get (runs_of m) c.loop-i.i)
    (sym c.map-map.ensures) ∙ c.run-lbn.ensures.run in
    both_ways false refl (c.if-not-fits.ensures.1
    (FitFrom-pointer c.args.home.now c.args.end c.args.self.now.places _ runs c.loop-i.i c.run-lbn.result at
    c.loop-i.invariant.adds.places_are fit))

pub loop-i-preserved : goal.loop-i-preserved
loop-i-preserved c =
    let runs = runs_of (map_area c.args.block.now) in
    let lbns = blocks_in (take c.loop-i.i runs) in
    let run = range_with_len c.run-lbn.result.0 c.run-lbn.result.1 in
    let at : slice_get runs c.loop-i.i ≡ Some c.run-lbn.result = ap (λ (m : List ℕ). slice_get (runs_of m) c.loop-i.i)
    (sym c.map-map.ensures) ∙ c.run-lbn.ensures.run in
    let more = sym (blocks_in-more runs c.loop-i.i c.run-lbn.result at) in
    let adds = c.in_ok-keep.ensures in
    record {
      adds = subst (λ (xs : List ℕ). AddsTo c.args.home.now xs c.args.self.now c.keep.new.self) more
          (Adds-append c.args.home.now lbns run c.loop-i.invariant.adds adds);
      fit = subst (λ (xs : List ℕ). FitFrom c.args.home.now c.args.end c.args.self.now.places xs) more
          (FitFrom-append c.args.home.now c.args.end c.args.self.now.places lbns run _ c.loop-i.invariant.adds.places_are
          c.loop-i.invariant.fit (c.if-not-fits.ensures.0 refl));
      few = omega (arith, adds.places_are, c.run-lbn.ensures.bounds, length-range_with_len c.run-lbn.result.0 c.run-lbn.result.1);
    }

pub returns-clause-adds : goal.returns-clause-adds
unfolding blocks_named
returns-clause-adds c =
    let all : take c.loop-i.i (runs_of (map_area c.args.block.now)) ≡ runs_of (map_area c.args.block.now) =
    take_all c.loop-i.i (runs_of (map_area c.args.block.now))
    (omega (arith, c.runs-i-end.ensures.count, ap (λ (m : List ℕ). length (runs_of m)) c.map-map.ensures)) in (
      subst (λ (r : List (ℕ × ℕ)). AddsTo c.args.home.now (blocks_in r) c.args.self.now c.loop-i.self) all c.loop-i.invariant.adds,
      subst (λ (r : List (ℕ × ℕ)). FitFrom c.args.home.now c.args.end c.args.self.now.places (blocks_in r)) all c.loop-i.invariant.fit,
    )

pub returns-then-not-fits-clause-few : goal.returns-then-not-fits-clause-few
returns-then-not-fits-clause-few c = omega (arith, c.runs-i-end.ensures.few)

pub returns-clause-few : goal.returns-clause-few
returns-clause-few c = omega (arith, c.runs-i-end.ensures.few)
