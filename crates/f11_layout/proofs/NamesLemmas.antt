-- Blocks in a row, named in a header that names none.
use Rattle.std.proofs.Common.{◌≡◌, ◌-◌, ◌*◌, ◌≤◌, ℕ, List, ◌++◌, length, ap, ◌∙◌, arith}
use Rattle.std.specs.List.{range_with_len}
use Rattle.f11_map.specs.header.Fields.{map_area}
use Rattle.f11_map.specs.header.MapFields.{places}
use Rattle.f11_map.specs.InHand.{AppendsRuns}
use Rattle.f11_map.specs.MapArea.{runs_of, blocks_in}
use Rattle.f11_map.specs.MapWriting.{fewest_runs}
use Rattle.f11_map.proofs.PointerLemmas.{places-written}
use Rattle.f11_map.specs.store.File.{run_pointers}
use Rattle.f11_layout.specs.NamesBlocks.{HasNoPointers, NamesBlocks}

-- there is a place for each pointer
pub has-places : (old : List ℕ) (count : ℕ) → count ≤ 256 * 102 → HasNoPointers old
    → run_pointers count ≤ places (map_area old) - length (runs_of (map_area old))
has-places old count few empty =
    let none : length (runs_of (map_area old)) ≡ 0 = ap (λ (runs : List (ℕ × ℕ)). length runs) empty.none in
    omega (arith, few, none, empty.room)

-- behind none, the pointers are all that there are
pub names-blocks : (first count : ℕ) (old new : List ℕ) → HasNoPointers old → AppendsRuns old new first count
    → NamesBlocks first count old new
names-blocks first count old new empty appends = record {
  keeps = appends.header.seals.keeps;
  sum = appends.header.seals.sum;
  fields = appends.header.fields;
  room = places-written (map_area old) (map_area new) appends.rest ∙ empty.room;
  pointers = appends.pointers ∙ ap (λ (runs : List (ℕ × ℕ)). runs ++ fewest_runs first count) empty.none;
  blocks = appends.blocks ∙ ap (λ (runs : List (ℕ × ℕ)). blocks_in runs ++ range_with_len first count) empty.none;
  rest = appends.rest;
}
