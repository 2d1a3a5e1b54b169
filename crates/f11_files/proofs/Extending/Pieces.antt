-- Blocks in a row that a header in hand names, however many.
use Rattle.std.proofs.Common.{◌≡◌, ◌+◌, ◌<◌, ◌≤◌, ℕ, Bool, true, false, cond, List, [], ◌∷◌, length, refl, ap, ◌∙◌, arith}
use Rattle.f11_header.specs.Fields.{map_area}
use Rattle.f11_map.specs.InHand.{AppendsBlocks}
use Rattle.f11_map.specs.MapArea.{runs_of}
use Rattle.f11_map.specs.MapWriting.{joins, joins_last, with_blocks}
use Rattle.f11_files.specs.Extending.Tail.{NamesAll}

-- how many pointers there are with these blocks
runs-more : (runs : List (ℕ × ℕ)) (lbn count : ℕ) → length (with_blocks runs lbn count) ≡ length runs + cond (joins_last runs lbn count) 0 1
runs-more [] lbn count = refl
runs-more (run ∷ []) lbn count = go (joins run lbn count)
  where
    go : (b : Bool) → length (cond b ((run.0, run.1 + count) ∷ []) (run ∷ (lbn, count) ∷ [])) ≡ 1 + cond b 0 1
    go true = refl
    go false = refl
runs-more (run ∷ next ∷ runs) lbn count = let rest = runs-more (next ∷ runs) lbn count in omega (arith, rest)

at-most-one : (b : Bool) → cond b 0 1 ≤ 1
at-most-one true = omega arith
at-most-one false = omega arith

-- one pointer, or none
pub one-more : (old new : List ℕ) (lbn count : ℕ) → 0 < count → AppendsBlocks old new lbn count → NamesAll old new lbn count
one-more old new lbn count some appends =
    let more : ℕ = cond (joins_last (runs_of (map_area old)) lbn count) 0 1 in
    let most : more ≤ 1 = at-most-one (joins_last (runs_of (map_area old)) lbn count) in
    record {
      more = more;
      few = omega (arith, most, some);
      names = record {
        header = appends.header;
        pointers = ap (λ (runs : List (ℕ × ℕ)). length runs) appends.pointers ∙ runs-more (runs_of (map_area old)) lbn count;
        blocks = appends.blocks;
        rest = appends.rest;
      };
    }
