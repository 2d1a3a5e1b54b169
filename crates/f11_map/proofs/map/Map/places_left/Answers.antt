use Rattle.std.proofs.Common.{arith}
use Rattle.f11_header.proofs.HeaderFacts.{pointer_facts}
use Rattle.f11_map.specs.Map.{area_of}
use Rattle.f11_map.proofs.MapLemmas.{length-runs_of}
use Rattle.f11_map.proofs.map.Map.places_left.Goals as goal

pub overflow_sub-result : goal.overflow_sub-result
overflow_sub-result c =
    let facts = pointer_facts (area_of c.args.self.now) c.args.self.now.is_map.pointers in
    omega (arith, c.runs.ensures.count, length-runs_of (area_of c.args.self.now), c.min-most.ensures, c.from.ensures, facts.within)
