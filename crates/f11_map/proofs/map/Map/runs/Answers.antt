use Rattle.std.proofs.Common.{◌/◌, sym, ap, ◌∙◌}
use Rattle.f11_map.specs.Map.{area_of}
use Rattle.f11_map.proofs.MapLemmas.{length-runs_of}
use Rattle.f11_map.proofs.map.Map.runs.Goals as goal

pub returns-clause-count : goal.returns-clause-count
returns-clause-count c = ap (λ n. n / 2) c.from.ensures ∙ sym (length-runs_of (area_of c.args.self.now))
