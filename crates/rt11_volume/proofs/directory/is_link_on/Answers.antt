use Rattle.std.proofs.Common.{arith, map, ◌∙◌}
use Rattle.rt11_volume.specs.declared.directory.Visited.{Visited}
use Rattle.rt11_volume.proofs.Walking.Visit.{has_number-any, link-here}
use Rattle.rt11_volume.proofs.directory.is_link_on.Goals as goal

pub returns-then-next-count : goal.returns-then-next-count
returns-then-next-count c =
    link-here c.args.count c.args.next (map (λ (v : Visited). v.number) c.args.visited.now) c.has_number.result
    (λ none. omega (arith, none)) (omega arith)
    (c.has_number.ensures ∙ has_number-any c.args.visited.now c.args.next)
