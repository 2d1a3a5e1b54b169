use Rattle.std.proofs.Common.{◌≤◌, sym, subst, List, ℕ}
use Rattle.f11_header.specs.Fields.{map_offset}
use Rattle.f11_scan.proofs.UseLemmas.{use-map_within}
use Rattle.f11_scan.proofs.found.FoundHeader.segment.Goals as goal

pub segment-requires : goal.segment-requires
segment-requires c = subst (λ (b : List ℕ). map_offset b ≤ 250) (sym c.header.ensures) (use-map_within _ _ c.args.self.now.is_header)
