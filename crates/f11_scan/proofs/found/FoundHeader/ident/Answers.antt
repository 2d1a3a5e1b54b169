use Rattle.std.proofs.Common.{◌≡◌, ◌+◌, ◌*◌, ◌≤◌, sym, ◌∙◌, subst, List, ℕ}
use Rattle.f11_header.specs.Fields.{ident_offset, map_area, map_offset}
use Rattle.f11_header.specs.MapFields.{segment}
use Rattle.f11_scan.proofs.UseLemmas.{use-map_within, use-ident_within}
use Rattle.f11_scan.proofs.found.FoundHeader.ident.Goals as goal

pub segment-requires : goal.segment-requires
segment-requires c =
    subst (λ (b : List ℕ). map_offset b ≤ 250) (sym c.header-header.ensures) (use-map_within _ _ c.args.self.now.is_header)

pub ident-requires-clause-within : goal.ident-requires-clause-within
ident-requires-clause-within c =
    subst (λ (b : List ℕ). segment (map_area b) ≡ 0 → 2 * ident_offset b + 46 ≤ 510) (sym c.header-header.ensures)
    (use-ident_within _ _ c.args.self.now.is_header)
    (sym c.segment.ensures ∙ c.if-segment-eq0.true)
