use Rattle.std.proofs.Common.{length, sym, subst, ap, ◌∙◌}
use Rattle.f11_header.specs.Lent.{header_block}
use Rattle.f11_header.specs.MapFields.{IsMapArea}
use Rattle.f11_header.proofs.HeaderFacts.{map_within}
use Rattle.f11_header.proofs.FieldLemmas.{IsMapArea-map_area}
use Rattle.f11_map.proofs.map.Map.of.Goals as goal

pub map-requires : goal.map-requires
map-requires c = map_within (header_block c.args.header.now) c.requires

pub new-requires : goal.new-requires
new-requires c =
    let b = header_block c.args.header.now in
    subst IsMapArea (sym c.map.ensures.area) (IsMapArea-map_area b (ap length (sym c.map.ensures.area) ∙ c.map.ensures.len) c.requires)
