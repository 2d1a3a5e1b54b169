use Rattle.std.proofs.Common.{rules, subst, sym, ap, ◌∙◌}
use Rattle.f11_header.specs.Fields.{map_area}
use Rattle.f11_header.specs.MapFields.{IsMapArea}
use Rattle.f11_header.proofs.FieldLemmas.{IsMapArea-in_header}
use Rattle.f11_map.proofs.InHandLemmas.{SetsLink-sealed}
use Rattle.f11_map.proofs.in_hand.set_link.Goals as goal

pub link_to-requires : goal.link_to-requires
link_to-requires c =
    let b = c.args.block.now in
    let lent = c.map_mut.ensures.area ∙ ap map_area c.new-header.ensures.block in
    record { is_map = subst IsMapArea (sym lent) (IsMapArea-in_header b c.told-block c.requires.header) }

pub returns : goal.returns
returns c =
    let lent = c.map_mut.ensures.area ∙ ap map_area c.new-header.ensures.block in
    record {
      sets = SetsLink-sealed c.args.block.now _ _ _ _ c.told-block c.requires.header lent (search rules) c.link_to.ensures.link
          c.link_to.ensures.pointers;
    }
