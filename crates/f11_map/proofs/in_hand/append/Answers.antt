use Rattle.std.proofs.Common.{refl, rules, subst, sym, ap, ◌∙◌}
use Rattle.f11_header.specs.Fields.{map_area}
use Rattle.f11_header.specs.MapFields.{IsMapArea}
use Rattle.f11_header.proofs.FieldLemmas.{IsMapArea-in_header}
use Rattle.f11_map.proofs.InHandLemmas.{AppendsBlocks-sealed, with_map-unchanged}
use Rattle.f11_map.proofs.in_hand.append.Goals as goal

pub append_to-requires-clause-is_map : goal.append_to-requires-clause-is_map
append_to-requires-clause-is_map c =
    let b = c.args.block.now in
    let lent = c.map_mut.ensures.area ∙ ap map_area c.new-header.ensures.block in
    subst IsMapArea (sym lent) (IsMapArea-in_header b c.told-block c.requires.header)

pub returns-in_err-append_to-clause-unchanged : goal.returns-in_err-append_to-clause-unchanged
returns-in_err-append_to-clause-unchanged c =
    let lent = c.map_mut.ensures.area ∙ ap map_area c.new-header.ensures.block in
    λ full. with_map-unchanged c.args.block.now _ _ _ c.requires.header lent (c.in_err-append_to.ensures.unchanged refl) (search rules)

pub returns-clause-ok : goal.returns-clause-ok
returns-clause-ok c =
    let lent = c.map_mut.ensures.area ∙ ap map_area c.new-header.ensures.block in
    AppendsBlocks-sealed c.args.block.now _ _ _ _ _ c.told-block c.requires.header lent (search rules) c.append_to.ensures.rest
    (c.in_ok-append_to.ensures.pointers refl) (c.in_ok-append_to.ensures.blocks refl)
