use Rattle.std.proofs.Common.{◌+◌, ◌*◌, ◌≤◌, ◌&&◌, ◌∙◌, ap, sym, subst, ℕ, List, eqb, get_or}
use Rattle.f11_bytes.specs.Words.{word}
use Rattle.f11_header.specs.Fields.{ident_offset, ident_area, attributes}
use Rattle.f11_header.proofs.HeaderFacts.{ident_within}
use Rattle.f11_map.specs.HeaderBlock.{segment_number}
use Rattle.f11_vfy.specs.Surveying.Slot.{says_directory}
use Rattle.f11_vfy.proofs.survey.slot.is_directory.Goals as goal

pub ident-requires-clause-within : goal.ident-requires-clause-within
unfolding segment_number
ident-requires-clause-within c =
    subst (λ (b : List ℕ). 2 * ident_offset b + 46 ≤ 510) (sym c.new-header.ensures)
    (ident_within c.args.block.now c.requires.header c.requires.first)

pub returns : goal.returns
unfolding says_directory
returns c =
    let area = c.ident.ensures.area ∙ ap ident_area c.new-header.ensures in
    let attr = c.attributes.ensures ∙ ap attributes c.new-header.ensures in
    c.are_directory.ensures
    ∙ ap (λ (i : List ℕ). eqb (word i 6) 6778 && eqb (get_or c.attributes.result 0 0) 1 && eqb (word c.attributes.result 2) 16) area
    ∙ ap (λ (a : List ℕ). eqb (word (ident_area c.args.block.now) 6) 6778 && eqb (get_or a 0 0) 1 && eqb (word a 2) 16) attr
