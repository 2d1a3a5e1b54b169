use Rattle.std.proofs.Common.{◌≡◌, ◌≤◌, List, ℕ, sym, ap, subst, ◌∙◌, eqb-true, eq-eqb}
use Rattle.f11_map.specs.header.Fields.{map_offset, map_area, file_sequence}
use Rattle.f11_map.specs.header.MapFields.{segment}
use Rattle.f11_map.proofs.header.HeaderFacts.{map_within}
use Rattle.f11_map.specs.HeaderBlock.{segment_number}
use Rattle.f11_index.specs.IndexFile.{bit_of_slot}
use Rattle.f11_map.specs.store.declared.files.FileId.{FileId}
use Rattle.f11_index.proofs.walk.is_header_due.Goals as goal

pub segment-requires : goal.segment-requires
segment-requires c =
    let valid = c.check.ensures.valid.0 c.if-is_err.ensures.negation in
    subst (λ (b : List ℕ). map_offset b ≤ 250) (sym c.new-header.ensures) (map_within c.args.block.now valid.holds)

pub returns-then-id-due : goal.returns-then-id-due
unfolding segment_number
returns-then-id-due c =
    let valid = c.check.ensures.valid.0 c.if-is_err.ensures.negation in
    let number : c.from-then-id-due.result ≡ segment_number c.args.block.now =
    c.from-then-id-due.ensures ∙ c.segment.ensures ∙ ap (λ (b : List ℕ). segment (map_area b)) c.new-header.ensures in
    let sequence : file_sequence c.args.block.now ≡ c.args.due.sequence =
    sym (ap (λ (i : FileId). i.sequence) c.id.ensures ∙ ap file_sequence c.new-header.ensures) ∙ c.if-id-due.true in (
      λ is. record {
        bit = ap (bit_of_slot c.args.bitmap.now) (sym c.from.ensures) ∙ sym c.is_slot_set.ensures ∙ c.if-not-is_slot_set.false;
        valid = valid;
        sequence_is = sequence;
        segment_is = sym number ∙ eqb-true _ _ is;
      },
      λ due. eq-eqb _ _ (number ∙ due.segment_is),
    )
