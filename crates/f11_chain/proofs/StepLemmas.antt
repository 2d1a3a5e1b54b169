-- What one header read tells of the table of headers.
use Rattle.std.proofs.Common.{◌≡◌, ◌≢◌, ◌↔◌, ℕ, ◌+◌, Bool, true, false, IsTrue, List, Some, refl, sym, ap, subst, ◌∙◌, inl, inr, arith}
use Rattle.std.specs.List.{slice_get}
use Rattle.std.proofs.lemmas.Bool.{both_ways}
use Rattle.f11_dev.specs.Disk.{Disk, with_transfer}
use Rattle.f11_dev.specs.Image.{IsImage, image_block}
use Rattle.f11_dev.proofs.ImageLemmas.{image_block-read}
use Rattle.f11_dev.proofs.LookedLemmas.{looked_none, looked_read, looked_within}
use Rattle.f11_index.specs.header.Header.{IsHeader}
use Rattle.f11_index.specs.IndexFile.{Index, is_in_use, header_lbn}
use Rattle.f11_index.specs.Table.{Table, table_in, LinksRightly}
use Rattle.f11_index.specs.map.HeaderBlock.{segment_number, link_of}
use Rattle.f11_index.proofs.SegmentLemmas.{table-bytes}
use Rattle.f11_chain.specs.Calls.{ReadsHeader, FindsWrongLink, IsNextOf, table}

-- a slot in use is one of the table, and the other way round
pub table-in_use : (index : Index) (disk : Disk) (n : ℕ) → (table index disk).in_use n ≡ is_in_use index n
unfolding table_in
table-in_use index disk n = refl

pub table-header : (index : Index) (disk : Disk) (n lbn : ℕ) (block : List ℕ) → lbn ≡ header_lbn index n
    → slice_get disk.image lbn ≡ Some block
    → block ≡ (table index disk).header n
unfolding table_in
table-header index disk n lbn block at reads = sym (image_block-read disk.image lbn block reads) ∙ ap (image_block disk.image) at

-- slot n isn't in use, so nothing is read
pub ReadsHeader-none : (index : Index) (n : ℕ) (block : List ℕ) (disk : Disk) → is_in_use index n ≡ false
    → ReadsHeader index n false block disk disk
ReadsHeader-none index n block disk none = record {
  holds = λ never. absurd (both_ways false refl never);
  not_live = λ _ honest live. both_ways (is_in_use index n) none (sym (table-in_use index disk n) ∙ live.in_use);
  looked = looked_within (looked_none disk) (omega arith);
}

-- its header was read
pub ReadsHeader-read : (index : Index) (n lbn : ℕ) (live : Bool) (block : List ℕ) (old new : Disk) → is_in_use index n ≡ true
    → lbn ≡ header_lbn index n
    → new ≡ with_transfer true old → (IsTrue old.honest → slice_get old.image lbn ≡ Some block) → IsTrue live ↔ IsHeader block n
    → ReadsHeader index n live block old new
ReadsHeader-read index n lbn live block old new in_use at counts gives valid = record {
  holds = λ is. record { in_use = in_use; valid = valid.0 is; block_is = block_is };
  not_live = λ none honest is. both_ways live none (valid.1 (subst (λ (b : List ℕ). IsHeader b n) (sym (block_is honest)) is.valid));
  looked = looked_read old new counts;
}
  where
    block_is : IsTrue old.honest → block ≡ (table index old).header n
    block_is honest = table-header index old n lbn block at (gives honest)

-- a header of the last segment has no next
pub FindsWrongLink-last : (index : Index) (before : List ℕ) (disk : Disk) → IsImage disk.image → segment_number before ≡ 255
    → (link_of before).number ≢ 0
    → FindsWrongLink index before disk disk
FindsWrongLink-last index before disk image last some = record {
  some_link = some;
  wrong = λ honest m next. let byte = table-bytes disk.image index image m in absurd (omega (arith, last, next.segment, byte));
  looked = looked_within (looked_none disk) (omega arith);
}

-- a link in hand that is wrong is wrong in the table
pub wrong-link : (t : Table) (n : ℕ) (before : List ℕ) → before ≡ t.header n → (link_of before).number ≢ 0
    → ((m : ℕ) → ¬ IsNextOf t before m) → ¬ LinksRightly t n
wrong-link t n before is some none links = elim links [
  | inl absent ↦ some (ap (λ (b : List ℕ). (link_of b).number) is ∙ absent)
  | inr next ↦ none (link_of (t.header n)).number record {
    to = next.to;
    number = ap (λ (b : List ℕ). (link_of b).number) is;
    sequence = ap (λ (b : List ℕ). (link_of b).sequence) is ∙ next.sequence;
    segment = next.segment ∙ ap (λ (b : List ℕ). segment_number b + 1) (sym is);
  }
]
