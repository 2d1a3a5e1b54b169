-- Facts about the bits of slots.
use Rattle.std.proofs.Common.{◌≡◌, ◌≢◌, ◌⊎◌, inl, inr, ℕ, ◌+◌, ◌-◌, ◌*◌, ◌/◌, ◌%◌, ◌<◌, ◌≤◌, Bool, false, List, [], length, sym, ap, subst}
use Rattle.std.proofs.Common.{◌∙◌, arith}
use Rattle.std.proofs.Math.ListN.{set, get_or}
use Rattle.std.specs.Prelude.{nat_eq, Result, Ok, Err, OnOk, OnErr}
use Rattle.std.proofs.lemmas.Bool.{cases_eq, cases_lt}
use Rattle.std.proofs.lemmas.Bool.Decides.{nat_tests}
use Rattle.std.proofs.lemmas.List.{get_or-set_same, get_or-set_other, get_or_past}
use Rattle.std.proofs.lemmas.Nat.Bits.{bit_at-zero}
use Rattle.f11_bytes.specs.Bits.{bit}
use Rattle.f11_dev.specs.Disk.{Disk, Writes}
use Rattle.f11_dev.proofs.WentLemmas.{went_write, went_failed_write}
use Rattle.f11_index.specs.Calls.{SetsBit, WritesBit, FailsToWriteBit, HasBitWritten, bitmap_place, bitmap_block, with_bitmap_block}
use Rattle.f11_index.specs.IndexFile.{Index, slots, bit_of_slot, slot_bit, is_in_use}

-- a slot's bit is whether it is in use
pub is_in_use-within : (index : Index) (n : ℕ) → 0 < n → n ≤ slots index → is_in_use index n ≡ slot_bit index n
unfolding is_in_use
is_in_use-within index n some within = grind (arith, nat_tests)

pub is_in_use-past : (index : Index) (n : ℕ) → slots index < n → is_in_use index n ≡ false
unfolding is_in_use
is_in_use-past index n past = grind (arith, nat_tests)

pub is_in_use-none : (index : Index) (n : ℕ) → (n ≡ 0) ⊎ (slots index < n) → false ≡ is_in_use index n
unfolding is_in_use
is_in_use-none index n (inl zero_is) = grind (arith, nat_tests)
is_in_use-none index n (inr past) = sym (is_in_use-past index n past)

-- a bit that no bitmap block has is 0
pub bit_of_slot-beyond : (bitmap : List (List ℕ)) (n : ℕ) → 4096 * length bitmap < n → bit_of_slot bitmap n ≡ false
unfolding bit_of_slot
bit_of_slot-beyond bitmap n past =
    let none = get_or_past bitmap ((n - 1) / 4096) [] (omega arith) in
    ap (λ (b : List ℕ). bit b ((n - 1) % 4096)) none ∙ ap (λ (k : ℕ). nat_eq k 1) (bit_at-zero ((n - 1) % 4096 % 8))

-- one bit of one bitmap block changed
SetsBit-here : (value : Bool) (n : ℕ) (old : Index) (block : List ℕ) → 0 < n → bitmap_place n < length old.bitmap
    → bit block ((n - 1) % 4096) ≡ value
    → ((j : ℕ) → j ≢ (n - 1) % 4096 → bit block j ≡ bit (get_or old.bitmap (bitmap_place n) []) j)
    → SetsBit value n old (record old { bitmap = set old.bitmap (bitmap_place n) block })
unfolding bit_of_slot
SetsBit-here value n old block some within is others = record {
  one_block = ap (λ (b : List ℕ). record old { bitmap = set old.bitmap (bitmap_place n) b }) (sym here);
  bit = ap (λ (b : List ℕ). bit b ((n - 1) % 4096)) here ∙ is;
  others = λ m more apart. elim (cases_eq (bitmap_place m) (bitmap_place n)) [
    | inl same ↦
        ap (λ (p : ℕ). bit (get_or (set old.bitmap (bitmap_place n) block) p []) ((m - 1) % 4096)) same
        ∙ ap (λ (b : List ℕ). bit b ((m - 1) % 4096)) here
        ∙ others ((m - 1) % 4096) (λ e. apart (omega arith))
        ∙ ap (λ (p : ℕ). bit (get_or old.bitmap p []) ((m - 1) % 4096)) (sym same)
    | inr away ↦ ap (λ (b : List ℕ). bit b ((m - 1) % 4096)) (get_or-set_other old.bitmap (bitmap_place n) (bitmap_place m) block [] away)
  ];
}
  where
    here : get_or (set old.bitmap (bitmap_place n) block) (bitmap_place n) [] ≡ block
    here = get_or-set_same old.bitmap (bitmap_place n) block [] within

pub SetsBit-block : (value : Bool) (n place : ℕ) (old : Index) (block : List ℕ) → 0 < n → place ≡ bitmap_place n → place < length old.bitmap
    → bit block ((n - 1) % 4096) ≡ value
    → ((j : ℕ) → j ≢ (n - 1) % 4096 → bit block j ≡ bit (get_or old.bitmap place []) j)
    → SetsBit value n old (record old { bitmap = set old.bitmap place block })
SetsBit-block value n place old block some is_place within is others =
    subst (λ (p : ℕ). SetsBit value n old (record old { bitmap = set old.bitmap p block })) (sym is_place)
    (one (omega (arith, is_place)) (λ j apart. others j apart ∙ ap (λ (p : ℕ). bit (get_or old.bitmap p []) j) is_place))
  where
    one : bitmap_place n < length old.bitmap → ((j : ℕ) → j ≢ (n - 1) % 4096 → bit block j ≡ bit (get_or old.bitmap (bitmap_place n) []) j)
        → SetsBit value n old (record old { bitmap = set old.bitmap (bitmap_place n) block })
    one inside rest = SetsBit-here value n old block some inside is rest

-- whether slots are in use then
pub SetsBit-in_use : (value : Bool) (n : ℕ) (before after : Index) → 0 < n → n ≤ slots before → SetsBit value n before after
    → is_in_use after n ≡ value
SetsBit-in_use value n before after some few sets = is_in_use-within after n some (omega (arith, few, ap slots sets.one_block)) ∙ sets.bit

pub SetsBit-others : (before after : Index) (value : Bool) (n m : ℕ) → SetsBit value n before after → m ≢ n
    → is_in_use after m ≡ is_in_use before m
SetsBit-others before after value n m sets apart =
    let same : slots after ≡ slots before = ap slots sets.one_block in
    elim (cases_eq m 0) [
      | inl none ↦ sym (is_in_use-none after m (inl none)) ∙ is_in_use-none before m (inl none)
      | inr some ↦ elim (cases_lt (slots before) m) [
        | inl past ↦ is_in_use-past after m (omega (arith, past, same)) ∙ sym (is_in_use-past before m past)
        | inr within ↦
            is_in_use-within after m (omega (arith, some)) (omega (arith, within, same)) ∙ sets.others m (omega (arith, some)) apart
            ∙ sym (is_in_use-within before m (omega (arith, some)) within)
      ]
    ]

-- the block that has the bit was written
module _ (value : Bool) (n : ℕ) (before after : Index) (lbn : ℕ) (block : List ℕ) (old new : Disk) where
  is_image : lbn ≡ after.bitmap_lbn + bitmap_place n → block ≡ bitmap_block after n
      → set old.image lbn block ≡ with_bitmap_block old.image after n
  is_image at from = ap (λ (l : ℕ). set old.image l block) at ∙ ap (set old.image (after.bitmap_lbn + bitmap_place n)) from

  image-written : lbn ≡ after.bitmap_lbn + bitmap_place n → block ≡ bitmap_block after n → SetsBit value n before after
      → HasBitWritten value n before old.image (set old.image lbn block)
  image-written at from sets = record {
    written = after;
    bit = sets;
    image_is = is_image at from;
  }

  pub WritesBit-written : {E : Type 0} (result : Result Unit E) → 0 < n → n ≤ slots before → lbn ≡ after.bitmap_lbn + bitmap_place n
      → block ≡ bitmap_block after n
      → SetsBit value n before after → Writes result lbn block old new → OnOk result (WritesBit value n before after old new)
  WritesBit-written (Ok x) some few at from sets writes =
      record {
        bit = sets;
        in_use = SetsBit-in_use value n before after some few sets;
        image = ap (λ (d : Disk). d.image) writes.ok ∙ is_image at from;
        went = went_write (HasBitWritten value n before old.image) old new lbn block writes.ok (image-written at from sets);
      }
  WritesBit-written (Err e) some few at from sets writes = tt

  pub WritesBit-failed : {E : Type 0} (result : Result Unit E) → lbn ≡ after.bitmap_lbn + bitmap_place n → block ≡ bitmap_block after n
      → SetsBit value n before after → Writes result lbn block old new → OnErr result (FailsToWriteBit value n before old new)
  WritesBit-failed (Ok x) at from sets writes = tt
  WritesBit-failed (Err e) at from sets writes =
      went_failed_write (HasBitWritten value n before old.image) old new lbn block writes.err (image-written at from sets)
