-- No block of a fresh volume from LBN 256 on is a home block.
use Rattle.std.proofs.Common.{◌≡◌, ◌<◌, ◌≤◌, ◌+◌, ◌-◌, ◌*◌, ℕ, true, false, List, refl, sym, ap, subst, ◌∙◌, inl, inr, arith, slice_index}
use Rattle.std.specs.Prelude.{nat_le, nat_lt, ◌&&◌, ◌==◌, slice_set, drop}
use Rattle.std.specs.Int.{bit_at}
use Rattle.std.proofs.lemmas.Bool.{cases_eq, cases_lt, and_from, and_parts, lt-ltb, le-leb, ltb-true, leb-true}
use Rattle.std.proofs.lemmas.List.{get_or-take, get_or-drop}
use Rattle.f11_bytes.specs.Bits.{bit}
use Rattle.f11_bytes.specs.Block.{zero_block}
use Rattle.f11_bytes.proofs.PartLemmas.{slice_index-slice_range}
use Rattle.f11_bytes.proofs.WordLemmas.{slice_index-with_long}
use Rattle.f11_home.specs.HomeBlock.{index_blocks, IsHomeBlock}
use Rattle.f11_layout.specs.Fresh.{IsFreshBlock}
use Rattle.f11_layout.specs.FreshBitmaps.{fresh_control, IsFreshBitmap}
use Rattle.f11_layout.specs.FreshDirectory.{IsFreshDirectory}
use Rattle.f11_layout.specs.Places.{bit_blocks, used_blocks, first_header, control_lbn, directory_lbn}
use Rattle.f11_layout.specs.declared.layout.Layout.{Layout}
use Rattle.f11_map.specs.store.Directory.{record_in}

-- the name of the format in a home block begins with its first letter
format-letter : (b : List ℕ) (blocks : ℕ) → IsHomeBlock b blocks → slice_index b 496 ≡ 68
format-letter b blocks is =
    sym (slice_index-slice_range b 496 508 0 (omega arith)) ∙ ap (λ (s : List ℕ). slice_index s 0) is.fields.format

no-home-zeros : (blocks : ℕ) → ¬ IsHomeBlock zero_block blocks
unfolding zero_block
no-home-zeros blocks is = let none : index_blocks zero_block ≡ 0 = refl in omega (arith, none, is.fields.some_bitmap)

-- the control block begins with zeros, where a home block has the size of the index bitmap
no-home-control : (l : Layout) (blocks : ℕ) → ¬ IsHomeBlock (fresh_control l) blocks
unfolding fresh_control zero_block
no-home-control l blocks is =
    let counted : List ℕ = slice_set zero_block 3 (bit_blocks l.blocks) in
    let low : slice_index (fresh_control l) 0 ≡ 0 = slice_index-with_long counted (4 + 4 * bit_blocks l.blocks) l.blocks 0 (inl
    (omega arith)) in
    let high : slice_index (fresh_control l) 1 ≡ 0 = slice_index-with_long counted (4 + 4 * bit_blocks l.blocks) l.blocks 1 (inl
    (omega arith)) in
    omega (arith, low, high, is.fields.some_bitmap)

-- The bits of a block of the storage bitmap that are 1 follow each other; those of the letter don't.
no-home-bitmap : (l : Layout) (i : ℕ) (b : List ℕ) (blocks : ℕ) → IsFreshBitmap l i b → ¬ IsHomeBlock b blocks
no-home-bitmap l i b blocks fresh is =
    let letter : slice_index b 496 ≡ 68 = format-letter b blocks is in
    let second : bit b 3970 ≡ true = ap (λ (byte : ℕ). bit_at byte 2 == 1) letter in
    let third : bit b 3971 ≡ false = ap (λ (byte : ℕ). bit_at byte 3 == 1) letter in
    let sixth : bit b 3974 ≡ true = ap (λ (byte : ℕ). bit_at byte 6 == 1) letter in
    let used : ℕ = used_blocks l.max_files l.slots l.blocks in
    let low = and_parts (nat_le used (4096 * i + 3970)) (nat_lt (4096 * i + 3970) l.blocks) (sym (fresh.bits 3970 (omega arith))
    ∙ second) in
    let high = and_parts (nat_le used (4096 * i + 3974)) (nat_lt (4096 * i + 3974) l.blocks) (sym (fresh.bits 3974 (omega arith))
    ∙ sixth) in
    let from : used ≤ 4096 * i + 3970 = leb-true _ _ low.0 in
    let below : 4096 * i + 3974 < l.blocks = ltb-true _ _ high.1 in
    let between : (nat_le used (4096 * i + 3971) && nat_lt (4096 * i + 3971) l.blocks) ≡ true =
    and_from _ _ (le-leb used (4096 * i + 3971) (omega (arith, from))) (lt-ltb (4096 * i + 3971) l.blocks (omega (arith, below))) in
    let clash : true ≡ false = sym between ∙ sym (fresh.bits 3971 (omega arith)) ∙ third in
    cc

-- the directory's last record is empty
no-home-directory : (l : Layout) (b : List ℕ) (blocks : ℕ) → IsFreshDirectory l b → ¬ IsHomeBlock b blocks
no-home-directory l b blocks fresh is =
    let there : slice_index (record_in b 31) 0 ≡ slice_index b 496 = get_or-take 16 (drop 496 b) 0 0 (omega arith)
    ∙ get_or-drop 496 b 0 0 in
    let none : slice_index (record_in b 31) 0 ≡ 0 = ap (λ (r : List ℕ). slice_index r 0) (fresh.others 31 (omega arith) (omega arith)) in
    omega (arith, there, none, format-letter b blocks is)

pub fresh-no-home : (l : Layout) (lbn blocks : ℕ) (b : List ℕ) → 256 ≤ lbn → lbn < used_blocks l.max_files l.slots l.blocks
    → IsFreshBlock l lbn b → ¬ IsHomeBlock b blocks
fresh-no-home l lbn blocks b high used fresh is =
    let F : ℕ = first_header l.max_files in
    let C : ℕ = control_lbn l.max_files l.slots in
    let D : ℕ = directory_lbn l.max_files l.slots l.blocks in
    elim (cases_lt lbn C) [
      | inl header ↦ no-home-zeros blocks (subst (λ (block : List ℕ). IsHomeBlock block blocks)
          (fresh.free_header (lbn - F) (omega (arith, high, l.valid.few_files)) (omega (arith, header, high, l.valid.few_files)) (omega
          (arith, high, l.valid.few_files))) is)
      | inr behind ↦ elim (cases_eq lbn C) [
        | inl control ↦ no-home-control l blocks (subst (λ (block : List ℕ). IsHomeBlock block blocks) (fresh.control control) is)
        | inr apart ↦ elim (cases_lt lbn D) [
          | inl bitmap ↦ no-home-bitmap l (lbn - C - 1) b blocks (fresh.bitmap (lbn - C - 1) (omega (arith, behind, apart, bitmap))
              (omega (arith, behind, apart))) is
          | inr last ↦ no-home-directory l b blocks (fresh.directory (omega (arith, last, used))) is
        ]
      ]
    ]
