-- An index file that takes each slot as in use.
use Rattle.std.proofs.Common.{◌≡◌, ℕ, ◌-◌, ◌*◌, ◌/◌, ◌%◌, ◌<◌, ◌≤◌, ◌&&◌, Bool, true, List, length, nat_lt, nat_le, refl, ap, ◌∙◌, arith}
use Rattle.std.proofs.Common.{replicate}
use Rattle.std.proofs.lemmas.Bool.{le-leb, lt-ltb}
use Rattle.std.proofs.lemmas.List.{get_or-replicate, length-replicate}
use Rattle.std.specs.Cmp.Derive.{both_true}
use Rattle.f11_bytes.specs.Bits.{bit}
use Rattle.f11_home.proofs.bits.BlockLaneLemmas.{filled-ones}
use Rattle.f11_index.specs.Kept.{IndexLiesWithin}
use Rattle.f11_index.specs.IndexFile.{Index, IsIndex, all_in_use, bit_of_slot, is_in_use, one_block, slots}

ones-in-blocks : (count n : ℕ) → 0 < n → n ≤ 4096 * count → bit_of_slot (replicate count one_block) n ≡ true
unfolding bit_of_slot one_block
ones-in-blocks count n some within =
    ap (λ (b : List ℕ). bit b ((n - 1) % 4096)) (get_or-replicate count ((n - 1) / 4096) one_block _ (omega arith))
    ∙ filled-ones 255 ((n - 1) % 4096) refl (omega arith)

-- each slot is in use
pub all-used : (index : Index) → IsIndex index → (n : ℕ) → 0 < n → n ≤ slots index → is_in_use (all_in_use index) n ≡ true
unfolding is_in_use
all-used index is n some slot =
    both_true (lt-ltb 0 n some)
    (both_true (le-leb n (slots index) slot) (ones-in-blocks (length index.bitmap) n some (omega (arith, is.few_slots))))

-- it lies on the device as the other one does
pub all-lies-within : (index : Index) (blocks : ℕ) → IndexLiesWithin index blocks → IndexLiesWithin (all_in_use index) blocks
all-lies-within index blocks within = record {
  bitmap = let same = length-replicate (length index.bitmap) one_block in omega (arith, same, within.bitmap);
  headers = within.headers;
}
