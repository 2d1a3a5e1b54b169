-- Which headers are written where a slot is taken, or leaves use.
use Rattle.std.proofs.Common.{◌≡◌, ◌⊎◌, ℕ, ◌<◌, ◌≤◌, ◌&&◌, nat_le, ◌∙◌, Bool, true, false, not, List, sym, ap, inl, inr, arith}
use Rattle.std.proofs.lemmas.Bool.{cases_Bool, false≢true, le-leb, lt-ltb}
use Rattle.f11_dev.proofs.LookedLemmas.{looked_read}
use Rattle.f11_dev.specs.Disk.{Disk, with_transfer, with_block_at}
use Rattle.f11_dev.specs.Went.{Went}
use Rattle.f11_index.proofs.InUseLemmas.{in_use-some, in_use-slot}
use Rattle.f11_index.specs.Calls.{HasBitWritten}
use Rattle.f11_index.specs.IndexFile.{Index, slots, slot_bit, header_lbn, is_in_use}
use Rattle.f11_index.specs.Slots.{IsLeastFree}
use Rattle.f11_image_store.specs.Confines.{new_header, only_header}
use Rattle.f11_writes.specs.Order.{WritesInOrder}
use Rattle.f11_files.specs.Structure.{index_in, WritesParts}
use Rattle.f11_files.specs.declared.structure.Structure.{Structure}
use Rattle.f11_files.proofs.Confining.Parts.{bit-went, only-wrote, parts-behind, parts-then, slot-failed, slot-wrote, stands-same}

-- a slot that isn't in use
in-use-then : (index : Index) (n : ℕ) → 0 < n → n ≤ slots index → slot_bit index n ≡ true → is_in_use index n ≡ true
unfolding is_in_use
in-use-then index n some slot bit =
    ap (λ (b : Bool). b && (nat_le n (slots index) && slot_bit index n)) (lt-ltb 0 n some)
    ∙ ap (λ (b : Bool). b && slot_bit index n) (le-leb n (slots index) slot) ∙ bit

unused-new : (index : Index) (n : ℕ) → 0 < n → n ≤ slots index → is_in_use index n ≡ false → new_header index n ≡ true
unused-new index n some slot unused = elim (cases_Bool (slot_bit index n)) [
  | inl is ↦ absurd (false≢true (sym unused ∙ in-use-then index n some slot is))
  | inr none ↦ ap not none
]

-- the least free one
least-some : {index : Index} {n : ℕ} → IsLeastFree index n → 0 < n
least-some least = let low = least.low in omega (arith, low)

pub least-new : {index : Index} {n : ℕ} → IsLeastFree index n → new_header index n ≡ true
least-new {index} {n} least = unused-new index n (least-some least) least.high least.unused

-- it was read
module _ (s : Structure) (n lbn : ℕ) (block : List ℕ) (old read : Disk) (least : IsLeastFree (index_in s) n)
    (at : lbn ≡ header_lbn (index_in s) n) (reads : read ≡ with_transfer true old) where
  abbrev new : ℕ → Bool
  new = new_header (index_in s)

  -- and not written
  pub slot-unwritten : {now : Disk} → (now ≡ with_transfer false read) ⊎ (now ≡ with_transfer false (with_block_at lbn block read))
      → WritesInOrder read now → WritesParts s new old now
  slot-unwritten {now = now} failed order =
      parts-behind s new (looked_read old read reads)
      (slot-failed s new n lbn block read now (least-new least) (least-some least) least.high at failed order)

  -- or written, and then its bit, or that failed
  pub slot-entered : {now end : Disk} {most faults : ℕ} → now ≡ with_transfer true (with_block_at lbn block read)
      → Went (HasBitWritten true n (index_in s) now.image) now end most faults → WritesInOrder read now → WritesInOrder now end
      → WritesParts s new old end
  slot-entered {now = now} wrote went one two =
      let header = slot-wrote s new n lbn block read now (least-new least) (least-some least) least.high at wrote one in
      parts-behind s new (looked_read old read reads)
      (parts-then s s new (stands-same s) header (bit-went s new true n (least-some least) least.high went two))

-- a header in use was written, and then its bit, or that failed
pub slot-freed : (s : Structure) (n lbn : ℕ) (block : List ℕ) (old now : Disk) {end : Disk} {most faults : ℕ}
    → is_in_use (index_in s) n ≡ true → lbn ≡ header_lbn (index_in s) n → now ≡ with_transfer true (with_block_at lbn block old)
    → Went (HasBitWritten false n (index_in s) now.image) now end most faults → WritesInOrder old now → WritesInOrder now end
    → WritesParts s (only_header n) old end
slot-freed s n lbn block old now used at wrote went one two =
    parts-then s s (only_header n) (stands-same s) (only-wrote s n lbn block old now used at wrote one)
    (bit-went s (only_header n) false n (in_use-some (index_in s) n used) (in_use-slot (index_in s) n used) went two)
