-- The bits of a fresh storage bitmap's block, put one after another.
use Rattle.std.proofs.Common.{◌≡◌, ◌<◌, ◌≤◌, ◌+◌, ◌*◌, ◌/◌, ◌%◌, ◌&&◌, ℕ, Bool, false, List, refl, arith, nat_lt, length, slice_index}
use Rattle.std.specs.Prelude.{nat_le}
use Rattle.std.specs.Int.{bit_at}
use Rattle.std.proofs.lemmas.List.{get_or-replicate, length-replicate}
use Rattle.std.proofs.lemmas.Nat.Bits.{bit_at-zero}
use Rattle.f11_bytes.specs.Bits.{bit}
use Rattle.f11_bytes.specs.Block.{zero_block}
use Rattle.f11_layout.specs.Places.{used_blocks}
use Rattle.f11_layout.specs.declared.layout.Layout.{Layout}

-- the bit of a block in block i of the storage bitmap
abbrev pub is_unused : Layout → ℕ → ℕ → Bool
is_unused l i k = nat_le (used_blocks l.max_files l.slots l.blocks) (4096 * i + k) && nat_lt (4096 * i + k) l.blocks

-- so many of its bits are put
pub record PutsBits (l : Layout) (i done : ℕ) (b : List ℕ) : Type 0 where
  pub size : length b ≡ 512
  pub front : (k : ℕ) → k < done → bit b k ≡ is_unused l i k
  pub rest : (k : ℕ) → done ≤ k → k < 4096 → bit b k ≡ false

zero-bit : (k : ℕ) → k < 4096 → bit zero_block k ≡ false
unfolding zero_block
zero-bit k within =
    let byte : slice_index zero_block (k / 8) ≡ 0 = get_or-replicate 512 (k / 8) 0 0 (omega (arith, within)) in
    let none : bit_at 0 (k % 8) ≡ 0 = bit_at-zero (k % 8) in
    rw byte (rw none refl)

pub PutsBits-none : (l : Layout) (i : ℕ) → PutsBits l i 0 zero_block
unfolding zero_block
PutsBits-none l i =
    record {
      size = length-replicate {A = ℕ} 512 0;
      front = λ k below. absurd (omega (arith, below));
      rest = λ k from within.
          zero-bit k within;
    }
