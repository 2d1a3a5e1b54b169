-- The storage bitmap of a fresh volume (Files-11 On-Disk Structure Level 1, "Storage Bitmap File").
use Rattle.std.specs.Prelude.{◌≡◌, ℕ, ◌+◌, ◌*◌, ◌<◌, nat_le, nat_lt, ◌&&◌, List, slice_set, length}
use Rattle.f11_bytes.specs.Bits.{bit}
use Rattle.f11_bytes.specs.Block.{zero_block}
use Rattle.f11_bytes.specs.Words.{with_long}
use Rattle.f11_layout.specs.Places.{bit_blocks, used_blocks}
use Rattle.f11_layout.specs.declared.layout.Layout.{Layout}

-- the control block: how many blocks the bitmap has, a pair of words of zeros for each, and the volume's size
unfoldable pub fresh_control : Layout → List ℕ
fresh_control l = with_long (slice_set zero_block 3 (bit_blocks l.blocks)) (4 + 4 * bit_blocks l.blocks) l.blocks

-- Block i of the storage bitmap, from 0: its bit of a block of the volume is 1 where that block isn't in use, and the bits past
-- the size are 0.
pub record IsFreshBitmap (l : Layout) (i : ℕ) (b : List ℕ) : Type 0 where
  pub size : length b ≡ 512
  pub bits : (k : ℕ) → k < 4096 →
      bit b k ≡ (nat_le (used_blocks l.max_files l.slots l.blocks) (4096 * i + k) && nat_lt (4096 * i + k) l.blocks)
