-- A fresh volume, block by block (profile).
use Rattle.std.specs.Prelude.{◌≡◌, ℕ, ◌+◌, ◌<◌, ◌≤◌, List}
use Rattle.f11_bytes.specs.Block.{zero_block}
use Rattle.f11_layout.specs.FreshBitmaps.{fresh_control, IsFreshBitmap}
use Rattle.f11_layout.specs.FreshDirectory.{IsFreshDirectory}
use Rattle.f11_layout.specs.FreshHeader.{IsFreshHeader}
use Rattle.f11_layout.specs.IndexBitmap.{fresh_index_bitmap}
use Rattle.f11_layout.specs.FreshHome.{fresh_home}
use Rattle.f11_layout.specs.Places.{bit_blocks, first_header, control_lbn, directory_lbn}
use Rattle.f11_layout.specs.declared.layout.Layout.{Layout}

-- A block is the one at this LBN of a fresh volume.
pub record IsFreshBlock (l : Layout) (lbn : ℕ) (b : List ℕ) : Type 0 where
  pub boot : lbn ≡ 0 → b ≡ zero_block
  pub home : lbn ≡ 1 → b ≡ fresh_home l
  pub index_bitmap : (i : ℕ) → i < bit_blocks l.max_files → lbn ≡ 2 + i → b ≡ fresh_index_bitmap i
  pub own_header : (n : ℕ) → n < 5 → lbn ≡ first_header l.max_files + n → IsFreshHeader l (n + 1) b
  pub free_header : (n : ℕ) → 5 ≤ n → n < l.slots → lbn ≡ first_header l.max_files + n → b ≡ zero_block
  pub control : lbn ≡ control_lbn l.max_files l.slots → b ≡ fresh_control l
  pub bitmap : (i : ℕ) → i < bit_blocks l.blocks → lbn ≡ control_lbn l.max_files l.slots + 1 + i → IsFreshBitmap l i b
  pub directory : lbn ≡ directory_lbn l.max_files l.slots l.blocks → IsFreshDirectory l b
