-- The index bitmap of a fresh volume (Files-11 On-Disk Structure Level 1, "Index File").
use Rattle.std.specs.Prelude.{ℕ, ◌==◌, if◌then◌else◌, List, slice_set}
use Rattle.f11_bytes.specs.Block.{zero_block}

-- block i of the index bitmap, from 0: slots 1 to 5 are in use, which are bits 0 to 4 of its first byte
unfoldable pub fresh_index_bitmap : ℕ → List ℕ
fresh_index_bitmap i = if i == 0 then slice_set zero_block 0 31 else zero_block
