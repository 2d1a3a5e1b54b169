-- The bits of a bitmap (Files-11 On-Disk Structure Level 1, "Storage Bitmap File").
use Rattle.std.specs.Prelude.{ℕ, ◌/◌, ◌%◌, ◌==◌, Bool, List, slice_index}
use Rattle.std.specs.Int.{bit_at}

-- bit k of a bitmap is bit k mod 8 of byte k div 8, the low bit first
abbrev pub bit : List ℕ → ℕ → Bool
bit b k = bit_at (slice_index b (k / 8)) (k % 8) == 1
