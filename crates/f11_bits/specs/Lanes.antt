-- The lanes of a vector (profile).
use Rattle.std.specs.Prelude.{ℕ, ◌%◌, List, sum}
use Rattle.f11_dev.specs.bytes.Bits.{bit}
use Rattle.f11_bits.specs.Bitmap.{count_below}

-- how many bits of 64 lanes of a byte each are 1
abbrev pub ones_of : List ℕ → ℕ
ones_of lanes = count_below (bit lanes) 512

-- the sum of lanes of a word each, modulo 65536
abbrev pub lane_sum : List ℕ → ℕ
lane_sum lanes = sum lanes % 65536
