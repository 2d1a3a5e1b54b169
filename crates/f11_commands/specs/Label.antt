-- The label of a volume as it is shown (Files-11 On-Disk Structure Level 1, "Home Block", H.VNAM; how it is shown: profile).
use Rattle.std.specs.Prelude.{ℕ, Bool, ◌==◌, ◌||◌, ◌&&◌, nat_le, if◌then◌else◌, List, map}
use Rattle.f11_bytes.specs.Trailing.{without_trailing}

-- a zero or a space fills a label up
abbrev pub is_filler : ℕ → Bool
is_filler b = b == 0 || b == 32

-- a text ends where only filler follows
abbrev pub without_filler : List ℕ → List ℕ
without_filler text = without_trailing is_filler text

-- a byte from 32 to 126 is shown as it is, and any other as a question mark
abbrev pub shown_byte : ℕ → ℕ
shown_byte b = if nat_le 32 b && nat_le b 126 then b else 63

-- a label is shown byte by byte, without the filler at its end
abbrev pub label_text : List ℕ → List ℕ
label_text label = map shown_byte (without_filler label)
