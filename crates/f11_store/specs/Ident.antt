-- The ident area of a new file.
use Rattle.std.specs.Prelude.{ℕ, List, ◌++◌, replicate}
use Rattle.std.specs.List.{flat_map}
use Rattle.f11_bytes.specs.Words.{word_bytes}

-- the five words of a name, and zeros behind them (Files-11 On-Disk Structure Level 1, ident area)
unfoldable pub ident_with : List ℕ → List ℕ
ident_with words = flat_map word_bytes words ++ replicate 36 0
