-- When a block is a file header, live or killed (Files-11 On-Disk Structure Level 1, "File Header").
use Rattle.std.specs.Prelude.{◌≡◌, ℕ, ◌==◌, Bool, ◌&&◌, if◌then◌else◌, List, Option, Some, None}
use Rattle.f11_bytes.specs.Block.{IsBlock}
use Rattle.f11_bytes.specs.Words.{with_word, word_sum}
use Rattle.f11_header.specs.Fields.{file_number, check_word}
use Rattle.f11_header.specs.Header.{holds_header, IsHeader}
use Rattle.f11_header.specs.Writing.{dead_header}
use Rattle.f11_scan.specs.declared.header_use.HeaderUse.{HeaderUse}
use Rattle.f11_scan.specs.declared.header_use.HeaderUse.TheVariants.{Live, Killed}

-- a live header is a valid one, of some number
abbrev pub IsLive : List ℕ → Type 0
IsLive b = (n : ℕ) × IsHeader b n

-- A killed one is what the deletion of a file leaves of a valid header: its number and its check word are 0, and the rest is as it was.
abbrev pub IsKilled : List ℕ → Type 0
IsKilled b = (h : List ℕ) × (n : ℕ) × IsBlock h × IsHeader h n × (b ≡ dead_header h)

-- Both as tests: whether a block holds a header and its check word is right,
unfoldable pub is_live : List ℕ → Bool
is_live b = holds_header b && check_word b == word_sum b 255

-- and whether it would hold one under another number, while its number and its check word are 0. Which number that was isn't known any
-- more, and whether a block holds a header under a number doesn't depend on which one it is.
unfoldable pub is_killed : List ℕ → Bool
is_killed b = file_number b == 0 && (check_word b == 0 && holds_header (with_word b 2 1))

-- what header a block is, if it is one
unfoldable pub use_of_block : List ℕ → Option HeaderUse
use_of_block b = if is_live b then Some Live else (if is_killed b then Some Killed else None)
