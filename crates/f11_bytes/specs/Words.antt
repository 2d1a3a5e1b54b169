-- Words of bytes, and numbers of two words (Files-11 On-Disk Structure Level 1, "Medium").
use Rattle.std.specs.Prelude.{ℕ, zero, suc, ◌+◌, ◌*◌, ◌/◌, ◌%◌, List, [], ◌∷◌, ◌++◌, slice_index, slice_set}

-- the word at byte i is two bytes, the low byte first
abbrev pub word : List ℕ → ℕ → ℕ
word b i = slice_index b i + 256 * slice_index b (i + 1)

-- the bytes with this word at byte i, and the others as they are
abbrev pub with_word : List ℕ → ℕ → ℕ → List ℕ
with_word b i w = slice_set (slice_set b i (w % 256)) (i + 1) (w / 256)

-- the number at byte i is two words, the high word first
abbrev pub long : List ℕ → ℕ → ℕ
long b i = 65536 * word b i + word b (i + 2)

-- the bytes with this number at byte i, and the others as they are
abbrev pub with_long : List ℕ → ℕ → ℕ → List ℕ
with_long b i n = with_word (with_word b i (n / 65536)) (i + 2) (n % 65536)

-- the bytes of a word
abbrev pub word_bytes : ℕ → List ℕ
word_bytes w = w % 256 ∷ w / 256 ∷ []

-- the bytes of a number of two words
abbrev pub long_bytes : ℕ → List ℕ
long_bytes n = word_bytes (n / 65536) ++ word_bytes (n % 65536)

-- the sum of the first n words
unfoldable pub word_total : List ℕ → ℕ → ℕ
word_total b zero = 0
word_total b (suc n) = word_total b n + word b (2 * n)

-- the check sum of the first n words: their sum, modulo 65536
unfoldable pub word_sum : List ℕ → ℕ → ℕ
word_sum b n = word_total b n % 65536
