-- Where the parts of a fresh volume are, and what it can be made with (profile).
use Rattle.std.specs.Prelude.{ℕ, ◌+◌, ◌/◌, ◌<◌, ◌≤◌, nat_le, Bool, ◌&&◌, ◌||◌, List, length}
use Rattle.std.specs.List.{AllPass}

-- a letter A to Z, or a digit
unfoldable pub is_label_byte : ℕ → Bool
is_label_byte c = (nat_le 65 c && nat_le c 90) || (nat_le 48 c && nat_le c 57)

-- 1 to 12 letters and digits
pub record IsLabel (label : List ℕ) : Type 0 where
  pub some : 0 < length label
  pub few : length label ≤ 12
  pub bytes : AllPass is_label_byte label

-- how many blocks have a bit each for so many things
abbrev pub bit_blocks : ℕ → ℕ
bit_blocks things = (things + 4095) / 4096

-- The parts of a fresh volume follow each other from LBN 0 on: the boot block, the home block, the index bitmap, the headers, the control
-- block, the storage bitmap, and the block of the master file directory. Behind them no block is written.
abbrev pub first_header : ℕ → ℕ
first_header max_files = 2 + bit_blocks max_files

abbrev pub control_lbn : ℕ → ℕ → ℕ
control_lbn max_files slots = first_header max_files + slots

abbrev pub directory_lbn : ℕ → ℕ → ℕ → ℕ
directory_lbn max_files slots blocks = control_lbn max_files slots + 1 + bit_blocks blocks

-- how many blocks are in use on a fresh volume
abbrev pub used_blocks : ℕ → ℕ → ℕ → ℕ
used_blocks max_files slots blocks = directory_lbn max_files slots blocks + 1

-- The numbers that a volume is made with are within their limits, and so many blocks have room for what is written.
pub record AreNumbers (slots max_files blocks : ℕ) : Type 0 where
  pub some_slots : 16 ≤ slots
  pub few_slots : slots ≤ 16000
  pub some_files : slots ≤ max_files
  pub few_files : max_files ≤ 65500
  pub few_blocks : blocks ≤ 516096
  pub room : used_blocks max_files slots blocks ≤ blocks

-- A volume of so many blocks can be made with these.
pub record CanBeMade (label : List ℕ) (slots max_files blocks : ℕ) : Type 0 where
  pub labelled : IsLabel label
  pub numbers : AreNumbers slots max_files blocks
