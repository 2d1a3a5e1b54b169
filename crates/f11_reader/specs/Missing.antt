-- Which block of a file isn't there, and whether its headers break off (profile).
use Rattle.std.specs.Prelude.{◌≡◌, ℕ, suc, ◌+◌, ◌-◌, ◌≤◌, ◌==◌, Bool, IsTrue, nat_lt, List, [], ◌∷◌, Option, Some, None, if◌then◌else◌}
use Rattle.f11_chain.specs.Calls.{table}
use Rattle.f11_dev.specs.Disk.{Disk}
use Rattle.f11_dev.specs.Looked.{Looked}
use Rattle.f11_index.specs.IndexFile.{Index}
use Rattle.f11_index.specs.Table.{Table}
use Rattle.f11_map.specs.HeaderBlock.{link_of, segment_number}
use Rattle.f11_reader.specs.Reading.{blocks_to_come, headers_left, headers_to_come}
use Rattle.f11_reader.specs.declared.file.FileReader.{FileReader}

-- how many of these blocks lie among the first so many, before one that doesn't
abbrev pub blocks_there : ℕ → List ℕ → ℕ
blocks_there size [] = 0
blocks_there size (lbn ∷ lbns) = if nat_lt lbn size then suc (blocks_there size lbns) else 0

-- the VBN of the first of so many blocks of a file that isn't there, if there is one: it lies past the size, or no header names it
abbrev pub missing_of : ℕ → ℕ → List ℕ → Option ℕ
missing_of size blocks lbns = if nat_lt (blocks_there size lbns) blocks then Some (blocks_there size lbns + 1) else None

-- It was found which of the blocks to come is the first that isn't there; headers alone were read.
pub record FindsMissing (index : Index) (file : FileReader) (size blocks : ℕ) (missing : Option ℕ) (old new : Disk) : Type 0 where
  pub missing_is : IsTrue old.honest → missing ≡ missing_of size blocks (blocks_to_come (table index old) file)
  pub looked : Looked old new (headers_left file) 0

-- The next block is there, and was passed; those headers that lead to it were read.
pub record PassesBlock (index : Index) (file later : FileReader) (size : ℕ) (old new : Disk) : Type 0 where
  pub there : IsTrue old.honest → blocks_there size (blocks_to_come (table index old) file)
      ≡ blocks_there size (blocks_to_come (table index old) later) + 1
  pub forward : segment_number file.header ≤ segment_number later.header
  pub few : segment_number later.header ≤ segment_number file.header + headers_left file
  pub looked : Looked old new (segment_number later.header - segment_number file.header) 0

-- The next block isn't there.
pub record LacksBlock (index : Index) (file : FileReader) (size : ℕ) (old new : Disk) : Type 0 where
  pub none : IsTrue old.honest → blocks_there size (blocks_to_come (table index old) file) ≡ 0
  pub looked : Looked old new (headers_left file) 0

-- the last of these headers, behind this one
abbrev pub last_of : ℕ → List ℕ → ℕ
last_of n [] = n
last_of n (m ∷ ms) = last_of m ms

-- the last header that is reached: the one in hand, where none follows
abbrev pub last_to_come : Table → FileReader → ℕ
last_to_come t file = last_of file.number (headers_to_come t file)

-- a header links to none
abbrev pub links_to_none : List ℕ → Bool
links_to_none header = (link_of header).number == 0

-- It was found whether the last header that is reached links to none: else the headers break off there, and the file may have more blocks.
pub record TellsWhole (index : Index) (file : FileReader) (whole : Bool) (old new : Disk) : Type 0 where
  pub whole_is : IsTrue old.honest → whole ≡ links_to_none ((table index old).header (last_to_come (table index old) file))
  pub looked : Looked old new (headers_left file) 0
