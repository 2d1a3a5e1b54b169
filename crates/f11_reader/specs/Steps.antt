-- What the steps of reading a file tell: one header more, the place of the next block, and the block there.
use Rattle.std.specs.Prelude.{◌≡◌, ℕ, ◌+◌, ◌-◌, ◌<◌, ◌≤◌, min, IsTrue, List, [], Some}
use Rattle.std.specs.List.{slice_get}
use Rattle.f11_chain.specs.Calls.{table}
use Rattle.f11_dev.specs.Disk.{Disk}
use Rattle.f11_dev.specs.Looked.{Looked}
use Rattle.f11_index.specs.Headers.{next_of}
use Rattle.f11_index.specs.IndexFile.{Index}
use Rattle.f11_map.specs.HeaderBlock.{segment_number, blocks_named}
use Rattle.f11_volume.specs.Contents.{block_or_zeros}
use Rattle.f11_reader.specs.Reading.{HasToCome, headers_to_come, headers_left}
use Rattle.f11_reader.specs.declared.file.FileReader.{FileReader}

-- The block at this LBN was read, or it counts as zeros.
pub record ReadsOrZeros (lbn : ℕ) (into : List ℕ) (old new : Disk) : Type 0 where
  pub block : IsTrue old.honest → into ≡ block_or_zeros old.image lbn
  pub looked : Looked old new 1 0

-- The next header is in hand, and none of its blocks was read.
pub record StepsOn (index : Index) (file later : FileReader) (old new : Disk) : Type 0 where
  pub next : IsTrue old.honest → next_of (table index old) file.number ≡ Some later.number
  pub header_is : IsTrue old.honest → later.header ≡ (table index old).header later.number
  pub first_block : later.place ≡ 0
  pub segment : segment_number later.header ≡ segment_number file.header + 1
  pub not_last : segment_number file.header < 255
  pub looked : Looked old new 1 0

-- how many headers are read for the next one
abbrev pub step_reads : FileReader → ℕ
step_reads file = min 1 (headers_left file)

-- No header follows the one in hand.
pub record StepsNowhere (index : Index) (file later : FileReader) (old new : Disk) : Type 0 where
  pub stays : later ≡ file
  pub none : IsTrue old.honest → headers_to_come (table index old) file ≡ []
  pub looked : Looked old new (step_reads file) 0

-- The next one couldn't be read.
pub record FailsToStep (file later : FileReader) (old new : Disk) : Type 0 where
  pub stays : later ≡ file
  pub looked : Looked old new (step_reads file) 1

-- The header in hand names the next block, at this LBN; those that lead to it were read.
pub record ComesTo (index : Index) (file later : FileReader) (lbn : ℕ) (old new : Disk) : Type 0 where
  pub same : HasToCome index file later old
  pub named : slice_get (blocks_named later.header) later.place ≡ Some lbn
  pub forward : segment_number file.header ≤ segment_number later.header
  pub few : segment_number later.header ≤ segment_number file.header + headers_left file
  pub looked : Looked old new (segment_number later.header - segment_number file.header) 0
