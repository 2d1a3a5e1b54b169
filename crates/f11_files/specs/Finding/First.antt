-- What reading a file's first header finds (Files-11 On-Disk Structure Level 1, "File Header").
use Rattle.std.specs.Prelude.{◌≡◌, ◌⊎◌, ◌==◌, ℕ, if◌then◌else◌, List, Option, None, Some}
use Rattle.f11_dev.specs.Disk.{Disk}
use Rattle.f11_dev.specs.Looked.{Looked}
use Rattle.f11_header.specs.Fields.{file_sequence}
use Rattle.f11_header.specs.Header.{IsHeader, IsDead}
use Rattle.f11_map.specs.HeaderBlock.{segment_number}
use Rattle.f11_index.specs.IndexFile.{Index}
use Rattle.f11_index.specs.Table.{IsFile, last_sequence}
use Rattle.f11_chain.specs.Calls.{HoldsHeader, table}
use Rattle.f11_store.specs.declared.files.FileId.{FileId}
use Rattle.f11_store.specs.declared.refusals.Refusal.{Refusal}
use Rattle.f11_store.specs.declared.refusals.Refusal.TheVariants.{NoSuchFile, Damaged}
use Rattle.f11_files.specs.declared.extend.tail.Tail.{Tail}

-- A block is the first header of the file with this identification, whatever the relative volume.
pub record IsFirstHeaderOf (f : FileId) (block : List ℕ) : Type 0 where
  pub valid : IsHeader block f.number
  pub first : segment_number block ≡ 0
  pub sequence : file_sequence block ≡ f.sequence

-- It is another header, or a dead one, and there is no such file; or it is damaged, neither dead nor valid.
abbrev pub IsOther : FileId → List ℕ → Refusal → Type 0
IsOther f block refusal =
    ((refusal ≡ NoSuchFile) × (¬ IsFirstHeaderOf f block)) ⊎ ((refusal ≡ Damaged) × (¬ IsDead block) × (¬ IsHeader block f.number))

-- That header is in hand; it is the disk's where that is honest.
pub record HoldsFile (index : Index) (f : FileId) (block : List ℕ) (disk : Disk) : Type 0 where
  pub header : HoldsHeader index f.number block disk
  pub is_first : IsFirstHeaderOf f block

-- how many blocks are read for it at most, with this header in hand, or none
abbrev pub reads_for : FileId → Option Tail → ℕ
reads_for f None = 1
reads_for f (Some tail) = if tail.number == f.number then 0 else 1

-- It was read.
pub record FindsFile (index : Index) (f : FileId) (block : List ℕ) (old new : Disk) : Type 0 where
  pub holds : HoldsFile index f block old
  pub looked : Looked old new 1 0

-- there is a file with this identification, whatever the relative volume
pub record IsFileOf (f : FileId) (index : Index) (disk : Disk) : Type 0 where
  pub file : IsFile (table index disk) f.number
  pub sequence : last_sequence (table index disk) f.number ≡ f.sequence
