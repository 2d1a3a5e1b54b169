-- What `dump` finds of a volume and says of its headers (profile).
use Rattle.std.specs.Prelude.{◌≡◌, ◌⊎◌, ℕ, ◌+◌, ◌<◌, ◌≤◌, IsTrue, List, [], ◌∷◌, ◌++◌, length, Option, codes}
use Rattle.std.specs.Fmt.{decimal}
use Rattle.std.specs.Io.KnownBytes.{Keeps}
use Rattle.f11_dev.specs.Disk.{Disk}
use Rattle.f11_dev.specs.Image.{Image}
use Rattle.f11_dev.specs.Looked.{Looked}
use Rattle.f11_findings.specs.declared.finding.Finding.{Finding}
use Rattle.f11_home.specs.Home.{HomeFields, candidates, IsHomeOf, HasNoHome}
use Rattle.f11_index.specs.IndexFile.{Index, index_of, IsFirstPast, HasNonePast}
use Rattle.f11_index.specs.Kept.{IsIndexFor}
use Rattle.f11_index.specs.Sound.{IsIndexFile}
use Rattle.f11_index.specs.Table.{Table, table_in, table_of}
use Rattle.f11_commands.specs.Dump.{IsDump}
use Rattle.f11_commands.specs.Output.{WriterTakes, TakesText}
use Rattle.f11_commands.specs.Lines.{report_fault_line}
use Rattle.f11_commands.specs.Report.{fault_text}
use Rattle.f11_commands.specs.declared.outcome.Failure.{Failure}
use Rattle.f11_commands.specs.declared.outcome.Failure.TheVariants.{DeviceFault, NoMemory, CannotWrite}
use Rattle.f11_commands.specs.declared.report.System.TheVariants.{Files11}
use Rattle.f11_commands.specs.declared.volume.VolumeFault.{VolumeFault}
use Rattle.f11_commands.specs.declared.volume.VolumeFault.TheVariants.{NoHome, IndexMisplaced, PastSlots}

-- what the verifier finds of such a volume
abbrev pub fault_found : VolumeFault → Finding
fault_found NoHome = record { code = 1; a = 0; b = 0 }
fault_found IndexMisplaced = record { code = 2; a = 0; b = 0 }
fault_found (PastSlots n) = record { code = 6; a = n; b = 0 }

-- the text of a fault of a volume is that of the verifier's line
abbrev pub volume_fault_text : VolumeFault → List ℕ
volume_fault_text fault = fault_text (fault_found fault)

-- the line of a fault
abbrev pub fault_line : VolumeFault → List ℕ
fault_line fault = report_fault_line Files11 (fault_found fault)

-- An image has this fault: it has no home block, or its index file isn't as it should be, or the bit of a number past the slots,
-- the least one, is 1.
abbrev pub HasFault : Image → VolumeFault → Type 0
HasFault image NoHome = HasNoHome image
HasFault image IndexMisplaced = (home : HomeFields) × IsHomeOf image home × ¬ IsIndexFile image home
HasFault image (PastSlots n) = (home : HomeFields) × IsHomeOf image home × IsIndexFile image home × IsFirstPast (index_of image home) n

-- An image has a home block and an index file as they should be, and no bit past the slots is 1.
pub record IsIndexed (image : Image) (home : HomeFields) : Type 0 where
  pub is_home : IsHomeOf image home
  pub index_file : IsIndexFile image home
  pub none_past : HasNonePast (index_of image home)

-- at most so many blocks are read to find the index file: each candidate for the home block, the blocks of the index bitmap, of
-- which there are 16 at most, and the headers of the index file
abbrev pub index_reads : Disk → ℕ
index_reads disk = candidates (length disk.image) + 272

-- The index file was found.
pub record FindsIndex (home : HomeFields) (index : Index) (old new : Disk) : Type 0 where
  pub indexed : IsTrue old.honest → IsIndexed old.image home
  pub is_for : IsIndexFor index home new
  pub looked : Looked old new (index_reads old) 0

-- A fault was found, before any other.
pub record FindsFault (fault : VolumeFault) (old new : Disk) : Type 0 where
  pub has : IsTrue old.honest → HasFault old.image fault
  pub looked : Looked old new (index_reads old) 0

-- the line where there is no slot n
abbrev pub no_header_line : ℕ → List ℕ
no_header_line n = codes "header " ++ (decimal n ++ (codes " none" ++ 10 ∷ []))

-- The lines of header n of a volume: what its block holds, or that there is no such slot.
pub record IsHeaderDump (t : Table) (n : ℕ) (text : List ℕ) : Type 0 where
  pub slot : 0 < n → n ≤ t.slots → IsDump (t.header n) n text
  pub no_slot : (n ≡ 0) ⊎ (t.slots < n) → text ≡ no_header_line n

-- The lines of header n were written.
pub record PrintsHeader {D W : Type 0} (disk : D → Disk) (n : ℕ) (old new : D) (contents : W → Option (List ℕ))
    (before after : W) : Type 0 where
  pub home : HomeFields
  pub indexed : IsTrue (disk old).honest → IsIndexed (disk old).image home
  pub takes : TakesText contents (λ text. IsTrue (disk old).honest → IsHeaderDump (table_of (disk old).image home) n text) before after
  pub looked : Looked (disk old) (disk new) (index_reads (disk old) + 1) 0

-- The line of a fault was written, which comes before any other.
pub record PrintsFault {D W : Type 0} (disk : D → Disk) (old new : D) (contents : W → Option (List ℕ)) (before after : W) : Type 0 where
  pub fault : VolumeFault
  pub finds : FindsFault fault (disk old) (disk new)
  pub takes : WriterTakes contents before after (fault_line fault)

-- what a command that couldn't be done leaves: a device fault is a failed transfer, and nothing is written at it nor for want of memory
abbrev pub Leaves : {D W : Type 0} → Failure → ℕ → (D → Disk) → D → D → (W → Option (List ℕ)) → W → W → Type 0
Leaves DeviceFault most disk old new contents before after = Looked (disk old) (disk new) most 1 × Keeps (contents before) (contents after)
Leaves NoMemory most disk old new contents before after = Looked (disk old) (disk new) most 0 × Keeps (contents before) (contents after)
Leaves CannotWrite most disk old new contents before after = Looked (disk old) (disk new) most 0

-- The command couldn't be done.
abbrev pub FailsToPrintHeader : {D W : Type 0} → Failure → (D → Disk) → D → D → (W → Option (List ℕ)) → W → W → Type 0
FailsToPrintHeader failure disk old new contents before after =
    Leaves failure (index_reads (disk old) + 1) disk old new contents before after

-- The lines of header n of an index file were written, with one transfer at most.
pub record DumpsSlot {D W : Type 0} (index : Index) (n : ℕ) (disk : D → Disk) (old new : D)
    (contents : W → Option (List ℕ)) (before after : W) : Type 0 where
  pub takes : TakesText contents (λ text. IsTrue (disk old).honest → IsHeaderDump (table_in (disk old).image index) n text) before after
  pub looked : Looked (disk old) (disk new) 1 0

-- They couldn't be.
abbrev pub FailsToDumpSlot : {D W : Type 0} → Failure → (D → Disk) → D → D → (W → Option (List ℕ)) → W → W → Type 0
FailsToDumpSlot failure disk old new contents before after = Leaves failure 1 disk old new contents before after
