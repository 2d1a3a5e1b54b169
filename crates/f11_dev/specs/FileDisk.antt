-- The disk that a file is.
use Rattle.std.specs.Prelude.{◌≡◌, ℕ, Bool, false, true, List, Result, Ok, Err, is_ok}
use Rattle.std.proofs.Common.{◌∙◌, sym}
use Rattle.f11_dev.specs.Disk.{Disk, Reads, with_transfer, fresh}
use Rattle.f11_dev.specs.Written.{written_disk, written_image}
use Rattle.f11_dev.specs.declared.written.Written.{Written}
use Rattle.f11_dev.specs.declared.device.DeviceFault.{DeviceFault}

-- Whether a file gives back what was last written to it. No proof above this file knows it: where it is so is a premise.
pub is_file_honest : Bool
is_file_honest = false

-- So a read of a file is what a device's read has to be, whatever it gives.
abbrev pub FileReads : Type 0
FileReads = (result : Result Unit DeviceFault) (lbn : ℕ) (into : List ℕ) (old new : Disk) → old.honest ≡ is_file_honest
    → new ≡ with_transfer (is_ok result) old → Reads result lbn into old new

pub file_reads : FileReads
unfolding is_file_honest
file_reads (Ok x) lbn into old new dishonest counts = record {
  counts = counts;
  gives = λ honest. let never : false ≡ true = sym dishonest ∙ honest in cc;
}
file_reads (Err e) lbn into old new dishonest counts = record { counts = counts; gives = tt }

-- A file of so many blocks that was written earlier, before it was opened, and then since. What it held when it was opened is
-- what came of those earlier writes.
abbrev pub disk_of_file : ℕ → Written → Written → Disk
disk_of_file blocks earlier since = written_disk (fresh is_file_honest (written_image blocks earlier)) since
