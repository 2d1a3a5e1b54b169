-- Which entries of an RT-11 directory stand for a file that can be copied (RT-11 Volume and File Formats Manual, "Directory Entry";
-- profile: which of a faulty one).
use Rattle.std.specs.Prelude.{◌≡◌, ℕ, ◌+◌, ◌==◌, ◌&&◌, ◌||◌, Bool, if◌then◌else◌, nat_le, List, length, Option, Some, None}
use Rattle.std.specs.Prelude.{Result, Ok, Err}
use Rattle.f11_dev.specs.Disk.{Disk}
use Rattle.rt11_volume.specs.AnyDirectory.{fits}
use Rattle.rt11_volume.specs.declared.any_entries.RtEntry.{RtEntry}
use Rattle.rt11_volume.specs.declared.area.RtKind.{RtKind}
use Rattle.rt11_volume.specs.declared.area.RtKind.TheVariants.{Tentative, Empty, Permanent}
use Rattle.rt11_copy.specs.declared.outcome.RtUncopied.{RtUncopied}
use Rattle.rt11_copy.specs.declared.outcome.RtUncopied.TheVariants.{NoFile, StatusWrong, NoName, PastEnd}

-- an entry's area is one that a directory may give away, and all its blocks are on a device of so many
abbrev pub lies_within : ℕ → RtEntry → Bool
lies_within size e = fits e && (e.blocks == 0 || nat_le (e.first + e.blocks) size)

-- the name of a file whose blocks are there, or aren't
abbrev pub name_if_there : Bool → Option (List ℕ) → Result (List ℕ) RtUncopied
name_if_there there None = Err NoName
name_if_there there (Some name) = if there then Ok name else Err PastEnd

-- the same of an area that is a file's, and why one that is none's isn't copied
abbrev pub name_by_kind : Option RtKind → Bool → Option (List ℕ) → Result (List ℕ) RtUncopied
name_by_kind None there name = Err StatusWrong
name_by_kind (Some Tentative) there name = Err NoFile
name_by_kind (Some Empty) there name = Err NoFile
name_by_kind (Some Permanent) there name = name_if_there there name

-- the name of the file of an entry on a device of so many blocks, or why it isn't copied, whatever can be read
abbrev pub name_to_copy : ℕ → RtEntry → Result (List ℕ) RtUncopied
name_to_copy size e = name_by_kind e.kind (lies_within size e) e.name

-- The file of an entry can be copied from a disk, under this name.
abbrev pub IsToCopy : RtEntry → List ℕ → Disk → Type 0
IsToCopy e name from = name_to_copy (length from.image) e ≡ Ok name
