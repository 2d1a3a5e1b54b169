-- Files that were open when the system stopped, and files whose records are lines (Files-11 On-Disk Structure Level 1, "File
-- Characteristics" and "File Attributes"; profile: what tells the former).
use Rattle.std.specs.Prelude.{◌&&◌, ◌%◌, ◌==◌, Bool, if◌then◌else◌, not, slice_index}
use Rattle.std.specs.Int.{bit_at}
use Rattle.f11_flx.specs.declared.mode.CopyMode.{CopyMode}
use Rattle.f11_flx.specs.declared.mode.CopyMode.TheVariants.{Image, Text}
use Rattle.f11_header.specs.Fields.{attributes, characteristics}
use Rattle.f11_reader.specs.Reading.{header_in_hand}
use Rattle.f11_reader.specs.declared.file.FileReader.{FileReader}
use Rattle.f11_store.specs.File.{stated_end}

-- a file wasn't closed (UC.DLK, bit 6 of H.UCHA) and states the end 0, as one does that was open when the system stopped
abbrev pub has_open_end : FileReader → Bool
has_open_end file =
    let header = header_in_hand file in (stated_end (attributes header) == 0) && (bit_at (characteristics header) 6 == 1)

-- its record attributes say how a printer goes on to the next line: FD.FTN, FD.CR or FD.PRN (bits 0 to 2 of F.RATT), so that its records
-- are lines
abbrev pub has_lines : FileReader → Bool
has_lines file = not (slice_index (attributes (header_in_hand file)) 1 % 8 == 0)

-- its records are of variable length (R.VAR, 2 in F.RTYP), and a carriage return stands behind each (FD.CR, bit 1 of F.RATT)
abbrev pub is_text : FileReader → Bool
is_text file =
    let fields = attributes (header_in_hand file) in (slice_index fields 0 == 2) && (bit_at (slice_index fields 1) 1 == 1)

-- as what it is copied where its header decides
abbrev pub mode_of : FileReader → CopyMode
mode_of file = if is_text file then Text else Image
