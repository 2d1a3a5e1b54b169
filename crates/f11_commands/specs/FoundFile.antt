-- A file that was found, on its device (profile).
use Rattle.std.specs.Prelude.{◌≡◌, ℕ, ◌+◌, ◌*◌, max, Bool, IsTrue, length, if◌then◌else◌}
use Rattle.f11_catalog.specs.chain.Calls.{table}
use Rattle.f11_dev.specs.Disk.{Disk}
use Rattle.f11_dev.specs.Looked.{Looked}
use Rattle.f11_dev.specs.declared.device.Device.{Ghosts}
use Rattle.f11_index.specs.IndexFile.{Index}
use Rattle.f11_index.specs.Kept.{index_kept}
use Rattle.f11_index.specs.Table.{Table}
use Rattle.f11_reader.specs.Missing.{last_to_come, links_to_none}
use Rattle.f11_reader.specs.Reading.{blocks_to_come, headers_left}
use Rattle.f11_reader.specs.declared.file.FileReader.{FileReader}
use Rattle.f11_commands.specs.declared.get.found.FoundFile.{FoundFile}

-- its device
abbrev pub device_with : {D : Type 0} {G : Ghosts D} → FoundFile D G → D
device_with found = found.device

-- whether its volume has faults
abbrev pub has_faults : {D : Type 0} {G : Ghosts D} → FoundFile D G → Bool
has_faults found = found.faulty

-- whether its slot is in use
abbrev pub is_used : {D : Type 0} {G : Ghosts D} → FoundFile D G → Bool
is_used found = found.in_use

-- its volume's index file, the file as it is read, and its end
abbrev pub index_with : {D : Type 0} {G : Ghosts D} → FoundFile D G → Index
index_with found = index_kept found.index

abbrev pub reader_of : {D : Type 0} {G : Ghosts D} → FoundFile D G → FileReader
reader_of found = found.file

abbrev pub end_found : {D : Type 0} {G : Ghosts D} → FoundFile D G → ℕ
end_found found = found.end

-- where its volume ends
abbrev pub size_with : {D : Type 0} {G : Ghosts D} → FoundFile D G → ℕ
size_with found = found.size

-- the end in bytes behind so many blocks, and past it where the headers break off there, so that the file may have more
abbrev pub end_behind : Bool → ℕ → ℕ
end_behind whole blocks = 512 * blocks + (if whole then 0 else 1)

-- the end of a file behind the last block that is reached
abbrev pub last_end : Table → FileReader → ℕ
last_end t file = end_behind (links_to_none (t.header (last_to_come t file))) (length (blocks_to_come t file))

-- That end was found, and how many blocks are reached.
pub record FindsLastEnd (index : Index) (file : FileReader) (end blocks : ℕ) (old new : Disk) : Type 0 where
  pub end_is : IsTrue old.honest → end ≡ last_end (table index old) file
  pub blocks_are : IsTrue old.honest → blocks ≡ length (blocks_to_come (table index old) file)
  pub looked : Looked old new (2 * headers_left file) 0

-- The same file is to come up to its last block, or where it states, if that is past it.
pub record EndsAtLast {D : Type 0} {G : Ghosts D} (disk : D → Disk) (found later : FoundFile D G) : Type 0 where
  pub index : index_with later ≡ index_with found
  pub file : reader_of later ≡ reader_of found
  pub in_use : is_used later ≡ is_used found
  pub faulty : has_faults later ≡ has_faults found
  pub size : size_with later ≡ size_with found
  pub end_is : IsTrue (disk (device_with found)).honest →
      end_found later ≡ max (last_end (table (index_with found) (disk (device_with found))) (reader_of found)) (end_found found)
  pub looked : Looked (disk (device_with found)) (disk (device_with later)) (2 * headers_left (reader_of found)) 0
