-- How many blocks a volume has (Files-11 On-Disk Structure Level 1, "Storage Bitmap File"; profile: where it ends if it doesn't say so, and
-- what is said of an image that ends early).
use Rattle.std.specs.Prelude.{◌≡◌, ℕ, ◌*◌, ◌&&◌, ◌<◌, max, nat_le, nat_lt, Bool, IsTrue, List, length, Option, Some, None, IfSome}
use Rattle.std.specs.Prelude.{if◌then◌else◌, unwrap_or}
use Rattle.std.specs.List.{slice_get}
use Rattle.std.specs.Option.{option_and_then}
use Rattle.f11_catalog.specs.Records.{Reads, file_found}
use Rattle.f11_catalog.specs.chain.Calls.{table}
use Rattle.f11_dev.specs.Disk.{Disk}
use Rattle.f11_dev.specs.Image.{Image}
use Rattle.f11_home.specs.Home.{HomeFields}
use Rattle.f11_index.specs.IndexFile.{Index, all_in_use, index_of}
use Rattle.f11_index.specs.Table.{Table, table_of}
use Rattle.f11_reader.specs.Reading.{contents_to_come}
use Rattle.f11_reader.specs.declared.file.FileReader.{FileReader}
use Rattle.f11_store.specs.File.{File}
use Rattle.f11_store.specs.declared.files.FileId.{FileId}
use Rattle.f11_volume.specs.Space.{bitmap_count, stated_size}
use Rattle.f11_commands.specs.AnyVolume.{CannotBeRead, IsReadable}
use Rattle.f11_commands.specs.declared.outcome.Failure.{Failure}
use Rattle.f11_commands.specs.declared.outcome.Failure.TheVariants.{DeviceFault, NoMemory, CannotWrite}
use Rattle.f11_commands.specs.declared.volume.VolumeFault.{VolumeFault}

-- the storage bitmap file: 2,2
abbrev pub bitmap_file_id : FileId
bitmap_file_id = record { number = 2; sequence = 2; volume = 0 }

-- so many bitmap blocks, 1 to 126, have bits for so many blocks, 1 at least
abbrev pub covers : ℕ → ℕ → Bool
covers bitmaps size = nat_lt 0 bitmaps && (nat_le bitmaps 126 && (nat_lt 0 size && nat_le size (4096 * bitmaps)))

-- the size that a control block states behind the pairs of words for its bitmap blocks, if these have bits for it
abbrev pub size_in : List ℕ → Option ℕ
size_in control = if covers (bitmap_count control) (stated_size control) then Some (stated_size control) else None

-- a file's first block, if it has one
abbrev pub first_block : File → Option (List ℕ)
first_block file = slice_get file.blocks 0

-- the size that the control block states, which is the first block of the storage bitmap file, whether or not that file's slot is in use
abbrev pub size_stated : Index → Image → Table → Option ℕ
size_stated wide image t = option_and_then size_in (option_and_then first_block (file_found wide image t bitmap_file_id))

-- the most blocks that a volume has: 126 bitmap blocks have bits for them
abbrev pub most_blocks : ℕ
most_blocks = 516096

-- where a volume ends: behind as many blocks as it states, or the most that it may have, and not before its image does
abbrev pub volume_end : Index → Image → Table → ℕ
volume_end wide image t = max (unwrap_or (size_stated wide image t) most_blocks) (length image)

-- so on a volume
abbrev pub size_stated_on : Image → HomeFields → Option ℕ
size_stated_on image home = size_stated (all_in_use (index_of image home)) image (table_of image home)

abbrev pub volume_end_on : Image → HomeFields → ℕ
volume_end_on image home = volume_end (all_in_use (index_of image home)) image (table_of image home)

-- a size, if it is above this
abbrev pub if_above : ℕ → Option ℕ → Option ℕ
if_above blocks None = None
if_above blocks (Some size) = if nat_lt blocks size then Some size else None

-- The size was read that the next block of a file states.
pub record ReadsControl (by : Index) (file : FileReader) (size : Option ℕ) (old new : Disk) : Type 0 where
  pub size_is : IsTrue old.honest → size ≡ option_and_then size_in (slice_get (contents_to_come by old file) 0)
  pub reads : Reads old new 0

-- The size was read that a volume states, by the files that an index file has, and those that the one has which takes each slot as in use.
pub record ReadsSize (index wide : Index) (size : Option ℕ) (old new : Disk) : Type 0 where
  pub size_is : IsTrue old.honest → size ≡ size_stated wide old.image (table index old)
  pub reads : Reads old new 0

-- It was found where the volume ends.
pub record FindsVolumeEnd (index wide : Index) (end : ℕ) (old new : Disk) : Type 0 where
  pub end_is : IsTrue old.honest → end ≡ volume_end wide old.image (table index old)
  pub reads : Reads old new 0

-- A volume can be read: the size that it states is told where its image has fewer blocks.
pub record TellsWanted (wanted : Option ℕ) (old new : Disk) : Type 0 where
  pub home : HomeFields
  pub readable : IsTrue old.honest → IsReadable old.image home
  pub wanted_is : IsTrue old.honest → wanted ≡ if_above (length old.image) (size_stated_on old.image home)
  pub more : IfSome wanted (λ blocks. length old.image < blocks)
  pub reads : Reads old new 0

-- It can't be read, and nothing is told.
pub record WantsNone (wanted : Option ℕ) (old new : Disk) : Type 0 where
  pub none : wanted ≡ None
  pub fault : VolumeFault
  pub hindered : CannotBeRead fault old new

-- How many blocks a volume should have whose image ends early was found, or that it isn't one.
pub data FindsWanted (wanted : Option ℕ) (old new : Disk) : Type 0 where
  tells : TellsWanted wanted old new → FindsWanted wanted old new
  hinders : WantsNone wanted old new → FindsWanted wanted old new

-- It wasn't: a transfer failed, or there was no memory.
abbrev pub FailsToFindWanted : Failure → Disk → Disk → Type 0
FailsToFindWanted DeviceFault old new = Reads old new 1
FailsToFindWanted NoMemory old new = Reads old new 0
FailsToFindWanted CannotWrite old new = ⊥
