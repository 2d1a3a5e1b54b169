-- What contracts know of an `IndexFile`.
use Rattle.std.specs.Prelude.{◌≡◌, ℕ, ◌+◌, ◌-◌, ◌<◌, ◌≤◌, length, All, IsTrue, vec_capacity}
use Rattle.f11_dev.specs.Disk.{Disk}
use Rattle.f11_home.specs.Home.{HomeFields}
use Rattle.f11_index.specs.IndexFile.{Index, index_of}
use Rattle.f11_index.specs.declared.index_file.IndexFile.{IndexFile}

-- what is kept of an index file
abbrev pub index_kept : IndexFile → Index
index_kept f = record { bitmap_lbn = f.bitmap_lbn; bitmap = f.bitmap.items; headers = f.headers.items }

-- for how many slots more there is room, without taking memory
abbrev pub room : IndexFile → ℕ
room f = vec_capacity f.headers - length f.headers.items

-- its blocks are on a device of so many
pub record IndexLiesWithin (index : Index) (blocks : ℕ) : Type 0 where
  pub bitmap : index.bitmap_lbn + length index.bitmap ≤ blocks
  pub headers : All (λ lbn. lbn < blocks) index.headers

-- It is for this disk: its blocks are there, and it says what the image's index file says where the disk is honest.
pub record IsIndexFor (index : Index) (home : HomeFields) (disk : Disk) : Type 0 where
  pub within : IndexLiesWithin index (length disk.image)
  pub keeps : IsTrue disk.honest → index ≡ index_of disk.image home
