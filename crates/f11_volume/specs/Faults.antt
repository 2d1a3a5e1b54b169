-- The faults of a volume (profile: which they are, and their codes).
-- A section in parentheses is one of the Files-11 On-Disk Structure Level 1 specification; 'profile' is a rule of this project.
use Rattle.std.specs.Prelude.{◌≡◌, ◌≢◌, ℕ, ◌+◌, ◌<◌, ◌≤◌, true, [], length, Contains}
use Rattle.f11_dev.specs.Image.{Image}
use Rattle.f11_chain.specs.header.Header.{IsHeader, IsDead}
use Rattle.f11_chain.specs.home.Home.{HomeFields, candidate, IsHomeOf, HasNoHome}
use Rattle.f11_chain.specs.map.HeaderBlock.{segment_number, link_of, blocks_named}
use Rattle.f11_chain.specs.index.Headers.{IsInFile}
use Rattle.f11_chain.specs.index.IndexFile.{index_of, IsFirstPast, HasNonePast}
use Rattle.f11_chain.specs.index.Sound.{IsIndexFile}
use Rattle.f11_chain.specs.index.Table.{Table, table_of, last_sequence, IsFile, IsNext, IsHeaderOf}
use Rattle.f11_chain.specs.FileHeaders.{IsSoundFile}
use Rattle.f11_volume.specs.Space.{bitmap_file, control_block, IsControlBlock}
use Rattle.f11_volume.specs.Volume.{Volume, IsNamed, IsNamedTwice, HasPointer, IsLinked}

-- Each candidate for the home block before the one found is a block of file 3, which no request writes: so none of them becomes a home
-- block (profile).
abbrev pub EarlierAreNamed : Image → HomeFields → Type 0
EarlierAreNamed image home =
    (k : ℕ) → candidate k < home.lbn →
    (n : ℕ) × IsHeaderOf (table_of image home) 3 n × Contains (blocks_named ((table_of image home).header n)) (candidate k)

-- header n is the first of the file n,n (index file: the first files of a volume)
pub record IsOwnFile (t : Table) (n : ℕ) : Type 0 where
  pub file : IsFile t n
  pub sequence : last_sequence t n ≡ n

-- the storage bitmap file is whole, lies on a device of so many blocks, and has a block (storage bitmap file)
pub record IsBitmapFile (t : Table) (blocks : ℕ) : Type 0 where
  pub sound : IsSoundFile t 2 blocks
  pub some : bitmap_file t ≢ []

-- the index file is as it should be, and each earlier candidate for the home block is a block of file 3
pub record HasIndexFile (image : Image) (home : HomeFields) : Type 0 where
  pub file : IsIndexFile image home
  pub earlier : EarlierAreNamed image home

-- headers 2, 3 and 4 are the first of files 2,2, 3,3 and 4,4
abbrev pub HasOwnFiles : Image → HomeFields → Type 0
HasOwnFiles image home = (n : ℕ) → 2 ≤ n → n ≤ 4 → IsOwnFile (table_of image home) n

-- the storage bitmap file is as it should be on the image's device
abbrev pub HasBitmapFile : Image → HomeFields → Type 0
HasBitmapFile image home = IsBitmapFile (table_of image home) (length image)

-- its control block is
abbrev pub HasControlBlock : Image → HomeFields → Type 0
HasControlBlock image home = IsControlBlock (control_block image (table_of image home)) (length (bitmap_file (table_of image home)))
    (length image)

-- The frame of a volume is as it should be. Where it isn't, nothing else is judged.
pub record IsFramed (image : Image) (home : HomeFields) : Type 0 where
  pub home_is : IsHomeOf image home
  pub indexed : HasIndexFile image home
  pub own_files : HasOwnFiles image home
  pub bitmap : HasBitmapFile image home
  pub control : HasControlBlock image home
  pub none_past : HasNonePast (index_of image home)

-- n is the least of 2, 3 and 4 that isn't the first header of a file n,n
pub record IsFirstNoFile (t : Table) (n : ℕ) : Type 0 where
  pub low : 2 ≤ n
  pub high : n ≤ 4
  pub no_file : ¬ IsOwnFile t n
  pub first : (m : ℕ) → 2 ≤ m → m < n → IsOwnFile t m

-- The fault of the frame of an image with this home block, by its code and a number: what comes before it is as it should be.
pub data IsFaultBehindHome (image : Image) (home : HomeFields) : ℕ → ℕ → Type 0 where
  index_misplaced : ¬ HasIndexFile image home → IsFaultBehindHome image home 2 0
  own_file_bad : (n : ℕ) → HasIndexFile image home → IsFirstNoFile (table_of image home) n → IsFaultBehindHome image home 3 n
  bitmap_file_bad : HasIndexFile image home → HasOwnFiles image home → ¬ HasBitmapFile image home → IsFaultBehindHome image home 4 0
  control_block_wrong : HasIndexFile image home → HasOwnFiles image home → HasBitmapFile image home → ¬ HasControlBlock image home
      → IsFaultBehindHome image home 5 0
  bit_past_slots : (n : ℕ) → HasIndexFile image home → HasOwnFiles image home → HasBitmapFile image home → HasControlBlock image home
      → IsFirstPast (index_of image home) n → IsFaultBehindHome image home 6 n

-- The fault of an image's frame.
pub data IsFrameFault (image : Image) : ℕ → ℕ → Type 0 where
  no_home : HasNoHome image → IsFrameFault image 1 0
  behind_home : (home : HomeFields) (code a : ℕ) → IsHomeOf image home → IsFaultBehindHome image home code a → IsFrameFault image code a

-- The faults of a volume whose frame is as it should be, each with its code and two numbers.
pub data IsVolumeFault (v : Volume) : ℕ → ℕ → ℕ → Type 0 where
  -- header n is in use, and neither valid nor dead
  header_bad : (n : ℕ) → v.table.in_use n ≡ true → ¬ IsDead (v.table.header n) → ¬ IsHeader (v.table.header n) n → IsVolumeFault v 7 n 0
  -- a block of pointer i of header n isn't in the volume
  pointer_outside : (n i : ℕ) (run : ℕ × ℕ) → HasPointer v.table n i run → v.size < run.0 + run.1 → IsVolumeFault v 8 n i
  -- block lbn is named twice
  named_twice : (lbn : ℕ) → IsNamedTwice v.table lbn → IsVolumeFault v 9 lbn 0
  -- block lbn is named and free
  named_free : (lbn : ℕ) → IsNamed v.table lbn → v.free lbn ≡ true → IsVolumeFault v 10 lbn 0
  -- header n of a file, which isn't that of the last segment there can be, links to one that isn't its next
  wrong_link : (n : ℕ) → IsLinked v.table n → segment_number (v.table.header n) < 255 →
      ¬ IsNext v.table n (link_of (v.table.header n)).number
      → IsVolumeFault v 11 n 0
  -- header n is the next of two headers of files
  linked_twice : (n one other : ℕ) → one ≢ other → IsInFile v.table one → IsInFile v.table other → IsNext v.table one n →
      IsNext v.table other n
      → IsVolumeFault v 12 n 0
  -- header n of a file is that of the last segment, 255, and has a link
  link_past_last : (n : ℕ) → IsLinked v.table n → 255 ≤ segment_number (v.table.header n) → IsVolumeFault v 13 n 0
  -- header n of a file has a link to another volume
  link_to_volume : (n : ℕ) → IsLinked v.table n → (link_of (v.table.header n)).volume ≢ 0 → IsVolumeFault v 14 n 0
