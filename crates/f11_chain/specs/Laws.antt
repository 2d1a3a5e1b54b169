-- Laws of a file's headers and blocks, and what they are where headers change (Files-11 On-Disk Structure Level 1, "File Header"
-- and "Map Area"). Each speaks of two tables, the headers before and after.
use Rattle.std.specs.Prelude.{◌≡◌, ℕ, ◌+◌, ◌<◌, ◌≤◌, List, [], ◌∷◌, ◌++◌, length, take, Contains}
use Rattle.f11_dev.specs.Image.{Image}
use Rattle.f11_index.specs.Home.{HomeFields}
use Rattle.f11_index.specs.map.HeaderBlock.{segment_number, link_of, blocks_named, LinksToNone}
use Rattle.f11_index.specs.Headers.{headers_of, IsLastOf}
use Rattle.f11_index.specs.IndexFile.{index_file_blocks}
use Rattle.f11_index.specs.Sound.{IsIndexFile}
use Rattle.f11_index.specs.Table.{Table, table_of, IsHeaderOf}
use Rattle.f11_chain.specs.FileHeaders.{blocks_by, file_blocks}

-- the blocks of the index file are those of file 1
abbrev pub IndexFileIsFileOne : Type 0
IndexFileIsFileOne = (image : Image) (home : HomeFields) → IsIndexFile image home →
    file_blocks (table_of image home) 1 ≡ index_file_blocks image home

-- File f has the headers that it had, and these blocks more.
pub record HasMore (f : ℕ) (more : List ℕ) (old new : Table) : Type 0 where
  pub headers : headers_of new f ≡ headers_of old f
  pub blocks : file_blocks new f ≡ file_blocks old f ++ more

-- File f has this header and its blocks more, behind the others.
pub record HasHeaderMore (f n : ℕ) (old new : Table) : Type 0 where
  pub headers : headers_of new f ≡ headers_of old f ++ n ∷ []
  pub blocks : file_blocks new f ≡ file_blocks old f ++ blocks_named (new.header n)

-- File f ends with its header n, which was that of this segment: it has the blocks of those before it, and those that n names now.
pub record EndsWith (f n segment : ℕ) (old new : Table) : Type 0 where
  pub headers : headers_of new f ≡ take (segment + 1) (headers_of old f)
  pub blocks : file_blocks new f ≡ blocks_by old (take segment (headers_of old f)) ++ blocks_named (new.header n)

-- a file has the headers and the blocks that it had where each of its headers stays
abbrev pub FileStays : Type 0
FileStays =
    (old new : Table) (f : ℕ) → ((n : ℕ) → Contains (headers_of old f) n → new.header n ≡ old.header n) →
    (headers_of new f ≡ headers_of old f) × (file_blocks new f ≡ file_blocks old f)

-- each header of file f before header n stays
abbrev pub StayBefore : ℕ → ℕ → Table → Table → Type 0
StayBefore f n old new = (m : ℕ) → IsHeaderOf old f m → segment_number (old.header m) < segment_number (old.header n) →
    new.header m ≡ old.header m

-- a file whose last header names more blocks has these more
abbrev pub LastNamesMore : Type 0
LastNamesMore =
    (old new : Table) (f n : ℕ) (more : List ℕ) → IsLastOf old f n → segment_number (old.header n) < 256 → StayBefore f n old new →
    LinksToNone (new.header n) → blocks_named (new.header n) ≡ blocks_named (old.header n) ++ more → HasMore f more old new

-- a file whose last header links to another, which links to none, has that one more
abbrev pub LastIsLinked : Type 0
LastIsLinked =
    (old new : Table) (f n m : ℕ) → IsLastOf old f n → segment_number (old.header n) < 255 → StayBefore f n old new → 0 < m →
    (link_of (new.header n)).number ≡ m → blocks_named (new.header n) ≡ blocks_named (old.header n) → LinksToNone (new.header m) →
    HasHeaderMore f m old new

-- a file one of whose headers no longer links to another ends with it
abbrev pub HeaderEndsFile : Type 0
HeaderEndsFile =
    (old new : Table) (f n : ℕ) → IsHeaderOf old f n → segment_number (old.header n) < 256 → StayBefore f n old new →
    LinksToNone (new.header n) → EndsWith f n (segment_number (old.header n)) old new

-- so where it names as many of its first blocks as are left, the file has that many of its own
abbrev pub FileIsCut : Type 0
FileIsCut =
    (old new : Table) (f n left : ℕ) → IsHeaderOf old f n → segment_number (old.header n) < 256 → StayBefore f n old new →
    LinksToNone (new.header n) → blocks_named (new.header n) ≡ take left (blocks_named (old.header n)) →
    left ≤ length (blocks_named (old.header n)) →
    file_blocks new f ≡ take (length (blocks_by old (take (segment_number (old.header n)) (headers_of old f))) + left) (file_blocks old f)
