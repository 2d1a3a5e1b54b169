-- Laws of the headers of files (Files-11 On-Disk Structure Level 1, "File Header"; profile: a file has 256 headers at most).
use Rattle.std.specs.Prelude.{◌≡◌, ◌↔◌, ℕ, ◌+◌, ◌<◌, ◌≤◌, IsTrue, length, Contains, Some}
use Rattle.std.specs.List.{slice_get}
use Rattle.f11_dev.specs.Image.{Image, IsImage}
use Rattle.f11_map.specs.HeaderBlock.{segment_number}
use Rattle.f11_index.specs.Headers.{is_live, next_of, headers_from, headers_of, IsLastOf, IsInFile, IsChained, HasByteSegments}
use Rattle.f11_index.specs.IndexFile.{Index}
use Rattle.f11_index.specs.Sound.{AreApart}
use Rattle.f11_index.specs.Table.{Table, table_in, IsLive, IsFile, IsNext, IsHeaderOf, IsWholeFile}

-- the test of a live header is right
abbrev pub LiveIsTested : Type 0
LiveIsTested = (t : Table) (n : ℕ) → IsTrue (is_live t n) ↔ IsLive t n

-- the next header is the one found
abbrev pub NextIsFound : Type 0
NextIsFound = (t : Table) (n m : ℕ) → (next_of t n ≡ Some m) ↔ IsNext t n m

-- two headers of one file with the same segment number are one
abbrev pub SegmentIsOne : Type 0
SegmentIsOne =
    (t : Table) (f n m : ℕ) → IsHeaderOf t f n → IsHeaderOf t f m → segment_number (t.header n) ≡ segment_number (t.header m) → n ≡ m

-- the segment numbers of an image's headers are bytes
abbrev pub ImageHasByteSegments : Type 0
ImageHasByteSegments = (image : Image) (index : Index) → IsImage image → HasByteSegments (table_in image index)

-- a header of a file whose segment number is a byte is one of the list of its headers, at that place
abbrev pub HeaderIsPlaced : Type 0
HeaderIsPlaced =
    (t : Table) (f n : ℕ) → IsHeaderOf t f n → segment_number (t.header n) < 256 →
    slice_get (headers_of t f) (segment_number (t.header n)) ≡ Some n

-- so the list has it
abbrev pub HeadersAreListed : Type 0
HeadersAreListed = (t : Table) (f n : ℕ) → IsHeaderOf t f n → segment_number (t.header n) < 256 → Contains (headers_of t f) n

-- Header n of file f has this segment number.
pub record IsSegment (t : Table) (f n segment : ℕ) : Type 0 where
  pub of : IsHeaderOf t f n
  pub number : segment_number (t.header n) ≡ segment

-- what stands in the list of a whole file's headers is its header of the place's segment
abbrev pub PlaceHasHeader : Type 0
PlaceHasHeader = (t : Table) (f n i : ℕ) → IsWholeFile t f → slice_get (headers_of t f) i ≡ Some n → IsSegment t f n i

-- so the list has headers of the file alone
abbrev pub ListedAreHeaders : Type 0
ListedAreHeaders = (t : Table) (f n : ℕ) → IsWholeFile t f → Contains (headers_of t f) n → IsHeaderOf t f n

-- and no header twice
abbrev pub HeadersAreApart : Type 0
HeadersAreApart = (t : Table) (f : ℕ) → IsWholeFile t f → AreApart (headers_of t f)

-- 256 headers at most
abbrev pub HeadersAreFew : Type 0
HeadersAreFew = (t : Table) (f : ℕ) → length (headers_of t f) ≤ 256

-- which are all of a whole file: however many more its links are followed for, no other comes
abbrev pub LinksEnd : Type 0
LinksEnd = (t : Table) (f more : ℕ) → HasByteSegments t → IsWholeFile t f → headers_from (256 + more) t f ≡ headers_of t f

-- a whole file has a last header
abbrev pub WholeHasLast : Type 0
WholeHasLast = (t : Table) (f : ℕ) → HasByteSegments t → IsWholeFile t f → (n : ℕ) × IsLastOf t f n

-- and a file has one at most
abbrev pub LastIsOne : Type 0
LastIsOne = (t : Table) (f n m : ℕ) → IsLastOf t f n → IsLastOf t f m → n ≡ m

-- which is the last of the list, and its segment number tells how many headers there are
abbrev pub LastEndsList : Type 0
LastEndsList = (t : Table) (f n : ℕ) → IsLastOf t f n → segment_number (t.header n) < 256 →
    length (headers_of t f) ≡ segment_number (t.header n) + 1

-- a file that has a last header is whole
abbrev pub LastMakesWhole : Type 0
LastMakesWhole = (t : Table) (f n : ℕ) → IsLastOf t f n → IsWholeFile t f

-- where the files are chained each is whole
abbrev pub ChainedAreWhole : Type 0
ChainedAreWhole = (t : Table) (f : ℕ) → IsChained t → IsFile t f → IsWholeFile t f

-- and two files have no header in common
abbrev pub ChainedAreApart : Type 0
ChainedAreApart = (t : Table) (f g n : ℕ) → IsChained t → IsHeaderOf t f n → IsHeaderOf t g n → f ≡ g

-- Header n is the next of one header of a file, which is one of f.
pub record HasOneBefore (t : Table) (f n : ℕ) : Type 0 where
  pub before : ℕ
  pub of : IsHeaderOf t f before
  pub next : IsNext t before n
  pub one : (m : ℕ) → IsInFile t m → IsNext t m n → m ≡ before

-- and each header of a file but its first has one before it
abbrev pub ChainedHaveOneBefore : Type 0
ChainedHaveOneBefore = (t : Table) (f n : ℕ) → IsChained t → IsHeaderOf t f n → 0 < segment_number (t.header n) → HasOneBefore t f n
