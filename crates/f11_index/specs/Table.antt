-- The headers of a volume (Files-11 On-Disk Structure Level 1, "Index File" and "File Header"). What is said of headers and of
-- files is said of a table of them, and of no image: a write that leaves the table leaves all of it.
use Rattle.std.specs.Prelude.{◌≡◌, ◌⊎◌, ℕ, ◌+◌, Bool, true, List}
use Rattle.f11_dev.specs.Image.{Image, image_block}
use Rattle.f11_home.specs.Home.{HomeFields}
use Rattle.f11_map.specs.header.Fields.{file_number, file_sequence}
use Rattle.f11_map.specs.header.Header.{IsHeader}
use Rattle.f11_map.specs.HeaderBlock.{segment_number, link_of, LinksToNone}
use Rattle.f11_index.specs.IndexFile.{Index, index_of, slots, is_in_use, header_lbn}

pub record Table : Type 0 where
  -- the number of slots: they are numbered from 1 on
  pub slots : ℕ
  -- a slot is in use
  pub in_use : ℕ → Bool
  -- the block of a slot
  pub header : ℕ → List ℕ

-- the headers of an image, where its index file says this
unfoldable pub table_in : Image → Index → Table
table_in image index = record {
  slots = slots index;
  in_use = is_in_use index;
  header = λ n. image_block image (header_lbn index n);
}

-- the headers of an image
abbrev pub table_of : Image → HomeFields → Table
table_of image home = table_in image (index_of image home)

-- header n is live: its slot is in use, and it is valid
pub record IsLive (t : Table) (n : ℕ) : Type 0 where
  pub in_use : t.in_use n ≡ true
  pub valid : IsHeader (t.header n) n

-- slot n is in use and its header is dead: the file number there is 0
pub record IsDeadSlot (t : Table) (n : ℕ) : Type 0 where
  pub in_use : t.in_use n ≡ true
  pub dead : file_number (t.header n) ≡ 0

-- the sequence number that a slot was last given (H.FSEQ), whether or not it is in use
abbrev pub last_sequence : Table → ℕ → ℕ
last_sequence t n = file_sequence (t.header n)

-- header n is a file's first: it is live, and its segment number is 0
pub record IsFile (t : Table) (n : ℕ) : Type 0 where
  pub live : IsLive t n
  pub first : segment_number (t.header n) ≡ 0

-- header m is the next of header n: both are live, the link of n has the file number and the sequence number of m, and m's
-- segment number is one more
pub record IsNext (t : Table) (n m : ℕ) : Type 0 where
  pub from : IsLive t n
  pub to : IsLive t m
  pub number : (link_of (t.header n)).number ≡ m
  pub sequence : (link_of (t.header n)).sequence ≡ file_sequence (t.header m)
  pub segment : segment_number (t.header m) ≡ segment_number (t.header n) + 1

-- header n is one of file f's: its first, or the next of one of them
pub data IsHeaderOf (t : Table) (f : ℕ) : ℕ → Type 0 where
  first : IsFile t f → IsHeaderOf t f f
  next : {n m : ℕ} → IsHeaderOf t f n → IsNext t n m → IsHeaderOf t f m

-- header n links to its next one, or to none
abbrev pub LinksRightly : Table → ℕ → Type 0
LinksRightly t n = LinksToNone (t.header n) ⊎ IsNext t n (link_of (t.header n)).number

-- file f has its first header, and each of its headers links rightly
pub record IsWholeFile (t : Table) (f : ℕ) : Type 0 where
  pub file : IsFile t f
  pub links : (n : ℕ) → IsHeaderOf t f n → LinksRightly t n
