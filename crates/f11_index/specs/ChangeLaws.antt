-- Laws of the headers of a file where headers change (Files-11 On-Disk Structure Level 1, "File Header"). Each speaks of two tables,
-- the headers before and after.
use Rattle.std.specs.Prelude.{◌≡◌, ◌↔◌, ℕ, ◌<◌, ◌≤◌, true}
use Rattle.f11_map.specs.header.Fields.{file_sequence}
use Rattle.f11_map.specs.header.Header.{IsHeader}
use Rattle.f11_map.specs.HeaderBlock.{segment_number, link_of, LinksToNone}
use Rattle.f11_index.specs.Headers.{IsLastOf}
use Rattle.f11_index.specs.Table.{Table, IsNext, IsHeaderOf, IsWholeFile}

-- header n is as good as it was, whatever it links to: in use, valid, and with the same sequence number and segment number
pub record IsAsGood (old new : Table) (n : ℕ) : Type 0 where
  pub in_use : new.in_use n ≡ true
  pub valid : IsHeader (new.header n) n
  pub sequence : file_sequence (new.header n) ≡ file_sequence (old.header n)
  pub segment : segment_number (new.header n) ≡ segment_number (old.header n)

-- and it has the same link
pub record StaysHeader (old new : Table) (n : ℕ) : Type 0 where
  pub good : IsAsGood old new n
  pub link : link_of (new.header n) ≡ link_of (old.header n)

-- a whole file each of whose headers stays is whole, and has the headers that it had
abbrev pub WholeFileStays : Type 0
WholeFileStays =
    (old new : Table) (f : ℕ) → IsWholeFile old f → ((n : ℕ) → IsHeaderOf old f n → StaysHeader old new n) →
    IsWholeFile new f × ((n : ℕ) → IsHeaderOf new f n ↔ IsHeaderOf old f n)

-- Up to header n those of file f are as good as they were, and those before it link as they did.
pub record StayUpTo (f n : ℕ) (old new : Table) : Type 0 where
  pub good : (m : ℕ) → IsHeaderOf old f m → segment_number (old.header m) ≤ segment_number (old.header n) → IsAsGood old new m
  pub links : (m : ℕ) → IsHeaderOf old f m → segment_number (old.header m) < segment_number (old.header n) →
      link_of (new.header m) ≡ link_of (old.header m)

-- then header n is one of the file's still
abbrev pub HeaderStays : Type 0
HeaderStays = (old new : Table) (f n : ℕ) → IsHeaderOf old f n → StayUpTo f n old new → IsHeaderOf new f n

-- its last one, where it links to none
abbrev pub HeaderBecomesLast : Type 0
HeaderBecomesLast = (old new : Table) (f n : ℕ) → IsHeaderOf old f n → StayUpTo f n old new → LinksToNone (new.header n) →
    IsLastOf new f n

-- or the next one is the last, where that links to none
abbrev pub NextBecomesLast : Type 0
NextBecomesLast =
    (old new : Table) (f n m : ℕ) → IsHeaderOf old f n → StayUpTo f n old new → IsNext new n m → LinksToNone (new.header m) →
    IsLastOf new f m
