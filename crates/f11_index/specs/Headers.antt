-- The headers of a file in order, its last one, and when the files of a volume are chained (Files-11 On-Disk Structure Level 1,
-- "File Header" and "Map Area"; profile: a file has 256 headers at most).
use Rattle.std.specs.Prelude.{◌≡◌, ℕ, zero, suc, ◌+◌, ◌<◌, ◌==◌, ◌&&◌, Bool, List, [], ◌∷◌, Option, Some, None, if◌then◌else◌}
use Rattle.f11_bytes.specs.Words.{word_sum}
use Rattle.f11_map.specs.header.Fields.{file_number, file_sequence, check_word}
use Rattle.f11_map.specs.header.Header.{holds_header}
use Rattle.f11_map.specs.HeaderBlock.{segment_number, link_of, LinksToNone}
use Rattle.f11_index.specs.Table.{Table, IsNext, IsHeaderOf, LinksRightly}

-- whether header n is live: its slot is in use, and it is valid
unfoldable pub is_live : Table → ℕ → Bool
is_live t n =
    let b = t.header n in
    t.in_use n && (file_number b == n && (holds_header b && check_word b == word_sum b 255))

-- whether header n has a next one: its link names a header that is live too, with the link's sequence number and a segment number one
-- more
unfoldable pub has_next : Table → ℕ → Bool
has_next t n =
    let link = link_of (t.header n) in
    let b = t.header link.number in
    is_live t n && (is_live t link.number && (link.sequence == file_sequence b && segment_number b == segment_number (t.header n) + 1))

-- the next of header n
unfoldable pub next_of : Table → ℕ → Option ℕ
next_of t n = if has_next t n then Some (link_of (t.header n)).number else None

-- header n and those after it along the links, so many at most; number 0 is no header's
unfoldable pub headers_from : ℕ → Table → ℕ → List ℕ
headers_from zero t n = []
headers_from (suc most) t zero = []
headers_from (suc most) t (suc n) = suc n ∷ headers_from most t (link_of (t.header (suc n))).number

-- the headers of file f, its own first
abbrev pub headers_of : Table → ℕ → List ℕ
headers_of t f = headers_from 256 t f

-- header n is file f's last: it links to none
pub record IsLastOf (t : Table) (f n : ℕ) : Type 0 where
  pub of : IsHeaderOf t f n
  pub no_link : LinksToNone (t.header n)

-- header n is one of a file
pub record IsInFile (t : Table) (n : ℕ) : Type 0 where
  pub file : ℕ
  pub of : IsHeaderOf t file n

-- The files are chained: each header of a file links to its next one or to none, and no header is the next of two.
pub record IsChained (t : Table) : Type 0 where
  pub links : (n : ℕ) → IsInFile t n → LinksRightly t n
  pub one : (n m to : ℕ) → IsInFile t n → IsInFile t m → IsNext t n to → IsNext t m to → n ≡ m

-- each segment number is a byte (M.ESQN)
abbrev pub HasByteSegments : Table → Type 0
HasByteSegments t = (n : ℕ) → segment_number (t.header n) < 256
