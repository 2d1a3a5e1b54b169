-- The records of a file (RSX-11M Utilities manual, FLX; Files-11 On-Disk Structure Level 1, file attributes).
use Rattle.std.specs.Prelude.{
  ℕ,
  zero,
  suc,
  ◌+◌,
  ◌%◌,
  ◌==◌,
  ◌&&◌,
  nat_lt,
  if◌then◌else◌,
  List,
  [],
  ◌∷◌,
  length,
  take,
  drop,
  slice_index,
  slice_range,
  Option,
  Some,
  None,
  option_and_then,
  unwrap_or,
}
use Rattle.std.specs.Option.{option_map}
use Rattle.std.specs.Int.{bit_at}
use Rattle.std.specs.List.{concat}
use Rattle.f11_bytes.specs.Words.{word}
use Rattle.f11_store.specs.File.{File, end_of}
use Rattle.f11_flx.specs.declared.layout.Layout.{Layout}
use Rattle.f11_flx.specs.declared.layout.Layout.TheVariants.{Fixed, Variable}

-- How records lie by the attributes: fixed ones (record type 1) of an even size that isn't 0, or variable ones (type 2).
-- None where the type is another, or record attribute 8 forbids that records cross blocks (profile).
unfoldable pub layout_of : List ℕ → Option Layout
layout_of attr =
    if bit_at (slice_index attr 1) 3 == 1 then None else
    if slice_index attr 0 == 2 then Some Variable else
    if slice_index attr 0 == 1 && (nat_lt 0 (word attr 2) && word attr 2 % 2 == 0) then Some (Fixed (word attr 2)) else None

-- a record takes some bytes at least: a fixed one its size, a variable one its length word
abbrev pub some_of : Layout → ℕ
some_of (Fixed size) = size
some_of Variable = 2

-- how many bytes stand before a record's own: a variable one has a length word
abbrev pub head_of : Layout → ℕ
head_of (Fixed size) = 0
head_of Variable = 2

-- how many bytes the record has that begins here
abbrev pub size_of : Layout → List ℕ → ℕ
size_of (Fixed size) bytes = size
size_of Variable bytes = word bytes 0

-- how many stand behind them: a variable record of an odd length has a pad byte
abbrev pub pad_of : Layout → ℕ → ℕ
pad_of (Fixed size) n = 0
pad_of Variable n = n % 2

-- the first record of these bytes, and what stands behind it and its pad byte; none where it goes past their end
unfoldable pub first_record : Layout → List ℕ → Option (List ℕ × List ℕ)
first_record layout bytes =
    let first = head_of layout in
    let size = size_of layout bytes in
    if nat_lt (length bytes) (first + size) then None else
    Some (slice_range bytes first (first + size), drop (first + size + pad_of layout size) bytes)

-- the records of these bytes: the first one and those of the bytes behind it; none where one goes past their end. There
-- are no more than n.
unfoldable pub records_upto : ℕ → Layout → List ℕ → Option (List (List ℕ))
records_upto n layout [] = Some []
records_upto zero layout (byte ∷ bytes) = None
records_upto (suc n) layout (byte ∷ bytes) =
    option_and_then (λ (first : List ℕ × List ℕ). option_map (λ (more : List (List ℕ)). first.0 ∷ more)
    (records_upto n layout first.1)) (first_record layout (byte ∷ bytes))

-- all of them: there are no more than bytes
abbrev pub records_in : Layout → List ℕ → Option (List (List ℕ))
records_in layout bytes = records_upto (length bytes) layout bytes

-- the records of a file: those of its bytes up to its end
abbrev pub records_of : File → Option (List (List ℕ))
records_of file = option_and_then (λ layout. records_in layout (take (end_of file) (concat file.blocks))) (layout_of file.attr)

-- the good records of these bytes: those before the first that goes past their end, or all. There are no more than n.
unfoldable pub good_upto : ℕ → Layout → List ℕ → List (List ℕ)
good_upto n layout [] = []
good_upto zero layout (byte ∷ bytes) = []
good_upto (suc n) layout (byte ∷ bytes) =
    unwrap_or (option_map (λ (first : List ℕ × List ℕ). first.0 ∷ good_upto n layout first.1)
    (first_record layout (byte ∷ bytes))) []

abbrev pub good_in : Layout → List ℕ → List (List ℕ)
good_in layout bytes = good_upto (length bytes) layout bytes

-- those of a file: none where its attributes don't say how records lie
abbrev pub good_of : File → List (List ℕ)
good_of file = unwrap_or (option_map (λ layout. good_in layout (take (end_of file) (concat file.blocks))) (layout_of file.attr)) []

-- which records are meant: all, where they can be read, or the good ones
pub data Which : Type 0 where
  all : Which
  good : Which

-- those of these bytes
abbrev pub records_by : Which → Layout → List ℕ → Option (List (List ℕ))
records_by all layout bytes = records_in layout bytes
records_by good layout bytes = Some (good_in layout bytes)

-- those of a file
abbrev pub records_of_by : Which → File → Option (List (List ℕ))
records_of_by all file = records_of file
records_of_by good file = Some (good_of file)
