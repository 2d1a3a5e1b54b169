-- What the long line of a file shows: its dates, and how its records are kept (Files-11 On-Disk Structure Level 1, "Ident Area" and "File
-- Attributes"; RSX-11M Utilities manual, PIP, `/FU`; profile: its words).
use Rattle.std.specs.Prelude.{ℕ, ◌+◌, ◌==◌, List, [], ◌++◌, codes, if◌then◌else◌, slice_index, slice_range}
use Rattle.std.specs.Fmt.{decimal}
use Rattle.std.specs.Int.{bit_at}
use Rattle.f11_bytes.specs.Words.{word}
use Rattle.f11_dates.specs.Files11.{day_held}
use Rattle.f11_dates.specs.Moments.{moment_held, moment_of}
use Rattle.f11_dates.specs.Text.{moment_text}
use Rattle.f11_dates.specs.declared.dated.Dated.{Dated}
use Rattle.f11_dates.specs.declared.dated.Dated.TheVariants.{Unset, Set, Invalid}
use Rattle.f11_dates.specs.declared.moment.Moment.{Moment}
use Rattle.f11_catalog.specs.declared.dates.FileDates.{FileDates}
use Rattle.f11_catalog.specs.declared.record_form.RecordForm.{RecordForm}

-- the date and the time that stand in an ident area from a byte on
abbrev pub moment_at : List ℕ → ℕ → Dated Moment
moment_at ident at = moment_held (slice_range ident at (at + 13))

-- the expiration date, which has no time
abbrev pub expiry_in : List ℕ → Dated Moment
expiry_in ident = moment_of (day_held (slice_range ident 38 45)) Unset

-- the dates of a file, off its ident area: the revision number stands in the word at 10, the revision's date and time from byte 12 on, the
-- creation's from 25 on, and the expiration date from 38 on
abbrev pub dates_in : List ℕ → FileDates
dates_in ident = record {
  created = moment_at ident 25;
  revised = moment_at ident 12;
  times = word ident 10;
  expires = expiry_in ident;
}

-- how its records are kept, off its attributes: their type (F.RTYP, byte 0), attributes (F.RATT, byte 1) and size (F.RSIZ, the word at 2)
abbrev pub records_in : List ℕ → RecordForm
records_in attributes = record { kind = slice_index attributes 0; attributes = slice_index attributes 1; size = word attributes 2 }

-- a date behind what it is of: nothing where none is kept, and `?` for what is none
abbrev pub date_shown : List ℕ → Dated Moment → List ℕ
date_shown what Unset = []
date_shown what (Set moment) = what ++ moment_text moment
date_shown what Invalid = what ++ codes "?"

-- how often it was revised, where it was
abbrev pub times_shown : ℕ → List ℕ
times_shown times = if times == 0 then [] else codes " times " ++ decimal times

-- all of its dates
abbrev pub dates_shown : FileDates → List ℕ
dates_shown d = date_shown (codes " created ") d.created
    ++ (date_shown (codes " revised ") d.revised ++ (times_shown d.times ++ date_shown (codes " expires ") d.expires))

-- what a type of records is called: of a fixed length (R.FIX), of variable length (R.VAR), sequenced (R.SEQ), and `records` for any other
abbrev pub type_name : ℕ → List ℕ
type_name kind =
    if kind == 1 then codes " fixed "
    else if kind == 2 then codes " variable "
    else if kind == 3 then codes " sequenced "
    else codes " records "

-- an attribute of records, where its bit is set
abbrev pub attribute_shown : ℕ → ℕ → List ℕ → List ℕ
attribute_shown attributes bit text = if bit_at attributes bit == 1 then text else []

-- those of FORTRAN's carriage control (FD.FTN, bit 0), of a carriage return behind each record (FD.CR, bit 1), of print control (FD.PRN,
-- bit 2), and that none lies over the end of a block (FD.BLK, bit 3)
abbrev pub attributes_shown : ℕ → List ℕ
attributes_shown attributes =
    attribute_shown attributes 0 (codes " fortran") ++ (attribute_shown attributes 1 (codes " carriage")
    ++ (attribute_shown attributes 2 (codes " print") ++ attribute_shown attributes 3 (codes " unspanned")))

-- how records are kept: nothing where no type is said (0), else the type, the size in bytes, and their attributes
abbrev pub records_shown : RecordForm → List ℕ
records_shown r =
    if r.kind == 0 then [] else type_name r.kind ++ (decimal r.size ++ attributes_shown r.attributes)
