-- The fields of a file header (Files-11 On-Disk Structure Level 1, "File Header").
use Rattle.std.specs.Prelude.{ℕ, ◌+◌, ◌*◌, ◌==◌, if◌then◌else◌, List, slice_index, slice_range}
use Rattle.f11_store.specs.bytes.Words.{word}
use Rattle.f11_header.specs.MapFields.{segment}
use Rattle.f11_store.specs.declared.callers.Uic.{Uic}

-- H.IDOF and H.MPOF: where the ident area and the map area begin, in words
abbrev pub ident_offset : List ℕ → ℕ
ident_offset b = slice_index b 0

abbrev pub map_offset : List ℕ → ℕ
map_offset b = slice_index b 1

-- H.FNUM and H.FSEQ: the file number and the file sequence number
abbrev pub file_number : List ℕ → ℕ
file_number b = word b 2

abbrev pub file_sequence : List ℕ → ℕ
file_sequence b = word b 4

-- H.FLEV: the structure level
abbrev pub level : List ℕ → ℕ
level b = word b 6

-- H.FOWN: the owner's member in the low byte, the group in the high one
abbrev pub owner_member : List ℕ → ℕ
owner_member b = slice_index b 8

abbrev pub owner_group : List ℕ → ℕ
owner_group b = slice_index b 9

abbrev pub owner : List ℕ → Uic
owner b = record { group = owner_group b; member = owner_member b }

-- H.FPRO: the protection word
abbrev pub protection : List ℕ → ℕ
protection b = word b 10

-- H.UCHA and H.SCHA as one word, H.UCHA in the low byte
abbrev pub characteristics : List ℕ → ℕ
characteristics b = word b 12

-- H.UFAT: the user attributes
abbrev pub attributes : List ℕ → List ℕ
attributes b = slice_range b 14 46

-- H.CKSM: the check word
abbrev pub check_word : List ℕ → ℕ
check_word b = word b 510

-- the map area: from H.MPOF up to the check word
abbrev pub map_area : List ℕ → List ℕ
map_area b = slice_range b (2 * map_offset b) 510

-- the words of an ident area, which the first header of a file has, the one of segment 0
abbrev pub ident_words : ℕ → ℕ
ident_words segment = if segment == 0 then 23 else 0

-- the word behind the ident area, which begins at H.IDOF
abbrev pub ident_end : List ℕ → ℕ
ident_end b = ident_offset b + ident_words (segment (map_area b))

-- the ident area, which is empty in an extension header
abbrev pub ident_area : List ℕ → List ℕ
ident_area b = slice_range b (2 * ident_offset b) (2 * ident_end b)

-- the bytes from there to the map area: in a file's first header they begin with its ident area
abbrev pub ident_room : List ℕ → List ℕ
ident_room b = slice_range b (2 * ident_offset b) (2 * map_offset b)

-- what a header says
pub record HeaderFields : Type 0 where
  pub number : ℕ
  pub sequence : ℕ
  pub owner : Uic
  pub protection : ℕ
  pub characteristics : ℕ
  pub attributes : List ℕ
  pub ident : List ℕ
  pub map : List ℕ

abbrev pub header_fields : List ℕ → HeaderFields
header_fields b = record {
  number = file_number b;
  sequence = file_sequence b;
  owner = owner b;
  protection = protection b;
  characteristics = characteristics b;
  attributes = attributes b;
  ident = ident_area b;
  map = map_area b;
}
