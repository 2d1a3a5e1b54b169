-- When a block is a file header (Files-11 On-Disk Structure Level 1, "File Header"; profile: which fields are tested).
use Rattle.std.specs.Prelude.{◌≡◌, ℕ, ◌==◌, nat_lt, nat_le, Bool, ◌&&◌, IsTrue, if◌then◌else◌}
use Rattle.std.specs.Prelude.{List, Option, Some, None, option_map, replicate}
use Rattle.f11_store.specs.bytes.Words.{word_sum}
use Rattle.f11_header.specs.Fields.{ident_offset, map_offset, file_number, file_sequence, level, owner, protection, characteristics}
use Rattle.f11_header.specs.Fields.{attributes, check_word, map_area, ident_end, ident_room, HeaderFields, header_fields}
use Rattle.f11_header.specs.MapFields.{segment, link, words_in_use, places, holds_pointers}
use Rattle.f11_store.specs.declared.callers.Uic.{Uic}
use Rattle.f11_store.specs.declared.files.FileId.{FileId}

-- A block holds a header, a valid one but for its check word, where
-- no number or sequence number is 0 (H.FNUM and H.FSEQ),
-- the structure level is octal 401 (H.FLEV),
-- the ident area begins behind the fields, and the map area behind the ident area, 5 words or more before the check word,
-- and the map area holds retrieval pointers.
unfoldable pub holds_header : List ℕ → Bool
holds_header b =
    nat_lt 0 (file_number b) && (nat_lt 0 (file_sequence b)
    && (level b == 257
    && (nat_le 23 (ident_offset b) && (nat_le (ident_end b) (map_offset b) && (nat_le (map_offset b) 250
    && holds_pointers (map_area b))))))

-- the header that a block holds, by what it says
unfoldable pub header_in : List ℕ → Option HeaderFields
header_in b = if holds_header b then Some (header_fields b) else None

-- what the header that a block holds says once some of it is changed
abbrev pub header_with : (HeaderFields → HeaderFields) → List ℕ → Option HeaderFields
header_with change b = option_map change (header_in b)

-- a block is a valid header n: it holds one, and H.CKSM is the sum of the 255 words before it
pub record IsHeader (b : List ℕ) (n : ℕ) : Type 0 where
  pub number : file_number b ≡ n
  pub holds : IsTrue (holds_header b)
  pub sum : check_word b ≡ word_sum b 255

-- a header is dead where its number is 0
abbrev pub IsDead : List ℕ → Type 0
IsDead b = file_number b ≡ 0

-- An empty header: these fields, no characteristics, attributes and an ident area of zeros, 102 places and no pointer in use,
-- and no link.
pub record IsEmptyHeader (b : List ℕ) (id : FileId) (owned : Uic) (protects number : ℕ) : Type 0 where
  pub number_is : file_number b ≡ id.number
  pub sequence_is : file_sequence b ≡ id.sequence
  pub owner_is : owner b ≡ owned
  pub protection_is : protection b ≡ protects
  pub no_characteristics : characteristics b ≡ 0
  pub no_attributes : attributes b ≡ replicate 32 0
  pub no_ident : ident_room b ≡ replicate 46 0
  pub segment_is : segment (map_area b) ≡ number
  pub room : places (map_area b) ≡ 102
  pub no_pointer : words_in_use (map_area b) ≡ 0
  pub no_link : link (map_area b) ≡ record { number = 0; sequence = 0; volume = 0 }
