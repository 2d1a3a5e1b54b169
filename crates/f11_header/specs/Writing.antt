-- What writers leave of a header's block (Files-11 On-Disk Structure Level 1, "File Header").
use Rattle.std.specs.Prelude.{◌≡◌, ◌⊎◌, ℕ, ◌+◌, ◌*◌, ◌<◌, ◌≤◌, List, length, slice_index}
use Rattle.f11_store.specs.bytes.Block.{zero_block}
use Rattle.f11_store.specs.bytes.Words.{with_word, word_sum}
use Rattle.f11_store.specs.bytes.Part.{with_bytes}
use Rattle.f11_header.specs.Fields.{ident_offset, ident_end, map_offset, file_number, check_word}
use Rattle.f11_header.specs.Header.{holds_header}
use Rattle.f11_store.specs.declared.callers.Uic.{Uic}
use Rattle.f11_store.specs.declared.files.FileId.{FileId}

-- the owner as a word: the member in the low byte, the group in the high one
abbrev pub owner_word : Uic → ℕ
owner_word owner = owner.member + 256 * owner.group

-- with this file number and sequence number
abbrev pub with_id : List ℕ → FileId → List ℕ
with_id b id = with_word (with_word b 2 id.number) 4 id.sequence

-- with this owner
abbrev pub with_owner : List ℕ → Uic → List ℕ
with_owner b owner = with_word b 8 (owner_word owner)

-- with this protection word
abbrev pub with_protection : List ℕ → ℕ → List ℕ
with_protection b protection = with_word b 10 protection

-- with these characteristics
abbrev pub with_characteristics : List ℕ → ℕ → List ℕ
with_characteristics b characteristics = with_word b 12 characteristics

-- with these user attributes
abbrev pub with_attributes : List ℕ → List ℕ → List ℕ
with_attributes b attributes = with_bytes b 14 attributes

-- with this ident area
abbrev pub with_ident : List ℕ → List ℕ → List ℕ
with_ident b ident = with_bytes b (2 * ident_offset b) ident

-- with this map area
abbrev pub with_map : List ℕ → List ℕ → List ℕ
with_map b map = with_bytes b (2 * map_offset b) map

-- with the check word right: the sum of the 255 words before it (H.CKSM)
abbrev pub with_check_word : List ℕ → List ℕ
with_check_word b = with_word b 510 (word_sum b 255)

-- with file number and check word 0
abbrev pub dead_header : List ℕ → List ℕ
dead_header b = with_word (with_word b 2 0) 510 0

-- The ident area at word 23 and the map area at word 46 (bytes 0 and 1), the structure level octal 401 (byte 6). The map
-- area begins at byte 92: a pointer's count has 1 byte and its LBN 3 (M.CTSZ and M.LBSZ, bytes 98 and 99), and no word of
-- pointers is in use of the 204 that there may be (M.USE and M.MAX, bytes 100 and 101).
abbrev pub with_format : List ℕ → List ℕ
with_format b = with_word (with_word (with_word (with_word b 0 (23 + 256 * 46)) 6 257) 98 (1 + 256 * 3)) 100 (256 * 204)

-- An empty header without its check word: its fields, and zeros elsewhere. The segment number is the first byte of the map
-- area, at byte 92 (M.ESQN), and the next one, the volume of the link, is 0.
abbrev pub blank_header : FileId → Uic → ℕ → ℕ → List ℕ
blank_header id owner protection segment =
    with_word (with_protection (with_owner (with_id (with_format zero_block) id) owner) protection) 92 segment

-- A block differs from another in H.FOWN to H.UFAT, which are bytes 8 to 45, and in the ident area alone.
pub record ChangesFields (old new : List ℕ) : Type 0 where
  pub size : length new ≡ length old
  pub others : (i : ℕ) → (i < 8) ⊎ (46 ≤ i) → (i < 2 * ident_offset old) ⊎ (2 * ident_end old ≤ i) → slice_index new i ≡ slice_index old i

-- A block that is written holds a header where it held one, under the same number.
pub record KeepsHeader (old new : List ℕ) : Type 0 where
  pub holds : holds_header new ≡ holds_header old
  pub number : file_number new ≡ file_number old

-- What sealing leaves: the check word is right, and the block holds the header that it held.
pub record IsSealed (old new : List ℕ) : Type 0 where
  pub keeps : KeepsHeader old new
  pub sum : check_word new ≡ word_sum new 255
