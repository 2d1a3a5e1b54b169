-- Laws of headers that are written.
use Rattle.std.specs.Prelude.{◌≡◌, ℕ, IsTrue, List, length}
use Rattle.f11_header.specs.Fields.{file_number, file_sequence, map_area}
use Rattle.f11_header.specs.Header.{holds_header, header_in, header_with, IsHeader}
use Rattle.f11_header.specs.MapFields.{segment, IsMapArea}
use Rattle.f11_header.specs.Writing.{ChangesFields, KeepsHeader, with_check_word, with_map}

-- what holds a header is a valid one once its check word is right, and says the same
abbrev pub CheckWordMakesValid : Type 0
CheckWordMakesValid = (b : List ℕ) → length b ≡ 512 → IsTrue (holds_header b)
    → IsHeader (with_check_word b) (file_number b) × (header_in (with_check_word b) ≡ header_in b)

-- where no more than the fields from the owner on and the ident area change, the block holds a header still, with the
-- number, the sequence number and the map area as they were
abbrev pub FieldsKeepHeader : Type 0
FieldsKeepHeader = (old new : List ℕ) → ChangesFields old new → IsTrue (holds_header old)
    → IsTrue (holds_header new) × (file_number new ≡ file_number old) × (file_sequence new ≡ file_sequence old) ×
    (map_area new ≡ map_area old)

-- a block that holds a header holds a map area
abbrev pub HeaderHasMapArea : Type 0
HeaderHasMapArea = (b : List ℕ) → length b ≡ 512 → IsTrue (holds_header b) → IsMapArea (map_area b)

-- another valid map area of the same size and segment leaves all else as it was
abbrev pub MapAreaKeepsHeader : Type 0
MapAreaKeepsHeader = (b map : List ℕ) → length b ≡ 512 → IsTrue (holds_header b) → length map ≡ length (map_area b)
    → segment map ≡ segment (map_area b) → IsMapArea map
    → KeepsHeader b (with_map b map) × (header_in (with_map b map) ≡ header_with (λ h. record h { map = map }) b)
