-- What a first header tells of its file.
use Rattle.std.proofs.Common.{◌≡◌, ℕ, true, false, List, take, ◌++◌, length, refl, ap, ◌∙◌}
use Rattle.std.proofs.Math.Seq.{take-append_seam}
use Rattle.std.proofs.lemmas.Slice.Eq.{bytes_eq-Decides}
use Rattle.std.specs.Option.{option_map_or}
use Rattle.std.specs.Str.{bytes_eq}
use Rattle.f11_header.specs.Fields.{map_area}
use Rattle.f11_header.specs.MapFields.{segment}
use Rattle.f11_volume.specs.map.HeaderBlock.{segment_number}
use Rattle.f11_rad50.proofs.Spelled.{words_spelled-every}
use Rattle.f11_rad50.specs.Name.{Spells, is_name, name_text}
use Rattle.f11_catalog.specs.Users.{user_named, user_spelled}

pub first-segment : (block : List ℕ) → segment_number block ≡ 0 → segment (map_area block) ≡ 0
unfolding segment_number
first-segment block first = first

-- a name whose text spells it
pub user-is : (words : List ℕ) → Spells (name_text words) words → user_named words ≡ user_spelled (name_text words)
unfolding user_named
user-is words spells =
    let found : is_name words ≡ true =
    ap (λ o. option_map_or (λ found. bytes_eq found words) o false) (words_spelled-every (name_text words) words spells)
    ∙ (bytes_eq-Decides words words).1 refl in
    rw found refl

-- a text at the front of what it was put into
pub spelled-text : (into text rest : List ℕ) {count : ℕ} → into ≡ text ++ rest → count ≡ length text → take count into ≡ text
spelled-text into text rest is count = ap (λ k. take k into) count ∙ ap (take (length text)) is ∙ take-append_seam text rest
