-- The parts of a pattern: a name, a type, and which versions are asked for (RSX-11M-PLUS MCR Operations Manual, file specifications and
-- wildcards).
use Rattle.std.specs.Prelude.{ℕ, ◌+◌, ◌<◌, ◌≤◌, ◌==◌, Bool, ◌||◌, List, length, ⊤}
use Rattle.std.specs.Coded.{×_prop, Unit-prop, le_prop}
use Rattle.std.specs.Char.{to_ascii_uppercase}
use Rattle.std.specs.List.{AllPass}
use Rattle.f11_rad50.specs.Name.{is_name_character}
use Rattle.f11_patterns.specs.declared.versions.Versions.{Versions}
use Rattle.f11_patterns.specs.declared.versions.Versions.TheVariants.{Highest, Each, Exactly}

-- The parts of a pattern.
pub record Parts : Type 0 where
  pub name : List ℕ
  pub kind : List ℕ
  pub versions : Versions

-- The characters of a name, small letters, `*` (42) and `%` (37) may stand in a pattern (profile: the small letters).
unfoldable pub is_pattern_character : ℕ → Bool
is_pattern_character c = is_name_character (to_ascii_uppercase c) || (c == 42 || c == 37)

-- One version that is asked for is from 1 to 32767.
abbrev pub AreVersions : Versions → Type 0
AreVersions Highest = ⊤
AreVersions Each = ⊤
AreVersions (Exactly version) = (0 < version) × (version < 32768)

pub AreVersions-prop : (versions : Versions) → IsProp (AreVersions versions)
AreVersions-prop Highest = Unit-prop
AreVersions-prop Each = Unit-prop
AreVersions-prop (Exactly version) = ×_prop le_prop le_prop

-- Up to nine characters of a pattern stand for the name and up to three for the type, not both none (profile: not both none).
pub record AreParts (name kind : List ℕ) : Type 0 where
  pub name_characters : AllPass is_pattern_character name
  pub name_length : length name ≤ 9
  pub kind_characters : AllPass is_pattern_character kind
  pub kind_length : length kind ≤ 3
  pub not_empty : 0 < length name + length kind
