-- The pattern of a file's name: its text, and the names that fit it (RSX-11M-PLUS MCR Operations Manual, file specifications and
-- wildcards). A name is seen as its five words.
use Rattle.std.specs.Prelude.{◌≡◌, ◌≢◌, ℕ, List, [], ◌∷◌, ◌++◌, All, ⊤, ◌⊎◌}
use Rattle.std.specs.Str.Parse.{digits_value}
use Rattle.f11_rad50.specs.Name.{IsVersion, Spells, name_of, type_of, version_of}
use Rattle.f11_patterns.specs.declared.versions.Versions.{Versions}
use Rattle.f11_patterns.specs.declared.versions.Versions.TheVariants.{Highest, Each, Exactly}
use Rattle.f11_patterns.specs.Like.{IsLike}
use Rattle.f11_patterns.specs.Parts.{Parts, AreVersions, AreParts}

-- One to five octal digits are written for a number.
pub record IsNumber (digits : List ℕ) (number : ℕ) : Type 0 where
  pub written : IsVersion digits
  pub value : number ≡ digits_value 8 digits

-- Nothing and the number 0 ask for the highest version, `*` (42) for each one, and another number for the version of that number
-- (profile: nothing behind a semicolon, and how many digits).
abbrev pub DigitsAskFor : List ℕ → Versions → Type 0
DigitsAskFor digits Highest = (digits ≡ []) ⊎ IsNumber digits 0
DigitsAskFor digits Each = digits ≡ 42 ∷ []
DigitsAskFor digits (Exactly version) = IsNumber digits version

-- Behind the type stands nothing, which asks for the highest version, or a semicolon (59) and what asks for versions.
abbrev pub BehindAsksFor : List ℕ → Versions → Type 0
BehindAsksFor [] versions = versions ≡ Highest
BehindAsksFor (c ∷ digits) versions = (c ≡ 59) × DigitsAskFor digits versions

-- A text is a pattern with these parts: the name, a dot (46), the type, and what asks for versions.
pub record IsPattern (text : List ℕ) (parts : Parts) : Type 0 where
  pub behind : List ℕ
  pub is_text : text ≡ parts.name ++ (46 ∷ (parts.kind ++ behind))
  pub proper : AreParts parts.name parts.kind
  pub asks : BehindAsksFor behind parts.versions
  pub version : AreVersions parts.versions

-- A version is among those asked for. Where the highest one is, each is: which one is highest is decided among the names that fit.
abbrev pub IsAmong : ℕ → Versions → Type 0
IsAmong version Highest = ⊤
IsAmong version Each = ⊤
IsAmong version (Exactly one) = version ≡ one

-- A name fits a pattern where its name and its type are like the pattern's, and its version is among those asked for.
pub record Fits (parts : Parts) (words : List ℕ) : Type 0 where
  pub name : IsLike parts.name (name_of words)
  pub kind : IsLike parts.kind (type_of words)
  pub version : IsAmong (version_of words) parts.versions

-- the same name and type, with these versions asked for
abbrev pub with_versions : Versions → Parts → Parts
with_versions versions parts = record parts { versions = versions }

-- A character that is neither `*` (42) nor `%` (37).
abbrev pub IsPlain : ℕ → Type 0
IsPlain c = (c ≢ 42) × (c ≢ 37)

-- A pattern means at most one name of a directory where its name and its type are plain, and not each version is asked for.
pub record IsOne (parts : Parts) : Type 0 where
  pub name : All IsPlain parts.name
  pub kind : All IsPlain parts.kind
  pub version : parts.versions ≢ Each

-- A pattern means all names: `*.*`.
pub record IsAll (parts : Parts) : Type 0 where
  pub name : parts.name ≡ 42 ∷ []
  pub kind : parts.kind ≡ 42 ∷ []

-- No name fits a pattern.
abbrev pub FitsNone : Parts → List (List ℕ) → Type 0
FitsNone parts names = All (λ name. ¬ Fits parts name) names

-- A text is a pattern, and the name that another text spells fits it.
pub record TextFits (pattern name : List ℕ) : Type 0 where
  pub parts : Parts
  pub words : List ℕ
  pub is_pattern : IsPattern pattern parts
  pub spells : Spells name words
  pub fits : Fits parts words
