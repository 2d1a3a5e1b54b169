-- What the conversion of a text into records gives (RSX-11M Utilities manual, FLX).
use Rattle.std.specs.Prelude.{
  ◌≡◌,
  ◌⊎◌,
  ℕ,
  ◌+◌,
  ◌≤◌,
  Bool,
  true,
  false,
  List,
  [],
  ◌∷◌,
  ◌++◌,
  length,
  drop,
  max,
  slice_range,
  Option,
  option_to_list,
}
use Rattle.f11_flx.specs.Lines.{has_long_line, without_zeros}
use Rattle.f11_flx.specs.Spelled.{variable_records, longest_of}
use Rattle.f11_flx.specs.Stage.{given_in, is_given, lines_from, text_so_far}
use Rattle.f11_flx.specs.declared.to_records.ToRecords.{ToRecords}

-- the lines whose records aren't given whole, where the file goes on with these bytes
abbrev pub lines_left : ToRecords → List ℕ → List (List ℕ)
lines_left s bytes = lines_from s.line.items s.stage (without_zeros bytes)

-- the bytes that are still to come
abbrev pub bytes_to_come : ToRecords → List ℕ → List ℕ
bytes_to_come s bytes = drop (given_in s.stage) (variable_records (lines_left s bytes))

-- the length of the longest line, those that were given among them
abbrev pub longest_with : ToRecords → List ℕ → ℕ
longest_with s bytes = max s.longest (longest_of (lines_left s bytes))

-- a line that is to come is too long
abbrev pub is_too_long : ToRecords → List ℕ → Bool
is_too_long s bytes = has_long_line (lines_left s bytes)

-- bytes are to come for which no more of the text is read
abbrev pub gives : ToRecords → Bool
gives s = is_given s.stage

-- the length of the longest line whose record was given whole
abbrev pub longest_given : ToRecords → ℕ
longest_given s = s.longest

-- how many bytes were read of a line that isn't ended
abbrev pub open_of : ToRecords → ℕ
open_of s = length (text_so_far s.line.items s.stage)

-- Bytes were read and given: where the file goes on with `after` in place of `before`, what is to come is that without
-- these bytes; the longest line is the same, and so is whether one is too long.
pub record GivesBytes (old new : ToRecords) (before after given : List ℕ) : Type 0 where
  pub bytes : bytes_to_come old before ≡ given ++ bytes_to_come new after
  pub longest : longest_with new after ≡ longest_with old before
  pub long : is_too_long new after ≡ is_too_long old before

-- So many bytes of the source were read, and bytes were put into the target, whatever follows the source.
pub record ConvertsText (old new : ToRecords) (source : List ℕ) (used : ℕ) (target : List ℕ) (from to : ℕ) : Type 0 where
  pub goes_on : (more : List ℕ) → GivesBytes old new (source ++ more) (drop used source ++ more) (slice_range target from to)
  pub unended : open_of new ≤ open_of old + used
  pub within : used ≤ length source
  pub order : from ≤ to

-- it stopped since the target is full, or since all bytes of the source were read and none is to come without more of them
abbrev pub StopsText : ToRecords → List ℕ → ℕ → ℕ → Type 0
StopsText s source used to = (to ≡ 512) ⊎ ((gives s ≡ false) × (used ≡ length source))

-- the text has no more bytes, and its last line is ended
pub record EndsText (old new : ToRecords) : Type 0 where
  pub goes_on : GivesBytes old new [] [] []
  pub none_open : open_of new ≡ 0

-- a line is too long, whatever follows the source
abbrev pub HasLongLine : ToRecords → List ℕ → Type 0
HasLongLine s source = (more : List ℕ) → is_too_long s (source ++ more) ≡ true

-- one step: a byte of the line's record was given, or a byte of the source was read
pub record StepsText (old new : ToRecords) (source : List ℕ) (used next : ℕ) (given : Option ℕ) : Type 0 where
  pub goes_on : (more : List ℕ) → GivesBytes old new (drop used source ++ more) (drop next source ++ more) (option_to_list given)
  pub unended : open_of new + used ≤ open_of old + next
  pub within : next ≤ length source
  pub order : used ≤ next
  pub progress : used + 1 ≤ next + length (option_to_list given)

-- a byte of the text was read
pub record ReadsText (old new : ToRecords) (byte : ℕ) : Type 0 where
  pub goes_on : (bytes : List ℕ) → GivesBytes old new (byte ∷ bytes) bytes []
  pub unended : open_of new ≤ open_of old + 1
