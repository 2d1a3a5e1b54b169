-- What the conversion of records into a text gives (RSX-11M Utilities manual, FLX).
use Rattle.std.specs.Prelude.{
  ◌≡◌,
  ◌⊎◌,
  ℕ,
  ◌+◌,
  ◌*◌,
  ◌≤◌,
  false,
  Bool,
  List,
  ◌∷◌,
  ◌++◌,
  length,
  take,
  drop,
  slice_range,
  Option,
  None,
  option_map,
  option_to_list,
}
use Rattle.f11_store.specs.File.{File}
use Rattle.f11_flx.specs.Lines.{text_with}
use Rattle.f11_flx.specs.Place.{text_from, text_at_bad, is_ending, ending_at}
use Rattle.f11_flx.specs.Records.{Which, all, records_of_by}
use Rattle.f11_flx.specs.declared.line_end.LineEnd.{LineEnd}
use Rattle.f11_flx.specs.declared.line_end.LineEnd.TheVariants.{CrLf}
use Rattle.f11_flx.specs.declared.to_text.ToText.{ToText}

-- the text of a file's records; none where all are meant and they can't be read
abbrev pub converted_by : LineEnd → Which → File → Option (List ℕ)
converted_by ends which file = option_map (text_with ends) (records_of_by which file)

-- that of a copy to an RT-11 volume
abbrev pub converted_text : File → Option (List ℕ)
converted_text file = converted_by CrLf all file

-- how many bytes of the file are to come
abbrev pub rest_of : ToText → ℕ
rest_of s = s.rest

-- the text that is still to come where the file goes on with these bytes: that of all records, or of the good ones
abbrev pub text_by : Which → ToText → List ℕ → Option (List ℕ)
text_by which s bytes = text_from s.ends which s.layout s.place (take s.rest bytes)

abbrev pub text_left : ToText → List ℕ → Option (List ℕ)
text_left s bytes = text_by all s bytes

-- what ends a line is to come, for which no byte is read
abbrev pub ends_record : ToText → Bool
ends_record s = is_ending s.place

-- how many bytes of it are to come before a byte is read, at most
abbrev pub ending_of : ToText → ℕ
ending_of s = ending_at s.place

-- So many bytes of the source were read, and bytes were put into the target: whatever follows the source, the text to come
-- was these bytes, and then what is to come for the rest of the source and what follows it. For a byte that was read there are
-- three at most: itself, CR and LF.
pub record Converts (old new : ToText) (source : List ℕ) (used : ℕ) (target : List ℕ) (from to : ℕ) : Type 0 where
  pub text : (which : Which) (more : List ℕ) → rest_of old ≤ length (source ++ more) →
      text_by which old (source ++ more) ≡ option_map (λ text. slice_range target from to ++ text)
      (text_by which new (drop used source ++ more))
  pub read : rest_of new + used ≡ rest_of old
  pub within : used ≤ length source
  pub order : from ≤ to
  pub few : to + ending_of new ≤ from + ending_of old + 3 * used

-- no text is to come, whatever follows the source
abbrev pub HasNoText : ToText → List ℕ → Type 0
HasNoText s source = (more : List ℕ) → rest_of s ≤ length (source ++ more) → text_left s (source ++ more) ≡ None

-- a record goes past the end, whatever follows the source: no text is to come of all, and nothing of the good ones
abbrev pub MeetsBad : ToText → List ℕ → Type 0
MeetsBad s source =
    (which : Which) (more : List ℕ) → rest_of s ≤ length (source ++ more) → text_by which s (source ++ more) ≡ text_at_bad which

-- nothing more comes for these bytes of the source
abbrev pub Stops : ToText → List ℕ → ℕ → Type 0
Stops s source used = (ends_record s ≡ false) × ((used ≡ length source) ⊎ (rest_of s ≡ 0))

-- it stopped since the target is full, or since nothing more comes for these bytes
abbrev pub StopsAt : ToText → List ℕ → ℕ → ℕ → Type 0
StopsAt s source used to = (to ≡ 512) ⊎ Stops s source used

-- a byte that ends a line was given, and none was read
pub record EndsRecord (old new : ToText) (byte : ℕ) : Type 0 where
  pub text : (which : Which) (bytes : List ℕ) → text_by which old bytes ≡ option_map (λ text. byte ∷ text) (text_by which new bytes)
  pub rest : rest_of new ≡ rest_of old
  pub few : ending_of new + 1 ≤ ending_of old

-- a byte of the file was read
pub record ReadsOn (old new : ToText) (byte : ℕ) (given : Option ℕ) : Type 0 where
  pub text : (which : Which) (bytes : List ℕ) → rest_of new ≤ length bytes →
      text_by which old (byte ∷ bytes) ≡ option_map (λ text. option_to_list given ++ text) (text_by which new bytes)
  pub rest : rest_of new + 1 ≡ rest_of old
  pub few : length (option_to_list given) + ending_of new ≤ 3

-- a record goes past the end, whatever follows this byte
abbrev pub RefusesOn : ToText → ℕ → Type 0
RefusesOn old byte =
    (which : Which) (bytes : List ℕ) → rest_of old ≤ length bytes + 1 → text_by which old (byte ∷ bytes) ≡ text_at_bad which

-- one step: a byte that ends a line was given, or a byte of the source was read
pub record IsTextStep (old new : ToText) (source : List ℕ) (used next : ℕ) (given : Option ℕ) : Type 0 where
  pub text : (which : Which) (more : List ℕ) → rest_of old ≤ length (drop used source ++ more) →
      text_by which old (drop used source ++ more) ≡ option_map (λ text. option_to_list given ++ text)
      (text_by which new (drop next source ++ more))
  pub read : rest_of new + next ≡ rest_of old + used
  pub within : next ≤ length source
  pub order : used ≤ next
  pub progress : used + 1 ≤ next + length (option_to_list given)
  pub few : length (option_to_list given) + ending_of new + 3 * used ≤ ending_of old + 3 * next
