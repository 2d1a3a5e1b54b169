-- The text that is still to come of a file's records, at each place where reading them may stop (profile).
use Rattle.std.specs.Prelude.{
  ◌≡◌,
  ℕ,
  ◌+◌,
  ◌≤◌,
  ◌==◌,
  Bool,
  true,
  false,
  IsTrue,
  if◌then◌else◌,
  List,
  [],
  ◌∷◌,
  ◌++◌,
  length,
  take,
  drop,
  Option,
  Some,
  None,
  option_map,
  option_to_list,
}
use Rattle.f11_flx.specs.Lines.{line_end, text_with}
use Rattle.f11_flx.specs.Records.{Which, all, good, records_by}
use Rattle.f11_flx.specs.declared.layout.Layout.{Layout}
use Rattle.f11_flx.specs.declared.layout.Layout.TheVariants.{Fixed, Variable}
use Rattle.f11_flx.specs.declared.line_end.LineEnd.{LineEnd}
use Rattle.f11_flx.specs.declared.place.Place.{Place}
use Rattle.f11_flx.specs.declared.place.Place.TheVariants as place

-- the text of the records of these bytes
unfoldable pub text_in : LineEnd → Which → Layout → List ℕ → Option (List ℕ)
text_in ends which layout bytes = option_map (text_with ends) (records_by which layout bytes)

-- one pad byte, or none
abbrev pub pads : Bool → ℕ
pads pad = if pad then 1 else 0

-- what is behind the end of a line
abbrev pub behind_line : Bool → Place
behind_line pad = if pad then place.Pad else place.Record

-- The text that is to come where these bytes are to come: at a record it is that of the bytes; behind the low byte of its
-- length word, that of both; within a record, its rest, what ends a line and what is to come behind its pad byte; and so on.
abbrev pub text_from : LineEnd → Which → Layout → Place → List ℕ → Option (List ℕ)
text_from ends which layout place.Record bytes = text_in ends which layout bytes
text_from ends which layout (place.High low) bytes = text_in ends which layout (low ∷ bytes)
text_from ends which layout (place.Within left pad) bytes = option_map (λ more. take left bytes ++ (line_end ends ++ more))
    (text_in ends which layout (drop (left + pads pad) bytes))
text_from ends which layout (place.LineFeed pad) bytes =
    option_map (λ more. 10 ∷ more) (text_in ends which layout (drop (pads pad) bytes))
text_from ends which layout place.Pad bytes = text_in ends which layout (drop 1 bytes)

-- the text where a record goes past the end: there is none, or the good records end before it
abbrev pub text_at_bad : Which → Option (List ℕ)
text_at_bad all = None
text_at_bad good = Some []

-- CR or LF is to come, for which no byte is read
abbrev pub is_ending : Place → Bool
is_ending place.Record = false
is_ending (place.High low) = false
is_ending (place.Within left pad) = left == 0
is_ending (place.LineFeed pad) = true
is_ending place.Pad = false

-- how many bytes that end a line are to come before a byte is read, at most
abbrev pub ending_at : Place → ℕ
ending_at place.Record = 0
ending_at (place.High low) = 0
ending_at (place.Within left pad) = if left == 0 then 2 else 0
ending_at (place.LineFeed pad) = 1
ending_at place.Pad = 0

-- how many bytes are to come at least
abbrev pub wanted_at : Place → ℕ
wanted_at place.Record = 0
wanted_at (place.High low) = 1
wanted_at (place.Within left pad) = left
wanted_at (place.LineFeed pad) = 0
wanted_at place.Pad = 0

-- records that lie so have this place: fixed ones have no length word
abbrev pub has_place : Layout → Place → Bool
has_place (Fixed size) (place.High low) = false
has_place (Fixed size) place.Record = true
has_place (Fixed size) (place.Within left pad) = true
has_place (Fixed size) (place.LineFeed pad) = true
has_place (Fixed size) place.Pad = true
has_place Variable p = true

-- A byte was read with so many behind it: the text to come is what was given for it, and then what is to come behind it.
pub record ReadsByte (layout : Layout) (old new : Place) (byte rest : ℕ) (given : Option ℕ) : Type 0 where
  pub text : (ends : LineEnd) (which : Which) (bytes : List ℕ) → length bytes ≡ rest →
      text_from ends which layout old (byte ∷ bytes) ≡ option_map (λ more. option_to_list given ++ more)
      (text_from ends which layout new bytes)
  pub wanted : wanted_at new ≤ rest
  pub placed : IsTrue (has_place layout new)
  pub few : length (option_to_list given) + ending_at new ≤ 3

-- a record goes past the end, whatever the bytes behind this one are
abbrev pub RefusesByte : Layout → Place → ℕ → ℕ → Type 0
RefusesByte layout old byte rest =
    (ends : LineEnd) (which : Which) (bytes : List ℕ) → length bytes ≡ rest →
    text_from ends which layout old (byte ∷ bytes) ≡ text_at_bad which
