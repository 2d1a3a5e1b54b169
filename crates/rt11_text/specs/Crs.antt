-- A text of the host as one of an RT-11 volume, whose lines end in CR LF (RT-11 Volume and File Formats Manual; of the host's: profile).
use Rattle.std.specs.Prelude.{ℕ, ◌==◌, ◌&&◌, Bool, false, not, if◌then◌else◌, List, [], ◌∷◌, ◌++◌}

-- the CR that isn't there before a byte: an LF before which none stands gets one
abbrev pub missing_cr : Bool → ℕ → List ℕ
missing_cr cr c = if c == 10 && not cr then 13 ∷ [] else []

-- a text behind a CR, or not, with those that are missing
unfoldable pub crs_behind : Bool → List ℕ → List ℕ
crs_behind cr [] = []
crs_behind cr (c ∷ text) = missing_cr cr c ++ (c ∷ crs_behind (c == 13) text)

-- a text of which each LF has a CR before it
abbrev pub with_crs : List ℕ → List ℕ
with_crs text = crs_behind false text

-- what stands behind a text is behind a CR
unfoldable pub ends_in_cr : Bool → List ℕ → Bool
ends_in_cr cr [] = cr
ends_in_cr cr (c ∷ text) = ends_in_cr (c == 13) text
