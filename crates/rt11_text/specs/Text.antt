-- Texts of RT-11 (RT-11 System User's Guide, COPY with /ASCII: NULs and the end of a text; profile: the ends of its lines).
use Rattle.std.specs.Prelude.{ℕ, ◌==◌, ◌&&◌, Bool, false, if◌then◌else◌, List, [], ◌∷◌}

-- what a text says: its bytes before the first CTRL/Z (26), but for NULs
unfoldable pub meant : List ℕ → List ℕ
meant [] = []
meant (c ∷ bytes) = if c == 26 then [] else (if c == 0 then meant bytes else c ∷ meant bytes)

-- a text begins with LF (10)
abbrev pub begins_with_lf : List ℕ → Bool
begins_with_lf [] = false
begins_with_lf (c ∷ text) = c == 10

-- a text without each CR (13) that stands before an LF
unfoldable pub without_crs : List ℕ → List ℕ
without_crs [] = []
without_crs (c ∷ text) = if c == 13 && begins_with_lf text then without_crs text else c ∷ without_crs text

-- the text of the host that a file of these bytes holds
abbrev pub host_text : List ℕ → List ℕ
host_text bytes = without_crs (meant bytes)
