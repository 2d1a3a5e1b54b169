-- How far the conversion of a line is (profile).
use Rattle.std.specs.Prelude.{ℕ, Bool, true, false, if◌then◌else◌, List, [], ◌∷◌, ◌++◌}
use Rattle.f11_flx.specs.Lines.{lines_of}
use Rattle.f11_flx.specs.declared.stage.Stage.{Stage}
use Rattle.f11_flx.specs.declared.stage.Stage.TheVariants.{Reading, Giving}

-- CR was read, and what it is depends on the byte that follows
abbrev pub is_pending : Stage → Bool
is_pending (Reading cr) = cr
is_pending (Giving given) = false

-- a line and the CR behind it
abbrev pub with_cr : List ℕ → Bool → List ℕ
with_cr line cr = line ++ (if cr then 13 ∷ [] else [])

-- the text that was read of a line that isn't ended
abbrev pub text_so_far : List ℕ → Stage → List ℕ
text_so_far line (Reading cr) = with_cr line cr
text_so_far line (Giving given) = []

-- its record is being given
abbrev pub is_given : Stage → Bool
is_given (Reading cr) = false
is_given (Giving given) = true

-- how many bytes of the line's record were given
abbrev pub given_in : Stage → ℕ
given_in (Reading cr) = 0
given_in (Giving given) = given

-- the lines whose records aren't given whole, where this text is to come: a line that is ended, and those of the text that
-- was read and is to come
abbrev pub lines_from : List ℕ → Stage → List ℕ → List (List ℕ)
lines_from line (Reading cr) text = lines_of (with_cr line cr ++ text)
lines_from line (Giving given) text = line ∷ lines_of text
