-- Laws of texts, which show that their definitions say what is meant, and a worked value.
use Rattle.std.specs.Prelude.{◌≡◌, ◌≢◌, ℕ, List, [], ◌∷◌, ◌++◌, All, codes, replicate}
use Rattle.rt11_text.specs.Crs.{with_crs}
use Rattle.rt11_text.specs.Text.{host_text}

-- a byte that isn't NUL, CR or CTRL/Z
abbrev pub IsPlain : ℕ → Type 0
IsPlain c = (c ≢ 0) × (c ≢ 13) × (c ≢ 26)

-- A text of the host of such bytes, put on an RT-11 volume, NULs behind it, is the same when it is taken out.
abbrev pub ThereAndBack : Type 0
ThereAndBack = (text : List ℕ) (pads : ℕ) → All IsPlain text → host_text (with_crs text ++ replicate pads 0) ≡ text

-- NULs mean nothing, also before LF; a CR elsewhere is a byte of its line; and CTRL/Z ends the text
abbrev pub TextWorks : Type 0
TextWorks = host_text (codes "A" ++ 0 ∷ 66 ∷ 13 ∷ 0 ∷ 10 ∷ 67 ∷ 13 ∷ 13 ∷ 10 ∷ 13 ∷ 26 ∷ 88 ∷ []) ≡ 65 ∷ 66 ∷ 10 ∷ 67 ∷ 13 ∷ 10 ∷ 13 ∷ []
