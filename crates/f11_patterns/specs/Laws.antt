-- Laws of patterns, which show that their definitions say what is meant (RSX-11M-PLUS MCR Operations Manual, wildcards), and worked
-- values.
use Rattle.std.specs.Prelude.{◌≡◌, ◌≢◌, ℕ, List, [], ◌∷◌, All, ◌↔◌, codes, true, ◌≤◌, length, IsSome}
use Rattle.std.specs.Str.{str_to_ascii_uppercase}
use Rattle.f11_rad50.specs.Name.{IsName, name_of, type_of}
use Rattle.f11_patterns.specs.declared.versions.Versions.TheVariants.{Highest}
use Rattle.f11_patterns.specs.Fitting.{fitted_text, has_some}
use Rattle.f11_patterns.specs.Giving.{fitted_among}
use Rattle.f11_patterns.specs.Like.{IsLike}
use Rattle.f11_patterns.specs.Naming.{file_naming}
use Rattle.f11_patterns.specs.Parts.{Parts}
use Rattle.f11_patterns.specs.Pattern.{IsPattern, Fits, IsPlain, IsOne, TextFits}

-- `*` alone is like every text
abbrev pub StarIsLikeEach : Type 0
StarIsLikeEach = (text : List ℕ) → IsLike (42 ∷ []) text

-- a pattern without `*` and `%` is like itself in capitals, and like nothing else
abbrev pub PlainIsItself : Type 0
PlainIsItself = (pattern text : List ℕ) → All IsPlain pattern → IsLike pattern text ↔ (text ≡ str_to_ascii_uppercase pattern)

-- a text is a pattern with one list of parts at most
abbrev pub PatternIsOne : Type 0
PatternIsOne = (text : List ℕ) (a b : Parts) → IsPattern text a → IsPattern text b → a ≡ b

-- a text without a dot (46) is no pattern
abbrev pub NoDotIsNone : Type 0
NoDotIsNone = (text : List ℕ) (parts : Parts) → All (λ c. c ≢ 46) text → ¬ IsPattern text parts

-- all names that fit a pattern which means one name have the same name and the same type
abbrev pub OneMeansOne : Type 0
OneMeansOne =
    (parts : Parts) (a b : List ℕ) → IsOne parts → Fits parts a → Fits parts b → (name_of a ≡ name_of b) × (type_of a ≡ type_of b)

-- where such a pattern asks for one version, all of them are the same name
abbrev pub ExactlyMeansOne : Type 0
ExactlyMeansOne =
    (parts : Parts) (a b : List ℕ) → IsName a → IsName b → IsOne parts → parts.versions ≢ Highest → Fits parts a → Fits parts b → a ≡ b

-- beside fewer than 142,858 names there is a fitted one for each text of which something stays
abbrev pub FittedIsThere : Type 0
FittedIsThere =
    (there : List (List ℕ)) (part : List ℕ) → has_some part ≡ true → length there ≤ 142857 → IsSome (fitted_among file_naming there part)

-- A.TXT;7 fits `*.TXT;*`, A.TXX;7 doesn't
abbrev pub StarWorks : Type 0
StarWorks = TextFits (codes "*.TXT;*") (codes "A.TXT;7") × (¬ TextFits (codes "*.TXT;*") (codes "A.TXX;7"))

-- a name of two characters fits `A%.*;1`, one of one or of three doesn't
abbrev pub PercentWorks : Type 0
PercentWorks =
    TextFits (codes "A%.*;1") (codes "AB.C;1")
    × (¬ TextFits (codes "A%.*;1") (codes "A.C;1"))
    × (¬ TextFits (codes "A%.*;1") (codes "ABC.C;1"))

-- small letters count as capitals, and where no version is asked for, or version 0, each one fits until the highest is found
abbrev pub HighestWorks : Type 0
HighestWorks =
    TextFits (codes "login.cmd") (codes "LOGIN.CMD;3")
    × TextFits (codes "LOGIN.CMD;0") (codes "LOGIN.CMD;3")
    × (¬ TextFits (codes "LOGIN.CMD;1") (codes "LOGIN.CMD;3"))

-- Fitted names: of what stands before the last dot and behind it those characters stay that a name may have, and a number stands behind as
-- many of them as there is room for.
abbrev pub FittedWorks : Type 0
FittedWorks =
    (fitted_text 9 0 (codes "my file.text") ≡ codes "MYFILE.TEX")
    × ((fitted_text 9 12 (codes "read_me-1st.old.md") ≡ codes "README112.MD")
    × ((fitted_text 6 1 (codes "letters") ≡ codes "LETTE1.") × (fitted_text 9 0 (codes ".profile") ≡ codes ".PRO")))
