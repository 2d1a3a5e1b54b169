-- The lines of an RT-11 text (RT-11 Volume and File Formats Manual; RSX-11M Utilities manual, FLX).
use Rattle.std.specs.Prelude.{
  ℕ,
  zero,
  suc,
  ◌-◌,
  ◌%◌,
  ◌==◌,
  ◌&&◌,
  ◌||◌,
  Bool,
  false,
  not,
  nat_lt,
  if◌then◌else◌,
  List,
  [],
  ◌∷◌,
  ◌++◌,
  length,
  drop,
  replicate,
  filter,
  flat_map,
}
use Rattle.std.specs.List.{list_any}
use Rattle.f11_flx.specs.declared.line_end.LineEnd.{LineEnd}
use Rattle.f11_flx.specs.declared.line_end.LineEnd.TheVariants.{CrLf, Lf}

-- zero bytes fill a text up, and stand for nothing
abbrev pub without_zeros : List ℕ → List ℕ
without_zeros bytes = filter (λ c. not (c == 0)) bytes

-- the text goes on with LF
abbrev pub goes_on_with_lf : List ℕ → Bool
goes_on_with_lf [] = false
goes_on_with_lf (c ∷ text) = c == 10

-- it ends with CR
abbrev pub ends_with_cr : List ℕ → Bool
ends_with_cr [] = false
ends_with_cr (c ∷ []) = c == 13
ends_with_cr (c ∷ d ∷ text) = ends_with_cr (d ∷ text)

-- CR LF stands in the text
unfoldable pub has_crlf : List ℕ → Bool
has_crlf [] = false
has_crlf (c ∷ text) = (c == 13 && goes_on_with_lf text) || has_crlf text

-- the bytes before the first CR LF, or all
unfoldable pub before_crlf : List ℕ → List ℕ
before_crlf [] = []
before_crlf (c ∷ text) = if c == 13 && goes_on_with_lf text then [] else c ∷ before_crlf text

-- those behind it, or none
unfoldable pub behind_crlf : List ℕ → List ℕ
behind_crlf [] = []
behind_crlf (c ∷ text) = if c == 13 && goes_on_with_lf text then drop 1 text else behind_crlf text

-- the lines of a text: what stands before its first CR LF, and the lines of what is behind it. There are no more than n.
unfoldable pub lines_upto : ℕ → List ℕ → List (List ℕ)
lines_upto n [] = []
lines_upto zero (c ∷ text) = []
lines_upto (suc n) (c ∷ text) = before_crlf (c ∷ text) ∷ lines_upto n (behind_crlf (c ∷ text))

-- all of them: there are no more than bytes
abbrev pub lines_of : List ℕ → List (List ℕ)
lines_of text = lines_upto (length text) text

-- the most bytes of a line (profile)
abbrev pub longest_line : ℕ
longest_line = 2048

-- a line is too long
abbrev pub has_long_line : List (List ℕ) → Bool
has_long_line lines = list_any (λ line. nat_lt longest_line (length line)) lines

-- what ends a line: CR LF on an RT-11 volume, LF on a host (profile)
abbrev pub line_end : LineEnd → List ℕ
line_end CrLf = 13 ∷ 10 ∷ []
line_end Lf = 10 ∷ []

-- the text of these lines: each of them, then what ends it
abbrev pub text_with : LineEnd → List (List ℕ) → List ℕ
text_with ends lines = flat_map (λ line. line ++ line_end ends) lines

-- their text on an RT-11 volume
abbrev pub text_of : List (List ℕ) → List ℕ
text_of lines = text_with CrLf lines

-- bytes with zeros up to the end of their last block
abbrev pub in_whole_blocks : List ℕ → List ℕ
in_whole_blocks bytes = bytes ++ replicate ((512 - length bytes % 512) % 512) 0
