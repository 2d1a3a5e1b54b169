-- When a text is like a pattern (RSX-11M-PLUS MCR Operations Manual, wildcards). Characters are named by their ASCII codes.
use Rattle.std.specs.Prelude.{◌≡◌, ◌≢◌, ℕ, ◌<◌, ◌≤◌, ◌==◌, List, [], ◌∷◌, length, drop, slice_index}
use Rattle.std.specs.Bool.{MatchBool}
use Rattle.std.specs.Char.{to_ascii_uppercase}

-- A text leaves such a text, without some of its first characters: without none, a few, or all.
abbrev pub LeavesSuch : (List ℕ → Type 0) → List ℕ → Type 0
LeavesSuch P text = (n : ℕ) × ((n ≤ length text) × P (drop n text))

-- `%` (37) asks for any character, and each other one for itself. A small letter asks for its capital (profile).
abbrev pub AsksFor : ℕ → ℕ → Type 0
AsksFor wanted character = wanted ≢ 37 → character ≡ to_ascii_uppercase wanted

-- The empty pattern is like the empty text. One that begins with `*` (42) is like a text where what follows is like the text without some
-- of its first characters. Any other asks for the first character of the text, and what follows is like the rest.
abbrev pub IsLike : List ℕ → List ℕ → Type 0
IsLike [] text = text ≡ []
IsLike (wanted ∷ pattern) text =
    MatchBool (wanted == 42)
    (LeavesSuch (IsLike pattern) text)
    ((0 < length text) × (AsksFor wanted (slice_index text 0) × IsLike pattern (drop 1 text)))
