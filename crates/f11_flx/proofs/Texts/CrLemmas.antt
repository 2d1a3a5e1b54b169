-- Texts that end with CR.
use Rattle.std.proofs.Common.{◌≡◌, ℕ, ◌+◌, ◌<◌, ◌≤◌, Bool, true, false, eqb, ltb, ◌&&◌, ◌||◌, cond, List, [], ◌∷◌, ◌++◌, length, refl, ap}
use Rattle.std.proofs.Common.{◌∙◌, arith, length-append, lt-ltb, inl, inr}
use Rattle.std.proofs.lemmas.Bool.{or_from, or_left, and_left, and_right, cond-false, cases_Bool}
use Rattle.f11_flx.specs.Lines.{ends_with_cr, goes_on_with_lf, has_crlf, before_crlf, behind_crlf, has_long_line, lines_of}
use Rattle.f11_flx.specs.Stage.{with_cr}
use Rattle.f11_flx.proofs.Texts.LineLemmas.{is_crlf, has_crlf-parts, lines_of-first}

-- a byte more
pub ends_with_cr-push : (text : List ℕ) (b : ℕ) → ends_with_cr (text ++ b ∷ []) ≡ eqb b 13
ends_with_cr-push [] b = refl
ends_with_cr-push (c ∷ []) b = refl
ends_with_cr-push (c ∷ d ∷ text) b = ends_with_cr-push (d ∷ text) b

pub has_crlf-push : (text : List ℕ) (b : ℕ) → has_crlf text ≡ false → (ends_with_cr text && eqb b 10) ≡ false
    → has_crlf (text ++ b ∷ []) ≡ false
unfolding has_crlf
has_crlf-push [] b none ends = or_from (eqb b 13 && false) false (and_right (eqb b 13) false refl) refl
has_crlf-push (c ∷ []) b none ends =
    or_from (eqb c 13 && eqb b 10) ((eqb b 13 && false) || false) ends
    (or_from (eqb b 13 && false) false (and_right (eqb b 13) false refl) refl)
has_crlf-push (c ∷ d ∷ text) b none ends =
    let parts = has_crlf-parts c (d ∷ text) none in
    or_from (is_crlf c (d ∷ text)) (has_crlf ((d ∷ text) ++ b ∷ [])) parts.0 (has_crlf-push (d ∷ text) b parts.1 ends)

-- the front of a text without CR LF
pub has_crlf-front : (text more : List ℕ) → has_crlf (text ++ more) ≡ false → has_crlf text ≡ false
unfolding has_crlf
has_crlf-front [] more none = refl
has_crlf-front (c ∷ []) more none = or_from (eqb c 13 && false) false (and_right (eqb c 13) false refl) refl
has_crlf-front (c ∷ d ∷ text) more none =
    let parts = has_crlf-parts c ((d ∷ text) ++ more) none in
    or_from (is_crlf c (d ∷ text)) (has_crlf (d ∷ text)) parts.0 (has_crlf-front (d ∷ text) more parts.1)

-- a text without CR LF stands before the first one of what follows
pub before_crlf-append : (text more : List ℕ) → has_crlf text ≡ false → (ends_with_cr text && goes_on_with_lf more) ≡ false
    → before_crlf (text ++ more) ≡ text ++ before_crlf more
unfolding before_crlf
before_crlf-append [] more none ends = refl
before_crlf-append (c ∷ []) more none ends = cond-false (is_crlf c more) [] (c ∷ before_crlf more) ends
before_crlf-append (c ∷ d ∷ text) more none ends =
    let parts = has_crlf-parts c (d ∷ text) none in
    cond-false (is_crlf c (d ∷ text)) [] (c ∷ before_crlf ((d ∷ text) ++ more)) parts.0
    ∙ ap (λ (rest : List ℕ). c ∷ rest) (before_crlf-append (d ∷ text) more parts.1 ends)

-- none where a test passes, and one where it doesn't
abbrev pub one_unless : Bool → ℕ
one_unless b = cond b 0 1

-- a byte that isn't CR stands before the first CR LF
before_crlf-byte : (b : ℕ) (text : List ℕ) → cond (eqb b 13) 0 1 ≤ length (before_crlf (b ∷ text))
unfolding before_crlf
before_crlf-byte b text = elim (cases_Bool (eqb b 13)) [
  | inl cr ↦ omega (arith, ap one_unless cr)
  | inr other ↦ omega (
    arith,
    ap one_unless other,
    ap length (cond-false (is_crlf b text) [] (b ∷ before_crlf text) (and_left (eqb b 13) (goes_on_with_lf text) other)),
  )
]

-- a first line that is too long
has_long_line-first : (text : List ℕ) → 2048 < length (before_crlf text) → 0 < length text → has_long_line (lines_of text) ≡ true
has_long_line-first text long some =
    ap has_long_line (lines_of-first text some)
    ∙ or_left (ltb 2048 (length (before_crlf text))) (has_long_line (lines_of (behind_crlf text)))
    (lt-ltb 2048 (length (before_crlf text)) long)

-- a byte for which a line has no room
pub has_long_line-push : (line : List ℕ) (cr : Bool) (b : ℕ) (text : List ℕ) → has_crlf (with_cr line cr) ≡ false
    → ends_with_cr (with_cr line cr) ≡ cr → (cr && eqb b 10) ≡ false
    → 2048 < length (with_cr line cr) + cond (eqb b 13) 0 1 → has_long_line (lines_of (with_cr line cr ++ b ∷ text)) ≡ true
has_long_line-push line cr b text none ends apart long =
    let first = before_crlf-append (with_cr line cr) (b ∷ text) none (ap (λ (t : Bool). t && eqb b 10) ends ∙ apart) in
    has_long_line-first (with_cr line cr ++ b ∷ text)
    (omega (arith, ap length first, length-append {A = ℕ} (with_cr line cr) (before_crlf (b ∷ text)), before_crlf-byte b text))
    (omega (arith, length-append {A = ℕ} (with_cr line cr) (b ∷ text)))

-- how long a line is with the CR behind it
pub length-with_cr : (line : List ℕ) (cr : Bool) → length (with_cr line cr) ≡ length line + cond cr 1 0
length-with_cr line true = length-append line (13 ∷ [])
length-with_cr line false = length-append line []
