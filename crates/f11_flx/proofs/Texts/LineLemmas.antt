-- The lines of a text.
use Rattle.std.proofs.Common.{◌≡◌, ℕ, zero, suc, ◌-◌, ◌%◌, ◌<◌, ◌≤◌, Bool, false, not, eqb, ◌&&◌, List, [], ◌∷◌, ◌++◌, length, drop, refl}
use Rattle.std.proofs.Common.{ap, ◌∙◌, arith, append_assoc, length-append}
use Rattle.std.specs.Prelude.{replicate}
use Rattle.std.proofs.lemmas.Bool.{or_parts, and_right, cond-false, cond_both}
use Rattle.std.proofs.lemmas.List.Elements.{filter-append, All-head, All-tail}
use Rattle.std.proofs.lemmas.List.{append-nil}
use Rattle.std.specs.List.{All}
use Rattle.f11_flx.specs.Laws.{IsOneLine}
use Rattle.f11_flx.specs.Lines.{without_zeros, goes_on_with_lf, has_crlf, before_crlf, behind_crlf, lines_upto, lines_of, text_of}
use Rattle.f11_flx.specs.Lines.{in_whole_blocks}

-- CR LF begins at this byte
abbrev pub is_crlf : ℕ → List ℕ → Bool
is_crlf c text = eqb c 13 && goes_on_with_lf text

-- neither does it begin at this byte once the line is ended
is_crlf-ended : (c : ℕ) (line text : List ℕ) → is_crlf c line ≡ false → is_crlf c (line ++ 13 ∷ 10 ∷ text) ≡ false
is_crlf-ended c [] text none = and_right (eqb c 13) false refl
is_crlf-ended c (d ∷ line) text none = none

pub has_crlf-parts : (c : ℕ) (line : List ℕ) → has_crlf (c ∷ line) ≡ false → (is_crlf c line ≡ false) × (has_crlf line ≡ false)
unfolding has_crlf
has_crlf-parts c line none = or_parts (is_crlf c line) (has_crlf line) none

-- a line that is ended is what stands before CR LF
before_crlf-line : (line text : List ℕ) → has_crlf line ≡ false → before_crlf (line ++ 13 ∷ 10 ∷ text) ≡ line
unfolding before_crlf
before_crlf-line [] text none = refl
before_crlf-line (c ∷ line) text none =
    let parts = has_crlf-parts c line none in
    cond-false (is_crlf c (line ++ 13 ∷ 10 ∷ text)) [] (c ∷ before_crlf (line ++ 13 ∷ 10 ∷ text)) (is_crlf-ended c line text parts.0)
    ∙ ap (λ (more : List ℕ). c ∷ more) (before_crlf-line line text parts.1)

-- and the text goes on behind it
behind_crlf-line : (line text : List ℕ) → has_crlf line ≡ false → behind_crlf (line ++ 13 ∷ 10 ∷ text) ≡ text
unfolding behind_crlf
behind_crlf-line [] text none = refl
behind_crlf-line (c ∷ line) text none =
    let parts = has_crlf-parts c line none in
    cond-false (is_crlf c (line ++ 13 ∷ 10 ∷ text)) (drop 1 (line ++ 13 ∷ 10 ∷ text)) (behind_crlf (line ++ 13 ∷ 10 ∷ text))
    (is_crlf-ended c line text parts.0)
    ∙ behind_crlf-line line text parts.1

-- a text without CR LF is all before it
before_crlf-none : (line : List ℕ) → has_crlf line ≡ false → before_crlf line ≡ line
unfolding before_crlf
before_crlf-none [] none = refl
before_crlf-none (c ∷ line) none =
    let parts = has_crlf-parts c line none in
    cond-false (is_crlf c line) [] (c ∷ before_crlf line) parts.0 ∙ ap (λ (more : List ℕ). c ∷ more) (before_crlf-none line parts.1)

behind_crlf-none : (line : List ℕ) → has_crlf line ≡ false → behind_crlf line ≡ []
unfolding behind_crlf
behind_crlf-none [] none = refl
behind_crlf-none (c ∷ line) none =
    let parts = has_crlf-parts c line none in
    cond-false (is_crlf c line) (drop 1 line) (behind_crlf line) parts.0 ∙ behind_crlf-none line parts.1

-- what is behind it is shorter
behind_crlf-shorter : (c : ℕ) (text : List ℕ) → length (behind_crlf (c ∷ text)) ≤ length text
unfolding behind_crlf
behind_crlf-shorter c [] =
    cond_both (is_crlf c []) (drop 1 []) (behind_crlf []) (λ (rest : List ℕ). length rest ≤ 0) (λ is. omega arith) (λ is. omega arith)
behind_crlf-shorter c (d ∷ text) =
    cond_both (is_crlf c (d ∷ text)) text (behind_crlf (d ∷ text)) (λ (rest : List ℕ). length rest ≤ suc (length text)) (λ is. omega arith)
    (λ is. omega (arith, behind_crlf-shorter d text))

-- any number that is no less than the bytes does
lines_upto-enough : (n m : ℕ) (text : List ℕ) → length text ≤ n → length text ≤ m → lines_upto n text ≡ lines_upto m text
unfolding lines_upto
lines_upto-enough n m [] few enough = refl
lines_upto-enough zero m (c ∷ text) few enough = absurd (omega arith)
lines_upto-enough (suc n) zero (c ∷ text) few enough = absurd (omega arith)
lines_upto-enough (suc n) (suc m) (c ∷ text) few enough =
    let shorter = behind_crlf-shorter c text in
    ap (λ (more : List (List ℕ)). before_crlf (c ∷ text) ∷ more)
    (lines_upto-enough n m (behind_crlf (c ∷ text)) (omega arith) (omega arith))

-- the first line and the others
pub lines_of-first : (text : List ℕ) → 0 < length text → lines_of text ≡ before_crlf text ∷ lines_of (behind_crlf text)
unfolding lines_upto
lines_of-first [] some = absurd (omega arith)
lines_of-first (c ∷ text) some =
    ap (λ (more : List (List ℕ)). before_crlf (c ∷ text) ∷ more)
    (lines_upto-enough (length text) (length (behind_crlf (c ∷ text))) (behind_crlf (c ∷ text)) (behind_crlf-shorter c text)
    (omega arith))

-- a line that is ended is the first
pub lines_of-line : (line text : List ℕ) → has_crlf line ≡ false → lines_of (line ++ 13 ∷ 10 ∷ text) ≡ line ∷ lines_of text
lines_of-line line text none =
    let long : 0 < length (line ++ 13 ∷ 10 ∷ text) = omega (arith, length-append line (13 ∷ 10 ∷ text)) in
    lines_of-first (line ++ 13 ∷ 10 ∷ text) long
    ∙ ap (λ (first : List ℕ). first ∷ lines_of (behind_crlf (line ++ 13 ∷ 10 ∷ text))) (before_crlf-line line text none)
    ∙ ap (λ (rest : List ℕ). line ∷ lines_of rest) (behind_crlf-line line text none)

-- a last line without CR LF is the only one
pub lines_of-last : (line : List ℕ) → has_crlf line ≡ false → 0 < length line → lines_of line ≡ line ∷ []
unfolding lines_upto
lines_of-last line none some =
    lines_of-first line some
    ∙ ap (λ (first : List ℕ). first ∷ lines_of (behind_crlf line)) (before_crlf-none line none)
    ∙ ap (λ (rest : List ℕ). line ∷ lines_of rest) (behind_crlf-none line none)

-- zeros stand for nothing
without_zeros-zeros : (n : ℕ) → without_zeros (replicate n 0) ≡ []
without_zeros-zeros zero = refl
without_zeros-zeros (suc n) = without_zeros-zeros n

pub without_zeros-in_whole_blocks : (bytes : List ℕ) → without_zeros (in_whole_blocks bytes) ≡ without_zeros bytes
without_zeros-in_whole_blocks bytes =
    let rest = (512 - length bytes % 512) % 512 in
    filter-append (λ c. not (eqb c 0)) bytes (replicate rest 0)
    ∙ ap (λ (more : List ℕ). without_zeros bytes ++ more) (without_zeros-zeros rest) ∙ append-nil (without_zeros bytes)

-- a text of lines without zeros has none
without_zeros-text : (records : List (List ℕ)) → All IsOneLine records → without_zeros (text_of records) ≡ text_of records
without_zeros-text [] all = refl
without_zeros-text (line ∷ records) all =
    filter-append (λ c. not (eqb c 0)) (line ++ 13 ∷ 10 ∷ []) (text_of records)
    ∙ ap (λ (first : List ℕ). first ++ without_zeros (text_of records))
    (filter-append (λ c. not (eqb c 0)) line (13 ∷ 10 ∷ []) ∙ ap (λ (first : List ℕ). first ++ 13 ∷ 10 ∷ [])
    (All-head IsOneLine line records all).no_zeros)
    ∙ ap (λ (more : List ℕ). (line ++ 13 ∷ 10 ∷ []) ++ more) (without_zeros-text records (All-tail IsOneLine line records all))

-- the lines of a text of lines
lines_of-text : (records : List (List ℕ)) → All IsOneLine records → lines_of (text_of records) ≡ records
unfolding lines_upto
lines_of-text [] all = refl
lines_of-text (line ∷ records) all =
    ap lines_of (append_assoc line (13 ∷ 10 ∷ []) (text_of records))
    ∙ lines_of-line line (text_of records) (All-head IsOneLine line records all).no_end
    ∙ ap (λ (more : List (List ℕ)). line ∷ more) (lines_of-text records (All-tail IsOneLine line records all))

-- records that are lines each come back from their text
pub lines_come_back : (records : List (List ℕ)) → All IsOneLine records
    → lines_of (without_zeros (in_whole_blocks (text_of records))) ≡ records
lines_come_back records all =
    ap lines_of (without_zeros-in_whole_blocks (text_of records) ∙ without_zeros-text records all) ∙ lines_of-text records all
