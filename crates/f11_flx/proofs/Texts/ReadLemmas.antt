-- A text, a byte read at a time.
use Rattle.std.proofs.Common.{◌≡◌, ℕ, ◌+◌, ◌<◌, Bool, true, false, eqb, ltb, ◌&&◌, not, cond, List, [], ◌∷◌, ◌++◌, length, drop, max, sym}
use Rattle.std.proofs.Common.{ap, ◌∙◌, append_assoc, arith, lt-ltb}
use Rattle.std.specs.Prelude.{◌≤◌, Option, option_to_list, slice_range}
use Rattle.std.proofs.lemmas.List.{append-nil}
use Rattle.std.proofs.lemmas.Bool.{cond-true, and_parts, eqb-true, or_left}
use Rattle.f11_flx.specs.Lines.{ends_with_cr, has_crlf, lines_of, lines_upto, has_long_line, without_zeros}
use Rattle.f11_flx.specs.Spelled.{variable_records, longest_of}
use Rattle.f11_flx.specs.Stage.{given_in, is_pending, lines_from, text_so_far, with_cr}
use Rattle.f11_flx.specs.ToRecords.{ConvertsText, GivesBytes, StepsText, bytes_to_come, is_too_long, lines_left}
use Rattle.f11_flx.specs.declared.stage.Stage.{Stage}
use Rattle.f11_flx.specs.declared.stage.Stage.TheVariants.{Reading, Giving}
use Rattle.f11_flx.specs.declared.to_records.ToRecords.{ToRecords}
use Rattle.f11_flx.proofs.Texts.LineLemmas.{lines_of-line, lines_of-last}
use Rattle.f11_flx.proofs.Texts.CrLemmas.{ends_with_cr-push, has_crlf-front, has_crlf-push, has_long_line-push, length-with_cr}

-- where the lines to come stay, nothing was given
pub GivesBytes-same : (old new : ToRecords) (before after : List ℕ) → lines_left old before ≡ lines_left new after
    → given_in old.stage ≡ given_in new.stage → old.longest ≡ new.longest
    → GivesBytes old new before after []
GivesBytes-same old new before after lines given longest = record {
  bytes = ap (λ (n : ℕ). drop n (variable_records (lines_left old before))) given
      ∙ ap (λ (all : List (List ℕ)). drop (given_in new.stage) (variable_records all)) lines;
  longest = sym (ap (λ (n : ℕ). max n (longest_of (lines_left old before))) longest
      ∙ ap (λ (all : List (List ℕ)). max new.longest (longest_of all)) lines);
  long = sym (ap has_long_line lines);
}

-- LF behind a CR ends the line
pub lines_from-lf : (line text : List ℕ) → has_crlf (with_cr line true) ≡ false
    → lines_from line (Reading true) (10 ∷ text) ≡ lines_from line (Giving 0) text
lines_from-lf line text none =
    ap lines_of (append_assoc line (13 ∷ []) (10 ∷ text)) ∙ lines_of-line line text (has_crlf-front line (13 ∷ []) none)

-- a byte that isn't 0
pub without_zeros-byte : (b : ℕ) (bytes : List ℕ) → eqb b 0 ≡ false → without_zeros (b ∷ bytes) ≡ b ∷ without_zeros bytes
without_zeros-byte b bytes some = cond-true (not (eqb b 0)) (b ∷ without_zeros bytes) (without_zeros bytes) (ap not some)

-- the end of the text ends its last line
pub lines_from-end : (line : List ℕ) (cr : Bool) → has_crlf (with_cr line cr) ≡ false → 0 < length (with_cr line cr)
    → lines_from line (Reading cr) [] ≡ lines_from (with_cr line cr) (Giving 0) []
unfolding lines_upto
lines_from-end line cr none some = ap lines_of (append-nil (with_cr line cr)) ∙ lines_of-last (with_cr line cr) none some

-- what is known while a line is being read
pub whole-reading : (s : ToRecords) (cr : Bool) → s.stage ≡ Reading cr → has_crlf (with_cr s.line.items cr) ≡ false
whole-reading s cr stage = ap (λ (at : Stage). has_crlf (text_so_far s.line.items at)) (sym stage) ∙ s.whole

pub ended-reading : (s : ToRecords) (cr : Bool) → s.stage ≡ Reading cr → ends_with_cr (with_cr s.line.items cr) ≡ cr
ended-reading s cr stage = ap (λ (at : Stage). ends_with_cr (text_so_far s.line.items at)) (sym stage) ∙ s.ended ∙ ap is_pending stage

-- LF was read behind a CR
pub lines_left-lf : (s : ToRecords) (cr : Bool) (byte : ℕ) (bytes : List ℕ) → s.stage ≡ Reading cr → (cr && eqb byte 10) ≡ true
    → lines_left s (byte ∷ bytes) ≡ lines_from s.line.items (Giving 0) (without_zeros bytes)
lines_left-lf s cr byte bytes stage ends =
    let parts = and_parts cr (eqb byte 10) ends in
    let line = s.line.items in
    ap (λ (at : Stage). lines_from line at (without_zeros (byte ∷ bytes))) (stage ∙ ap Reading parts.0)
    ∙ ap (λ (b : ℕ). lines_from line (Reading true) (without_zeros (b ∷ bytes))) (eqb-true byte 10 parts.1)
    ∙ lines_from-lf line (without_zeros bytes) (whole-reading s true (stage ∙ ap Reading parts.0))

-- a byte was read for which the line has no room
pub is_too_long-push : (s : ToRecords) (cr : Bool) (byte : ℕ) (bytes : List ℕ) → s.stage ≡ Reading cr → (cr && eqb byte 10) ≡ false
    → eqb byte 0 ≡ false
    → 2048 < length s.line.items + cond cr 1 0 + cond (eqb byte 13) 0 1 → is_too_long s (byte ∷ bytes) ≡ true
is_too_long-push s cr byte bytes stage apart some long =
    let line = s.line.items in
    ap (λ (at : Stage). has_long_line (lines_from line at (without_zeros (byte ∷ bytes)))) stage
    ∙ ap (λ (text : List ℕ). has_long_line (lines_of (with_cr line cr ++ text))) (without_zeros-byte byte bytes some)
    ∙ has_long_line-push line cr byte (without_zeros bytes) (whole-reading s cr stage) (ended-reading s cr stage) apart
    (omega (arith, length-with_cr line cr))

-- the text ended with a CR for which the line has no room
pub is_too_long-end : (s : ToRecords) (cr : Bool) → s.stage ≡ Reading cr → 2048 < length s.line.items + cond cr 1 0
    → is_too_long s [] ≡ true
is_too_long-end s cr stage long =
    let line = s.line.items in
    let length_is = length-with_cr line cr in
    ap (λ (at : Stage). has_long_line (lines_from line at [])) stage
    ∙ ap has_long_line (lines_from-end line cr (whole-reading s cr stage) (omega arith))
    ∙ or_left (ltb 2048 (length (with_cr line cr))) (has_long_line (lines_of [])) (lt-ltb 2048 (length (with_cr line cr)) (omega arith))

-- the last line was ended
pub lines_left-end : (s : ToRecords) (cr : Bool) → s.stage ≡ Reading cr → 0 < length (with_cr s.line.items cr)
    → lines_left s [] ≡ lines_from (with_cr s.line.items cr) (Giving 0) []
lines_left-end s cr stage some =
    ap (λ (at : Stage). lines_from s.line.items at []) stage ∙ lines_from-end s.line.items cr (whole-reading s cr stage) some

-- the line goes on with a byte
pub whole-push : (s : ToRecords) (cr : Bool) (byte : ℕ) (line : List ℕ) → s.stage ≡ Reading cr → (cr && eqb byte 10) ≡ false
    → with_cr line (eqb byte 13) ≡ with_cr s.line.items cr ++ byte ∷ []
    → has_crlf (with_cr line (eqb byte 13)) ≡ false
whole-push s cr byte line stage apart is =
    ap has_crlf is ∙ has_crlf-push (with_cr s.line.items cr) byte (whole-reading s cr stage)
    (ap (λ (t : Bool). t && eqb byte 10) (ended-reading s cr stage) ∙ apart)

pub ended-push : (s : ToRecords) (cr : Bool) (byte : ℕ) (line : List ℕ) → with_cr line (eqb byte 13) ≡ with_cr s.line.items cr ++ byte ∷ []
    → ends_with_cr (with_cr line (eqb byte 13)) ≡ eqb byte 13
ended-push s cr byte line is = ap ends_with_cr is ∙ ends_with_cr-push (with_cr s.line.items cr) byte

-- one step more
pub GivesBytes-more : {a b c : ToRecords} {before mid after first then both : List ℕ} → GivesBytes a b before mid first
    → GivesBytes b c mid after then → both ≡ first ++ then → GivesBytes a c before after both
GivesBytes-more {a} {b} {c} {before} {mid} {after} {first} {then} {both} one other is = record {
  bytes = one.bytes ∙ ap (λ (rest : List ℕ). first ++ rest) other.bytes ∙ sym (append_assoc first then (bytes_to_come c after))
      ∙ ap (λ (given : List ℕ). given ++ bytes_to_come c after) (sym is);
  longest = other.longest ∙ one.longest;
  long = other.long ∙ one.long;
}

pub ConvertsText-more : (old now new : ToRecords) (source : List ℕ) (used next : ℕ) (target target' : List ℕ) (from to to' : ℕ)
    (given : Option ℕ)
    → ConvertsText old now source used target from to → StepsText now new source used next given
    → slice_range target' from to' ≡ slice_range target from to ++ option_to_list given → to ≤ to'
    → ConvertsText old new source next target' from to'
ConvertsText-more old now new source used next target target' from to to' given held step put order = record {
  goes_on = λ more. GivesBytes-more (held.goes_on more) (step.goes_on more) put;
  unended = omega (arith, held.unended, step.unended);
  within = step.within;
  order = omega (arith, held.order);
}
