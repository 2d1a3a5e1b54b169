-- The record of a line, a byte given at a time.
use Rattle.std.proofs.Common.{◌≡◌, ℕ, zero, suc, ◌+◌, ◌-◌, ◌%◌, ◌/◌, ◌<◌, ◌≤◌, Bool, false, ◌||◌, max, List, [], ◌∷◌, ◌++◌, length, drop}
use Rattle.std.proofs.Common.{get_or, refl, sym, ap, ◌∙◌, arith, length-append, le-ltb}
use Rattle.std.specs.Prelude.{replicate}
use Rattle.std.proofs.lemmas.List.{drop_more, get_or_append_left, get_or-append_right}
use Rattle.std.proofs.Math.Seq.{drop-append_seam}
use Rattle.f11_flx.specs.Lines.{has_long_line, lines_of, without_zeros}
use Rattle.f11_flx.specs.Spelled.{variable_record, variable_records, longest_of}
use Rattle.f11_flx.specs.Stage.{given_in, lines_from, with_cr}
use Rattle.f11_flx.specs.ToRecords.{GivesBytes, bytes_to_come, lines_left}
use Rattle.f11_flx.specs.declared.stage.Stage.{Stage}
use Rattle.f11_flx.specs.declared.stage.Stage.TheVariants.{Reading, Giving}
use Rattle.f11_flx.specs.declared.to_records.ToRecords.{ToRecords}
use Rattle.f11_flx.proofs.Texts.RecordLemmas.{length-variable_record}

-- a byte of the line in its record
pub record-own : (line : List ℕ) (k : ℕ) → k < length line → get_or (variable_record line) (suc (suc k)) 0 ≡ get_or line k 0
unfolding variable_record
record-own line k within = get_or_append_left line (replicate (length line % 2) 0) 0 k within

-- zeros are zeros at each place, and past them
get_or-zeros : (n i : ℕ) → let none : ℕ = 0 in get_or (replicate n none) i none ≡ none
get_or-zeros zero i = refl
get_or-zeros (suc n) zero = refl
get_or-zeros (suc n) (suc i) = get_or-zeros n i

-- the pad byte
pub record-pad : (line : List ℕ) (k : ℕ) → length line ≤ k → get_or (variable_record line) (suc (suc k)) 0 ≡ 0
unfolding variable_record
record-pad line k past =
    get_or-append_right line (replicate (length line % 2) 0) (length line) k 0 refl past ∙ get_or-zeros (length line % 2) (k - length line)

-- its length word
pub record-low : (line : List ℕ) → get_or (variable_record line) 0 0 ≡ length line % 256
unfolding variable_record
record-low line = refl

pub record-high : (line : List ℕ) → get_or (variable_record line) 1 0 ≡ length line / 256
unfolding variable_record
record-high line = refl

-- the byte that comes next of a record, and those behind it
pub drop-record : (line : List ℕ) (lines : List (List ℕ)) (given byte : ℕ) → given < 2 + length line + length line % 2
    → byte ≡ get_or (variable_record line) given 0
    → drop given (variable_records (line ∷ lines)) ≡ byte ∷ drop (given + 1) (variable_records (line ∷ lines))
drop-record line lines given byte within is =
    let own = variable_record line in
    let others = variable_records lines in
    let below : given < length own = omega (arith, length-variable_record line) in
    drop_more (own ++ others) given 0 (omega (arith, length-append own others))
    ∙ ap (λ (b : ℕ). b ∷ drop (given + 1) (own ++ others)) (get_or_append_left own others 0 given below ∙ sym is)

-- the last byte
pub drop-record-last : (line : List ℕ) (lines : List (List ℕ)) (given : ℕ) → given + 1 ≡ 2 + length line + length line % 2
    → drop (given + 1) (variable_records (line ∷ lines)) ≡ variable_records lines
drop-record-last line lines given last =
    let end : given + 1 ≡ length (variable_record line) = last ∙ sym (length-variable_record line) in
    ap (λ (n : ℕ). drop n (variable_record line ++ variable_records lines)) end
    ∙ drop-append_seam (variable_record line) (variable_records lines)

-- a line that was given isn't too long
pub has_long_line-given : (line : List ℕ) (lines : List (List ℕ)) → length line ≤ 2048 → has_long_line lines ≡ has_long_line (line ∷ lines)
has_long_line-given line lines few = sym (ap (λ (t : Bool). t || has_long_line lines) (le-ltb 2048 (length line) few))

-- the longest of those that were given and those to come
pub longest-given : (longest : ℕ) (line : List ℕ) (lines : List (List ℕ))
    → max (max longest (length line)) (longest_of lines) ≡ max longest (longest_of (line ∷ lines))
longest-given longest line lines = omega arith

-- the next byte of the record that is given
pub bytes_to_come-given : (s : ToRecords) (given byte : ℕ) (bytes : List ℕ) → s.stage ≡ Giving given
    → given < 2 + length s.line.items + length s.line.items % 2 → byte ≡ get_or (variable_record s.line.items) given 0
    → bytes_to_come s bytes ≡ byte ∷ drop (given + 1) (variable_records (s.line.items ∷ lines_of (without_zeros bytes)))
bytes_to_come-given s given byte bytes stage within is =
    ap (λ (at : Stage). drop (given_in at) (variable_records (lines_from s.line.items at (without_zeros bytes)))) stage
    ∙ drop-record s.line.items (lines_of (without_zeros bytes)) given byte within is

-- the lines of which it is the first
pub lines_left-given : (s : ToRecords) (given : ℕ) (bytes : List ℕ) → s.stage ≡ Giving given
    → lines_left s bytes ≡ s.line.items ∷ lines_of (without_zeros bytes)
lines_left-given s given bytes stage = ap (λ (at : Stage). lines_from s.line.items at (without_zeros bytes)) stage

-- a byte of it was given
pub GivesBytes-given : (old new : ToRecords) (given byte : ℕ) (bytes : List ℕ) → old.stage ≡ Giving given
    → given < 2 + length old.line.items + length old.line.items % 2 → byte ≡ get_or (variable_record old.line.items) given 0
    → new.stage ≡ Giving (given + 1) → new.line.items ≡ old.line.items → new.longest ≡ old.longest
    → GivesBytes old new bytes bytes (byte ∷ [])
GivesBytes-given old new given byte bytes stage within is stage' line longest =
    let lines = lines_left-given old given bytes stage in
    let lines' = lines_left-given new (given + 1) bytes stage' ∙ ap (λ (l : List ℕ). l ∷ lines_of (without_zeros bytes)) line in
    record {
      bytes = bytes_to_come-given old given byte bytes stage within is
          ∙ ap (λ (l : List ℕ). byte ∷ drop (given + 1) (variable_records (l ∷ lines_of (without_zeros bytes)))) (sym line)
          ∙ ap (λ (at : Stage). byte ∷ drop (given_in at) (variable_records (lines_from new.line.items at (without_zeros bytes))))
          (sym stage');
      longest = ap (λ (n : ℕ). max n (longest_of (lines_left new bytes))) longest
          ∙ ap (λ (all : List (List ℕ)). max old.longest (longest_of all)) (lines' ∙ sym lines);
      long = ap has_long_line (lines' ∙ sym lines);
    }

-- and its last byte
pub GivesBytes-last : (old new : ToRecords) (given byte : ℕ) (bytes : List ℕ) → old.stage ≡ Giving given
    → given + 1 ≡ 2 + length old.line.items + length old.line.items % 2 → byte ≡ get_or (variable_record old.line.items) given 0
    → length old.line.items ≤ 2048 → new.stage ≡ Reading false → new.line.items ≡ [] → new.longest ≡ max old.longest (length old.line.items)
    → GivesBytes old new bytes bytes (byte ∷ [])
GivesBytes-last old new given byte bytes stage last is few stage' line longest =
    let text = without_zeros bytes in
    let within : given < 2 + length old.line.items + length old.line.items % 2 = omega arith in
    let lines = lines_left-given old given bytes stage in
    let lines' = ap (λ (at : Stage). lines_from new.line.items at text) stage'
    ∙ ap (λ (l : List ℕ). lines_of (with_cr l false ++ text)) line in
    record {
      bytes =
          bytes_to_come-given old given byte bytes stage within is
          ∙ ap (λ (b : List ℕ). byte ∷ b) (drop-record-last old.line.items (lines_of text) given last)
          ∙ ap (λ (all : List (List ℕ)). byte ∷ variable_records all) (sym lines')
          ∙ ap (λ (at : Stage). byte ∷ drop (given_in at) (variable_records (lines_left new bytes))) (sym stage');
      longest = ap (λ (n : ℕ). max n (longest_of (lines_left new bytes))) longest
          ∙ ap (λ (all : List (List ℕ)). max (max old.longest (length old.line.items)) (longest_of all)) lines'
          ∙ longest-given old.longest old.line.items (lines_of text)
          ∙ ap (λ (all : List (List ℕ)). max old.longest (longest_of all)) (sym lines);
      long = ap has_long_line lines' ∙ has_long_line-given old.line.items (lines_of text) few ∙ ap has_long_line (sym lines);
    }
