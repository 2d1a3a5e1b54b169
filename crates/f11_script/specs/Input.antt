-- The lines of a script, read from a reader (profile).
use Rattle.std.specs.Prelude.{◌≡◌, ◌≢◌, ℕ, ◌+◌, ◌-◌, ◌<◌, ◌≤◌, ⊤, All, List, [], ◌∷◌, ◌++◌, length, drop, take}
use Rattle.std.specs.Prelude.{Option, Some, None, Result, Ok, Err, Bool, true, false}
use Rattle.std.specs.Io.KnownBytes.{prepend_known, Consumes, Keeps, IsAtEnd}
use Rattle.std.specs.Str.Lines.{lines}
use Rattle.f11_script.specs.Lines.{line_of}
use Rattle.f11_script.specs.declared.input.ScriptReader.{ScriptReader}
use Rattle.f11_script.specs.declared.errors.ScriptError.{ScriptError}
use Rattle.f11_script.specs.declared.errors.ScriptError.TheVariants.{ReadFault, WriteFault, TooLong}

-- the bytes that are still to be read: those of the piece from one place up to another, and the reader's
abbrev pub bytes_left : List ℕ → ℕ → ℕ → Option (List ℕ) → Option (List ℕ)
bytes_left piece at end known = prepend_known (drop at (take end piece)) known

-- a line as it is handed out, which is cut short only where it is longer than any good one
pub record IsLine (given line : List ℕ) : Type 0 where
  pub short : length line ≤ 1200 → given ≡ line
  pub long : 1200 < length line → 1200 < length given

-- a line is the first of the known bytes, and the bytes behind it have their other lines
abbrev pub HasFirst : Option (List ℕ) → Option (List ℕ) → List ℕ → Type 0
HasFirst None new line = ⊤
HasFirst (Some xs) None line = ⊥
HasFirst (Some xs) (Some ys) line = lines xs ≡ line ∷ lines ys

-- The first line was read: its bytes, with its end, were counted, at least one and no more than a script may have.
pub record TakesLine (old new : Option (List ℕ)) (count counted : ℕ) (given : List ℕ) : Type 0 where
  pub bytes : List ℕ
  pub some : 0 < length bytes
  pub taken : Consumes old new bytes
  pub number : counted ≡ count + length bytes
  pub few : counted ≤ 16777216
  pub line : List ℕ
  pub is_line : lines bytes ≡ line ∷ []
  pub first : HasFirst old new line
  pub handed_out : IsLine given line

-- no line is left, and nothing was read
pub record TakesNone (old new : Option (List ℕ)) (count counted : ℕ) (given : List ℕ) : Type 0 where
  pub at_end : IsAtEnd old
  pub kept : Keeps old new
  pub number : counted ≡ count
  pub nothing : given ≡ []

-- some bytes were read, among them no line feed: no whole line is lost
pub record TakesNoLine (old new : Option (List ℕ)) (count counted : ℕ) : Type 0 where
  pub bytes : List ℕ
  pub taken : Consumes old new bytes
  pub no_end : All (λ c. c ≢ 10) bytes
  pub number : counted ≡ count + length bytes

-- what an error of reading says, with so many bytes at hand: the reader failed, and each byte that it gave was read; or as many
-- bytes were read as a script may have, and one more is at hand
abbrev pub IsReadError : ScriptError → ℕ → ℕ → Type 0
IsReadError ReadFault count hand = hand ≡ 0
IsReadError TooLong count hand = (count ≡ 16777216) × (0 < hand)
IsReadError WriteFault count hand = ⊥

-- Some bytes were taken, among them no line feed, and counted; of a line that is cut at 1,202 bytes they are kept as far as there is room.
pub record TakesBytes (old new : Option (List ℕ)) (count counted : ℕ) (line longer : List ℕ) : Type 0 where
  pub bytes : List ℕ
  pub taken : Consumes old new bytes
  pub no_end : All (λ c. c ≢ 10) bytes
  pub number : counted ≡ count + length bytes
  pub kept : longer ≡ take 1202 (line ++ bytes)

-- the next byte was read and counted, or none is left, or it failed and nothing was read
abbrev pub ReadsByte : Option (List ℕ) → Option (List ℕ) → ℕ → ℕ → ℕ → Result (Option ℕ) ScriptError → Type 0
ReadsByte old new count counted hand (Ok None) = IsAtEnd old × (counted ≡ count) × Keeps old new
ReadsByte old new count counted hand (Ok (Some byte)) = Consumes old new (byte ∷ []) × (counted ≡ count + 1)
ReadsByte old new count counted hand (Err e) = Keeps old new × IsReadError e counted hand × (counted ≡ count)

-- a script's bytes that are still to be read, where the reader's are known
abbrev pub left_of : {R : Type 0} → (R → Option (List ℕ)) → ScriptReader R → Option (List ℕ)
left_of remaining script = bytes_left script.piece script.at script.end (remaining script.reader)

-- the reader
abbrev pub reader_of : {R : Type 0} → ScriptReader R → R
reader_of script = script.reader

-- how many bytes are at hand: the reader gave them, and they are still to be read
abbrev pub at_hand : {R : Type 0} → ScriptReader R → ℕ
at_hand script = script.end - script.at

-- the number of bytes that were read
abbrev pub number_read : {R : Type 0} → ScriptReader R → ℕ
number_read script = script.count

-- what reading a line says: a line was read, no line is left, or it failed
abbrev pub ReadsLine : Option (List ℕ) → Option (List ℕ) → ℕ → ℕ → ℕ → Result Bool ScriptError → List ℕ → Type 0
ReadsLine old new count counted hand (Ok true) given = TakesLine old new count counted given
ReadsLine old new count counted hand (Ok false) given = TakesNone old new count counted given
ReadsLine old new count counted hand (Err e) given = TakesNoLine old new count counted × IsReadError e counted hand

-- a byte is known to be left
abbrev pub HasByte : Option (List ℕ) → Type 0
HasByte None = ⊤
HasByte (Some xs) = 0 < length xs

-- a line is read alike as it is handed out
abbrev pub CutLineIsAlike : Type 0
CutLineIsAlike = (given line block : List ℕ) → IsLine given line → line_of given block ≡ line_of line block
