-- The single words of a line: numbers, identifications, users' codes, names, bytes (profile).
-- A character is its code in ASCII: a comma is 44, brackets are 91 and 93.
use Rattle.std.specs.Prelude.{ℕ, ◌+◌, ◌-◌, ◌*◌, ◌%◌, ◌<◌, ◌==◌, ◌&&◌, nat_le, nat_lt, Bool, List, length, map, Option}
use Rattle.std.specs.Prelude.{Some, None, codes, slice_index, slice_range, replicate, if◌then◌else◌}
use Rattle.std.specs.Char.{digit_value, is_digit}
use Rattle.std.specs.List.{list_all, range_with_len}
use Rattle.std.specs.Str.{bytes_eq}
use Rattle.std.specs.Str.Parse.{digits_value}
use Rattle.f11_rad50.specs.Name.{cut_at}
use Rattle.f11_store.specs.declared.callers.Uic.{Uic}
use Rattle.f11_store.specs.declared.files.FileId.{FileId}
use Rattle.f11_store.specs.declared.files.Mode.{Mode}
use Rattle.f11_store.specs.declared.files.Mode.TheVariants as mode
use Rattle.f11_script.specs.Reading.{◌>>=◌}

-- the value of digits, where it is at most so much
unfoldable pub value_up_to : ℕ → ℕ → List ℕ → Option ℕ
value_up_to radix most text =
    if list_all (λ c. is_digit c radix) text && nat_le (digits_value radix text) most then Some (digits_value radix text) else None

-- the same of one to so many digits
unfoldable pub numeral : ℕ → ℕ → ℕ → List ℕ → Option ℕ
numeral radix digits most text =
    if nat_lt 0 (length text) && nat_le (length text) digits then value_up_to radix most text else None

-- a number has 1 to 10 decimal digits and is at most 4294967295; a word is a number of at most 65535, a byte one of
-- at most 255, and a lun one of at most 3
abbrev pub number_of : List ℕ → Option ℕ
number_of text = numeral 10 10 4294967295 text

abbrev pub word_of : List ℕ → Option ℕ
word_of text = numeral 10 10 65535 text

abbrev pub byte_of : List ℕ → Option ℕ
byte_of text = numeral 10 10 255 text

abbrev pub lun_of : List ℕ → Option ℕ
lun_of text = numeral 10 10 3 text

-- a task is one digit, 0 to 7
abbrev pub task_of : List ℕ → Option ℕ
task_of text = numeral 8 1 7 text

-- a protection word has 1 to 6 octal digits and is at most octal 177777; a byte in octal has 1 to 3 and is at most
-- octal 377
abbrev pub protection_of : List ℕ → Option ℕ
protection_of text = numeral 8 6 65535 text

abbrev pub octal_byte_of : List ℕ → Option ℕ
octal_byte_of text = numeral 8 3 255 text

-- an identification is its number, a comma and its sequence number, each at most 65535
unfoldable pub id_of : List ℕ → Option FileId
id_of text = do
  parts ← cut_at 44 text
  number ← word_of parts.0
  sequence ← word_of parts.1
  Some (record { number = number; sequence = sequence; volume = 0 })

-- what stands between brackets
unfoldable pub bracketed : List ℕ → Option (List ℕ)
bracketed text =
    if nat_le 2 (length text) && (slice_index text 0 == 91 && slice_index text (length text - 1) == 93)
    then Some (slice_range text 1 (length text - 1))
    else None

-- a user's code is its group, a comma and its member, in brackets, each in octal
unfoldable pub uic_of : List ℕ → Option Uic
uic_of text = do
  inside ← bracketed text
  parts ← cut_at 44 inside
  group ← octal_byte_of parts.0
  member ← octal_byte_of parts.1
  Some (record { group = group; member = member })

-- a mode of access is R, L or W: to read, to read while nobody writes, to write
unfoldable pub mode_of : List ℕ → Option Mode
mode_of text =
    if bytes_eq text (codes "R") then Some mode.Read
    else if bytes_eq text (codes "L") then Some mode.Locked
    else if bytes_eq text (codes "W") then Some mode.Write
    else None

-- one to 512 bytes in hex: two digits of either case for each
unfoldable pub is_hex : List ℕ → Bool
is_hex text =
    (nat_lt 0 (length text) && (nat_le (length text) 1024 && length text % 2 == 0)) && list_all (λ c. is_digit c 16) text

-- each byte of a text is a hex digit
abbrev pub AreHexDigits : List ℕ → Type 0
AreHexDigits text = (k : ℕ) → k < length text → digit_value (slice_index text k) < 16

-- byte k of a block in hex is that of digits 2k and 2k + 1, and zero past the last digit
abbrev pub hex_byte : List ℕ → ℕ → ℕ
hex_byte text k =
    if nat_lt (2 * k + 1) (length text) then 16 * digit_value (slice_index text (2 * k)) + digit_value (slice_index text (2 * k + 1)) else 0

unfoldable pub hex_block : List ℕ → List ℕ
hex_block text = map (hex_byte text) (range_with_len 0 512)

-- a block of one byte, repeated
unfoldable pub filled_block : ℕ → List ℕ
filled_block byte = replicate 512 byte
