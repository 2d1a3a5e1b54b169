-- The directories of users in the master file directory: `GGGMMM.DIR;1`, group and member in three octal digits each (profile).
use Rattle.std.specs.Prelude.{ℕ, ◌+◌, ◌-◌, ◌*◌, ◌==◌, ◌&&◌, nat_le, Bool, List, length, drop, codes, Option, Some, None, if◌then◌else◌}
use Rattle.std.specs.Prelude.{option_and_then, option_map, slice_index}
use Rattle.std.specs.Str.{bytes_eq}
use Rattle.f11_rad50.specs.Name.{is_name, name_text}
use Rattle.f11_store.specs.declared.callers.Uic.{Uic}

-- a character is an octal digit of at most this value; `0` is 48 in ASCII
abbrev pub is_octal_digit : ℕ → ℕ → Bool
is_octal_digit most c = nat_le 48 c && nat_le c (48 + most)

-- the number below 256 that three octal digits spell, if they do
unfoldable pub three_octal_value : ℕ → ℕ → ℕ → Option ℕ
three_octal_value a b c =
    if is_octal_digit 3 a && (is_octal_digit 7 b && is_octal_digit 7 c) then Some (64 * (a - 48) + (8 * (b - 48) + (c - 48))) else None

-- the user whose directory has a name that is spelled so, if there is one
abbrev pub user_spelled : List ℕ → Option Uic
user_spelled text =
    if (length text == 12) && bytes_eq (drop 6 text) (codes ".DIR;1") then
    option_and_then (λ group. option_map (λ member. record { group = group; member = member })
    (three_octal_value (slice_index text 3) (slice_index text 4) (slice_index text 5)))
    (three_octal_value (slice_index text 0) (slice_index text 1) (slice_index text 2))
    else None

-- the user whose directory has a name with these words, if there is one
unfoldable pub user_named : List ℕ → Option Uic
user_named words = if is_name words then user_spelled (name_text words) else None
