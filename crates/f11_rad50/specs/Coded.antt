-- The words of a name by the codes in them.
use Rattle.std.specs.Prelude.{ℕ, ◌/◌, ◌%◌, Bool, not, ◌&&◌, ◌||◌, ◌==◌, nat_le}

-- The code of a character that may stand in a name (profile): not the 0 of a space, and neither 28 nor 29.
unfoldable pub is_name_code : ℕ → Bool
is_name_code d = (nat_le 1 d && nat_le d 27) || (nat_le 30 d && nat_le d 39)

-- The word of up to three characters of a name, padded with spaces: behind a space there are spaces alone.
unfoldable pub is_padded : ℕ → Bool
is_padded w =
    w == 0
    || (is_name_code (w / 1600) && (w % 1600 == 0 || (is_name_code (w / 40 % 40) && (w % 40 == 0 || is_name_code (w % 40)))))

-- Behind a word that ends in a space there are spaces alone.
unfoldable pub goes_on : ℕ → ℕ → Bool
goes_on w next = next == 0 || not (w % 40 == 0)

-- Three words of a name and one of a type, not both empty.
unfoldable pub are_named : ℕ → ℕ → ℕ → ℕ → Bool
are_named a b c t =
    is_padded a
    && (is_padded b && (is_padded c && (is_padded t && (goes_on a b && (goes_on b c && (not (a == 0) || not (t == 0)))))))
