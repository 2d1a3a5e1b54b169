-- Which files of a folder of the host `put --all` leaves out (profile): those that each volume has, or gets as its directories are made.
use Rattle.std.specs.Prelude.{◌||◌, Bool, false, ℕ, List, codes, map}
use Rattle.std.specs.Char.{to_ascii_uppercase}
use Rattle.std.specs.Option.{option_map_or}
use Rattle.std.specs.Str.{bytes_eq}
use Rattle.f11_making.specs.Plans.{is_directory_name}
use Rattle.f11_rad50.specs.Name.{name_text, words_spelled}

-- a text is the name of one of the volume's own files, 1 to 5 (Files-11 On-Disk Structure Level 1, "Known Files")
abbrev pub is_own_text : List ℕ → Bool
is_own_text text =
    bytes_eq text (codes "INDEXF.SYS;1") || (bytes_eq text (codes "BITMAP.SYS;1") || (bytes_eq text (codes "BADBLK.SYS;1")
    || (bytes_eq text (codes "000000.DIR;1") || bytes_eq text (codes "CORIMG.SYS;1"))))

-- a name is that of a directory, or of one of these
abbrev pub is_volumes_own : List ℕ → Bool
is_volumes_own name = is_directory_name name || is_own_text (name_text name)

-- a text spells such a name, small letters counting as capitals
abbrev pub spells_own : List ℕ → Bool
spells_own text = option_map_or is_volumes_own (words_spelled (map to_ascii_uppercase text)) false
