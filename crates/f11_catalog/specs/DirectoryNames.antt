-- What the directories are called that have a name, in the master file directory or in their own headers: `[g,m]` where it is that of a
-- user's directory, six octal digits, else `[NAME]` (profile; RSX-11M-PLUS has directories by name).
use Rattle.std.specs.Prelude.{ℕ, ◌-◌, ◌&&◌, nat_le, Bool, List, length, take, drop, codes, ◌++◌, Option, Some, None, if◌then◌else◌}
use Rattle.std.specs.Str.{bytes_eq}
use Rattle.f11_rad50.specs.Name.{name_text}
use Rattle.f11_store.specs.Text.{uic_text}
use Rattle.f11_store.specs.declared.callers.Uic.{Uic}
use Rattle.f11_catalog.specs.Users.{user_named}
use Rattle.f11_catalog.specs.declared.directory_name.DirectoryName.{DirectoryName}
use Rattle.f11_catalog.specs.declared.directory_name.DirectoryName.TheVariants.{User, Named}

-- by its user, or where it is no user's by its name
abbrev pub called_by : List ℕ → Option Uic → DirectoryName
called_by words (Some user) = User user
called_by words None = Named words

-- what the directory is called whose name has these words
abbrev pub directory_called : List ℕ → DirectoryName
directory_called words = called_by words (user_named words)

-- a text ends with the type and the version that directories have
abbrev pub ends_as_directory : List ℕ → Bool
ends_as_directory text = nat_le 6 (length text) && bytes_eq (drop (length text - 6) text) (codes ".DIR;1")

-- how much is shown of the text of a directory's name: all but these
abbrev pub shown_length : List ℕ → ℕ
shown_length text = if ends_as_directory text then length text - 6 else length text

-- what is shown of the name with these words
unfoldable pub directory_shown : List ℕ → List ℕ
directory_shown words = take (shown_length (name_text words)) (name_text words)

-- how a directory is written
abbrev pub directory_text : DirectoryName → List ℕ
directory_text (User user) = uic_text user
directory_text (Named words) = codes "[" ++ (directory_shown words ++ codes "]")
