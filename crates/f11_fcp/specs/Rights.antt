-- What a caller lacks, by a file's owner and protection.
use Rattle.std.specs.Prelude.{ℕ, Bool, ◌||◌, not}
use Rattle.f11_store.specs.declared.callers.Uic.{Uic}
use Rattle.f11_store.specs.declared.files.Change.{Change}
use Rattle.f11_store.specs.declared.files.Change.TheVariants as change
use Rattle.f11_store.specs.declared.files.Mode.{Mode}
use Rattle.f11_store.specs.declared.files.Mode.TheVariants as mode
use Rattle.f11_store.specs.declared.protection.Class.TheVariants as class
use Rattle.f11_store.specs.declared.protection.Right.TheVariants as right
use Rattle.f11_store.specs.Rights.{is_of, may}

-- the rights that a mode of access asks for
abbrev pub lacks_by : Mode → Uic → Uic → ℕ → Bool
lacks_by mode.Read caller owner word = not (may caller owner word right.Read)
lacks_by mode.Locked caller owner word = not (may caller owner word right.Read)
lacks_by mode.Write caller owner word = not (may caller owner word right.Read) || not (may caller owner word right.Write)

-- the right to a change of its attributes
abbrev pub lacks_change_by : Change → Uic → Uic → ℕ → Bool
lacks_change_by (change.Attr _) caller owner word = not (may caller owner word right.Write)
lacks_change_by (change.Ident _) caller owner word = not (may caller owner word right.Write)
lacks_change_by (change.Protect _) caller owner word = not (is_of caller owner class.System || is_of caller owner class.Owner)
