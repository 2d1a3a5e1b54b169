-- Which files of a volume were copied, as contracts see it (profile).
use Rattle.std.specs.Prelude.{ℕ, ◌==◌, Bool, true, false, Option, Some, None, get_or}
use Rattle.f11_store.specs.Store.{no_id}
use Rattle.f11_store.specs.declared.files.FileId.{FileId}
use Rattle.f11_copying.specs.declared.moved.Moved.{Moved}

-- a file, unless its number is 0
abbrev pub file_if : (none : Bool) → FileId → Option FileId
file_if true id = None
file_if false id = Some id

-- what file n is on the other volume, if it was copied
abbrev pub copy_of : Moved → ℕ → Option FileId
copy_of moved n = let id : FileId = get_or moved.ids.items n no_id in file_if (id.number == 0) id
