-- A store beside its accesses: with others, and what is kept of files that are accessed (profile).
use Rattle.std.specs.Prelude.{◌≡◌, ℕ, Bool, true, false, Option, None, option_map}
use Rattle.f11_store.specs.declared.files.FileId.{FileId}
use Rattle.f11_store.specs.declared.requests.Request.{Request}
use Rattle.f11_store.specs.declared.requests.Request.TheVariants as request
use Rattle.f11_store.specs.File.{is_marked}
use Rattle.f11_store.specs.Store.{Store, Access, file_of}

-- a store with these accesses
abbrev pub with_accesses : (ℕ → ℕ → Option Access) → Store → Store
with_accesses a s = record s { access = a }

-- whether a file is marked for delete, where there is one
abbrev pub mark_of : Store → FileId → Option Bool
mark_of s id = option_map is_marked (file_of s id)

-- No file is in a slot that isn't in use.
abbrev pub FreeIsEmpty : Store → Type 0
FreeIsEmpty s = (n : ℕ) → s.in_use n ≡ false → s.file n ≡ None

-- a request that neither fills nor reads the block that is lent
abbrev pub is_blockless : Request → Bool
is_blockless (request.ReadBlock _ _) = false
is_blockless (request.WriteBlock _ _) = false
is_blockless _ = true
