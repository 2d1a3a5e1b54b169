-- What is judged first of a request for more blocks of a file that is accessed, at its end or in one run (profile).
use Rattle.std.specs.Prelude.{◌≡◌, ℕ, ◌<◌, ◌==◌, false, IsTrue, List, [], ◌∷◌, None}
use Rattle.f11_dev.specs.Disk.{Disk}
use Rattle.f11_store.specs.Causes.{Cause, ◌⇐◌, cannot_write, first_of, is_missing, lacks}
use Rattle.f11_store.specs.Store.{Store, file_held, id_held}
use Rattle.f11_store.specs.declared.callers.Uic.{Uic}
use Rattle.f11_store.specs.declared.files.FileId.{FileId}
use Rattle.f11_store.specs.declared.protection.Right.TheVariants as right
use Rattle.f11_store.specs.declared.refusals.Refusal.TheVariants.{BadArgument, NoSuchAccess, NoPrivilege}
use Rattle.f11_files.specs.Answers.{ReadsAtMost}
use Rattle.f11_files.specs.Open.{IsIdFrom}
use Rattle.f11_files.specs.image_store.StoreOf.{store_of}
use Rattle.f11_fcp.specs.Handles.{State, store_at}

-- the causes against any request for n blocks more, in order
abbrev pub lengthening_causes : Store → ℕ → Uic → ℕ → ℕ → List Cause
lengthening_causes s task caller lun n =
    (BadArgument ⇐ (n == 0))
    ∷ (NoSuchAccess ⇐ cannot_write s task lun)
    ∷ (NoPrivilege ⇐ lacks right.Extend caller (file_held s task lun))
    ∷ []

-- None of them holds, and this is the file: its header was read.
pub record MayLengthen (task : ℕ) (caller : Uic) (lun n : ℕ) (file : FileId) (old : State) (new : Disk) : Type 0 where
  pub no_cause : IsTrue old.disk.honest → first_of (lengthening_causes (store_at old) task caller lun n) ≡ None
  pub held : id_held (store_at old) task lun ≡ file
  pub there : IsTrue old.disk.honest → is_missing (store_of old.disk.image old.home) file ≡ false
  pub own : IsIdFrom 4 file
  pub some : 0 < n
  pub reads : ReadsAtMost 1 old.disk new 0
