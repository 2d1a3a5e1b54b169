-- What an action that was done makes of the plain store (profile).
use Rattle.std.specs.Prelude.{◌≡◌, ◌⊎◌, ◌+◌, ◌/◌, ◌==◌, ℕ, true, false, take, List, Ok, Some}
use Rattle.f11_store.specs.Causes.{is_missing}
use Rattle.f11_store.specs.Changes.{Enters, MakesFile, after_delete, after_remove, with_change, with_replacement, with_slots_first}
use Rattle.f11_store.specs.Directory.{record_bytes}
use Rattle.f11_store.specs.File.{File, end_of}
use Rattle.f11_store.specs.Ident.{ident_with}
use Rattle.f11_store.specs.Step.{attributes_of, next_id}
use Rattle.f11_store.specs.Store.{Store, file_named}
use Rattle.f11_store.specs.declared.callers.Uic.{Uic}
use Rattle.f11_store.specs.declared.files.Change.TheVariants as change
use Rattle.f11_store.specs.declared.files.FileId.{FileId}
use Rattle.f11_making.specs.Actions.{plan_of}
use Rattle.f11_making.specs.Asking.{Who, plain}
use Rattle.f11_making.specs.FilesPlan.{Carried}
use Rattle.f11_making.specs.Plans.{directory_attributes, is_lower, judges_kept, with_blocks, with_name}
use Rattle.f11_making.specs.Sparing.{Finds}
use Rattle.f11_making.specs.declared.action.Action.{Action}
use Rattle.f11_making.specs.declared.action.Action.TheVariants as action

-- A file is the one of a name in a directory, which is the one of its own name in the master file directory.
pub record IsNamed (who : Who) (master : FileId) (directory name : List ℕ) (s : Store) : Type 0 where
  pub dir : FileId
  pub id : FileId
  pub directory_is : Finds who master directory s dir
  pub file_is : Finds who dir name s id

-- Its name is removed, and then itself, or it wasn't there.
abbrev pub IsDeleted : FileId → List ℕ → FileId → Store → Store → Type 0
IsDeleted dir name id s t =
    (t ≡ after_delete (after_remove s dir name) id)
    ⊎ ((is_missing (after_remove s dir name) id ≡ true) × (t ≡ after_remove s dir name))

-- A name was removed: alone, where it leads to the file that is kept, or its file was deleted with it.
abbrev pub IsPurged : FileId → List ℕ → FileId → FileId → Store → Store → Type 0
IsPurged dir name id kept s t =
    (((id.number == kept.number) ≡ true) × (t ≡ after_remove s dir name))
    ⊎ (((id.number == kept.number) ≡ false) × IsDeleted dir name id s t)

-- The file of the highest version is there, neither marked for delete nor left open, and a lower one was purged.
pub record PurgesName (who : Who) (f : FileId) (name highest : List ℕ) (id : FileId) (s t : Store) : Type 0 where
  pub lower : is_lower name highest ≡ true
  pub kept : FileId
  pub kept_is : Finds who f highest s kept
  pub there : is_missing s kept ≡ false
  pub good : judges_kept (attributes_of (file_named s kept)) ≡ Ok tt
  pub purged : IsPurged f name id kept s t

-- The file was entered under the new name, its header got that, and the old one was removed.
pub record IsRenamed (dir : FileId) (old : List ℕ) (to : FileId) (new : List ℕ) (id : FileId) (s t : Store) : Type 0 where
  pub entered : Store
  pub enters : Enters s to (record_bytes id new) entered
  pub titled : Store
  pub titles : titled ≡ with_change entered id.number (with_replacement (change.Ident (with_name new (file_named s id).ident)))
  pub removes : t ≡ after_remove titled dir old

-- A file keeps its blocks up to its end, and its attributes but for how many blocks they state, which are those; and who owns it, its
-- protection and its ident area.
pub record IsTruncated (before behind : File) : Type 0 where
  pub blocks : behind.blocks ≡ take ((end_of before + 511) / 512) before.blocks
  pub attr : behind.attr ≡ with_blocks before.attr ((end_of before + 511) / 512)
  pub owner : behind.owner ≡ before.owner
  pub protection : behind.protection ≡ before.protection
  pub ident : behind.ident ≡ before.ident

-- The file of an identification was truncated.
pub record TruncatesFile (id : FileId) (s t : Store) : Type 0 where
  pub before : File
  pub behind : File
  pub was : s.file id.number ≡ Some before
  pub is : t.file id.number ≡ Some behind
  pub truncated : IsTruncated before behind

-- A directory without records was created for its owner, entered into the master file directory, and protected.
pub record MakesDirectory (master : FileId) (name : List ℕ) (owner : Uic) (protection : ℕ) (s t : Store) : Type 0 where
  pub id : FileId
  pub created : Store
  pub id_is : id ≡ next_id (with_slots_first s 1)
  pub creates : MakesFile s owner 0 (ident_with name) directory_attributes created
  pub entered : Store
  pub enters : Enters created master (record_bytes id name) entered
  pub protects : t ≡ with_change entered id.number (with_replacement (change.Protect protection))

-- the action was done
abbrev pub IsDone : Who → FileId → Action → Store → Store → Type 0
IsDone who master (action.Delete directory name) s t =
    (f : IsNamed who master directory name s) × IsDeleted f.dir name f.id s t
IsDone who master (action.Purge directory name highest) s t =
    (f : IsNamed who master directory name s) × PurgesName who f.dir name highest f.id s t
IsDone who master (action.Rename directory name to new) s t =
    (f : IsNamed who master directory name s) × (into : FileId) × (Finds who master to s into) × IsRenamed f.dir name into new f.id s t
IsDone who master (action.Protect directory name protection) s t =
    (f : IsNamed who master directory name s) × (t ≡ with_change s f.id.number (with_replacement (change.Protect protection)))
IsDone who master (action.Truncate directory name) s t = (f : IsNamed who master directory name s) × TruncatesFile f.id s t
IsDone who master (action.MakeDirectory name owner protection) s t = MakesDirectory master name owner protection s t

-- that is what it comes to where its plan was carried out over the plain store
abbrev pub DoneIsDone : Type 0
DoneIsDone =
    (who : Who) (lun : ℕ) (master : FileId) (a : Action) (s t : Store) → Carried plain who (plan_of lun master a) (Ok tt) s t →
    IsDone who master a s t
