-- A directory that is opened for a request, and looked through (profile).
use Rattle.std.specs.Prelude.{◌≡◌, ℕ, ◌≤◌, Bool, false, not, nat_lt, IsTrue, List, [], ◌∷◌, ◌++◌, None}
use Rattle.f11_dev.specs.Disk.{Disk}
use Rattle.f11_home.specs.Home.{HomeFields}
use Rattle.f11_store.specs.Causes.{Cause, ◌⇐◌, first_of, is_missing, lacks}
use Rattle.f11_store.specs.Directory.{entry_count, is_directory}
use Rattle.f11_store.specs.File.{is_marked, length_of}
use Rattle.f11_store.specs.Rights.{may}
use Rattle.f11_store.specs.Store.{Store, bars, file_named}
use Rattle.f11_store.specs.declared.callers.Uic.{Uic}
use Rattle.f11_store.specs.declared.files.Attr.{Attr}
use Rattle.f11_store.specs.declared.files.FileId.{FileId}
use Rattle.f11_store.specs.declared.files.Mode.TheVariants as mode
use Rattle.f11_store.specs.declared.protection.Right.{Right}
use Rattle.f11_store.specs.declared.protection.Right.TheVariants as right
use Rattle.f11_store.specs.declared.refusals.Refusal.TheVariants.{SystemFile, NoSuchFile, Marked, NoPrivilege, Conflict, NotDirectory}
use Rattle.f11_entries.specs.Costs.{look_cost}
use Rattle.f11_entries.specs.Looks.{Tells, IsLastBlock}
use Rattle.f11_entries.specs.declared.spot.Looked.{Looked}
use Rattle.f11_files.specs.Answers.{ReadsAtMost}
use Rattle.f11_files.specs.Operations.{attr_of}
use Rattle.f11_files.specs.image_store.StoreOf.{store_of}
use Rattle.f11_fcp.specs.Accesses.{AccessTable, is_held_in}
use Rattle.f11_fcp.specs.declared.purpose.Purpose.{Purpose}
use Rattle.f11_fcp.specs.declared.purpose.Purpose.TheVariants as purpose
use Rattle.f11_fcp.specs.declared.search.Search.{Search}

-- the right that it wants
abbrev pub right_for : Purpose → Right
right_for purpose.Look = right.Read
right_for purpose.Change = right.Write

-- the caller hasn't it
abbrev pub lacks_for_purpose : Purpose → Uic → Uic → ℕ → Bool
lacks_for_purpose p caller owner word = not (may caller owner word (right_for p))

-- an access to the directory stands against it
abbrev pub is_barred_to : Purpose → AccessTable → FileId → Bool
is_barred_to purpose.Look t d = false
is_barred_to purpose.Change t d = is_held_in (bars mode.Write) t d

-- against a change one that locks or writes
abbrev pub conflict_causes : Purpose → AccessTable → FileId → List Cause
conflict_causes purpose.Look t d = []
conflict_causes purpose.Change t d = (Conflict ⇐ is_held_in (bars mode.Write) t d) ∷ []

-- the causes against it before the records are looked at, in order
abbrev pub opening_causes : Purpose → AccessTable → Store → Uic → FileId → List Cause
opening_causes p t s caller d =
    (SystemFile ⇐ nat_lt d.number 4)
    ∷ (NoSuchFile ⇐ is_missing s d)
    ∷ (Marked ⇐ is_marked (file_named s d))
    ∷ (NoPrivilege ⇐ lacks (right_for p) caller (file_named s d))
    ∷ (conflict_causes p t d ++ ((NotDirectory ⇐ not (is_directory (file_named s d))) ∷ []))

-- A directory was opened: what its header says was read.
pub record OpensDirectory (p : Purpose) (t : AccessTable) (caller : Uic) (d : FileId) (attr : Attr) (home : HomeFields) (old new : Disk) :
    Type 0 where
  pub no_cause : IsTrue old.honest → first_of (opening_causes p t (store_of old.image home) caller d) ≡ None
  pub attr_is : IsTrue old.honest → attr ≡ attr_of (file_named (store_of old.image home) d)
  pub own : 4 ≤ d.number
  pub reads : ReadsAtMost 1 old new 0

-- Records of a directory were looked through for a name, and a block of it is in hand.
pub record LooksThroughDirectory (home : HomeFields) (d : FileId) (name : List ℕ) (told : Looked) (last : List ℕ) (most : ℕ)
    (old new : Disk) : Type 0 where
  pub tells : IsTrue old.honest → Tells name (file_named (store_of old.image home) d) told
  pub last_is : IsTrue old.honest → IsLastBlock (file_named (store_of old.image home) d) told last
  pub reads : ReadsAtMost most old new 0

-- A directory was opened, and looked through for a name.
pub record Searches (p : Purpose) (t : AccessTable) (caller : Uic) (d : FileId) (name : List ℕ) (found : Search)
    (home : HomeFields) (old new : Disk) : Type 0 where
  pub no_cause : IsTrue old.honest → first_of (opening_causes p t (store_of old.image home) caller d) ≡ None
  pub attr_is : IsTrue old.honest → found.attr ≡ attr_of (file_named (store_of old.image home) d)
  pub length_is : IsTrue old.honest → found.length ≡ length_of (file_named (store_of old.image home) d)
  pub count_is : IsTrue old.honest → found.count ≡ entry_count (file_named (store_of old.image home) d)
  pub tells : IsTrue old.honest → Tells name (file_named (store_of old.image home) d) found.looked
  pub last_is : IsTrue old.honest → IsLastBlock (file_named (store_of old.image home) d) found.looked found.last
  pub own : 4 ≤ d.number
  pub reads : ReadsAtMost (look_cost (file_named (store_of old.image home) d)) old new 0

-- a directory that is there and has so many records
pub record IsDirectoryOf (count : ℕ) (s : Store) (d : FileId) : Type 0 where
  pub there : is_missing s d ≡ false
  pub count_is : entry_count (file_named s d) ≡ count
