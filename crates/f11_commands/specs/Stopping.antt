-- What stands on a Files-11 volume where a transfer of it failed while a file was made (profile).
use Rattle.std.specs.Prelude.{◌≡◌, ◌⊎◌, ℕ, ◌==◌, ◌&&◌, ◌++◌, Bool, false, List, All, Option, Some, None}
use Rattle.f11_dev.specs.Disk.{Disk}
use Rattle.f11_dev.specs.Image.{Image}
use Rattle.f11_dev.specs.Went.{newest}
use Rattle.f11_serving.specs.fcp.Accesses.{AccessTable, held_in}
use Rattle.f11_making.specs.Asking.{Asking, Grants, Tried, asks, counts, plain, reads, told, writes}
use Rattle.f11_making.specs.Making.{new_id}
use Rattle.f11_making.specs.AsksFor.{Creates, IsMakingOf}
use Rattle.f11_store.specs.File.{File, end_of}
use Rattle.f11_store.specs.Lags.{Lags}
use Rattle.f11_store.specs.Store.{Store}
use Rattle.f11_store.specs.declared.callers.Uic.{Uic}
use Rattle.f11_store.specs.declared.files.FileId.{FileId}
use Rattle.f11_store.specs.declared.requests.Reply.TheVariants as reply
use Rattle.f11_store.specs.declared.requests.Request.{Request}
use Rattle.f11_store.specs.declared.requests.Request.TheVariants as request
use Rattle.f11_commands.specs.Copying.{FindsName, directory_name, master_directory, operator}
use Rattle.f11_commands.specs.PutSlots.{AsksForSlots, slots_before}
use Rattle.f11_commands.specs.declared.copy.Direction.{Direction}
use Rattle.f11_commands.specs.declared.copy.Direction.TheVariants.{ToRt, FromRt}
use Rattle.f11_commands.specs.declared.put.Putting.{Putting}

-- a store lags the one before by a request, with some block lent,
abbrev pub LagsRequest : Request → Store → Store → Type 0
LagsRequest r t s = (lent : List ℕ) × Lags t s operator.task operator.caller r lent

-- or by what was asked
abbrev pub LagsAsked : Asking → Store → Store → Type 0
LagsAsked (asks r) t s = LagsRequest r t s
LagsAsked (told r a) t s = LagsRequest r t s
LagsAsked (reads lun vbn block) t s = LagsRequest (request.ReadBlock lun vbn) t s
LagsAsked (writes lun vbn block) t s = Lags t s operator.task operator.caller (request.WriteBlock lun vbn) block
LagsAsked (counts lun blocks) t s = ⊥

-- What was asked was stopped: nothing of it was begun, and with what tasks held the store is the one before; or it lags that one, with some
-- first parts done, or all, and blocks and slots lost that it may take.
pub data IsStopped (x : Asking) (s t : Store) : Type 0 where
  not_begun : (held : AccessTable) → s ≡ held_in held t → IsStopped x s t
  in_part : LagsAsked x t s → IsStopped x s t

-- A file was created, and something was stopped of what makes it in a directory under a name. What was asked before that was granted, or
-- refused and then nothing was changed; nothing was done behind it.
pub record StopsAfterCreation (dir : FileId) (to : List ℕ) (stated : Option (List ℕ)) (s t : Store) : Type 0 where
  pub request : Request
  pub creates : Creates to request
  pub id : FileId
  pub created : Store
  pub granted : Grants plain operator (told request (reply.Created id)) s created
  pub asked : List Asking
  pub reached : Store
  pub tried : Tried plain operator asked created reached
  pub only : All (IsMakingOf 0 dir to 0 stated id) asked
  pub last : Asking
  pub is : IsMakingOf 0 dir to 0 stated id last
  pub stopped : IsStopped last reached t

-- where the making of a file was stopped: at its creation, or behind that
pub data StopsAt (dir : FileId) (to : List ℕ) (stated : Option (List ℕ)) (s t : Store) : Type 0 where
  creating : (r : Request) → Creates to r → IsStopped (asks r) s t → StopsAt dir to stated s t
  after_creation : StopsAfterCreation dir to stated s t → StopsAt dir to stated s t

-- the file with this number and sequence number is the directory
abbrev pub is_directory_of : FileId → ℕ → ℕ → Bool
is_directory_of dir n sequence = (n == dir.number) && (sequence == dir.sequence)

-- each file that was there is as it was, but a directory and the index file
abbrev pub KeepsOthers : FileId → Store → Store → Type 0
KeepsOthers dir s t =
    (n : ℕ) (f : File) → s.file n ≡ Some f → is_directory_of dir n f.sequence ≡ false → (n == 1) ≡ false → t.file n ≡ Some f

-- A file was being made in a directory under a name: that was stopped, and no other file is changed, but the directory and the index file.
pub record StopsFile (dir : FileId) (to : List ℕ) (stated : Option (List ℕ)) (s t : Store) : Type 0 where
  pub stops : StopsAt dir to stated s t
  pub others : KeepsOthers dir s t

-- so of a file that is created with its attributes,
abbrev pub StopsMaking : FileId → List ℕ → Store → Store → Type 0
StopsMaking dir to s t = StopsFile dir to None s t

-- the file that is created next ends at its beginning, or its blocks are such; it isn't its directory
abbrev pub EndsWhole : FileId → (List (List ℕ) → Type 0) → Store → Store → Type 0
EndsWhole dir AreSuch s t =
    ((new_id s).number == dir.number) ≡ false → (f : File) → t.file (new_id s).number ≡ Some f → (end_of f ≡ 0) ⊎ (AreSuch f.blocks)

-- A file that gets its attributes once it is filled was being made in a directory under a name: that was stopped, no other file is changed,
-- but the directory and the index file, and the one that was made has an end only where it was filled with blocks that are such.
pub record StopsPutting (dir : FileId) (to : List ℕ) (AreSuch : List (List ℕ) → Type 0) (s t : Store) : Type 0 where
  pub attr : List ℕ
  pub stops : StopsFile dir to (Some attr) s t
  pub whole : EndsWhole dir AreSuch s t

-- all files are as they were
abbrev pub KeepsFiles : Store → Store → Type 0
KeepsFiles s t = (n : ℕ) → t.file n ≡ s.file n

-- A file was to be made under a name in the directory with one: the look for the directory was stopped, and all files are as they were; or
-- the making of the file was, in the directory that was found.
pub data StopsBelow (directory : List ℕ) (Stops : FileId → Store → Store → Type 0) (s t : Store) : Type 0 where
  seeking : IsStopped (asks (request.Find master_directory directory)) s t → KeepsFiles s t → StopsBelow directory Stops s t
  making : (dir : FileId) (found : Store) → FindsName master_directory directory dir s found → Stops dir found t
      → StopsBelow directory Stops s t

-- so of a copy,
abbrev pub StopsNamed : List ℕ → List ℕ → Store → Store → Type 0
StopsNamed directory name s t = StopsBelow directory (λ dir. StopsMaking dir name) s t

-- all files are as they were, but the index file
abbrev pub KeepsButIndex : Store → Store → Type 0
KeepsButIndex s t = (n : ℕ) → (n == 1) ≡ false → t.file n ≡ s.file n

-- So many slots were asked for first, where there are any: that was stopped, and no file is changed but the index file; or it was granted
-- or refused, and what followed was stopped.
pub data StopsBehindSlots (n : ℕ) (Stops : Store → Store → Type 0) (s t : Store) : Type 0 where
  growing : IsStopped (asks (request.GrowIndex n)) s t → KeepsButIndex s t → StopsBehindSlots n Stops s t
  grown : (ready : Store) → AsksForSlots plain n s ready → Stops ready t → StopsBehindSlots n Stops s t

-- so of a file of the host that is made in a directory, and gets slots first,
abbrev pub StopsInto : Putting → (List (List ℕ) → Type 0) → FileId → Store → Store → Type 0
StopsInto p AreSuch dir s t = StopsBehindSlots (slots_before p.blocks s) (StopsPutting dir p.name AreSuch) s t

-- and where the directory is looked for
abbrev pub StopsPut : Putting → (List (List ℕ) → Type 0) → Store → Store → Type 0
StopsPut p AreSuch s t = StopsBelow p.directory (StopsInto p AreSuch) s t

-- nobody holds an access
abbrev pub IsUnheld : Store → Type 0
IsUnheld s = (task lun : ℕ) → s.access task lun ≡ None

-- if so, stores are related as this says
abbrev pub WhereUnheld : (Store → Store → Type 0) → Store → Store → Type 0
WhereUnheld Stops s t = IsUnheld s → Stops s t

-- a copy between a directory and an RT-11 volume was stopped by the Files-11 one: where that is copied from, all files are as they were;
-- else the making of the copy was stopped
abbrev pub StopsWithin : Direction → FileId → List ℕ → Store → Store → Type 0
StopsWithin ToRt dir name s t = KeepsFiles s t
StopsWithin FromRt dir name s t = StopsMaking dir name s t

-- and so one of names
abbrev pub StopsCopy : Direction → Uic → List ℕ → Store → Store → Type 0
StopsCopy ToRt user name s t = KeepsFiles s t
StopsCopy FromRt user name s t = StopsNamed (directory_name user) name s t

-- P holds of each image that stood meanwhile: of `since`, the newest first, whose newest stands at the end.
pub record Stood (P : Image → Type 0) (old new : Disk) : Type 0 where
  pub since : List Image
  pub history : new.history ≡ since ++ old.history
  pub image : new.image ≡ newest since old.image
  pub each : All P since
