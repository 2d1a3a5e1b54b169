-- What is asked where a file is made, and what undoes it (profile).
use Rattle.std.specs.Prelude.{◌⊎◌, ℕ, ◌==◌, true, false, if◌then◌else◌, List, [], ◌∷◌, ◌++◌, length, Option, Some, None, unwrap_or, Bool}
use Rattle.f11_store.specs.Changes.{with_slots_first}
use Rattle.f11_store.specs.Ident.{ident_with}
use Rattle.f11_store.specs.Step.{next_id}
use Rattle.f11_store.specs.Store.{Store}
use Rattle.f11_store.specs.declared.files.Change.TheVariants as change
use Rattle.f11_store.specs.declared.files.FileId.{FileId}
use Rattle.f11_store.specs.declared.files.Mode.TheVariants as mode
use Rattle.f11_store.specs.declared.refusals.Refusal.{Refusal}
use Rattle.f11_store.specs.declared.requests.Reply.TheVariants as reply
use Rattle.f11_store.specs.declared.requests.Request.TheVariants as request
use Rattle.f11_making.specs.Asking.{Asking, BreaksOffAsking, Granted, Who, asks, plain, told, writes_of}
use Rattle.f11_store.specs.declared.requests.Reply.{Reply}

-- the identification of the file that is created next: once there is a slot for it
abbrev pub new_id : Store → FileId
new_id s = next_id (with_slots_first s 1)

-- What is made: the file's name and the directory that it is entered into, its protection at the end, the user attributes that it is
-- created with, those that it gets once it is filled, if it gets others then, and its blocks.
pub record Making : Type 0 where
  pub name : List ℕ
  pub directory : FileId
  pub protection : ℕ
  pub attr : List ℕ
  pub stated : Option (List ℕ)
  pub blocks : List (List ℕ)

-- its user attributes at the end
abbrev pub final_attr : Making → List ℕ
final_attr making = unwrap_or making.stated making.attr

-- the requests of the Files-11 volume: the file is created, with its name in the ident area, and nothing barred;
abbrev pub creation : Making → FileId → List Asking
creation making id = told (request.Create 0 (ident_with making.name) making.attr) (reply.Created id) ∷ []

-- it is accessed,
abbrev pub opening : ℕ → FileId → List Asking
opening lun id = asks (request.Access id mode.Write lun) ∷ []

-- gets its blocks, which are written, and is given up;
abbrev pub filling : ℕ → List (List ℕ) → List Asking
filling lun blocks =
    (if length blocks == 0 then [] else asks (request.Extend lun (length blocks)) ∷ []) ++
    (writes_of lun 0 blocks ++ asks (request.Deaccess lun) ∷ [])

-- it gets its attributes, if others than it was created with;
abbrev pub stating : Option (List ℕ) → FileId → List Asking
stating None id = []
stating (Some attr) id = asks (request.WriteAttr id (change.Attr attr)) ∷ []

-- its name is entered, and it gets its protection
abbrev pub naming : Making → FileId → List Asking
naming making id =
    asks (request.Enter making.directory making.name id) ∷ asks (request.WriteAttr id (change.Protect making.protection)) ∷ []

abbrev pub entry : Making → FileId → List Asking
entry making id = stating making.stated id ++ naming making id

-- all of them
abbrev pub making_of : Making → ℕ → FileId → List Asking
making_of making lun id = creation making id ++ (opening lun id ++ (filling lun making.blocks ++ entry making id))

-- what undoes them: the file is given up, and deleted
abbrev pub giving_up : ℕ → List Asking
giving_up lun = asks (request.Deaccess lun) ∷ []

abbrev pub deletion : FileId → List Asking
deletion id = asks (request.Delete id) ∷ []

-- Some were granted, and then one of others was refused; what undoes the first ones was granted then.
pub record Undoes (who : Who) (before broken undone : List Asking) (e : Refusal) (s s' : Store) : Type 0 where
  pub reached : Store
  pub left : Store
  pub granted : Granted plain who before s reached
  pub breaks : BreaksOffAsking plain who broken e reached left
  pub undoes : Granted plain who undone left s'

-- the making is refused as the first request is that is refused, and what was made is undone
abbrev pub FailsToMakeFile : Making → Who → ℕ → FileId → Refusal → Store → Store → Type 0
FailsToMakeFile making who lun id e s s' =
    (Undoes who [] (creation making id) [] e s s')
    ⊎ ((Undoes who (creation making id) (opening lun id) (deletion id) e s s')
    ⊎ ((Undoes who (creation making id ++ opening lun id) (filling lun making.blocks) (giving_up lun ++ deletion id) e s s')
    ⊎ (Undoes who (creation making id ++ (opening lun id ++ filling lun making.blocks)) (entry making id) (deletion id) e s s')))

-- what is to be made of it, with this name in a directory, and this protection
abbrev pub as_file : List ℕ → FileId → ℕ → List ℕ → List (List ℕ) → Making
as_file to dir protection attr blocks =
    record { name = to; directory = dir; protection = protection; attr = attr; stated = None; blocks = blocks }

-- what is to be made with these attributes once it is filled, and with those first
abbrev pub as_stated : List ℕ → FileId → ℕ → List ℕ → List ℕ → List (List ℕ) → Making
as_stated to dir protection first attr blocks =
    record { name = to; directory = dir; protection = protection; attr = first; stated = Some attr; blocks = blocks }

-- so many blocks are allocated, where there are any;
abbrev pub extension : ℕ → ℕ → List Asking
extension lun n = if n == 0 then [] else asks (request.Extend lun n) ∷ []

-- they are written, and the file is given up
abbrev pub filling_of : ℕ → ℕ → List (List ℕ) → List Asking
filling_of lun n pieces = extension lun n ++ (writes_of lun 0 pieces ++ giving_up lun)

-- a reply to Create
abbrev pub is_created : Reply → Bool
is_created (reply.Created id) = true
is_created _ = false
