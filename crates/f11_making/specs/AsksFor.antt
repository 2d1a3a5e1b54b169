-- What is asked for one file, and for none (profile).
use Rattle.std.specs.Prelude.{◌≡◌, ℕ, Bool, true, false, List, [], ◌∷◌, All, ◌⊎◌, Option, Some, None}
use Rattle.f11_dev.specs.declared.device.Device.{Ghosts}
use Rattle.f11_store.specs.Ident.{ident_with}
use Rattle.f11_store.specs.declared.files.Change.{Change}
use Rattle.f11_store.specs.declared.files.Change.TheVariants as change
use Rattle.f11_store.specs.declared.files.FileId.{FileId}
use Rattle.f11_store.specs.declared.files.Mode.TheVariants as access
use Rattle.f11_store.specs.declared.requests.Reply.TheVariants as reply
use Rattle.f11_store.specs.declared.requests.Request.{Request}
use Rattle.f11_store.specs.declared.requests.Request.TheVariants as request
use Rattle.f11_fcp.specs.declared.volume.Volume.{Volume}
use Rattle.f11_making.specs.Asking.{Asking, FilesService, Grants, Tried, Who, asks, counts, reads, told, writes}
use Rattle.f11_making.specs.Volume.{of_volume}

-- only such things were asked of the volume, one after another, whatever it answered
pub record AsksOnly {D : Type 0} {met : Ghosts D} (is_one : Asking → Bool) (who : Who) (old new : Volume D met) : Type 0 where
  pub asked : List Asking
  pub tried : Tried of_volume who asked old new
  pub only : All (λ x. is_one x ≡ true) asked

-- what a copy to RT-11 asks: that a file is accessed, that its attributes and blocks are read, and that it is given up
abbrev pub is_reading_request : Request → Bool
is_reading_request (request.Access id mode lun) = true
is_reading_request (request.ReadAttr id) = true
is_reading_request (request.Deaccess lun) = true
is_reading_request _ = false

abbrev pub is_reading : Asking → Bool
is_reading (asks r) = is_reading_request r
is_reading (told r reply) = is_reading_request r
is_reading (reads lun vbn block) = true
is_reading (writes lun vbn block) = false
is_reading (counts lun blocks) = true

-- how the attributes of a file that is made are set: it is protected so, and gets these user attributes where it is created with others
abbrev pub SetsPart : ℕ → Option (List ℕ) → Change → Type 0
SetsPart protection None c = c ≡ change.Protect protection
SetsPart protection (Some attr) c = (c ≡ change.Protect protection) ⊎ (c ≡ change.Attr attr)

-- what making a file asks once it is created: it is accessed by this lun, gets its blocks, and is given up, gets its attributes, is entered
-- into this directory under the name, protected so, or deleted again;
abbrev pub MakesBy : ℕ → FileId → List ℕ → ℕ → Option (List ℕ) → FileId → Request → Type 0
MakesBy lun dir to protection stated id (request.Access f mode l) = (f ≡ id) × (mode ≡ access.Write) × (l ≡ lun)
MakesBy lun dir to protection stated id (request.Extend l n) = l ≡ lun
MakesBy lun dir to protection stated id (request.Deaccess l) = l ≡ lun
MakesBy lun dir to protection stated id (request.Enter d name f) = (d ≡ dir) × (name ≡ to) × (f ≡ id)
MakesBy lun dir to protection stated id (request.WriteAttr f c) = (f ≡ id) × SetsPart protection stated c
MakesBy lun dir to protection stated id (request.Delete f) = f ≡ id
MakesBy lun dir to protection stated id _ = ⊥

abbrev pub IsMakingOf : ℕ → FileId → List ℕ → ℕ → Option (List ℕ) → FileId → Asking → Type 0
IsMakingOf lun dir to protection stated id (asks r) = MakesBy lun dir to protection stated id r
IsMakingOf lun dir to protection stated id (told r a) = ⊥
IsMakingOf lun dir to protection stated id (reads l vbn block) = ⊥
IsMakingOf lun dir to protection stated id (writes l vbn block) = l ≡ lun
IsMakingOf lun dir to protection stated id (counts l blocks) = ⊥

-- the request that creates it, with this name and barring nobody
abbrev pub Creates : List ℕ → Request → Type 0
Creates to (request.Create word ident attr) = (word ≡ 0) × (ident ≡ ident_with to)
Creates to _ = ⊥

-- A file was created, and nothing was asked then but what makes that one, whatever was answered.
pub record AsksOfCreated {V : Type 0} (S : FilesService V) (who : Who) (lun : ℕ) (dir : FileId) (to : List ℕ) (protection : ℕ)
    (stated : Option (List ℕ)) (old new : V) : Type 0 where
  pub request : Request
  pub creates : Creates to request
  pub id : FileId
  pub created : V
  pub granted : Grants S who (told request (reply.Created id)) old created
  pub asked : List Asking
  pub only : All (IsMakingOf lun dir to protection stated id) asked
  pub tried : Tried S who asked created new

-- What makes one file was asked and nothing else: nothing at all; that it is created, alone; or what makes it, once it was created. What is
-- asked by the lun is for it where the lun held no other file.
pub data AsksForFile {V : Type 0} (S : FilesService V) (who : Who) (lun : ℕ) (dir : FileId) (to : List ℕ) (protection : ℕ)
    (stated : Option (List ℕ)) (old new : V) : Type 0 where
  nothing : new ≡ old → AsksForFile S who lun dir to protection stated old new
  creation : (r : Request) → Creates to r → Tried S who (asks r ∷ []) old new → AsksForFile S who lun dir to protection stated old new
  making : AsksOfCreated S who lun dir to protection stated old new → AsksForFile S who lun dir to protection stated old new

-- so of one that is created with its attributes
abbrev pub AsksForOne : {V : Type 0} → FilesService V → Who → ℕ → FileId → List ℕ → ℕ → V → V → Type 0
AsksForOne S who lun dir to protection old new = AsksForFile S who lun dir to protection None old new
