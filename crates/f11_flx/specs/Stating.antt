-- In what order a file is made that gets its attributes once it is filled, whatever it is that answers, on any device (profile).
use Rattle.std.specs.Prelude.{◌≡◌, ℕ, List, [], ◌∷◌, ◌++◌, All}
use Rattle.f11_store.specs.Ident.{ident_with}
use Rattle.f11_store.specs.declared.files.FileId.{FileId}
use Rattle.f11_store.specs.declared.files.Mode.TheVariants as access
use Rattle.f11_store.specs.declared.requests.Request.{Request}
use Rattle.f11_store.specs.declared.requests.Request.TheVariants as request
use Rattle.f11_making.specs.Asking.{Asking, FilesService, Granted, Tried, Who, asks, counts, reads, told, writes}
use Rattle.f11_making.specs.Making.{Making, creation, filling, opening}
use Rattle.f11_making.specs.AsksFor.{SetsPart}

-- what fills a file: it is accessed by this lun, gets its blocks, and is given up, or deleted again
abbrev pub FillsBy : ℕ → FileId → Request → Type 0
FillsBy lun id (request.Access f mode l) = (f ≡ id) × (mode ≡ access.Write) × (l ≡ lun)
FillsBy lun id (request.Extend l n) = l ≡ lun
FillsBy lun id (request.Deaccess l) = l ≡ lun
FillsBy lun id (request.Delete f) = f ≡ id
FillsBy lun id _ = ⊥

abbrev pub IsFilling : ℕ → FileId → Asking → Type 0
IsFilling lun id (asks r) = FillsBy lun id r
IsFilling lun id (told r reply) = ⊥
IsFilling lun id (reads l vbn block) = ⊥
IsFilling lun id (writes l vbn block) = l ≡ lun
IsFilling lun id (counts l blocks) = ⊥

-- what finishes it: it gets its attributes, is entered into its directory under its name, and protected, or deleted again
abbrev pub FinishesBy : Making → FileId → Request → Type 0
FinishesBy making id (request.WriteAttr f c) = (f ≡ id) × SetsPart making.protection making.stated c
FinishesBy making id (request.Enter d name f) = (d ≡ making.directory) × (name ≡ making.name) × (f ≡ id)
FinishesBy making id (request.Delete f) = f ≡ id
FinishesBy making id _ = ⊥

abbrev pub IsFinishing : Making → FileId → Asking → Type 0
IsFinishing making id (asks r) = FinishesBy making id r
IsFinishing making id (told r reply) = ⊥
IsFinishing making id (reads lun vbn block) = ⊥
IsFinishing making id (writes lun vbn block) = ⊥
IsFinishing making id (counts lun blocks) = ⊥

-- A file was created with its first attributes, and nothing was asked then but what fills it, whatever was answered.
pub record AsksFilling {V : Type 0} (S : FilesService V) (who : Who) (lun : ℕ) (making : Making) (old new : V) : Type 0 where
  pub id : FileId
  pub created : V
  pub creates : Granted S who (creation making id) old created
  pub asked : List Asking
  pub tried : Tried S who asked created new
  pub only : All (IsFilling lun id) asked

-- It was created and filled with blocks that are such, all that was granted, and nothing was asked then but what finishes it.
pub record AsksFinishing {V : Type 0} (S : FilesService V) (who : Who) (lun : ℕ) (making : Making) (AreSuch : List (List ℕ) → Type 0)
    (old new : V) : Type 0 where
  pub id : FileId
  pub pieces : List (List ℕ)
  pub are_such : AreSuch pieces
  pub filled : V
  pub fills : Granted S who (creation making id ++ (opening lun id ++ filling lun pieces)) old filled
  pub asked : List Asking
  pub tried : Tried S who asked filled new
  pub only : All (IsFinishing making id) asked

-- A file was to be made whose attributes are stated once it is filled with blocks that are such: nothing was asked; or its creation alone;
-- or what fills it, and no attributes were set; or it was filled, and then what finishes it was asked.
pub data AsksInOrder {V : Type 0} (S : FilesService V) (who : Who) (lun : ℕ) (making : Making) (AreSuch : List (List ℕ) → Type 0)
    (old new : V) : Type 0 where
  unasked : new ≡ old → AsksInOrder S who lun making AreSuch old new
  creating : Tried S who (asks (request.Create 0 (ident_with making.name) making.attr) ∷ []) old new
      → AsksInOrder S who lun making AreSuch old new
  unfinished : AsksFilling S who lun making old new → AsksInOrder S who lun making AreSuch old new
  finishing : AsksFinishing S who lun making AreSuch old new → AsksInOrder S who lun making AreSuch old new
