-- What making a file from a source of blocks asks, as the copy of a file of an RT-11 volume, and what undoes it, whatever it is that
-- answers, on any device (profile).
use Rattle.std.specs.Prelude.{◌≡◌, ◌⊎◌, ℕ, Bool, true, false, if◌then◌else◌, List, ◌++◌, length, None}
use Rattle.f11_dev.specs.Disk.{Disk}
use Rattle.f11_dev.specs.declared.device.Device.{Ghosts}
use Rattle.f11_store.specs.Ident.{ident_with}
use Rattle.f11_store.specs.Store.{Store}
use Rattle.f11_store.specs.declared.files.FileId.{FileId}
use Rattle.f11_store.specs.declared.files.Mode.TheVariants as access
use Rattle.f11_store.specs.declared.refusals.Refusal.{Refusal}
use Rattle.f11_store.specs.declared.requests.Request.{Request}
use Rattle.f11_store.specs.declared.requests.Request.TheVariants as request
use Rattle.rt11_volume.specs.declared.refusal.RtRefusal.{RtRefusal}
use Rattle.rt11_volume.specs.declared.volume.RtAccepted.{RtAccepted}
use Rattle.f11_making.specs.Asking.{BreaksOffAsking, Denies, Fails, Granted, Grants, FilesService, Who, asks, plain, writes_of}
use Rattle.f11_flx.specs.Conversion.{copied_from_rt}
use Rattle.f11_making.specs.Making.{Making, creation, deletion, entry, giving_up, opening, extension, filling_of, is_created}
use Rattle.f11_flx.specs.Passes.{IsCopied, OfEach}
use Rattle.f11_flx.specs.Refusal.{is_lethal}
use Rattle.f11_flx.specs.RtSource.{ReadsRtBlocks, StopsReadingRt}
use Rattle.f11_flx.specs.declared.mode.CopyMode.{CopyMode}
use Rattle.f11_flx.specs.declared.refusal.FlxRefusal.{FlxRefusal}
use Rattle.f11_flx.specs.declared.refusal.FlxRefusal.TheVariants as refusal

-- What undoes something was asked, and the refusal that is answered then: that of what is undone, or a device fault or Damaged
-- met in undoing.
pub record IsUndenied {V : Type 0} (S : FilesService V) (who : Who) (r : Request) (f f' : FlxRefusal) (old new : V) : Type 0 where
  pub granted : Grants S who (asks r) old new
  pub same : f' ≡ f

pub record IsDeniedUndoing {V : Type 0} (S : FilesService V) (who : Who) (r : Request) (f f' : FlxRefusal) (old new : V) : Type 0 where
  pub e : Refusal
  pub denied : Denies S who (asks r) e old new
  pub answer : f' ≡ (if is_lethal (refusal.Files e) then refusal.Files e else f)

abbrev pub UndoingIf : {V : Type 0} → Bool → FilesService V → Who → Request → FlxRefusal → FlxRefusal → V → V → Type 0
UndoingIf true S who r f f' old new = (f' ≡ f) × (new ≡ old)
UndoingIf false S who r f f' old new = (IsUndenied S who r f f' old new) ⊎ (IsDeniedUndoing S who r f f' old new)

-- unless a device fault or Damaged was met before: then nothing is asked
abbrev pub Undoing : {V : Type 0} → FilesService V → Who → Request → FlxRefusal → FlxRefusal → V → V → Type 0
Undoing S who r f f' old new = UndoingIf (is_lethal f) S who r f f' old new

-- A file that is accessed wasn't filled: something that was asked for that was refused, or what was asked was granted, and no more came of
-- the source.
abbrev pub IsBrokenOff : {V : Type 0} → FilesService V → Who → ℕ → ℕ → FlxRefusal → V → V → Type 0
IsBrokenOff S who lun n (refusal.Files e) old new = (pieces : List (List ℕ)) × BreaksOffAsking S who (filling_of lun n pieces) e old new
IsBrokenOff S who lun n (refusal.Rt e) old new =
    (pieces : List (List ℕ)) × Granted S who (extension lun n ++ writes_of lun 0 pieces) old new
IsBrokenOff S who lun n refusal.BadRecord old new =
    (pieces : List (List ℕ)) × Granted S who (extension lun n ++ writes_of lun 0 pieces) old new
IsBrokenOff S who lun n refusal.LineTooLong old new =
    (pieces : List (List ℕ)) × Granted S who (extension lun n ++ writes_of lun 0 pieces) old new
IsBrokenOff S who lun n refusal.Unread old new =
    (pieces : List (List ℕ)) × Granted S who (extension lun n ++ writes_of lun 0 pieces) old new

-- What is asked of the volume where a file that is accessed is filled from a source with so many blocks, and where that fails, whatever the
-- source is.
pub record AsksToFill {V H : Type 0} (S : FilesService V) (who : Who) (lun n : ℕ) (Fills : H → H → V → V → Type 0)
    (Fails : FlxRefusal → H → H → V → V → Type 0) : Type 0 where
  pub fills : (source source' : H) (old new : V) → Fills source source' old new →
      (pieces : List (List ℕ)) × Granted S who (filling_of lun n pieces) old new
  pub fails : (f : FlxRefusal) (source source' : H) (old new : V) → Fails f source source' old new → IsBrokenOff S who lun n f old new

-- The file was read, and the blocks of its copy were written to the file that is accessed, which was given up.
pub record FillsFromRt {V E : Type 0} {met : Ghosts E} (S : FilesService V) (disk : E → Disk) (m : CopyMode) (who : Who) (lun : ℕ)
    (name : List ℕ)
    (many n : ℕ) (rt rt' : RtAccepted E met) (old new : V) : Type 0 where
  pub source : List (List ℕ)
  pub reads : ReadsRtBlocks disk name source rt rt'
  pub count : length source ≡ many
  pub pieces : List (List ℕ)
  pub attr : List ℕ
  pub copied : IsCopied m source pieces attr
  pub granted : Granted S who (filling_of lun n pieces) old new

-- Something that was asked for that was refused.
pub record BreaksFilling {V E : Type 0} {met : Ghosts E} (S : FilesService V) (disk : E → Disk) (m : CopyMode) (who : Who) (lun : ℕ)
    (name : List ℕ) (many n : ℕ) (e : Refusal) (rt rt' : RtAccepted E met) (old new : V) : Type 0 where
  pub source : List (List ℕ)
  pub reads : ReadsRtBlocks disk name source rt rt'
  pub pieces : List (List ℕ)
  pub breaks : BreaksOffAsking S who (filling_of lun n pieces) e old new
  pub whole : OfEach m many source (λ contents. (full : List (List ℕ)) (attr : List ℕ) → IsCopied m contents full attr →
      BreaksOffAsking S who (filling_of lun n full) e old new)

-- A block of the RT-11 file wasn't read.
pub record LacksBlock {V E : Type 0} {met : Ghosts E} (S : FilesService V) (disk : E → Disk) (who : Who) (lun : ℕ) (name : List ℕ)
    (many n : ℕ) (e : RtRefusal) (rt rt' : RtAccepted E met) (old new : V) : Type 0 where
  pub pieces : List (List ℕ)
  pub granted : Granted S who (extension lun n ++ writes_of lun 0 pieces) old new
  pub stops : StopsReadingRt disk name many e rt rt'

-- It has no copy.
pub record LacksCopy {V E : Type 0} {met : Ghosts E} (S : FilesService V) (disk : E → Disk) (m : CopyMode) (who : Who) (lun : ℕ)
    (name : List ℕ)
    (many n : ℕ) (rt rt' : RtAccepted E met) (old new : V) : Type 0 where
  pub source : List (List ℕ)
  pub reads : ReadsRtBlocks disk name source rt rt'
  pub pieces : List (List ℕ)
  pub granted : Granted S who (extension lun n ++ writes_of lun 0 pieces) old new
  pub none : OfEach m many source (λ contents. copied_from_rt m contents ≡ None)

abbrev pub FailsToFillFromRt : {V E : Type 0} {met : Ghosts E} → FilesService V → (E → Disk) → CopyMode → Who → ℕ → List ℕ → ℕ → ℕ
    → FlxRefusal →
    RtAccepted E met → RtAccepted E met → V → V → Type 0
FailsToFillFromRt S disk m who lun name many n (refusal.Files e) rt rt' old new =
    BreaksFilling S disk m who lun name many n e rt rt' old new
FailsToFillFromRt S disk m who lun name many n (refusal.Rt e) rt rt' old new = LacksBlock S disk who lun name many n e rt rt' old new
FailsToFillFromRt S disk m who lun name many n refusal.BadRecord rt rt' old new = ⊥
FailsToFillFromRt S disk m who lun name many n refusal.LineTooLong rt rt' old new = LacksCopy S disk m who lun name many n rt rt' old new
FailsToFillFromRt S disk m who lun name many n refusal.Unread rt rt' old new = ⊥

-- The file was accessed to be written, and filled from a source of blocks.
pub record FillsOpened {V H : Type 0} (S : FilesService V) (who : Who) (lun : ℕ) (Fills : H → H → V → V → Type 0) (id : FileId)
    (source source' : H) (old new : V) : Type 0 where
  pub between : V
  pub opened : Granted S who (opening lun id) old between
  pub fills : Fills source source' between new

-- It wasn't accessed, and nothing was read.
pub record IsNotOpened {V H : Type 0} (S : FilesService V) (who : Who) (lun : ℕ) (id : FileId) (f : FlxRefusal) (source source' : H)
    (old new : V) : Type 0 where
  pub e : Refusal
  pub is : f ≡ refusal.Files e
  pub denied : Denies S who (asks (request.Access id access.Write lun)) e old new
  pub unread : source' ≡ source

-- It was, and wasn't filled; it was given up.
pub record IsNotFilled {V H : Type 0} (S : FilesService V) (who : Who) (lun : ℕ) (Fails : FlxRefusal → H → H → V → V → Type 0)
    (id : FileId) (f' : FlxRefusal) (source source' : H) (old new : V) : Type 0 where
  pub f : FlxRefusal
  pub between : V
  pub left : V
  pub opened : Granted S who (opening lun id) old between
  pub fails : Fails f source source' between left
  pub undoes : Undoing S who (request.Deaccess lun) f f' left new

abbrev pub FailsToFillOpened : {V H : Type 0} → FilesService V → Who → ℕ → (FlxRefusal → H → H → V → V → Type 0) → FileId → FlxRefusal →
    H → H → V → V → Type 0
FailsToFillOpened S who lun Fails id f source source' old new =
    (IsNotOpened S who lun id f source source' old new) ⊎ (IsNotFilled S who lun Fails id f source source' old new)

-- the same from a file of an RT-11 volume
abbrev pub FillsFile : {V E : Type 0} {met : Ghosts E} → FilesService V → (E → Disk) → CopyMode → Who → ℕ → List ℕ → ℕ → ℕ → FileId →
    RtAccepted E met → RtAccepted E met → V → V → Type 0
FillsFile S disk m who lun name many n id rt rt' old new =
    FillsOpened S who lun (FillsFromRt S disk m who lun name many n) id rt rt' old new

abbrev pub FailsToFillFile : {V E : Type 0} {met : Ghosts E} → FilesService V → (E → Disk) → CopyMode → Who → ℕ → List ℕ → ℕ → ℕ → FileId →
    FlxRefusal → RtAccepted E met → RtAccepted E met → V → V → Type 0
FailsToFillFile S disk m who lun name many n id f rt rt' old new =
    FailsToFillOpened S who lun (FailsToFillFromRt S disk m who lun name many n) id f rt rt' old new

-- The file was made: created, filled, entered and protected.
pub record MakesFile {V H : Type 0} (S : FilesService V) (who : Who) (lun : ℕ) (Fills : H → H → V → V → Type 0) (making : Making)
    (source source' : H) (old new : V) : Type 0 where
  pub id : FileId
  pub created : V
  pub filled : V
  pub creates : Granted S who (creation making id) old created
  pub fills : FillsOpened S who lun Fills id source source' created filled
  pub enters : Granted S who (entry making id) filled new

-- It wasn't created.
pub record IsNotCreated {V H : Type 0} (S : FilesService V) (who : Who) (making : Making) (f : FlxRefusal) (source source' : H)
    (old new : V) : Type 0 where
  pub e : Refusal
  pub is : f ≡ refusal.Files e
  pub fails : Fails S who is_created (request.Create 0 (ident_with making.name) making.attr) e old new
  pub unread : source' ≡ source

-- It was, and wasn't filled; it was deleted.
pub record IsUnfilled {V H : Type 0} (S : FilesService V) (who : Who) (lun : ℕ) (Fails : FlxRefusal → H → H → V → V → Type 0)
    (making : Making) (f' : FlxRefusal) (source source' : H) (old new : V) : Type 0 where
  pub id : FileId
  pub f : FlxRefusal
  pub created : V
  pub left : V
  pub creates : Granted S who (creation making id) old created
  pub fails : FailsToFillOpened S who lun Fails id f source source' created left
  pub undoes : Undoing S who (request.Delete id) f f' left new

-- It was filled, and wasn't entered, or not protected; it was deleted.
pub record IsNotEntered {V H : Type 0} (S : FilesService V) (who : Who) (lun : ℕ) (Fills : H → H → V → V → Type 0) (making : Making)
    (f' : FlxRefusal) (source source' : H) (old new : V) : Type 0 where
  pub id : FileId
  pub e : Refusal
  pub created : V
  pub filled : V
  pub left : V
  pub creates : Granted S who (creation making id) old created
  pub fills : FillsOpened S who lun Fills id source source' created filled
  pub breaks : BreaksOffAsking S who (entry making id) e filled left
  pub undoes : Undoing S who (request.Delete id) (refusal.Files e) f' left new

abbrev pub FailsToMake : {V H : Type 0} → FilesService V → Who → ℕ → (H → H → V → V → Type 0) → (FlxRefusal → H → H → V → V → Type 0) →
    Making → FlxRefusal → H → H → V → V → Type 0
FailsToMake S who lun Fills Fails making f source source' old new =
    (IsNotCreated S who making f source source' old new)
    ⊎ ((IsUnfilled S who lun Fails making f source source' old new)
    ⊎ (IsNotEntered S who lun Fills making f source source' old new))

-- the same from a file of an RT-11 volume
abbrev pub MakesCopy : {V E : Type 0} {met : Ghosts E} → FilesService V → (E → Disk) → CopyMode → Who → ℕ → List ℕ → ℕ → ℕ → Making →
    RtAccepted E met → RtAccepted E met → V → V → Type 0
MakesCopy S disk m who lun name many n making rt rt' old new =
    MakesFile S who lun (FillsFromRt S disk m who lun name many n) making rt rt' old new

abbrev pub FailsToMakeCopy : {V E : Type 0} {met : Ghosts E} → FilesService V → (E → Disk) → CopyMode → Who → ℕ → List ℕ → ℕ → ℕ → Making →
    FlxRefusal → RtAccepted E met → RtAccepted E met → V → V → Type 0
FailsToMakeCopy S disk m who lun name many n making f rt rt' old new =
    FailsToMake S who lun (FillsFromRt S disk m who lun name many n) (FailsToFillFromRt S disk m who lun name many n) making f rt rt' old
    new

-- The source of the blocks gave no more: the file was created and accessed, so many blocks were allocated to it and some written, and then
-- it was given up and deleted.
pub record IsCutShort (making : Making) (who : Who) (lun n : ℕ) (id : FileId) (s s' : Store) : Type 0 where
  pub written : List (List ℕ)
  pub reached : Store
  pub granted : Granted plain who (creation making id ++ (opening lun id ++ (extension lun n ++ writes_of lun 0 written))) s reached
  pub undoes : Granted plain who (giving_up lun ++ deletion id) reached s'
