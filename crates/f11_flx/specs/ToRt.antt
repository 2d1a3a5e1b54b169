-- What a copy to an RT-11 volume does, step by step, on any devices (profile).
use Rattle.std.specs.Prelude.{◌≡◌, ◌⊎◌, ℕ, true, false, List, [], ◌∷◌}
use Rattle.f11_dev.specs.Disk.{Disk}
use Rattle.f11_dev.specs.declared.device.Device.{Ghosts}
use Rattle.f11_store.specs.declared.files.FileId.{FileId}
use Rattle.f11_store.specs.declared.files.Mode.TheVariants as mode
use Rattle.f11_store.specs.declared.refusals.Refusal.{Refusal}
use Rattle.f11_store.specs.declared.requests.Request.TheVariants as request
use Rattle.rt11_volume.specs.Files.{is_fault}
use Rattle.rt11_volume.specs.declared.refusal.RtRefusal.{RtRefusal}
use Rattle.rt11_volume.specs.declared.volume.RtAccepted.{RtAccepted}
use Rattle.f11_making.specs.Asking.{Denies, Grants, FilesService, Who, asks}
use Rattle.f11_flx.specs.Filling.{Refusing, TakingBlocks}
use Rattle.f11_flx.specs.Refusal.{is_lethal}
use Rattle.f11_flx.specs.Source.{CopiesAs, FailsAs, TellsNothing, TellsSource, up_to_end}
use Rattle.f11_flx.specs.Target.{DeletesRtFile, FailsDeleting, FailsMaking, Makes, Puts, RefusesBlock}
use Rattle.f11_flx.specs.declared.mode.CopyMode.{CopyMode}
use Rattle.f11_flx.specs.declared.mode.CopyMode.TheVariants.{Image, Text}
use Rattle.f11_flx.specs.declared.refusal.FlxRefusal.{FlxRefusal}
use Rattle.f11_flx.specs.declared.refusal.FlxRefusal.TheVariants.{Files, Rt}
use Rattle.f11_flx.specs.declared.target.Nowhere.{Nowhere}

-- how an RT-11 volume takes a block
abbrev pub rt_takes : {E : Type 0} {met : Ghosts E} → (E → Disk) → TakingBlocks (RtAccepted E met)
rt_takes disk name place block old new = Puts disk name place (block ∷ []) old new

abbrev pub rt_refuses : {E : Type 0} {met : Ghosts E} → (E → Disk) → Refusing (RtAccepted E met)
rt_refuses disk name place block e old new = RefusesBlock disk name place e old new

-- and how one is taken that is kept nowhere
abbrev pub nowhere_takes : TakingBlocks Nowhere
nowhere_takes name place block old new = new ≡ old

abbrev pub nowhere_refuses : Refusing Nowhere
nowhere_refuses name place block e old new = ⊥

-- The blocks of the copy were counted.
abbrev pub CountsAs : {V : Type 0} → CopyMode → FilesService V → Who → ℕ → List ℕ → List ℕ → ℕ → ℕ → V → V → Type 0
CountsAs Image S who lun name attr blocks count old new = (count ≡ up_to_end attr blocks) × (new ≡ old)
CountsAs Text S who lun name attr blocks count old new =
    (t : Nowhere) × (t' : Nowhere) × (CopiesAs Text S nowhere_takes who lun name attr blocks count old new t t')

abbrev pub FailsToCountAs : {V : Type 0} → CopyMode → FilesService V → Who → ℕ → List ℕ → List ℕ → ℕ → FlxRefusal → V → V → Type 0
FailsToCountAs Image S who lun name attr blocks e old new = ⊥
FailsToCountAs Text S who lun name attr blocks e old new =
    (t : Nowhere) × (t' : Nowhere) × (FailsAs Text S nowhere_takes nowhere_refuses who lun name attr blocks e old new t t')

-- The file was deleted, unless a device fault or Damaged had been met.
pub record LeavesIt {V : Type 0} (e answer : FlxRefusal) (old new : V) : Type 0 where
  pub lethal : is_lethal e ≡ true
  pub same : answer ≡ e
  pub stays : new ≡ old

pub record DeletesIt {E : Type 0} {met : Ghosts E} (disk : E → Disk) (name : List ℕ) (e answer : FlxRefusal)
    (old new : RtAccepted E met) : Type 0 where
  pub clean : is_lethal e ≡ false
  pub same : answer ≡ e
  pub deleted : DeletesRtFile disk name old new

pub record FailsToDeleteIt {E : Type 0} {met : Ghosts E} (disk : E → Disk) (name : List ℕ) (e answer : FlxRefusal)
    (old new : RtAccepted E met) : Type 0 where
  pub clean : is_lethal e ≡ false
  pub refusal : RtRefusal
  pub refused : FailsDeleting disk name refusal old new
  pub answer_is : ((is_fault refusal ≡ true) × (answer ≡ Rt refusal)) ⊎ ((is_fault refusal ≡ false) × (answer ≡ e))

abbrev pub UndoesToRt : {E : Type 0} {met : Ghosts E} → (E → Disk) → List ℕ → FlxRefusal → FlxRefusal → RtAccepted E met →
    RtAccepted E met → Type 0
UndoesToRt disk name e answer old new =
    (LeavesIt e answer old new) ⊎ ((DeletesIt disk name e answer old new) ⊎ (FailsToDeleteIt disk name e answer old new))

-- The access was given up, unless a device fault or Damaged had been met.
pub record GivesItUp {V : Type 0} (S : FilesService V) (who : Who) (lun : ℕ) (e answer : FlxRefusal) (old new : V) : Type 0 where
  pub clean : is_lethal e ≡ false
  pub same : answer ≡ e
  pub asked : Grants S who (asks (request.Deaccess lun)) old new

pub record FailsToGiveItUp {V : Type 0} (S : FilesService V) (who : Who) (lun : ℕ) (e answer : FlxRefusal) (old new : V) : Type 0 where
  pub clean : is_lethal e ≡ false
  pub refusal : Refusal
  pub denied : Denies S who (asks (request.Deaccess lun)) refusal old new
  pub answer_is : ((is_lethal (Files refusal) ≡ true) × (answer ≡ Files refusal)) ⊎ ((is_lethal (Files refusal) ≡ false) × (answer ≡ e))

abbrev pub GaveUp : {V : Type 0} → FilesService V → Who → ℕ → FlxRefusal → FlxRefusal → V → V → Type 0
GaveUp S who lun e answer old new =
    (LeavesIt e answer old new) ⊎ ((GivesItUp S who lun e answer old new) ⊎ (FailsToGiveItUp S who lun e answer old new))

-- A file was made, and the source copied into it.
pub record FillsToRt {V E : Type 0} {met : Ghosts E} (m : CopyMode) (S : FilesService V) (disk : E → Disk) (who : Who) (lun : ℕ)
    (name attr : List ℕ)
    (blocks count day : ℕ) (old new : V) (rt rt' : RtAccepted E met) : Type 0 where
  pub made : RtAccepted E met
  pub makes : Makes disk name count day rt made
  pub taken : ℕ
  pub copies : CopiesAs m S (rt_takes disk) who lun name attr blocks taken old new made rt'

-- No file was made, or the source wasn't copied whole, and the file was undone.
pub record IsNotMadeToRt {V E : Type 0} {met : Ghosts E} (disk : E → Disk) (name : List ℕ) (count : ℕ) (e : FlxRefusal) (old new : V)
    (rt rt' : RtAccepted E met) : Type 0 where
  pub refusal : RtRefusal
  pub is : e ≡ Rt refusal
  pub stays : new ≡ old
  pub fails : FailsMaking disk name count refusal rt rt'

pub record IsUndone {V E : Type 0} {met : Ghosts E} (m : CopyMode) (S : FilesService V) (disk : E → Disk) (who : Who) (lun : ℕ)
    (name attr : List ℕ) (blocks count day : ℕ) (e : FlxRefusal) (old new : V) (rt rt' : RtAccepted E met) : Type 0 where
  pub made : RtAccepted E met
  pub makes : Makes disk name count day rt made
  pub refusal : FlxRefusal
  pub stopped : RtAccepted E met
  pub fails : FailsAs m S (rt_takes disk) (rt_refuses disk) who lun name attr blocks refusal old new made stopped
  pub undoes : UndoesToRt disk name refusal e stopped rt'

abbrev pub FailsToFillToRt : {V E : Type 0} {met : Ghosts E} → CopyMode → FilesService V → (E → Disk) → Who → ℕ → List ℕ → List ℕ → ℕ → ℕ
    → ℕ →
    FlxRefusal → V → V → RtAccepted E met → RtAccepted E met → Type 0
FailsToFillToRt m S disk who lun name attr blocks count day e old new rt rt' =
    (IsNotMadeToRt disk name count e old new rt rt') ⊎ (IsUndone m S disk who lun name attr blocks count day e old new rt rt')

-- The source, which is accessed, was copied: attributes and length were told, its blocks were counted, and the file made.
pub record CopiesLocked {V E : Type 0} {met : Ghosts E} (m : CopyMode) (S : FilesService V) (disk : E → Disk) (who : Who) (lun : ℕ)
    (file : FileId) (name : List ℕ) (count day : ℕ) (old new : V) (rt rt' : RtAccepted E met) : Type 0 where
  pub attr : List ℕ
  pub blocks : ℕ
  pub seen : V
  pub told : TellsSource S who lun file attr blocks old seen
  pub walked : V
  pub counted : CountsAs m S who lun name attr blocks count seen walked
  pub fills : FillsToRt m S disk who lun name attr blocks count day walked new rt rt'

pub record IsNotTold {V E : Type 0} (S : FilesService V) (who : Who) (lun : ℕ) (file : FileId) (e : FlxRefusal) (old new : V)
    (rt rt' : E) : Type 0 where
  pub refusal : Refusal
  pub is : e ≡ Files refusal
  pub tells : TellsNothing S who lun file refusal old new
  pub left : rt' ≡ rt

pub record IsNotCounted {V E : Type 0} (m : CopyMode) (S : FilesService V) (who : Who) (lun : ℕ) (file : FileId) (name : List ℕ)
    (e : FlxRefusal)
    (old new : V) (rt rt' : E) : Type 0 where
  pub attr : List ℕ
  pub blocks : ℕ
  pub seen : V
  pub told : TellsSource S who lun file attr blocks old seen
  pub fails : FailsToCountAs m S who lun name attr blocks e seen new
  pub left : rt' ≡ rt

pub record IsNotFilledToRt {V E : Type 0} {met : Ghosts E} (m : CopyMode) (S : FilesService V) (disk : E → Disk) (who : Who) (lun : ℕ)
    (file : FileId) (name : List ℕ) (day : ℕ) (e : FlxRefusal) (old new : V) (rt rt' : RtAccepted E met) : Type 0 where
  pub attr : List ℕ
  pub blocks : ℕ
  pub count : ℕ
  pub seen : V
  pub told : TellsSource S who lun file attr blocks old seen
  pub walked : V
  pub counted : CountsAs m S who lun name attr blocks count seen walked
  pub fails : FailsToFillToRt m S disk who lun name attr blocks count day e walked new rt rt'

abbrev pub FailsLocked : {V E : Type 0} {met : Ghosts E} → CopyMode → FilesService V → (E → Disk) → Who → ℕ → FileId → List ℕ → ℕ
    → FlxRefusal →
    V → V → RtAccepted E met → RtAccepted E met → Type 0
FailsLocked m S disk who lun file name day e old new rt rt' =
    (IsNotTold S who lun file e old new rt rt')
    ⊎ ((IsNotCounted m S who lun file name e old new rt rt') ⊎ (IsNotFilledToRt m S disk who lun file name day e old new rt rt'))

-- The file was accessed, copied, and given up.
pub record CopiesFileToRt {V E : Type 0} {met : Ghosts E} (m : CopyMode) (S : FilesService V) (disk : E → Disk) (who : Who) (lun : ℕ)
    (file : FileId)
    (name : List ℕ) (count day : ℕ) (old new : V) (rt rt' : RtAccepted E met) : Type 0 where
  pub opened : V
  pub opens : Grants S who (asks (request.Access file mode.Locked lun)) old opened
  pub left : V
  pub copies : CopiesLocked m S disk who lun file name count day opened left rt rt'
  pub closes : Grants S who (asks (request.Deaccess lun)) left new

-- It could not be accessed;
pub record IsNotOpenedToRt {V E : Type 0} (S : FilesService V) (who : Who) (lun : ℕ) (file : FileId) (e : FlxRefusal) (old new : V)
    (rt rt' : E) : Type 0 where
  pub refusal : Refusal
  pub is : e ≡ Files refusal
  pub denied : Denies S who (asks (request.Access file mode.Locked lun)) refusal old new
  pub left : rt' ≡ rt

-- it was, but could not be copied, and was given up;
pub record IsNotCopied {V E : Type 0} {met : Ghosts E} (m : CopyMode) (S : FilesService V) (disk : E → Disk) (who : Who) (lun : ℕ)
    (file : FileId) (name : List ℕ) (day : ℕ) (e : FlxRefusal) (old new : V) (rt rt' : RtAccepted E met) : Type 0 where
  pub opened : V
  pub opens : Grants S who (asks (request.Access file mode.Locked lun)) old opened
  pub refusal : FlxRefusal
  pub stopped : V
  pub fails : FailsLocked m S disk who lun file name day refusal opened stopped rt rt'
  pub gives : GaveUp S who lun refusal e stopped new

-- or it was copied, but could not be given up, and the copy was undone.
pub record IsNotClosed {V E : Type 0} {met : Ghosts E} (m : CopyMode) (S : FilesService V) (disk : E → Disk) (who : Who) (lun : ℕ)
    (file : FileId) (name : List ℕ) (day : ℕ) (e : FlxRefusal) (old new : V) (rt rt' : RtAccepted E met) : Type 0 where
  pub opened : V
  pub opens : Grants S who (asks (request.Access file mode.Locked lun)) old opened
  pub count : ℕ
  pub left : V
  pub filled : RtAccepted E met
  pub copies : CopiesLocked m S disk who lun file name count day opened left rt filled
  pub refusal : Refusal
  pub denied : Denies S who (asks (request.Deaccess lun)) refusal left new
  pub undoes : UndoesToRt disk name (Files refusal) e filled rt'

abbrev pub FailsToCopyFileToRt : {V E : Type 0} {met : Ghosts E} → CopyMode → FilesService V → (E → Disk) → Who → ℕ → FileId → List ℕ → ℕ →
    FlxRefusal → V → V → RtAccepted E met → RtAccepted E met → Type 0
FailsToCopyFileToRt m S disk who lun file name day e old new rt rt' =
    (IsNotOpenedToRt S who lun file e old new rt rt')
    ⊎ ((IsNotCopied m S disk who lun file name day e old new rt rt') ⊎ (IsNotClosed m S disk who lun file name day e old new rt rt'))
