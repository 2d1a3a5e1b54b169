-- What a copy by names is, over the plain stores of two volumes (profile).
use Rattle.std.specs.Prelude.{◌≡◌, ◌⊎◌, ℕ, ◌+◌, ◌/◌, ◌%◌, ⊤, Bool, true, false, All, List, [], ◌∷◌, ◌++◌, Result, Ok, Err, codes}
use Rattle.f11_dev.specs.Disk.{Disk}
use Rattle.f11_making.specs.Asking.{Asking, Denies, Granted, Who, asks, counts, plain, reads, told, who_asks, writes}
use Rattle.f11_making.specs.AsBefore.{IsAsBefore}
use Rattle.f11_flx.specs.CopyFromRt.{CopiesFromRt, FailsToCopyFromRt}
use Rattle.f11_flx.specs.CopyToRt.{CopiesToRt, FailsToCopyToRt}
use Rattle.f11_flx.specs.RtOutcome.{HasSameFiles}
use Rattle.f11_flx.specs.declared.refusal.FlxRefusal.{FlxRefusal}
use Rattle.f11_flx.specs.declared.refusal.FlxRefusal.TheVariants.{Files}
use Rattle.f11_rad50.specs.Name.{words_of}
use Rattle.f11_store.specs.Store.{Store}
use Rattle.f11_store.specs.declared.callers.Uic.{Uic}
use Rattle.f11_store.specs.declared.files.FileId.{FileId}
use Rattle.f11_store.specs.declared.refusals.Refusal.{Refusal}
use Rattle.f11_store.specs.declared.requests.Reply.TheVariants as reply
use Rattle.f11_store.specs.declared.requests.Request.{Request}
use Rattle.f11_store.specs.declared.requests.Request.TheVariants as request
use Rattle.rt11_volume.specs.Laws.{KeepsOtherNames}
use Rattle.rt11_volume.specs.Named.{files_named}
use Rattle.rt11_volume.specs.Store.{Area, RtStore, rt_store_of}
use Rattle.f11_commands.specs.declared.copy.Copying.{Copying}
use Rattle.f11_commands.specs.declared.copy.Direction.{Direction}
use Rattle.f11_commands.specs.declared.copy.Direction.TheVariants.{ToRt, FromRt}

-- who asks: the operator, [1,1], as task 0
abbrev pub operator : Who
operator = who_asks 0 (record { group = 1; member = 1 })

-- the directory in which those of users stand, [0,0]'s: file 4,4
abbrev pub master_directory : FileId
master_directory = record { number = 4; sequence = 4; volume = 0 }

-- a number below 512 in three octal digits, the first of which is 48 in ASCII
abbrev pub three_octal : ℕ → List ℕ
three_octal n = (48 + n / 64 % 8) ∷ (48 + n / 8 % 8) ∷ (48 + n % 8) ∷ []

-- the words of the name of a user's directory: group and member, `DIR`, version 1
abbrev pub directory_name : Uic → List ℕ
directory_name uic = words_of (three_octal uic.group ++ three_octal uic.member) (codes "DIR") 1

-- a directory was asked for a name, and it has this identification under it
abbrev pub FindsName : FileId → List ℕ → FileId → Store → Store → Type 0
FindsName dir name id s s' = Granted plain operator (told (request.Find dir name) (reply.Found id) ∷ []) s s'

-- or the request was refused
abbrev pub FindsNoName : FileId → List ℕ → Refusal → Store → Store → Type 0
FindsNoName dir name e s s' = Denies plain operator (asks (request.Find dir name)) e s s'

-- The file of a name was found in a directory, and copied to the RT-11 volume.
pub record CopiesSource (c : Copying) (dir : FileId) (blocks : ℕ) (s s' : Store) (t t' : RtStore) : Type 0 where
  pub source : FileId
  pub found : Store
  pub finds : FindsName dir c.name source s found
  pub copies : CopiesToRt c.mode operator 0 source c.rt_name 0 blocks found s' t t'

-- The directory has no such file.
pub record LacksSource (c : Copying) (dir : FileId) (e : FlxRefusal) (s s' : Store) : Type 0 where
  pub refusal : Refusal
  pub is : e ≡ Files refusal
  pub not_found : FindsNoName dir c.name refusal s s'

-- It has, and the copy is refused.
pub record KeepsSource (c : Copying) (dir : FileId) (e : FlxRefusal) (s s' : Store) (disk : Disk) : Type 0 where
  pub source : FileId
  pub found : Store
  pub finds : FindsName dir c.name source s found
  pub refused : FailsToCopyToRt e c.mode operator 0 source c.rt_name found s' disk

-- No copy was entered into a directory.
pub record LeavesDirectory (c : Copying) (dir : FileId) (e : FlxRefusal) (s s' : Store) (disk : Disk) : Type 0 where
  pub refused : FailsToCopyFromRt e c.mode c.rt_name operator 0 dir c.name 0 disk s s'
  pub undone : IsAsBefore s s'

-- what is so behind the answer of a copy from or to a directory, by the copy's direction
abbrev pub CopiesWithin : Direction → Copying → FileId → Result ℕ FlxRefusal → Store → Store → Disk → Disk → Type 0
CopiesWithin ToRt c dir (Ok blocks) s s' disk disk' = CopiesSource c dir blocks s s' (rt_store_of disk.image) (rt_store_of disk'.image)
CopiesWithin ToRt c dir (Err e) s s' disk disk' = (LacksSource c dir e s s') ⊎ (KeepsSource c dir e s s' disk)
CopiesWithin FromRt c dir (Ok blocks) s s' disk disk' =
    CopiesFromRt c.mode c.rt_name operator 0 dir c.name 0 blocks (rt_store_of disk.image) s s'
CopiesWithin FromRt c dir (Err e) s s' disk disk' = LeavesDirectory c dir e s s' disk

-- The user's directory was found, and then it is so.
pub record HasDirectory (c : Copying) (result : Result ℕ FlxRefusal) (s s' : Store) (disk disk' : Disk) : Type 0 where
  pub dir : FileId
  pub found : Store
  pub finds : FindsName master_directory (directory_name c.directory) dir s found
  pub within : CopiesWithin c.direction c dir result found s' disk disk'

-- It isn't there.
pub record LacksDirectory (c : Copying) (result : Result ℕ FlxRefusal) (s s' : Store) : Type 0 where
  pub refusal : Refusal
  pub is : result ≡ Err (Files refusal)
  pub not_found : FindsNoName master_directory (directory_name c.directory) refusal s s'

-- what becomes of the RT-11 volume: one that is copied from stays, and so does one to which a copy is refused
abbrev pub KeepsRt : Direction → Result ℕ FlxRefusal → RtStore → RtStore → Type 0
KeepsRt ToRt (Ok blocks) t t' = ⊤
KeepsRt ToRt (Err e) t t' = t' ≡ t
KeepsRt FromRt result t t' = t' ≡ t

-- What is so behind the answer of a copy by names.
pub record OutcomeIs (c : Copying) (result : Result ℕ FlxRefusal) (s s' : Store) (disk disk' : Disk) : Type 0 where
  pub files : (HasDirectory c result s s' disk disk') ⊎ (LacksDirectory c result s s')
  pub rt : KeepsRt c.direction result (rt_store_of disk.image) (rt_store_of disk'.image)

-- Nothing was written to a disk.
pub record IsOnlyRead (old new : Disk) : Type 0 where
  pub image : new.image ≡ old.image
  pub history : new.history ≡ old.history

-- whatever the answer is, an RT-11 volume that is copied from is only read
abbrev pub ReadsSource : Direction → Disk → Disk → Type 0
ReadsSource ToRt old new = ⊤
ReadsSource FromRt old new = IsOnlyRead old new

-- what undoes something: an access is given up, a file is deleted
abbrev pub is_undoing_request : Request → Bool
is_undoing_request (request.Deaccess lun) = true
is_undoing_request (request.Delete id) = true
is_undoing_request _ = false

abbrev pub is_undoing : Asking → Bool
is_undoing (asks r) = is_undoing_request r
is_undoing (told r reply) = is_undoing_request r
is_undoing (reads lun vbn block) = false
is_undoing (writes lun vbn block) = false
is_undoing (counts lun blocks) = false

-- The copy was broken off: what had been granted stays as it is, and nothing of it is undone.
pub record StandsAsIs (s s' : Store) : Type 0 where
  pub asked : List Asking
  pub granted : Granted plain operator asked s s'
  pub none_undone : All (λ x. is_undoing x ≡ false) asked

-- A file was made on an RT-11 volume, the only one of its name; some of its blocks may be written.
pub record HasBegun (name : List ℕ) (t t' : RtStore) : Type 0 where
  pub file : Area
  pub none : files_named name t ≡ []
  pub one : files_named name t' ≡ file ∷ []
  pub others : KeepsOtherNames name t t'

-- what a copy that was broken off leaves on an RT-11 volume: the files that it had, or its own besides
abbrev pub LeavesBegun : List ℕ → RtStore → RtStore → Type 0
LeavesBegun name t t' = (HasSameFiles name t t') ⊎ (HasBegun name t t')
