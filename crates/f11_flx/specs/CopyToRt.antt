-- A copy to an RT-11 volume, over the plain stores of both (RSX-11M Utilities manual, FLX; the steps: profile).
use Rattle.std.specs.Prelude.{◌≡◌, ℕ, ◌*◌, ⊤, Bool, true, false, nat_lt, All, List, [], ◌∷◌, ◌++◌, length, Some, None}
use Rattle.std.specs.List.{concat}
use Rattle.f11_store.specs.File.{File, length_of}
use Rattle.f11_store.specs.Step.{attributes_of}
use Rattle.f11_store.specs.Store.{Store, file_named}
use Rattle.f11_store.specs.declared.files.Attr.{Attr}
use Rattle.f11_store.specs.declared.files.FileId.{FileId}
use Rattle.f11_store.specs.declared.files.Mode.TheVariants as mode
use Rattle.f11_store.specs.declared.requests.Reply.TheVariants as reply
use Rattle.f11_store.specs.declared.requests.Request.TheVariants as request
use Rattle.f11_dev.specs.Disk.{Disk}
use Rattle.rt11_volume.specs.Files.{FailsToCreate, HasArea, HasFile, HasNoFile}
use Rattle.rt11_volume.specs.Laws.{KeepsOtherNames}
use Rattle.rt11_volume.specs.Named.{files_named}
use Rattle.rt11_volume.specs.Operations.{with_area_emptied, with_new_file}
use Rattle.rt11_volume.specs.Store.{Area, RtStore, rt_store_of}
use Rattle.rt11_volume.specs.Verifying.Verdict.{IsSoundDisk}
use Rattle.rt11_volume.specs.declared.refusal.RtRefusal.{RtRefusal}
use Rattle.rt11_volume.specs.declared.refusal.RtRefusal.TheVariants as rt
use Rattle.f11_making.specs.Asking.{Asking, Granted, BreaksOffAsking, Who, asks, counts, plain, reads_of, told}
use Rattle.f11_flx.specs.Conversion.{copied_to_rt}
use Rattle.f11_flx.specs.Spelled.{image_of}
use Rattle.f11_flx.specs.declared.mode.CopyMode.{CopyMode}
use Rattle.f11_flx.specs.declared.mode.CopyMode.TheVariants.{Image, Text}
use Rattle.f11_flx.specs.declared.refusal.FlxRefusal.{FlxRefusal}
use Rattle.f11_flx.specs.declared.refusal.FlxRefusal.TheVariants as refusal

-- What is asked of the Files-11 volume: the source is locked by a lun, its attributes are read and its length is asked, its
-- blocks are read, those that are walked over and those that are copied, and it is given up.
abbrev pub reading : FileId → ℕ → Attr → ℕ → List (List ℕ) → List (List ℕ) → List Asking
reading source lun attr blocks walked copied =
    asks (request.Access source mode.Locked lun) ∷ told (request.ReadAttr source) (reply.Attr attr) ∷ counts lun blocks ∷
    (reads_of lun 0 walked ++ (reads_of lun 0 copied ++ asks (request.Deaccess lun) ∷ []))

-- the blocks of a file that are walked over before it is copied: for a text those up to its end
abbrev pub walked_of : CopyMode → File → List (List ℕ)
walked_of Image file = []
walked_of Text file = image_of file

-- what is asked for a file: the blocks that are copied are those up to its end
abbrev pub reading_of : CopyMode → FileId → ℕ → File → List Asking
reading_of m source lun file = reading source lun (attributes_of file) (length_of file) (walked_of m file) (image_of file)

-- the directory is the same; what stands in the blocks behind it may be another
abbrev pub HasSameDirectory : RtStore → RtStore → Type 0
HasSameDirectory t t' = t' ≡ record t { block = t'.block }

-- A file lies in the front of the first empty area of at least so many blocks, and the directory is else as it was.
pub record LiesInFirstArea (name : List ℕ) (blocks day : ℕ) (old new : RtStore) : Type 0 where
  pub area : HasArea blocks old
  pub directory : HasSameDirectory (with_new_file old area.place area.i area.segment name blocks day) new

-- The area of the name's file is empty, joined with one empty neighbour on each side, and all else is as it was.
pub record HasEmptied (name : List ℕ) (old new : RtStore) : Type 0 where
  pub file : HasFile name old
  pub store_is : new ≡ with_area_emptied old file.place file.i file.segment

-- A file was made with this content, the only one of its name, and nothing else.
pub record HasCopy (name content : List ℕ) (blocks day : ℕ) (old new : RtStore) : Type 0 where
  pub file : Area
  pub none : files_named name old ≡ []
  pub one : files_named name new ≡ file ∷ []
  pub blocks_are : length file.contents ≡ blocks
  pub content_is : concat file.contents ≡ content
  pub date_is : file.date ≡ day
  pub unprotected : file.protected ≡ false
  pub others : KeepsOtherNames name old new
  pub lies : LiesInFirstArea name blocks day old new

-- The file was copied: its conversion is the content of a file of the RT-11 volume, of so many blocks.
pub record CopiesToRt (m : CopyMode) (who : Who) (lun : ℕ) (source : FileId) (name : List ℕ) (day blocks : ℕ) (s s' : Store)
    (t t' : RtStore) : Type 0 where
  pub content : List ℕ
  pub converted : copied_to_rt m (file_named s source) ≡ Some content
  pub blocks_are : length content ≡ 512 * blocks
  pub asked : Granted plain who (reading_of m source lun (file_named s source)) s s'
  pub made : HasCopy name content blocks day t t'

-- why no file of over 65,535 blocks is made, as no area has so many
abbrev pub FailsAsTooLong : RtRefusal → List ℕ → Disk → Type 0
FailsAsTooLong rt.Failed name disk = ⊤
FailsAsTooLong rt.NoSuchFile name disk = ⊥
FailsAsTooLong rt.EndOfFile name disk = ⊥
FailsAsTooLong rt.Protected name disk = ⊥
FailsAsTooLong rt.DuplicateName name disk = IsSoundDisk disk → HasFile name (rt_store_of disk.image)
FailsAsTooLong rt.NoSpace name disk = IsSoundDisk disk → HasNoFile name (rt_store_of disk.image)
FailsAsTooLong rt.DirectoryFull name disk = ⊥
FailsAsTooLong rt.NoMemory name disk = ⊥
FailsAsTooLong rt.DeviceFault name disk = ⊤

abbrev pub FailsToMakeIf : Bool → RtRefusal → List ℕ → ℕ → Disk → Type 0
FailsToMakeIf true e name blocks disk = FailsAsTooLong e name disk
FailsToMakeIf false e name blocks disk = FailsToCreate e name blocks disk

-- why no file of so many blocks is made
abbrev pub FailsToMake : RtRefusal → List ℕ → ℕ → Disk → Type 0
FailsToMake e name blocks disk = FailsToMakeIf (nat_lt 65535 blocks) e name blocks disk

-- The source could be read, some of its blocks were walked over, and it was given up.
pub record GivesUp (who : Who) (lun : ℕ) (source : FileId) (s s' : Store) : Type 0 where
  pub walked : List (List ℕ)
  pub asked : Granted plain who (reading source lun (attributes_of (file_named s source)) (length_of (file_named s source)) walked []) s s'

-- each block of the file has 512 bytes, as on any volume
abbrev pub HasWholeBlocks : File → Type 0
HasWholeBlocks file = All (λ block. length block ≡ 512) file.blocks

-- The file has a conversion, of which no file is made.
pub record HasNoRtPlace (m : CopyMode) (file : File) (name : List ℕ) (e : RtRefusal) (disk : Disk) : Type 0 where
  pub content : List ℕ
  pub blocks : ℕ
  pub converted : copied_to_rt m file ≡ Some content
  pub blocks_are : HasWholeBlocks file → length content ≡ 512 * blocks
  pub fails : FailsToMake e name blocks disk

-- The copy is refused as the first step is that is refused; the source is given up, if it was accessed.
abbrev pub FailsToCopyToRt : FlxRefusal → CopyMode → Who → ℕ → FileId → List ℕ → Store → Store → Disk → Type 0
FailsToCopyToRt (refusal.Files e) m who lun source name s s' disk =
    BreaksOffAsking plain who (reading_of m source lun (file_named s source)) e s s'
FailsToCopyToRt (refusal.Rt e) m who lun source name s s' disk =
    GivesUp who lun source s s' × HasNoRtPlace m (file_named s source) name e disk
FailsToCopyToRt refusal.BadRecord m who lun source name s s' disk =
    GivesUp who lun source s s' × (HasWholeBlocks (file_named s source) → copied_to_rt m (file_named s source) ≡ None)
FailsToCopyToRt refusal.LineTooLong m who lun source name s s' disk = ⊥
FailsToCopyToRt refusal.Unread m who lun source name s s' disk = ⊥

-- It is refused so, and nothing is written to the RT-11 volume.
pub record RefusesCopyToRt (e : FlxRefusal) (m : CopyMode) (who : Who) (lun : ℕ) (source : FileId) (name : List ℕ) (s s' : Store)
    (disk disk' : Disk) : Type 0 where
  pub why : FailsToCopyToRt e m who lun source name s s' disk
  pub unwritten : disk'.image ≡ disk.image
