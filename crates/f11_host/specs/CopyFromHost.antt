-- A file of the host that becomes a file of a Files-11 volume, over its plain store (RSX-11M Utilities manual, FLX; the steps: profile).
use Rattle.std.specs.Prelude.{◌≡◌, ℕ, ◌<◌, ◌≤◌, nat_lt, Bool, true, false, List, [], length, Option, Result, Ok, Err}
use Rattle.std.specs.Io.KnownBytes.{Consumes}
use Rattle.f11_store.specs.Store.{Store}
use Rattle.f11_store.specs.declared.files.FileId.{FileId}
use Rattle.f11_store.specs.declared.refusals.Refusal.{Refusal}
use Rattle.f11_store.specs.declared.refusals.Refusal.TheVariants.{TooManySegments, VolumeFailed}
use Rattle.f11_flx.specs.files.Answers.{is_fatal}
use Rattle.f11_making.specs.Asking.{FilesService, Granted, Who, plain}
use Rattle.f11_making.specs.Making.{FailsToMakeFile, Making, as_stated, making_of, new_id}
use Rattle.f11_flx.specs.Making.{IsCutShort}
use Rattle.f11_flx.specs.Spelled.{image_attributes_to}
use Rattle.f11_flx.specs.Stating.{AsksInOrder}
use Rattle.f11_host.specs.Filling.{OfEachText}
use Rattle.f11_host.specs.Pieces.{IsInBlocks, blocks_for}
use Rattle.f11_host.specs.declared.refusal.HostRefusal.{HostRefusal}
use Rattle.f11_host.specs.declared.refusal.HostRefusal.TheVariants.{Files, LineTooLong, Unread}

-- more bytes than 256 headers can name blocks for, whatever the volume is
abbrev pub is_too_long : ℕ → Bool
is_too_long bytes = nat_lt 4294967295 bytes

-- the attributes of a file of so many bytes as they are: the end is behind the last byte
abbrev pub image_attr : ℕ → List ℕ
image_attr bytes = image_attributes_to (blocks_for bytes) bytes

-- what is to be made of so many bytes, with these blocks: it ends at its beginning until it is filled
abbrev pub as_image : List ℕ → FileId → ℕ → ℕ → List (List ℕ) → Making
as_image to dir protection bytes blocks =
    as_stated to dir protection (image_attributes_to (blocks_for bytes) 0) (image_attr bytes) blocks

-- All the bytes were read of the host's file, and the copy has so many blocks;
pub record ReadsAll (bytes blocks : ℕ) (unread unread' : Option (List ℕ)) : Type 0 where
  pub taken : List ℕ
  pub size : length taken ≡ bytes
  pub takes : Consumes unread unread' taken
  pub count : blocks ≡ blocks_for bytes

-- or no more of them.
pub record ReadsSome (bytes : ℕ) (unread unread' : Option (List ℕ)) : Type 0 where
  pub taken : List ℕ
  pub few : length taken ≤ bytes
  pub takes : Consumes unread unread' taken

-- how a file of the host is read, of which so many bytes are to come; what becomes of it isn't known where it gave no more before a device
-- fault or Damaged was met
abbrev pub ReadsHost : ℕ → Result ℕ HostRefusal → Option (List ℕ) → Option (List ℕ) → Type 0
ReadsHost bytes (Ok blocks) unread unread' = ReadsAll bytes blocks unread unread'
ReadsHost bytes (Err (Files e)) unread unread' = is_fatal e ≡ false → ReadsSome bytes unread unread'
ReadsHost bytes (Err Unread) unread unread' = 0 < bytes
ReadsHost bytes (Err LineTooLong) unread unread' = ⊥

-- The file was made: of the bytes that were taken, in blocks.
pub record CopiesFromHost (bytes : ℕ) (unread unread' : Option (List ℕ)) (who : Who) (lun : ℕ) (dir : FileId) (to : List ℕ)
    (protection : ℕ) (s s' : Store) : Type 0 where
  pub taken : List ℕ
  pub size : length taken ≡ bytes
  pub takes : Consumes unread unread' taken
  pub pieces : List (List ℕ)
  pub in_blocks : IsInBlocks taken pieces
  pub asked : Granted plain who (making_of (as_image to dir protection bytes pieces) lun (new_id s)) s s'

-- It wasn't: the first request that is refused was so, whatever follows the bytes that were taken, and what was made was undone.
pub record IsNotCopied (bytes : ℕ) (unread unread' : Option (List ℕ)) (who : Who) (lun : ℕ) (dir : FileId) (to : List ℕ)
    (protection : ℕ) (e : Refusal) (s s' : Store) : Type 0 where
  pub taken : List ℕ
  pub few : length taken ≤ bytes
  pub takes : Consumes unread unread' taken
  pub fails : OfEachText bytes taken (λ text. (blocks : List (List ℕ)) → IsInBlocks text blocks →
      FailsToMakeFile (as_image to dir protection bytes blocks) who lun (new_id s) e s s')

-- or it is too long for any volume, and nothing was asked
abbrev pub IsRefusedIf : Bool → ℕ → Option (List ℕ) → Option (List ℕ) → Who → ℕ → FileId → List ℕ → ℕ → Refusal → Store → Store → Type 0
IsRefusedIf true bytes unread unread' who lun dir to protection e s s' = (e ≡ TooManySegments) × (s' ≡ s)
IsRefusedIf false bytes unread unread' who lun dir to protection e s s' =
    IsNotCopied bytes unread unread' who lun dir to protection e s s'

-- The host gave no more before all its blocks were written, and what was made was undone.
pub record IsUnread (bytes : ℕ) (who : Who) (lun : ℕ) (dir : FileId) (to : List ℕ) (protection : ℕ) (s s' : Store) : Type 0 where
  pub short : is_too_long bytes ≡ false
  pub cut : (blocks : List (List ℕ)) →
      IsCutShort (as_image to dir protection bytes blocks) who lun (blocks_for bytes) (new_id s) s s'

abbrev pub FailsToCopyFromHost : HostRefusal → ℕ → Option (List ℕ) → Option (List ℕ) → Who → ℕ → FileId → List ℕ → ℕ → Store → Store →
    Type 0
FailsToCopyFromHost (Files e) bytes unread unread' who lun dir to protection s s' =
    IsRefusedIf (is_too_long bytes) bytes unread unread' who lun dir to protection e s s'
FailsToCopyFromHost Unread bytes unread unread' who lun dir to protection s s' = IsUnread bytes who lun dir to protection s s'
FailsToCopyFromHost LineTooLong bytes unread unread' who lun dir to protection s s' = ⊥

-- Blocks that hold all that was read of the host's file, so many bytes.
pub record HoldHost (bytes : ℕ) (unread unread' : Option (List ℕ)) (blocks : List (List ℕ)) : Type 0 where
  pub taken : List ℕ
  pub size : length taken ≡ bytes
  pub takes : Consumes unread unread' taken
  pub in_blocks : IsInBlocks taken blocks

-- in what order the file is made: it gets its attributes once it is filled with what was read
abbrev pub AsksForImage : {V : Type 0} → FilesService V → ℕ → Option (List ℕ) → Option (List ℕ) → Who → ℕ → FileId → List ℕ → ℕ →
    V → V → Type 0
AsksForImage S bytes unread unread' who lun dir to protection old new =
    AsksInOrder S who lun (as_image to dir protection bytes []) (HoldHost bytes unread unread') old new

-- how it is refused where a request had failed the volume before: as VolumeFailed, unless it is too long
abbrev pub FailsSpent : Bool → HostRefusal → Type 0
FailsSpent true (Files e) = e ≡ TooManySegments
FailsSpent false (Files e) = e ≡ VolumeFailed
FailsSpent b Unread = ⊥
FailsSpent b LineTooLong = ⊥
