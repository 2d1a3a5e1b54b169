-- A text of the host that becomes a file of a Files-11 volume, over its plain store (RSX-11M Utilities manual, FLX; the steps: profile).
use Rattle.std.specs.Prelude.{◌≡◌, ◌⊎◌, ⊤, ℕ, ◌<◌, ◌≤◌, nat_lt, Bool, true, false, List, [], length, Option, Result, Ok, Err}
use Rattle.std.specs.Io.KnownBytes.{Consumes}
use Rattle.f11_store.specs.Store.{Store}
use Rattle.f11_store.specs.declared.files.FileId.{FileId}
use Rattle.f11_store.specs.declared.refusals.Refusal.{Refusal}
use Rattle.f11_store.specs.declared.refusals.Refusal.TheVariants.{TooManySegments, VolumeFailed}
use Rattle.f11_flx.specs.files.Answers.{is_fatal}
use Rattle.f11_making.specs.Asking.{FilesService, Granted, Who, plain}
use Rattle.f11_making.specs.Making.{FailsToMakeFile, making_of, new_id}
use Rattle.f11_flx.specs.Making.{IsCutShort}
use Rattle.f11_flx.specs.Stating.{AsksInOrder}
use Rattle.f11_flx.specs.declared.lines.Extent.{Extent}
use Rattle.f11_host.specs.CopyFromHost.{ReadsSome}
use Rattle.f11_host.specs.Filling.{OfEachText}
use Rattle.f11_host.specs.TextFilling.{IsAnotherText, as_text, attributes_of}
use Rattle.f11_host.specs.TextPasses.{HasNoCopy, PlansText}
use Rattle.f11_host.specs.Texts.{IsCopiedText}
use Rattle.f11_host.specs.declared.refusal.HostRefusal.{HostRefusal}
use Rattle.f11_host.specs.declared.refusal.HostRefusal.TheVariants.{Files, LineTooLong, Unread}

-- more bytes than a text may have whose copy's bytes are counted, in blocks
abbrev pub is_text_too_long : ℕ → Bool
is_text_too_long bytes = nat_lt 1073741312 bytes

-- a text was read, whose copy is this
abbrev pub Judges : ℕ → Extent → Option (List ℕ) → Option (List ℕ) → Type 0
Judges bytes plan unread unread' = PlansText bytes plan.blocks plan.end plan.longest unread unread'

-- All bytes of both readers were taken: texts whose copies have so many blocks, and the same attributes;
pub record ReadsBoth (bytes blocks : ℕ) (first first' again again' : Option (List ℕ)) : Type 0 where
  pub plan : Extent
  pub judged : Judges bytes plan first first'
  pub read : Judges bytes plan again again'
  pub count : blocks ≡ plan.blocks

-- or all of the first, and no more of the other;
pub record ReadsAgain (bytes : ℕ) (first first' again again' : Option (List ℕ)) : Type 0 where
  pub plan : Extent
  pub judged : Judges bytes plan first first'
  pub some : ReadsSome bytes again again'

-- or nothing, of a text that is too long;
abbrev pub ReadsIf : Bool → ℕ → Option (List ℕ) → Option (List ℕ) → Option (List ℕ) → Option (List ℕ) → Type 0
ReadsIf true bytes first first' again again' = (first' ≡ first) × (again' ≡ again)
ReadsIf false bytes first first' again again' = ReadsAgain bytes first first' again again'

-- or two texts whose copies have other blocks, or other attributes.
pub record ReadsTwo (bytes : ℕ) (first first' again again' : Option (List ℕ)) : Type 0 where
  pub plan : Extent
  pub judged : Judges bytes plan first first'
  pub taken : List ℕ
  pub another : IsAnotherText bytes plan taken again again'

-- how a text of the host is read by two readers, of which so many bytes are to come; what becomes of them isn't known where one gave no
-- more, or before a device fault or Damaged was met
abbrev pub ReadsTexts : ℕ → Result ℕ HostRefusal → Option (List ℕ) → Option (List ℕ) → Option (List ℕ) → Option (List ℕ) → Type 0
ReadsTexts bytes (Ok blocks) first first' again again' = ReadsBoth bytes blocks first first' again again'
ReadsTexts bytes (Err (Files e)) first first' again again' =
    is_fatal e ≡ false → ReadsIf (is_text_too_long bytes) bytes first first' again again'
ReadsTexts bytes (Err Unread) first first' again again' = (0 < bytes) ⊎ (ReadsTwo bytes first first' again again')
ReadsTexts bytes (Err LineTooLong) first first' again again' =
    ((taken : List ℕ) × HasNoCopy bytes taken first first') × (again' ≡ again)

-- The file was made: of the copy of the text that the second reader gave.
pub record CopiesTextFromHost (bytes blocks : ℕ) (again again' : Option (List ℕ)) (who : Who) (lun : ℕ) (dir : FileId) (to : List ℕ)
    (protection : ℕ) (s s' : Store) : Type 0 where
  pub taken : List ℕ
  pub size : length taken ≡ bytes
  pub takes : Consumes again again' taken
  pub plan : Extent
  pub pieces : List (List ℕ)
  pub copied : IsCopiedText taken pieces (attributes_of plan)
  pub count : length pieces ≡ blocks
  pub asked : Granted plain who (making_of (as_text to dir protection plan pieces) lun (new_id s)) s s'

-- It wasn't: the first request that is refused was so, whatever text with the copy that was judged follows the bytes that were taken, and
-- what was made was undone.
pub record IsTextNotCopied (bytes : ℕ) (first first' again again' : Option (List ℕ)) (who : Who) (lun : ℕ) (dir : FileId) (to : List ℕ)
    (protection : ℕ) (e : Refusal) (s s' : Store) : Type 0 where
  pub plan : Extent
  pub judged : Judges bytes plan first first'
  pub taken : List ℕ
  pub few : length taken ≤ bytes
  pub takes : Consumes again again' taken
  pub fails : OfEachText bytes taken (λ text. (blocks : List (List ℕ)) → IsCopiedText text blocks (attributes_of plan) →
      length blocks ≡ plan.blocks → FailsToMakeFile (as_text to dir protection plan blocks) who lun (new_id s) e s s')

-- or it is too long, and nothing was asked
abbrev pub IsTextRefusedIf : Bool → ℕ → Option (List ℕ) → Option (List ℕ) → Option (List ℕ) → Option (List ℕ) → Who → ℕ → FileId → List ℕ
    → ℕ
    → Refusal → Store → Store → Type 0
IsTextRefusedIf true bytes first first' again again' who lun dir to protection e s s' = (e ≡ TooManySegments) × (s' ≡ s)
IsTextRefusedIf false bytes first first' again again' who lun dir to protection e s s' =
    IsTextNotCopied bytes first first' again again' who lun dir to protection e s s'

-- A text was judged, and the file wasn't filled: what was made was undone.
pub record IsTextCut (bytes : ℕ) (first first' : Option (List ℕ)) (who : Who) (lun : ℕ) (dir : FileId) (to : List ℕ) (protection : ℕ)
    (s s' : Store) : Type 0 where
  pub plan : Extent
  pub judged : Judges bytes plan first first'
  pub cut : (blocks : List (List ℕ)) → IsCutShort (as_text to dir protection plan blocks) who lun plan.blocks (new_id s) s s'

-- The first reader gave no more, and nothing was asked; or the second gave no more, or another text.
pub record IsTextUnread (bytes : ℕ) (first first' : Option (List ℕ)) (who : Who) (lun : ℕ) (dir : FileId) (to : List ℕ) (protection : ℕ)
    (s s' : Store) : Type 0 where
  pub short : is_text_too_long bytes ≡ false
  pub cut : (s' ≡ s) ⊎ (IsTextCut bytes first first' who lun dir to protection s s')

abbrev pub FailsToCopyTextFromHost : HostRefusal → ℕ → Option (List ℕ) → Option (List ℕ) → Option (List ℕ) → Option (List ℕ) → Who → ℕ →
    FileId → List ℕ → ℕ → Store → Store → Type 0
FailsToCopyTextFromHost (Files e) bytes first first' again again' who lun dir to protection s s' =
    IsTextRefusedIf (is_text_too_long bytes) bytes first first' again again' who lun dir to protection e s s'
FailsToCopyTextFromHost Unread bytes first first' again again' who lun dir to protection s s' =
    IsTextUnread bytes first first' who lun dir to protection s s'
FailsToCopyTextFromHost LineTooLong bytes first first' again again' who lun dir to protection s s' =
    (is_text_too_long bytes ≡ false) × (s' ≡ s)

-- Blocks that hold the copy of all that was read of a text, so many bytes.
pub record HoldText (bytes : ℕ) (plan : Extent) (unread unread' : Option (List ℕ)) (blocks : List (List ℕ)) : Type 0 where
  pub taken : List ℕ
  pub size : length taken ≡ bytes
  pub takes : Consumes unread unread' taken
  pub copied : IsCopiedText taken blocks (attributes_of plan)

-- in what order the file is made: nothing is asked, or it gets its attributes once it is filled with the copy
abbrev pub AsksForText : {V : Type 0} → FilesService V → ℕ → Option (List ℕ) → Option (List ℕ) → Who → ℕ → FileId → List ℕ → ℕ →
    V → V → Type 0
AsksForText S bytes again again' who lun dir to protection old new =
    (new ≡ old)
    ⊎ ((plan : Extent) × AsksInOrder S who lun (as_text to dir protection plan []) (HoldText bytes plan again again') old new)

-- how it is refused where a request had failed the volume before: as VolumeFailed, unless it is too long, or the text was refused first
abbrev pub FailsTextSpent : Bool → HostRefusal → Type 0
FailsTextSpent true (Files e) = e ≡ TooManySegments
FailsTextSpent true Unread = ⊥
FailsTextSpent true LineTooLong = ⊥
FailsTextSpent false (Files e) = e ≡ VolumeFailed
FailsTextSpent false Unread = ⊤
FailsTextSpent false LineTooLong = ⊤
