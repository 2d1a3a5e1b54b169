-- How a file that is accessed is filled with the copy of a text of the host, whatever it is that answers, on any device (profile).
use Rattle.std.specs.Prelude.{◌≡◌, ◌⊎◌, ℕ, ◌==◌, ◌&&◌, ◌<◌, ◌≤◌, Bool, false, List, ◌++◌, length, Option}
use Rattle.std.specs.Io.KnownBytes.{Consumes}
use Rattle.f11_store.specs.declared.files.FileId.{FileId}
use Rattle.f11_store.specs.declared.refusals.Refusal.{Refusal}
use Rattle.f11_making.specs.Asking.{BreaksOffAsking, FilesService, Granted, Who, writes_of}
use Rattle.f11_making.specs.Making.{Making, as_stated}
use Rattle.f11_making.specs.Making.{extension, filling_of}
use Rattle.f11_flx.specs.Making.{FailsToMake, MakesFile}
use Rattle.f11_flx.specs.Spelled.{text_attributes}
use Rattle.f11_flx.specs.declared.lines.Extent.{Extent}
use Rattle.f11_flx.specs.declared.refusal.FlxRefusal.{FlxRefusal}
use Rattle.f11_flx.specs.declared.refusal.FlxRefusal.TheVariants as refusal
use Rattle.f11_host.specs.Filling.{HostFile, OfEachText}
use Rattle.f11_host.specs.TextPasses.{CopiesText, StopsCopyingText}
use Rattle.f11_host.specs.Texts.{IsCopiedText}

-- the attributes of a copy
abbrev pub attributes_of : Extent → List ℕ
attributes_of plan = text_attributes plan.longest plan.blocks plan.end

-- what is to be made of a text with such a copy, of these blocks: it ends at its beginning until it is filled
abbrev pub as_text : List ℕ → FileId → ℕ → Extent → List (List ℕ) → Making
as_text to dir protection plan blocks =
    as_stated to dir protection (text_attributes plan.longest plan.blocks 0) (attributes_of plan) blocks

-- two texts have as many blocks, the same end, and as long a longest line
abbrev pub are_same : Extent → Extent → Bool
are_same a b = a.blocks == b.blocks && (a.end == b.end && a.longest == b.longest)

-- Another text was read than the one that was judged: its copy is another.
pub record IsAnotherText (bytes : ℕ) (plan : Extent) (taken : List ℕ) (unread unread' : Option (List ℕ)) : Type 0 where
  pub size : length taken ≡ bytes
  pub takes : Consumes unread unread' taken
  pub other : Extent
  pub pieces : List (List ℕ)
  pub count : length pieces ≡ other.blocks
  pub copied : IsCopiedText taken pieces (attributes_of other)
  pub differs : are_same other plan ≡ false

-- A text isn't the one that was judged: the host gave no more, or another, before all was written.
abbrev pub IsNotText : ℕ → Extent → List ℕ → Option (List ℕ) → Option (List ℕ) → Type 0
IsNotText bytes plan taken unread unread' = (0 < bytes) ⊎ (IsAnotherText bytes plan taken unread unread')

-- Blocks were written before that.
pub record MeetsNoText {V : Type 0} (S : FilesService V) (who : Who) (lun bytes : ℕ) (plan : Extent) (taken : List ℕ)
    (unread unread' : Option (List ℕ)) (old new : V) : Type 0 where
  pub why : IsNotText bytes plan taken unread unread'
  pub pieces : List (List ℕ)
  pub granted : Granted S who (writes_of lun 0 pieces) old new

abbrev pub CopiesAgain : {V : Type 0} → FilesService V → Who → ℕ → ℕ → Extent → List ℕ → Option (List ℕ) → Option (List ℕ) → V → V → Type 0
CopiesAgain S who lun bytes plan taken unread unread' old new =
    CopiesText S who lun bytes taken plan.blocks plan.end plan.longest unread unread' old new

abbrev pub FailsToCopyAgain : {V : Type 0} → FilesService V → Who → ℕ → ℕ → Extent → FlxRefusal → List ℕ → Option (List ℕ) →
    Option (List ℕ) → V → V → Type 0
FailsToCopyAgain S who lun bytes plan (refusal.Files e) taken unread unread' old new =
    StopsCopyingText S who lun bytes taken e unread unread' old new
FailsToCopyAgain S who lun bytes plan (refusal.Rt e) taken unread unread' old new = ⊥
FailsToCopyAgain S who lun bytes plan refusal.BadRecord taken unread unread' old new = ⊥
FailsToCopyAgain S who lun bytes plan refusal.LineTooLong taken unread unread' old new = ⊥
FailsToCopyAgain S who lun bytes plan refusal.Unread taken unread unread' old new =
    MeetsNoText S who lun bytes plan taken unread unread' old new

-- a line that is too long is one of another text
abbrev pub as_unread : FlxRefusal → FlxRefusal
as_unread (refusal.Files e) = refusal.Files e
as_unread (refusal.Rt e) = refusal.Rt e
as_unread refusal.BadRecord = refusal.BadRecord
as_unread refusal.LineTooLong = refusal.Unread
as_unread refusal.Unread = refusal.Unread

-- All of the text was taken; the file that is accessed got the blocks of its copy, which were written, and was given up.
pub record FillsFromText {V : Type 0} (S : FilesService V) (who : Who) (lun bytes : ℕ) (plan : Extent) (host host' : HostFile)
    (old new : V) : Type 0 where
  pub size : length host'.taken ≡ bytes
  pub takes : Consumes host.unread host'.unread host'.taken
  pub pieces : List (List ℕ)
  pub count : length pieces ≡ plan.blocks
  pub copied : IsCopiedText host'.taken pieces (attributes_of plan)
  pub granted : Granted S who (filling_of lun plan.blocks pieces) old new

-- Something that was asked for that was refused: the first, whatever follows the bytes that were taken.
pub record BreaksFillingText {V : Type 0} (S : FilesService V) (who : Who) (lun bytes : ℕ) (plan : Extent) (e : Refusal)
    (host host' : HostFile) (old new : V) : Type 0 where
  pub few : length host'.taken ≤ bytes
  pub takes : Consumes host.unread host'.unread host'.taken
  pub pieces : List (List ℕ)
  pub breaks : BreaksOffAsking S who (filling_of lun plan.blocks pieces) e old new
  pub whole : OfEachText bytes host'.taken (λ text. (full : List (List ℕ)) (attr : List ℕ) → IsCopiedText text full attr →
      BreaksOffAsking S who (filling_of lun plan.blocks full) e old new)

-- The text wasn't the one that was judged.
pub record LacksSameText {V : Type 0} (S : FilesService V) (who : Who) (lun bytes : ℕ) (plan : Extent) (host host' : HostFile)
    (old new : V) : Type 0 where
  pub why : IsNotText bytes plan host'.taken host.unread host'.unread
  pub pieces : List (List ℕ)
  pub granted : Granted S who (extension lun plan.blocks ++ writes_of lun 0 pieces) old new

abbrev pub FailsToFillFromText : {V : Type 0} → FilesService V → Who → ℕ → ℕ → Extent → FlxRefusal → HostFile → HostFile → V → V →
    Type 0
FailsToFillFromText S who lun bytes plan (refusal.Files e) host host' old new =
    BreaksFillingText S who lun bytes plan e host host' old new
FailsToFillFromText S who lun bytes plan (refusal.Rt e) host host' old new = ⊥
FailsToFillFromText S who lun bytes plan refusal.BadRecord host host' old new = ⊥
FailsToFillFromText S who lun bytes plan refusal.LineTooLong host host' old new = ⊥
FailsToFillFromText S who lun bytes plan refusal.Unread host host' old new = LacksSameText S who lun bytes plan host host' old new

-- the file was made,
abbrev pub MakesFromText : {V : Type 0} → FilesService V → Who → ℕ → ℕ → Extent → Making → HostFile → HostFile → V → V → Type 0
MakesFromText S who lun bytes plan making host host' old new =
    MakesFile S who lun (FillsFromText S who lun bytes plan) making host host' old new

-- or not
abbrev pub FailsToMakeFromText : {V : Type 0} → FilesService V → Who → ℕ → ℕ → Extent → Making → FlxRefusal → HostFile → HostFile → V → V
    → Type 0
FailsToMakeFromText S who lun bytes plan making f host host' old new =
    FailsToMake S who lun (FillsFromText S who lun bytes plan) (FailsToFillFromText S who lun bytes plan) making f host host' old new
