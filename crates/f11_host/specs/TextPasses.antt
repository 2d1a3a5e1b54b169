-- A pass over a text of the host, whose copy is written to a file that is accessed, whatever it is that answers, on any device (profile).
use Rattle.std.specs.Prelude.{◌≡◌, ℕ, suc, ◌<◌, ◌≤◌, List, [], ◌∷◌, ◌++◌, length, Option, None}
use Rattle.std.specs.Io.KnownBytes.{Consumes}
use Rattle.f11_store.specs.declared.refusals.Refusal.{Refusal}
use Rattle.f11_making.specs.Asking.{Denies, FilesService, Granted, Who, writes, writes_of}
use Rattle.f11_flx.specs.Filling.{Out}
use Rattle.f11_flx.specs.Spelled.{text_attributes}
use Rattle.f11_flx.specs.Writing.{MeetsLongLine, StopsAtPiece, WritesPieces}
use Rattle.f11_flx.specs.declared.refusal.FlxRefusal.{FlxRefusal}
use Rattle.f11_flx.specs.declared.refusal.FlxRefusal.TheVariants as refusal
use Rattle.f11_flx.specs.declared.to_records.ToRecords.{ToRecords}
use Rattle.f11_host.specs.Filling.{OfEachText}
use Rattle.f11_host.specs.Texts.{IsCopiedText, copied_text}
use Rattle.rt11_text.specs.Crs.{with_crs}

-- All of the text was read, and the blocks of its lines that are full were written.
pub record ReadsText {V : Type 0} (S : FilesService V) (who : Who) (lun bytes : ℕ) (taken : List ℕ) (s s' : ToRecords) (o o' : Out)
    (unread unread' : Option (List ℕ)) (old new : V) : Type 0 where
  pub size : length taken ≡ bytes
  pub takes : Consumes unread unread' taken
  pub writes : WritesPieces S who lun s s' (with_crs taken) [] o o' old new

-- Some of it was, and a block was refused.
pub record StopsAtText {V : Type 0} (S : FilesService V) (who : Who) (lun bytes : ℕ) (taken : List ℕ) (s : ToRecords) (o : Out)
    (e : Refusal) (unread unread' : Option (List ℕ)) (old new : V) : Type 0 where
  pub few : length taken ≤ bytes
  pub takes : Consumes unread unread' taken
  pub stops : StopsAtPiece S who lun s (with_crs taken) o e old new

-- Some of it was, and a line is too long.
pub record MeetsLongText {V : Type 0} (S : FilesService V) (who : Who) (lun bytes : ℕ) (taken : List ℕ) (s : ToRecords) (o : Out)
    (unread unread' : Option (List ℕ)) (old new : V) : Type 0 where
  pub few : length taken ≤ bytes
  pub takes : Consumes unread unread' taken
  pub meets : MeetsLongLine S who lun s (with_crs taken) o old new

-- The host gave no more: blocks were written before that.
pub record LacksText {V : Type 0} (S : FilesService V) (who : Who) (lun bytes : ℕ) (old new : V) : Type 0 where
  pub some : 0 < bytes
  pub pieces : List (List ℕ)
  pub granted : Granted S who (writes_of lun 0 pieces) old new

abbrev pub FailsToReadText : {V : Type 0} → FilesService V → Who → ℕ → ℕ → List ℕ → ToRecords → Out → FlxRefusal → Option (List ℕ) →
    Option (List ℕ) → V → V → Type 0
FailsToReadText S who lun bytes taken s o (refusal.Files e) unread unread' old new =
    StopsAtText S who lun bytes taken s o e unread unread' old new
FailsToReadText S who lun bytes taken s o (refusal.Rt e) unread unread' old new = ⊥
FailsToReadText S who lun bytes taken s o refusal.BadRecord unread unread' old new = ⊥
FailsToReadText S who lun bytes taken s o refusal.LineTooLong unread unread' old new =
    MeetsLongText S who lun bytes taken s o unread unread' old new
FailsToReadText S who lun bytes taken s o refusal.Unread unread unread' old new = LacksText S who lun bytes old new

-- The text was read, and its copy was written, of so many blocks, with this end and this longest line.
pub record CopiesText {V : Type 0} (S : FilesService V) (who : Who) (lun bytes : ℕ) (taken : List ℕ) (blocks end longest : ℕ)
    (unread unread' : Option (List ℕ)) (old new : V) : Type 0 where
  pub size : length taken ≡ bytes
  pub takes : Consumes unread unread' taken
  pub pieces : List (List ℕ)
  pub granted : Granted S who (writes_of lun 0 pieces) old new
  pub count : length pieces ≡ blocks
  pub copied : IsCopiedText taken pieces (text_attributes longest blocks end)

-- A block of the copy was refused: the next one, whatever follows the bytes that were taken.
pub record StopsCopyingText {V : Type 0} (S : FilesService V) (who : Who) (lun bytes : ℕ) (taken : List ℕ) (e : Refusal)
    (unread unread' : Option (List ℕ)) (old new : V) : Type 0 where
  pub few : length taken ≤ bytes
  pub takes : Consumes unread unread' taken
  pub pieces : List (List ℕ)
  pub last : List ℕ
  pub between : V
  pub granted : Granted S who (writes_of lun 0 pieces) old between
  pub denied : Denies S who (writes lun (suc (length pieces)) last) e between new
  pub begins : OfEachText bytes taken (λ text. (full : List (List ℕ)) (attr : List ℕ) → IsCopiedText text full attr →
      (rest : List (List ℕ)) × (full ≡ pieces ++ last ∷ rest))

-- A line of a text is too long, whatever follows the bytes that were taken.
pub record HasNoCopy (bytes : ℕ) (taken : List ℕ) (unread unread' : Option (List ℕ)) : Type 0 where
  pub few : length taken ≤ bytes
  pub takes : Consumes unread unread' taken
  pub none : OfEachText bytes taken (λ text. copied_text text ≡ None)

-- Blocks were written before that.
pub record MeetsNoCopy {V : Type 0} (S : FilesService V) (who : Who) (lun bytes : ℕ) (taken : List ℕ) (unread unread' : Option (List ℕ))
    (old new : V) : Type 0 where
  pub has : HasNoCopy bytes taken unread unread'
  pub pieces : List (List ℕ)
  pub granted : Granted S who (writes_of lun 0 pieces) old new

abbrev pub FailsToCopyText : {V : Type 0} → FilesService V → Who → ℕ → ℕ → List ℕ → FlxRefusal → Option (List ℕ) → Option (List ℕ) →
    V → V → Type 0
FailsToCopyText S who lun bytes taken (refusal.Files e) unread unread' old new =
    StopsCopyingText S who lun bytes taken e unread unread' old new
FailsToCopyText S who lun bytes taken (refusal.Rt e) unread unread' old new = ⊥
FailsToCopyText S who lun bytes taken refusal.BadRecord unread unread' old new = ⊥
FailsToCopyText S who lun bytes taken refusal.LineTooLong unread unread' old new =
    MeetsNoCopy S who lun bytes taken unread unread' old new
FailsToCopyText S who lun bytes taken refusal.Unread unread unread' old new = LacksText S who lun bytes old new

-- All bytes of a text were taken, whose copy has so many blocks, this end, and this longest line.
pub record PlansText (bytes blocks end longest : ℕ) (unread unread' : Option (List ℕ)) : Type 0 where
  pub taken : List ℕ
  pub size : length taken ≡ bytes
  pub takes : Consumes unread unread' taken
  pub pieces : List (List ℕ)
  pub count : length pieces ≡ blocks
  pub copied : IsCopiedText taken pieces (text_attributes longest blocks end)

-- The host gave no more, or the text has no copy.
abbrev pub FailsToPlanText : ℕ → FlxRefusal → Option (List ℕ) → Option (List ℕ) → Type 0
FailsToPlanText bytes (refusal.Files e) unread unread' = ⊥
FailsToPlanText bytes (refusal.Rt e) unread unread' = ⊥
FailsToPlanText bytes refusal.BadRecord unread unread' = ⊥
FailsToPlanText bytes refusal.LineTooLong unread unread' = (taken : List ℕ) × HasNoCopy bytes taken unread unread'
FailsToPlanText bytes refusal.Unread unread unread' = 0 < bytes
