-- How a file that is accessed is filled with the bytes of a file of the host, whatever it is that answers, on any device (profile).
use Rattle.std.specs.Prelude.{◌≡◌, ℕ, suc, ◌<◌, ◌≤◌, List, ◌∷◌, ◌++◌, length, take, Option}
use Rattle.std.specs.Io.KnownBytes.{Consumes}
use Rattle.f11_store.specs.declared.refusals.Refusal.{Refusal}
use Rattle.f11_making.specs.Asking.{BreaksOffAsking, Denies, FilesService, Granted, Who, writes, writes_of}
use Rattle.f11_making.specs.Making.{Making}
use Rattle.f11_making.specs.Making.{extension, filling_of}
use Rattle.f11_flx.specs.Making.{FailsToMake, MakesFile}
use Rattle.f11_flx.specs.declared.refusal.FlxRefusal.{FlxRefusal}
use Rattle.f11_flx.specs.declared.refusal.FlxRefusal.TheVariants as refusal
use Rattle.f11_host.specs.Pieces.{IsInBlocks, blocks_for}

-- What is known of a file of the host: the bytes that it has still, where they are known, and those that were taken of it.
pub record HostFile : Type 0 where
  pub unread : Option (List ℕ)
  pub taken : List ℕ

abbrev pub host_file : Option (List ℕ) → List ℕ → HostFile
host_file unread taken = record { unread = unread; taken = taken }

-- what holds of whatever bytes, so many, begin with these
abbrev pub OfEachText : ℕ → List ℕ → (List ℕ → Type 0) → Type 0
OfEachText bytes taken Holds = (text : List ℕ) → length text ≡ bytes → take (length taken) text ≡ taken → Holds text

-- All of the bytes were taken, and written in blocks.
pub record WritesBytes {V : Type 0} (S : FilesService V) (who : Who) (lun bytes : ℕ) (unread unread' : Option (List ℕ)) (taken : List ℕ)
    (old new : V) : Type 0 where
  pub size : length taken ≡ bytes
  pub takes : Consumes unread unread' taken
  pub pieces : List (List ℕ)
  pub in_blocks : IsInBlocks taken pieces
  pub granted : Granted S who (writes_of lun 0 pieces) old new

-- A block was refused: the next one of the bytes, whatever follows those that were taken.
pub record StopsAtBlock {V : Type 0} (S : FilesService V) (who : Who) (lun bytes : ℕ) (e : Refusal) (unread unread' : Option (List ℕ))
    (taken : List ℕ) (old new : V) : Type 0 where
  pub few : length taken ≤ bytes
  pub takes : Consumes unread unread' taken
  pub pieces : List (List ℕ)
  pub last : List ℕ
  pub between : V
  pub granted : Granted S who (writes_of lun 0 pieces) old between
  pub denied : Denies S who (writes lun (suc (length pieces)) last) e between new
  pub begins : OfEachText bytes taken (λ text. (blocks : List (List ℕ)) → IsInBlocks text blocks →
      (rest : List (List ℕ)) × (blocks ≡ pieces ++ last ∷ rest))

-- The host gave no more: the blocks before one were written.
pub record LacksBlock {V : Type 0} (S : FilesService V) (who : Who) (lun bytes : ℕ) (old new : V) : Type 0 where
  pub pieces : List (List ℕ)
  pub few : length pieces < blocks_for bytes
  pub granted : Granted S who (writes_of lun 0 pieces) old new

abbrev pub FailsToWriteBytes : {V : Type 0} → FilesService V → Who → ℕ → ℕ → FlxRefusal → Option (List ℕ) → Option (List ℕ) → List ℕ →
    V → V → Type 0
FailsToWriteBytes S who lun bytes (refusal.Files e) unread unread' taken old new =
    StopsAtBlock S who lun bytes e unread unread' taken old new
FailsToWriteBytes S who lun bytes (refusal.Rt e) unread unread' taken old new = ⊥
FailsToWriteBytes S who lun bytes refusal.BadRecord unread unread' taken old new = ⊥
FailsToWriteBytes S who lun bytes refusal.LineTooLong unread unread' taken old new = ⊥
FailsToWriteBytes S who lun bytes refusal.Unread unread unread' taken old new = LacksBlock S who lun bytes old new

-- All were taken; the file that is accessed got its blocks, which were written, and was given up.
pub record FillsFromHost {V : Type 0} (S : FilesService V) (who : Who) (lun bytes : ℕ) (host host' : HostFile) (old new : V)
    : Type 0 where
  pub size : length host'.taken ≡ bytes
  pub takes : Consumes host.unread host'.unread host'.taken
  pub pieces : List (List ℕ)
  pub in_blocks : IsInBlocks host'.taken pieces
  pub granted : Granted S who (filling_of lun (blocks_for bytes) pieces) old new

-- Something that was asked for that was refused: the first, whatever follows the bytes that were taken.
pub record BreaksFilling {V : Type 0} (S : FilesService V) (who : Who) (lun bytes : ℕ) (e : Refusal) (host host' : HostFile) (old new : V)
    : Type 0 where
  pub few : length host'.taken ≤ bytes
  pub takes : Consumes host.unread host'.unread host'.taken
  pub pieces : List (List ℕ)
  pub breaks : BreaksOffAsking S who (filling_of lun (blocks_for bytes) pieces) e old new
  pub whole : OfEachText bytes host'.taken (λ text. (blocks : List (List ℕ)) → IsInBlocks text blocks →
      BreaksOffAsking S who (filling_of lun (blocks_for bytes) blocks) e old new)

-- The host gave no more.
pub record LacksBytes {V : Type 0} (S : FilesService V) (who : Who) (lun bytes : ℕ) (old new : V) : Type 0 where
  pub pieces : List (List ℕ)
  pub few : length pieces < blocks_for bytes
  pub granted : Granted S who (extension lun (blocks_for bytes) ++ writes_of lun 0 pieces) old new

abbrev pub FailsToFillFromHost : {V : Type 0} → FilesService V → Who → ℕ → ℕ → FlxRefusal → HostFile → HostFile → V → V → Type 0
FailsToFillFromHost S who lun bytes (refusal.Files e) host host' old new = BreaksFilling S who lun bytes e host host' old new
FailsToFillFromHost S who lun bytes (refusal.Rt e) host host' old new = ⊥
FailsToFillFromHost S who lun bytes refusal.BadRecord host host' old new = ⊥
FailsToFillFromHost S who lun bytes refusal.LineTooLong host host' old new = ⊥
FailsToFillFromHost S who lun bytes refusal.Unread host host' old new = LacksBytes S who lun bytes old new

-- the file was made,
abbrev pub MakesFromHost : {V : Type 0} → FilesService V → Who → ℕ → ℕ → Making → HostFile → HostFile → V → V → Type 0
MakesFromHost S who lun bytes making host host' old new =
    MakesFile S who lun (FillsFromHost S who lun bytes) making host host' old new

-- or not
abbrev pub FailsToMakeFromHost : {V : Type 0} → FilesService V → Who → ℕ → ℕ → Making → FlxRefusal → HostFile → HostFile → V → V → Type 0
FailsToMakeFromHost S who lun bytes making f host host' old new =
    FailsToMake S who lun (FillsFromHost S who lun bytes) (FailsToFillFromHost S who lun bytes) making f host host' old new
