-- What copying the blocks of a file tells, read one by one and given to a target (profile).
use Rattle.std.specs.Prelude.{◌≡◌, ◌⊎◌, ℕ, ◌*◌, ◌<◌, ◌≤◌, List, ◌++◌, All, length, Some}
use Rattle.std.specs.List.{concat}
use Rattle.f11_store.specs.declared.refusals.Refusal.{Refusal}
use Rattle.f11_making.specs.Asking.{BreaksOffAsking, Granted, FilesService, Who, reads_of}
use Rattle.f11_flx.specs.Filling.{Refusing, TakingBlocks, Took}
use Rattle.f11_flx.specs.Lines.{in_whole_blocks}
use Rattle.f11_flx.specs.ToText.{HasNoText, rest_of, text_left}
use Rattle.f11_flx.specs.declared.refusal.FlxRefusal.{FlxRefusal}
use Rattle.f11_flx.specs.declared.refusal.FlxRefusal.TheVariants.{BadRecord, Files}
use Rattle.f11_flx.specs.declared.to_text.ToText.{ToText}

-- The first blocks of the file that is accessed were read, and taken as they are.
pub record CopiesBlocks {V W : Type 0} (S : FilesService V) (K : TakingBlocks W) (who : Who) (lun : ℕ) (name : List ℕ) (count : ℕ)
    (old new : V) (t t' : W) : Type 0 where
  pub given : List (List ℕ)
  pub count_is : length given ≡ count
  pub asked : Granted S who (reads_of lun 0 given) old new
  pub took : Took K name 0 given t t'
  pub whole : All (λ b. length b ≡ 512) given

-- They were read, and the blocks of their text were taken.
pub record CopiesText {V W : Type 0} (S : FilesService V) (K : TakingBlocks W) (who : Who) (lun : ℕ) (name : List ℕ) (text : ToText)
    (count blocks : ℕ) (old new : V) (t t' : W) : Type 0 where
  pub given : List (List ℕ)
  pub count_is : length given ≡ count
  pub asked : Granted S who (reads_of lun 0 given) old new
  pub sizes : All (λ b. length b ≡ 512) given
  pub pieces : List (List ℕ)
  pub took : Took K name 0 pieces t t'
  pub blocks_are : blocks ≡ length pieces
  pub whole : All (λ b. length b ≡ 512) pieces
  pub bytes : List ℕ
  pub converted : text_left text (concat given) ≡ Some bytes
  pub pieces_are : concat pieces ≡ in_whole_blocks bytes

-- A block of the file was refused.
pub record IsDenied {V W : Type 0} (S : FilesService V) (K : TakingBlocks W) (who : Who) (lun : ℕ) (name : List ℕ) (count : ℕ)
    (e : FlxRefusal)
    (old new : V) (t t' : W) : Type 0 where
  pub refusal : Refusal
  pub is : e ≡ Files refusal
  pub given : List (List ℕ)
  pub few : length given ≤ count
  pub breaks : BreaksOffAsking S who (reads_of lun 0 given) refusal old new
  pub pieces : List (List ℕ)
  pub took : Took K name 0 pieces t t'

-- Blocks of the file were read, by which it has no text.
pub record IsNoText {V W : Type 0} (S : FilesService V) (K : TakingBlocks W) (who : Who) (lun : ℕ) (name : List ℕ) (text : ToText)
    (count : ℕ)
    (e : FlxRefusal) (old new : V) (t t' : W) : Type 0 where
  pub is : e ≡ BadRecord
  pub given : List (List ℕ)
  pub few : length given ≤ count
  pub asked : Granted S who (reads_of lun 0 given) old new
  pub none : HasNoText text (concat given)
  pub pieces : List (List ℕ)
  pub took : Took K name 0 pieces t t'

-- Blocks of the file were read, and the target refused one: what was read is longer than those that it took.
pub record IsNotTaken {V W : Type 0} (S : FilesService V) (K : TakingBlocks W) (R : Refusing W) (who : Who) (lun : ℕ) (name : List ℕ)
    (count : ℕ)
    (IsLonger : List (List ℕ) → ℕ → Type 0) (e : FlxRefusal) (old new : V) (t t' : W) : Type 0 where
  pub given : List (List ℕ)
  pub few : length given ≤ count
  pub asked : Granted S who (reads_of lun 0 given) old new
  pub pieces : List (List ℕ)
  pub last : List ℕ
  pub between : W
  pub took : Took K name 0 pieces t between
  pub refused : R name (length pieces) last e between t'
  pub longer : IsLonger given (length pieces)

-- the text has more bytes than so many blocks, whatever follows what was read
abbrev pub HasLongerText : ToText → List (List ℕ) → ℕ → Type 0
HasLongerText t given blocks =
    (more bytes : List ℕ) → rest_of t ≤ length (concat given ++ more) → text_left t (concat given ++ more) ≡ Some bytes →
    512 * blocks < length bytes

abbrev pub FailsToCopyBlocks : {V W : Type 0} → FilesService V → TakingBlocks W → Refusing W → Who → ℕ → List ℕ → ℕ → FlxRefusal → V → V → W
    →
    W → Type 0
FailsToCopyBlocks S K R who lun name count e old new t t' =
    (IsDenied S K who lun name count e old new t t') ⊎ (IsNotTaken S K R who lun name count (λ given blocks. blocks < count) e old new t t')

abbrev pub FailsToCopyText : {V W : Type 0} → FilesService V → TakingBlocks W → Refusing W → Who → ℕ → List ℕ → ToText → ℕ → FlxRefusal → V
    →
    V → W → W → Type 0
FailsToCopyText S K R who lun name text count e old new t t' =
    (IsDenied S K who lun name count e old new t t')
    ⊎ ((IsNoText S K who lun name text count e old new t t') ⊎ (IsNotTaken S K R who lun name count (HasLongerText text) e old new t t'))
