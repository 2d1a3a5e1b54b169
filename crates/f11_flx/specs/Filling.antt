-- A text that is converted into the blocks of a copy, which are given to a target one by one (profile).
use Rattle.std.specs.Prelude.{
  ◌≡◌,
  ◌⊎◌,
  ℕ,
  suc,
  ◌+◌,
  ◌-◌,
  ◌*◌,
  ◌<◌,
  ◌≤◌,
  false,
  List,
  [],
  ◌∷◌,
  ◌++◌,
  All,
  length,
  take,
  drop,
  replicate,
  Option,
  Some,
  option_map,
}
use Rattle.std.specs.List.{concat}
use Rattle.f11_flx.specs.ToText.{ending_of, ends_record, rest_of, text_left, HasNoText}
use Rattle.f11_flx.specs.declared.filling.Filling.{Filling}
use Rattle.f11_flx.specs.declared.refusal.FlxRefusal.{FlxRefusal}
use Rattle.f11_flx.specs.declared.refusal.FlxRefusal.TheVariants.{BadRecord}
use Rattle.f11_flx.specs.declared.to_text.ToText.{ToText}

-- how a target may take a block for this place of the file of a name
abbrev pub TakingBlocks : Type 0 → Type 1
TakingBlocks V = List ℕ → ℕ → List ℕ → V → V → Type 0

-- and how it may refuse it
abbrev pub Refusing : Type 0 → Type 1
Refusing V = List ℕ → ℕ → List ℕ → FlxRefusal → V → V → Type 0

-- it took these blocks, one after another, from this place on
abbrev pub Took : {V : Type 0} → TakingBlocks V → List ℕ → ℕ → List (List ℕ) → V → V → Type 0
Took K name place [] old new = new ≡ old
Took {V} K name place (block ∷ more) old new = (between : V) × (K name place block old between) × (Took K name (suc place) more between new)

-- a block that is being filled: so many of its bytes are, and it has this place
pub record Out : Type 0 where
  pub block : List ℕ
  pub to : ℕ
  pub place : ℕ

abbrev pub out_of : Filling → Out
out_of f = record { block = f.block; to = f.to; place = f.place }

-- the bytes that aren't given yet
abbrev pub pending : Out → List ℕ
pending o = take o.to o.block

-- they, and the text that is to come where the file goes on with these bytes
abbrev pub out_text : Out → ToText → List ℕ → Option (List ℕ)
out_text o t bytes = option_map (λ text. pending o ++ text) (text_left t bytes)

-- The block, which is full, was taken, and another one is begun.
pub record TakesNext {V : Type 0} (K : TakingBlocks V) (name : List ℕ) (o o' : Out) (old new : V) : Type 0 where
  pub took : K name o.place o.block old new
  pub next : o'.place ≡ o.place + 1
  pub empty : o'.to ≡ 0

-- So many bytes of the source were read: the text to come was that of the blocks that were taken, and then what is to come.
pub record Pouring {V : Type 0} (K : TakingBlocks V) (name : List ℕ) (t t' : ToText) (source : List ℕ) (used : ℕ) (o o' : Out)
    (old new : V) : Type 0 where
  pub pieces : List (List ℕ)
  pub took : Took K name o.place pieces old new
  pub place : o'.place ≡ o.place + length pieces
  pub whole : All (λ b. length b ≡ 512) pieces
  pub text : (more : List ℕ) → rest_of t ≤ length (source ++ more) →
      out_text o t (source ++ more) ≡ option_map (λ text. concat pieces ++ text) (out_text o' t' (drop used source ++ more))
  pub read : rest_of t' + used ≡ rest_of t
  pub within : used ≤ length source
  pub few : 512 * length pieces + (o'.to + ending_of t') ≤ o.to + ending_of t + 3 * used

-- All of the source was read, or as much as the file has.
pub record Pours {V : Type 0} (K : TakingBlocks V) (name : List ℕ) (t t' : ToText) (source : List ℕ) (o o' : Out) (old new : V) : Type 0
  where
    pub pieces : List (List ℕ)
    pub took : Took K name o.place pieces old new
    pub place : o'.place ≡ o.place + length pieces
    pub few : length pieces ≤ 5
    pub whole : All (λ b. length b ≡ 512) pieces
    pub text : (more : List ℕ) → rest_of t ≤ length (source ++ more) →
        out_text o t (source ++ more) ≡ option_map (λ text. concat pieces ++ text) (out_text o' t' more)
    pub rest : rest_of t' ≡ rest_of t - length source
    pub ended : ends_record t' ≡ false

-- Blocks were taken, and one was refused: the text is longer than those.
pub record StopsTaking {V : Type 0} (K : TakingBlocks V) (R : Refusing V) (name : List ℕ) (t : ToText) (source : List ℕ) (o : Out)
    (e : FlxRefusal) (old new : V) : Type 0 where
  pub pieces : List (List ℕ)
  pub last : List ℕ
  pub between : V
  pub took : Took K name o.place pieces old between
  pub refused : R name (o.place + length pieces) last e between new
  pub longer : (more text : List ℕ) → rest_of t ≤ length (source ++ more) → out_text o t (source ++ more) ≡ Some text →
      512 * length pieces < length text

-- A record goes past the end of the file; blocks were taken before that.
pub record MeetsBadRecord {V : Type 0} (K : TakingBlocks V) (name : List ℕ) (t : ToText) (source : List ℕ) (o : Out) (e : FlxRefusal)
    (old new : V) : Type 0 where
  pub bad : e ≡ BadRecord
  pub none : HasNoText t source
  pub pieces : List (List ℕ)
  pub took : Took K name o.place pieces old new

abbrev pub FailsToPour : {V : Type 0} → TakingBlocks V → Refusing V → List ℕ → ToText → List ℕ → Out → FlxRefusal → V → V → Type 0
FailsToPour K R name t source o e old new = (MeetsBadRecord K name t source o e old new) ⊎ (StopsTaking K R name t source o e old new)

-- The last block was taken with zeros behind its bytes, where it has some.
abbrev pub padded : Out → List ℕ
padded o = pending o ++ replicate (512 - o.to) 0

pub record FinishesLast {V : Type 0} (K : TakingBlocks V) (name : List ℕ) (o : Out) (blocks : ℕ) (old new : V) : Type 0 where
  pub some : 0 < o.to
  pub took : K name o.place (padded o) old new
  pub blocks_are : blocks ≡ o.place + 1

pub record FinishesNone {V : Type 0} (o : Out) (blocks : ℕ) (old new : V) : Type 0 where
  pub none : o.to ≡ 0
  pub stays : new ≡ old
  pub blocks_are : blocks ≡ o.place

abbrev pub FinishesBlocks : {V : Type 0} → TakingBlocks V → List ℕ → Out → ℕ → V → V → Type 0
FinishesBlocks K name o blocks old new = (FinishesNone o blocks old new) ⊎ (FinishesLast K name o blocks old new)

-- It was refused.
pub record FailsToFinish {V : Type 0} (R : Refusing V) (name : List ℕ) (o : Out) (e : FlxRefusal) (old new : V) : Type 0 where
  pub some : 0 < o.to
  pub refused : R name o.place (padded o) e old new
