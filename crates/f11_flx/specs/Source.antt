-- What reading a source tells, to whose attributes and length its copy goes (profile).
use Rattle.std.specs.Prelude.{◌≡◌, ◌⊎◌, ℕ, ◌+◌, ◌*◌, ◌/◌, List, [], ◌∷◌, min, None, Bool, true, false}
use Rattle.std.specs.List.{concat}
use Rattle.f11_store.specs.File.{File, length_of, stated_end}
use Rattle.f11_store.specs.declared.files.Attr.{Attr}
use Rattle.f11_store.specs.declared.files.FileId.{FileId}
use Rattle.f11_store.specs.declared.refusals.Refusal.{Refusal}
use Rattle.f11_store.specs.declared.requests.Reply.{Reply}
use Rattle.f11_store.specs.declared.requests.Reply.TheVariants as reply
use Rattle.f11_store.specs.declared.requests.Request.TheVariants as request
use Rattle.f11_making.specs.Asking.{Denies, Fails, Granted, Grants, FilesService, Who, counts, told}
use Rattle.f11_flx.specs.Copies.{CopiesBlocks, CopiesText, FailsToCopyBlocks, FailsToCopyText}
use Rattle.f11_flx.specs.Filling.{Refusing, TakingBlocks}
use Rattle.f11_flx.specs.Records.{layout_of}
use Rattle.f11_flx.specs.ToText.{converted_text, rest_of, text_left}
use Rattle.f11_flx.specs.declared.mode.CopyMode.{CopyMode}
use Rattle.f11_flx.specs.declared.mode.CopyMode.TheVariants.{Image, Text}
use Rattle.f11_flx.specs.declared.refusal.FlxRefusal.{FlxRefusal}
use Rattle.f11_flx.specs.declared.refusal.FlxRefusal.TheVariants.{BadRecord}
use Rattle.f11_flx.specs.declared.to_text.ToText.{ToText}

-- the reply tells attributes
abbrev pub is_attr : Reply → Bool
is_attr (reply.Attr a) = true
is_attr _ = false

-- how many blocks are up to the end that attributes state, in a file of so many
abbrev pub up_to_end : List ℕ → ℕ → ℕ
up_to_end attr blocks = (min (stated_end attr) (512 * blocks) + 511) / 512

-- The conversion is that of a file with these attributes and so many blocks.
pub record StartsText (attr : List ℕ) (blocks : ℕ) (text : ToText) : Type 0 where
  pub starts : (file : File) → file.attr ≡ attr → length_of file ≡ blocks → text_left text (concat file.blocks) ≡ converted_text file
  pub rest_is : rest_of text ≡ min (stated_end attr) (512 * blocks)

-- The file was copied, as blocks or as a text: so many blocks were taken.
abbrev pub CopiesAs : {V W : Type 0} → CopyMode → FilesService V → TakingBlocks W → Who → ℕ → List ℕ → List ℕ → ℕ → ℕ → V → V → W → W
    → Type 0
CopiesAs Image S K who lun name attr blocks count old new t t' =
    (count ≡ up_to_end attr blocks) × (CopiesBlocks S K who lun name (up_to_end attr blocks) old new t t')
CopiesAs Text S K who lun name attr blocks count old new t t' =
    (text : ToText) × (StartsText attr blocks text) × (CopiesText S K who lun name text (up_to_end attr blocks) count old new t t')

-- Its attributes don't say how its records lie.
pub record HasNoLayout {V W : Type 0} (attr : List ℕ) (e : FlxRefusal) (old new : V) (t t' : W) : Type 0 where
  pub is : e ≡ BadRecord
  pub none : layout_of attr ≡ None
  pub stays : new ≡ old
  pub left : t' ≡ t

abbrev pub FailsAs : {V W : Type 0} → CopyMode → FilesService V → TakingBlocks W → Refusing W → Who → ℕ → List ℕ → List ℕ → ℕ → FlxRefusal →
    V → V → W → W → Type 0
FailsAs Image S K R who lun name attr blocks e old new t t' = FailsToCopyBlocks S K R who lun name (up_to_end attr blocks) e old new t t'
FailsAs Text S K R who lun name attr blocks e old new t t' =
    (HasNoLayout attr e old new t t')
    ⊎ ((text : ToText) × (StartsText attr blocks text) × (FailsToCopyText S K R who lun name text (up_to_end attr blocks) e old new t t'))

-- Attributes and length of the source were told.
pub record TellsSource {V : Type 0} (S : FilesService V) (who : Who) (lun : ℕ) (source : FileId) (attr : List ℕ) (blocks : ℕ)
    (old new : V) : Type 0 where
  pub of : Attr
  pub attr_is : of.attr ≡ attr
  pub asked : Granted S who (told (request.ReadAttr source) (reply.Attr of) ∷ counts lun blocks ∷ []) old new

-- They weren't.
pub record LacksLength {V : Type 0} (S : FilesService V) (who : Who) (lun : ℕ) (source : FileId) (e : Refusal) (old new : V) : Type 0 where
  pub of : Attr
  pub between : V
  pub asked : Grants S who (told (request.ReadAttr source) (reply.Attr of)) old between
  pub denied : Denies S who (counts lun 0) e between new

abbrev pub TellsNothing : {V : Type 0} → FilesService V → Who → ℕ → FileId → Refusal → V → V → Type 0
TellsNothing S who lun source e old new =
    (Fails S who is_attr (request.ReadAttr source) e old new) ⊎ (LacksLength S who lun source e old new)
