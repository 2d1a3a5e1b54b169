-- A file's first header that is written with another protection word, other characteristics, attributes or ident area, and the map that it
-- had (Files-11 On-Disk Structure Level 1, "File Header").
use Rattle.std.specs.Prelude.{◌≡◌, ℕ, ◌≤◌, IsTrue, List}
use Rattle.f11_bytes.specs.Words.{word_sum}
use Rattle.f11_dev.specs.Image.{Image}
use Rattle.f11_header.specs.Fields.{HeaderFields, file_number, file_sequence, owner, protection}
use Rattle.f11_header.specs.Fields.{characteristics, attributes, ident_area, map_area, check_word}
use Rattle.f11_header.specs.Header.{holds_header, header_in, header_with}
use Rattle.f11_volume.specs.home.Home.{HomeFields}
use Rattle.f11_index.specs.Growth.{with_header}
use Rattle.f11_index.specs.Table.{table_of, IsFile}
use Rattle.f11_store.specs.Changes.{with_delete_mark, with_replacement}
use Rattle.f11_store.specs.File.{File, with_mark, with_contiguous, without_contiguous}
use Rattle.f11_store.specs.Lags.{with_contiguous_mark, with_no_mark}
use Rattle.f11_store.specs.declared.files.Change.TheVariants as change
use Rattle.f11_volume.specs.Sound.{HasSoundVolume}
use Rattle.f11_image_store.specs.FileLaws.{ChangesFileAt}

-- a file of which its first header says this
abbrev pub said_by : List ℕ → File → File
said_by block f = record f {
  owner = owner block;
  protection = protection block;
  characteristics = characteristics block;
  ident = ident_area block;
  attr = attributes block;
}

-- A block is a valid header as another is, with its numbers and its map, and says of its file what that does, but for this change.
pub record SaysBut (change : File → File) (old new : List ℕ) : Type 0 where
  pub holds : IsTrue (holds_header new)
  pub sum : check_word new ≡ word_sum new 255
  pub number : file_number new ≡ file_number old
  pub sequence : file_sequence new ≡ file_sequence old
  pub map : map_area new ≡ map_area old
  pub file : (f : File) → said_by new f ≡ change (said_by old f)

-- so does one that is sealed with fields written anew, where these change the file so
abbrev pub WrittenSays : (HeaderFields → HeaderFields) → (File → File) → List ℕ → Type 0
WrittenSays fields change old =
    (new : List ℕ) → IsTrue (holds_header old) → header_in new ≡ header_with fields old → check_word new ≡ word_sum new 255 →
    SaysBut change old new

abbrev pub AttributesAreReplaced : Type 0
AttributesAreReplaced = (old attr : List ℕ) → WrittenSays (λ h. record h { attributes = attr }) (with_replacement (change.Attr attr)) old

abbrev pub IdentIsReplaced : Type 0
IdentIsReplaced = (old ident : List ℕ) → WrittenSays (λ h. record h { ident = ident }) (with_replacement (change.Ident ident)) old

abbrev pub ProtectionIsReplaced : Type 0
ProtectionIsReplaced = (old : List ℕ) (protects : ℕ) →
    WrittenSays (λ h. record h { protection = protects }) (with_replacement (change.Protect protects)) old

abbrev pub DeleteMarkIsSet : Type 0
DeleteMarkIsSet = (old : List ℕ) → WrittenSays (λ h. record h { characteristics = with_mark (characteristics old) }) with_delete_mark old

abbrev pub ContiguousMarkIsSet : Type 0
ContiguousMarkIsSet = (old : List ℕ) →
    WrittenSays (λ h. record h { characteristics = with_contiguous (characteristics old) }) with_contiguous_mark old

abbrev pub ContiguousMarkIsCleared : Type 0
ContiguousMarkIsCleared = (old : List ℕ) →
    WrittenSays (λ h. record h { characteristics = without_contiguous (characteristics old) }) with_no_mark old

-- the first header of file f was written, and the store has the file with this change
abbrev pub ChangesFile : ℕ → List ℕ → (File → File) → HomeFields → Image → Image → Type 0
ChangesFile f = ChangesFileAt f f

-- such a block may be written over the first header of a file from 4 on
abbrev pub FirstHeaderMayChange : Type 0
FirstHeaderMayChange =
    (image : Image) (home : HomeFields) (f : ℕ) (block : List ℕ) (change : File → File) → HasSoundVolume image home → 4 ≤ f →
    IsFile (table_of image home) f →
    SaysBut change ((table_of image home).header f) block → ChangesFile f block change home image (with_header image home f block)

-- and over that of the index file
abbrev pub IndexHeaderMayChange : Type 0
IndexHeaderMayChange =
    (image : Image) (home : HomeFields) (block : List ℕ) (change : File → File) → HasSoundVolume image home →
    SaysBut change ((table_of image home).header 1) block → ChangesFile 1 block change home image (with_header image home 1 block)
