-- Laws of two copies, one after the other, over the plain stores of all volumes: what comes back (profile).
use Rattle.std.specs.Prelude.{◌≡◌, ℕ, ◌==◌, false, List, [], ◌∷◌, length, Some, All}
use Rattle.std.specs.List.{concat}
use Rattle.f11_store.specs.Accesses.{FreeIsEmpty}
use Rattle.f11_store.specs.File.{File}
use Rattle.f11_store.specs.Store.{Store, file_named}
use Rattle.f11_store.specs.declared.files.FileId.{FileId}
use Rattle.rt11_volume.specs.Files.{HasFile, file_area}
use Rattle.rt11_volume.specs.Named.{files_named}
use Rattle.rt11_volume.specs.Store.{Area, RtStore}
use Rattle.f11_making.specs.Asking.{Who}
use Rattle.f11_flx.specs.Conversion.{HoldsCopy, copied_lines}
use Rattle.f11_making.specs.Making.{new_id}
use Rattle.f11_flx.specs.CopyFromRt.{CopiesFromRt}
use Rattle.f11_flx.specs.CopyToRt.{CopiesToRt, HasWholeBlocks}
use Rattle.f11_flx.specs.Laws.{IsOneLine}
use Rattle.f11_flx.specs.Lines.{in_whole_blocks, lines_of, text_of, without_zeros}
use Rattle.f11_flx.specs.Records.{records_of}
use Rattle.f11_flx.specs.Spelled.{image_attributes, image_of}
use Rattle.f11_flx.specs.declared.mode.CopyMode.{CopyMode}
use Rattle.f11_flx.specs.declared.mode.CopyMode.TheVariants.{Image, Text}

-- Of a source came back its blocks up to its end, in as many blocks as its copy had, with the attributes of so many.
pub record HasImageOf (source file : File) (blocks back : ℕ) : Type 0 where
  pub content_is : concat file.blocks ≡ concat (image_of source)
  pub attr_is : file.attr ≡ image_attributes blocks
  pub blocks_are : length file.blocks ≡ blocks
  pub as_many : back ≡ blocks
  pub each : HasWholeBlocks source → file.blocks ≡ image_of source

-- Of a source came back, as records, the lines of its records' text: the same records where each of them is one line.
pub record HasLinesOf (source file : File) (back : ℕ) : Type 0 where
  pub records : List (List ℕ)
  pub are : records_of source ≡ Some records
  pub holds : HoldsCopy file (copied_lines (lines_of (without_zeros (text_of records))))
  pub lines_are : records_of file ≡ Some (lines_of (without_zeros (text_of records)))
  pub same : All IsOneLine records → records_of file ≡ Some records
  pub blocks_are : length file.blocks ≡ back

-- what comes back of a source
abbrev pub IsBack : CopyMode → File → File → ℕ → ℕ → Type 0
IsBack Image source file blocks back = HasImageOf source file blocks back
IsBack Text source file blocks back = HasLinesOf source file back

-- a file that was copied to an RT-11 volume, and from there to any volume, came back
abbrev pub FileComesBack : Type 0
FileComesBack =
    (m : CopyMode) (who who' : Who) (lun lun' : ℕ) (source dir : FileId) (name to : List ℕ) (day protection blocks back : ℕ)
    (s s' u u' : Store) (t t' : RtStore) →
    CopiesToRt m who lun source name day blocks s s' t t' → CopiesFromRt m name who' lun' dir to protection back t' u u' →
    IsBack m (file_named s source) (file_named u' (new_id u)) blocks back

-- on the volume of the source, whose free slots are empty, the source is then as it was, unless it is the directory of the copy
abbrev pub SourceIsKept : Type 0
SourceIsKept =
    (m : CopyMode) (who who' : Who) (lun lun' : ℕ) (source dir : FileId) (name to : List ℕ) (day protection blocks back : ℕ)
    (s s' u : Store) (t t' : RtStore) → FreeIsEmpty s → (source.number == dir.number) ≡ false →
    CopiesToRt m who lun source name day blocks s s' t t' → CopiesFromRt m name who' lun' dir to protection back t' s' u →
    file_named u source ≡ file_named s source

-- Of a text came back its lines, each ended, with zeros to the end of a block: the same text where it was of that form.
pub record HasTextOf (blocks : List (List ℕ)) (content : List ℕ) : Type 0 where
  pub lines_are : content ≡ in_whole_blocks (text_of (lines_of (without_zeros (concat blocks))))
  pub same : (records : List (List ℕ)) → All IsOneLine records → concat blocks ≡ in_whole_blocks (text_of records) → content ≡ concat blocks

-- each block has 512 bytes
abbrev pub AreWhole : List (List ℕ) → Type 0
AreWhole blocks = All (λ block. length block ≡ 512) blocks

-- Of blocks came back all, where each had 512 bytes.
pub record HasBlocksOf (source blocks : List (List ℕ)) : Type 0 where
  pub content_is : AreWhole source → concat blocks ≡ concat source
  pub each : AreWhole source → AreWhole blocks → blocks ≡ source

-- what comes back of an RT-11 file of these blocks
abbrev pub IsRtBack : CopyMode → List (List ℕ) → List (List ℕ) → Type 0
IsRtBack Image source blocks = HasBlocksOf source blocks
IsRtBack Text source blocks = HasTextOf source (concat blocks)

-- The only file of a name is what came back of the file of another.
pub record HasRtBack (m : CopyMode) (name name' : List ℕ) (t t' : RtStore) : Type 0 where
  pub source : HasFile name t
  pub file : Area
  pub one : files_named name' t' ≡ file ∷ []
  pub back : IsRtBack m (file_area source).contents file.contents

-- a file of an RT-11 volume that was copied to a Files-11 volume, and from there to any RT-11 volume, came back
abbrev pub RtFileComesBack : Type 0
RtFileComesBack =
    (m : CopyMode) (who who' : Who) (lun lun' : ℕ) (dir : FileId) (name name' to : List ℕ) (day protection blocks back : ℕ)
    (s s' s'' : Store) (t u u' : RtStore) →
    CopiesFromRt m name who lun dir to protection blocks t s s' → CopiesToRt m who' lun' (new_id s) name' day back s' s'' u u' →
    HasRtBack m name name' t u'

-- each block of a store's files has 512 bytes
abbrev pub ContentsAreWhole : RtStore → Type 0
ContentsAreWhole t = (name : List ℕ) (file : HasFile name t) → AreWhole (file_area file).contents
