-- One pass over the blocks of a file on an RT-11 volume, whose copy is written to a file that is accessed (profile).
use Rattle.std.specs.Prelude.{◌≡◌, ℕ, suc, ◌+◌, ◌*◌, ◌≤◌, true, false, List, [], ◌∷◌, ◌++◌, All, length, take, Some, None}
use Rattle.std.specs.List.{concat}
use Rattle.f11_dev.specs.Disk.{Disk}
use Rattle.f11_dev.specs.declared.device.Device.{Ghosts}
use Rattle.f11_store.specs.declared.refusals.Refusal.{Refusal}
use Rattle.rt11_volume.specs.declared.refusal.RtRefusal.{RtRefusal}
use Rattle.rt11_volume.specs.declared.volume.RtAccepted.{RtAccepted}
use Rattle.f11_making.specs.Asking.{Denies, Granted, FilesService, Who, writes, writes_of}
use Rattle.f11_flx.specs.Conversion.{Copy, copied_from_rt}
use Rattle.f11_flx.specs.Filling.{Out, pending}
use Rattle.f11_flx.specs.Lines.{has_long_line, in_whole_blocks, lines_of, without_zeros}
use Rattle.f11_flx.specs.RtSource.{ReadsRtBlocks, StopsReadingRt}
use Rattle.f11_flx.specs.Spelled.{longest_of, variable_records}
use Rattle.f11_flx.specs.ToRecords.{bytes_to_come, is_too_long, longest_with}
use Rattle.f11_flx.specs.Writing.{MeetsLongLine, StopsAtPiece, WritesPieces, out_bytes}
use Rattle.f11_flx.specs.declared.mode.CopyMode.{CopyMode}
use Rattle.f11_flx.specs.declared.refusal.FlxRefusal.{FlxRefusal}
use Rattle.f11_flx.specs.declared.refusal.FlxRefusal.TheVariants as refusal
use Rattle.f11_flx.specs.declared.to_records.ToRecords.{ToRecords}

-- what was read of a text, and what is known of its lines, before any of it was
pub record BeginsLines (s : ToRecords) : Type 0 where
  pub bytes : (text : List ℕ) → bytes_to_come s text ≡ variable_records (lines_of (without_zeros text))
  pub longest : (text : List ℕ) → longest_with s text ≡ longest_of (lines_of (without_zeros text))
  pub long : (text : List ℕ) → is_too_long s text ≡ has_long_line (lines_of (without_zeros text))

-- So many blocks of the file were read, and the blocks of their lines that are full were written.
pub record ReadsLines {V E : Type 0} {met : Ghosts E} (S : FilesService V) (disk : E → Disk) (who : Who) (lun : ℕ) (name : List ℕ)
    (many : ℕ)
    (s s' : ToRecords) (o o' : Out) (rt rt' : RtAccepted E met) (old new : V) : Type 0 where
  pub blocks : List (List ℕ)
  pub reads : ReadsRtBlocks disk name blocks rt rt'
  pub count : length blocks ≡ many
  pub writes : WritesPieces S who lun s s' (concat blocks) [] o o' old new

-- They were read, and a block was refused.
pub record StopsAtBlock {V E : Type 0} {met : Ghosts E} (S : FilesService V) (disk : E → Disk) (who : Who) (lun : ℕ) (name : List ℕ)
    (many : ℕ)
    (s : ToRecords) (o : Out) (e : Refusal) (rt rt' : RtAccepted E met) (old new : V) : Type 0 where
  pub blocks : List (List ℕ)
  pub reads : ReadsRtBlocks disk name blocks rt rt'
  pub count : length blocks ≤ many
  pub stops : StopsAtPiece S who lun s (concat blocks) o e old new

-- Some were read, and one wasn't.
pub record StopsAtPlace {V E : Type 0} {met : Ghosts E} (S : FilesService V) (disk : E → Disk) (who : Who) (lun : ℕ) (name : List ℕ)
    (many : ℕ)
    (e : RtRefusal) (rt rt' : RtAccepted E met) (old new : V) : Type 0 where
  pub pieces : List (List ℕ)
  pub granted : Granted S who (writes_of lun 0 pieces) old new
  pub stops : StopsReadingRt disk name many e rt rt'

-- They were read, and a line is too long.
pub record StopsAtLine {V E : Type 0} {met : Ghosts E} (S : FilesService V) (disk : E → Disk) (who : Who) (lun : ℕ) (name : List ℕ)
    (many : ℕ)
    (s : ToRecords) (o : Out) (rt rt' : RtAccepted E met) (old new : V) : Type 0 where
  pub blocks : List (List ℕ)
  pub reads : ReadsRtBlocks disk name blocks rt rt'
  pub count : length blocks ≤ many
  pub meets : MeetsLongLine S who lun s (concat blocks) o old new

abbrev pub FailsToReadLines : {V E : Type 0} {met : Ghosts E} → FilesService V → (E → Disk) → Who → ℕ → List ℕ → ℕ → ToRecords → Out →
    FlxRefusal → RtAccepted E met → RtAccepted E met → V → V → Type 0
FailsToReadLines S disk who lun name many s o (refusal.Files e) rt rt' old new = StopsAtBlock S disk who lun name many s o e rt rt' old new
FailsToReadLines S disk who lun name many s o (refusal.Rt e) rt rt' old new = StopsAtPlace S disk who lun name many e rt rt' old new
FailsToReadLines S disk who lun name many s o refusal.BadRecord rt rt' old new = ⊥
FailsToReadLines S disk who lun name many s o refusal.LineTooLong rt rt' old new = StopsAtLine S disk who lun name many s o rt rt' old new
FailsToReadLines S disk who lun name many s o refusal.Unread rt rt' old new = ⊥

-- The last block was written, zeros behind the bytes in it, if there are any.
pub record Flushes {V : Type 0} (S : FilesService V) (who : Who) (lun : ℕ) (o o' : Out) (end : ℕ) (old new : V) : Type 0 where
  pub pieces : List (List ℕ)
  pub granted : Granted S who (writes_of lun o.place pieces) old new
  pub place : o'.place ≡ o.place + length pieces
  pub whole : All (λ b. length b ≡ 512) pieces
  pub content : concat pieces ≡ in_whole_blocks (pending o)
  pub end_is : end ≡ 512 * o.place + length (pending o)

-- It was refused.
pub record FailsToFlush {V : Type 0} (S : FilesService V) (who : Who) (lun : ℕ) (o : Out) (e : Refusal) (old new : V) : Type 0 where
  pub last : List ℕ
  pub denied : Denies S who (writes lun (suc o.place) last) e old new
  pub size : length last ≡ 512
  pub content : last ≡ in_whole_blocks (pending o)

-- The text ended, and the rest of its blocks was written, zeros behind the bytes in the last.
pub record EndsLines {V : Type 0} (S : FilesService V) (who : Who) (lun : ℕ) (s : ToRecords) (o : Out) (blocks end longest : ℕ)
    (old new : V) :
    Type 0
  where
    pub pieces : List (List ℕ)
    pub granted : Granted S who (writes_of lun o.place pieces) old new
    pub blocks_are : blocks ≡ o.place + length pieces
    pub whole : All (λ b. length b ≡ 512) pieces
    pub content : concat pieces ≡ in_whole_blocks (out_bytes o s [])
    pub end_is : end ≡ 512 * o.place + length (out_bytes o s [])
    pub longest_is : longest ≡ longest_with s []
    pub short : is_too_long s [] ≡ false

-- A block of the rest was refused.
pub record StopsAtEnd {V : Type 0} (S : FilesService V) (who : Who) (lun : ℕ) (s : ToRecords) (o : Out) (e : Refusal)
    (old new : V) : Type 0 where
  pub pieces : List (List ℕ)
  pub last : List ℕ
  pub between : V
  pub granted : Granted S who (writes_of lun o.place pieces) old between
  pub denied : Denies S who (writes lun (suc (o.place + length pieces)) last) e between new
  pub whole : All (λ b. length b ≡ 512) (pieces ++ last ∷ [])
  pub rest : List ℕ
  pub begins : in_whole_blocks (out_bytes o s []) ≡ concat (pieces ++ last ∷ []) ++ rest

-- Its last line is too long.
pub record HasLongEnd {V : Type 0} (S : FilesService V) (who : Who) (lun : ℕ) (s : ToRecords) (o : Out) (old new : V) : Type 0 where
  pub pieces : List (List ℕ)
  pub granted : Granted S who (writes_of lun o.place pieces) old new
  pub long : is_too_long s [] ≡ true

abbrev pub FailsToEnd : {V : Type 0} → FilesService V → Who → ℕ → ToRecords → Out → FlxRefusal → V → V → Type 0
FailsToEnd S who lun s o (refusal.Files e) old new = StopsAtEnd S who lun s o e old new
FailsToEnd S who lun s o (refusal.Rt e) old new = ⊥
FailsToEnd S who lun s o refusal.BadRecord old new = ⊥
FailsToEnd S who lun s o refusal.LineTooLong old new = HasLongEnd S who lun s o old new
FailsToEnd S who lun s o refusal.Unread old new = ⊥

-- These blocks are the copy of those, and these its attributes.
pub record IsCopied (m : CopyMode) (blocks pieces : List (List ℕ)) (attr : List ℕ) : Type 0 where
  pub copy : Copy
  pub converted : copied_from_rt m blocks ≡ Some copy
  pub content_is : concat pieces ≡ copy.content
  pub whole : All (λ b. length b ≡ 512) pieces
  pub attr_is : attr ≡ copy.attr

-- The file was read, and its copy was written.
pub record CopiesFile {V E : Type 0} {met : Ghosts E} (S : FilesService V) (disk : E → Disk) (m : CopyMode) (who : Who) (lun : ℕ)
    (name : List ℕ)
    (many blocks : ℕ) (attr : List ℕ) (rt rt' : RtAccepted E met) (old new : V) : Type 0 where
  pub source : List (List ℕ)
  pub reads : ReadsRtBlocks disk name source rt rt'
  pub count : length source ≡ many
  pub pieces : List (List ℕ)
  pub granted : Granted S who (writes_of lun 0 pieces) old new
  pub blocks_are : blocks ≡ length pieces
  pub copied : IsCopied m source pieces attr

-- the copy of whatever file begins with these blocks, and has so many
abbrev pub OfEach : CopyMode → ℕ → List (List ℕ) → (List (List ℕ) → Type 0) → Type 0
OfEach m many source Holds = (contents : List (List ℕ)) → take (length source) contents ≡ source → length contents ≡ many → Holds contents

-- Its first blocks were read, and a block of its copy was refused.
pub record StopsCopying {V E : Type 0} {met : Ghosts E} (S : FilesService V) (disk : E → Disk) (m : CopyMode) (who : Who) (lun : ℕ)
    (name : List ℕ) (many : ℕ) (e : Refusal) (rt rt' : RtAccepted E met) (old new : V) : Type 0 where
  pub source : List (List ℕ)
  pub reads : ReadsRtBlocks disk name source rt rt'
  pub pieces : List (List ℕ)
  pub last : List ℕ
  pub between : V
  pub granted : Granted S who (writes_of lun 0 pieces) old between
  pub denied : Denies S who (writes lun (suc (length pieces)) last) e between new
  pub begins : OfEach m many source (λ contents. (full : List (List ℕ)) (attr : List ℕ) → IsCopied m contents full attr →
      (rest : List (List ℕ)) × (full ≡ pieces ++ last ∷ rest))

-- They were read, and it has no copy.
pub record HasNoCopy {V E : Type 0} {met : Ghosts E} (S : FilesService V) (disk : E → Disk) (m : CopyMode) (who : Who) (lun : ℕ)
    (name : List ℕ) (many : ℕ) (rt rt' : RtAccepted E met) (old new : V) : Type 0 where
  pub source : List (List ℕ)
  pub reads : ReadsRtBlocks disk name source rt rt'
  pub pieces : List (List ℕ)
  pub granted : Granted S who (writes_of lun 0 pieces) old new
  pub none : OfEach m many source (λ contents. copied_from_rt m contents ≡ None)

abbrev pub FailsToCopyFile : {V E : Type 0} {met : Ghosts E} → FilesService V → (E → Disk) → CopyMode → Who → ℕ → List ℕ → ℕ →
    FlxRefusal → RtAccepted E met → RtAccepted E met → V → V → Type 0
FailsToCopyFile S disk m who lun name many (refusal.Files e) rt rt' old new = StopsCopying S disk m who lun name many e rt rt' old new
FailsToCopyFile S disk m who lun name many (refusal.Rt e) rt rt' old new = StopsAtPlace S disk who lun name many e rt rt' old new
FailsToCopyFile S disk m who lun name many refusal.BadRecord rt rt' old new = ⊥
FailsToCopyFile S disk m who lun name many refusal.LineTooLong rt rt' old new = HasNoCopy S disk m who lun name many rt rt' old new
FailsToCopyFile S disk m who lun name many refusal.Unread rt rt' old new = ⊥

-- So many blocks were read, and each was written as it is.
pub record CopiesImage {V E : Type 0} {met : Ghosts E} (S : FilesService V) (disk : E → Disk) (who : Who) (lun : ℕ) (name : List ℕ)
    (many : ℕ)
    (rt rt' : RtAccepted E met) (old new : V) : Type 0 where
  pub blocks : List (List ℕ)
  pub reads : ReadsRtBlocks disk name blocks rt rt'
  pub count : length blocks ≡ many
  pub granted : Granted S who (writes_of lun 0 blocks) old new
