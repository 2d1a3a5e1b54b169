-- What taking out the text of a file's records tells (RSX-11M Utilities manual, FLX; profile: a line ends with LF, as a host's).
use Rattle.std.specs.Prelude.{◌≡◌, ℕ, ◌+◌, ◌-◌, ◌*◌, ◌/◌, ◌≤◌, Bool, false, IsTrue, List, ◌++◌, length, take, Option, Some, None, is_some}
use Rattle.std.specs.Prelude.{option_map}
use Rattle.std.specs.List.{concat}
use Rattle.f11_dev.specs.Disk.{Disk}
use Rattle.f11_dev.specs.Looked.{Looked}
use Rattle.f11_flx.specs.Lines.{text_with}
use Rattle.f11_flx.specs.Records.{Which, all, good, good_of, records_of}
use Rattle.f11_flx.specs.ToText.{converted_by, ending_of, ends_record, rest_of, text_by}
use Rattle.f11_flx.specs.Place.{text_at_bad}
use Rattle.f11_flx.specs.declared.line_end.LineEnd.TheVariants.{Lf}
use Rattle.f11_flx.specs.declared.to_text.ToText.{ToText}
use Rattle.f11_header.specs.Fields.{attributes}
use Rattle.f11_index.specs.IndexFile.{Index}
use Rattle.f11_reader.specs.Reading.{contents_to_come, header_in_hand, headers_left}
use Rattle.f11_reader.specs.declared.file.FileReader.{FileReader}
use Rattle.f11_store.specs.File.{File, most_blocks, no_file, stated_end}
use Rattle.f11_commands.specs.Output.{TakesText}
use Rattle.f11_commands.specs.TakingOut.{BeginsWith, ReadsBefore}
use Rattle.f11_commands.specs.declared.outcome.Failure.{Failure}
use Rattle.f11_commands.specs.declared.outcome.Failure.TheVariants.{DeviceFault, NoMemory, CannotWrite}

-- a file that is read, by the attributes that its header in hand says and the blocks that are still to come
abbrev pub file_to_come : Index → Disk → FileReader → File
file_to_come index disk file = record no_file { attr = attributes (header_in_hand file); blocks = contents_to_come index disk file }

-- all blocks of a file, or those before the one by which it breaks off
abbrev pub blocks_until : Option ℕ → List (List ℕ) → List (List ℕ)
blocks_until None blocks = blocks
blocks_until (Some vbn) blocks = take (vbn - 1) blocks

-- the file with these alone
abbrev pub file_until : Index → Disk → FileReader → Option ℕ → File
file_until index disk file broke =
    record no_file { attr = attributes (header_in_hand file); blocks = blocks_until broke (contents_to_come index disk file) }

-- They were counted; headers alone were read.
pub record CountsBefore (index : Index) (file : FileReader) (broke : Option ℕ) (blocks : ℕ) (old new : Disk) : Type 0 where
  pub count : IsTrue old.honest → blocks ≡ length (blocks_until broke (contents_to_come index old file))
  pub few : blocks ≤ most_blocks
  pub looked : Looked old new (headers_left file) 0

-- the lines of a file's records; none where they can't be read
abbrev pub lines_of_records : File → Option (List ℕ)
lines_of_records file = converted_by Lf all file

-- those of the good ones, which stand before the first that goes past the end
abbrev pub good_lines : File → List ℕ
good_lines file = text_with Lf (good_of file)

-- At most so many transfers were made: one for each header that the file may still have, so that its blocks are counted, and one again;
-- one for each block that holds bytes before its end; and those that failed.
pub record ReadsRecords (index : Index) (file : FileReader) (old new : Disk) (faults : ℕ) : Type 0 where
  pub blocks : ℕ
  pub few : blocks ≤ (stated_end (attributes (header_in_hand file)) + 511) / 512
  pub come : IsTrue old.honest → blocks ≤ length (contents_to_come index old file)
  pub looked : Looked old new (2 * headers_left file + blocks + faults) faults

-- a text of so many bytes is that of the file's records
pub record IsTextOf (index : Index) (file : FileReader) (broke : Option ℕ) (count : ℕ) (disk : Disk) (text : List ℕ) : Type 0 where
  pub counted : length text ≡ count
  pub is : IsTrue disk.honest → lines_of_records (file_until index disk file broke) ≡ Some text

-- or that of its good records, since not all are
pub record IsGoodTextOf (index : Index) (file : FileReader) (broke : Option ℕ) (disk : Disk) (text : List ℕ) : Type 0 where
  pub bad : IsTrue disk.honest → records_of (file_until index disk file broke) ≡ None
  pub is : IsTrue disk.honest → text ≡ good_lines (file_until index disk file broke)

-- or a beginning of the latter
pub record IsTextBeginning (index : Index) (file : FileReader) (broke : Option ℕ) (disk : Disk) (text : List ℕ) : Type 0 where
  pub begins : IsTrue disk.honest → BeginsWith text (good_lines (file_until index disk file broke))

-- The text of the file's records was written: so many bytes.
pub record WritesText {W : Type 0} (index : Index) (file : FileReader) (broke : Option ℕ) (count : ℕ) (old new : Disk)
    (contents : W → Option (List ℕ)) (before after : W) : Type 0 where
  pub takes : TakesText contents (IsTextOf index file broke count old) before after
  pub reads : ReadsRecords index file old new 0

-- A record goes past the end, or the attributes don't say how records lie: the text of those before it was written.
pub record WritesGoodText {W : Type 0} (index : Index) (file : FileReader) (broke : Option ℕ) (old new : Disk)
    (contents : W → Option (List ℕ)) (before after : W) : Type 0 where
  pub takes : TakesText contents (IsGoodTextOf index file broke old) before after
  pub reads : ReadsRecords index file old new 0

-- A transfer failed: a beginning of it was written.
pub record BreaksOffText {W : Type 0} (index : Index) (file : FileReader) (broke : Option ℕ) (old new : Disk)
    (contents : W → Option (List ℕ)) (before after : W) : Type 0 where
  pub takes : TakesText contents (IsTextBeginning index file broke old) before after
  pub reads : ReadsRecords index file old new 1

-- what is left where the text couldn't be written: it takes no memory
abbrev pub FailsToWriteText : {W : Type 0} → Failure → Index → FileReader → Option ℕ → Disk → Disk → (W → Option (List ℕ)) → W → W → Type 0
FailsToWriteText DeviceFault index file broke old new contents before after = BreaksOffText index file broke old new contents before after
FailsToWriteText NoMemory index file broke old new contents before after = ⊥
FailsToWriteText CannotWrite index file broke old new contents before after = ReadsRecords index file old new 0

-- Bytes of a file were converted, and this text was given for them: whatever follows, it is what stood to come before what still does.
pub record GivesText (old new : ToText) (bytes text : List ℕ) : Type 0 where
  pub text_is : (which : Which) (more : List ℕ) → rest_of old ≤ length (bytes ++ more) →
      text_by which old (bytes ++ more) ≡ option_map (λ t. text ++ t) (text_by which new more)
  pub rest : rest_of new + length bytes ≡ rest_of old
  pub ended : ends_record new ≡ false
  pub few : length text + ending_of new ≤ ending_of old + 3 * length bytes

-- and so many bytes of it
pub record GivesBytes (old new : ToText) (bytes : List ℕ) (count : ℕ) (text : List ℕ) : Type 0 where
  pub counted : length text ≡ count
  pub gives : GivesText old new bytes text

-- A record that goes past the end was met in them, and this text was given before it.
pub record GivesGoodText (old : ToText) (bytes text : List ℕ) : Type 0 where
  pub text_is : (which : Which) (more : List ℕ) → rest_of old ≤ length (bytes ++ more) →
      text_by which old (bytes ++ more) ≡ option_map (λ t. text ++ t) (text_at_bad which)

-- the bytes that are to come of a file
abbrev pub all_to_come : Index → Disk → FileReader → List ℕ
all_to_come index disk file = concat (contents_to_come index disk file)

-- the whole text that a conversion gives of a file that has all its bytes to come, counted
pub record IsWholeText (index : Index) (file : FileReader) (t : ToText) (count : ℕ) (disk : Disk) (text : List ℕ) : Type 0 where
  pub counted : length text ≡ count
  pub is : IsTrue disk.honest → rest_of t ≤ length (all_to_come index disk file) → text_by all t (all_to_come index disk file) ≡ Some text

-- that before a record that goes past the end
pub record IsTextBeforeBad (index : Index) (file : FileReader) (t : ToText) (disk : Disk) (text : List ℕ) : Type 0 where
  pub is : IsTrue disk.honest → rest_of t ≤ length (all_to_come index disk file) → (which : Which) →
      text_by which t (all_to_come index disk file) ≡ option_map (λ more. text ++ more) (text_at_bad which)

-- a beginning of what it gives of the good records
pub record BeginsText (index : Index) (file : FileReader) (t : ToText) (disk : Disk) (text : List ℕ) : Type 0 where
  pub is : IsTrue disk.honest → rest_of t ≤ length (all_to_come index disk file) →
      (more : List ℕ) × (text_by good t (all_to_come index disk file) ≡ Some (text ++ more))

-- what the loop over a file's blocks tells: a text of which P holds was written, and blocks were read before the end
pub record PoursText {W : Type 0} (P : List ℕ → Type 0) (index : Index) (file : FileReader) (t : ToText) (old new : Disk) (faults : ℕ)
    (contents : W → Option (List ℕ)) (before after : W) : Type 0 where
  pub takes : TakesText contents P before after
  pub reads : ReadsBefore index file (rest_of t) old new faults

-- or why it doesn't
abbrev pub FailsToPour : {W : Type 0} → Failure → Index → FileReader → ToText → Disk → Disk → (W → Option (List ℕ)) → W → W → Type 0
FailsToPour DeviceFault index file t old new contents before after =
    PoursText (BeginsText index file t old) index file t old new 1 contents before after
FailsToPour NoMemory index file t old new contents before after = ⊥
FailsToPour CannotWrite index file t old new contents before after = ReadsBefore index file (rest_of t) old new 0

-- They were converted, and nothing was kept of it: either they gave a text, or a record that goes past the end was met in them.
abbrev pub SkimsGood : ToText → ToText → List ℕ → Type 0
SkimsGood old new bytes = (text : List ℕ) × GivesText old new bytes text

abbrev pub SkimsBad : ToText → List ℕ → Type 0
SkimsBad old bytes = (text : List ℕ) × GivesGoodText old bytes text

-- It was found whether a conversion gives a text of all records of a file that has all its bytes to come.
pub record SkimsFile (index : Index) (file : FileReader) (t : ToText) (answer : Bool) (old new : Disk) : Type 0 where
  pub tells : IsTrue old.honest → rest_of t ≤ length (all_to_come index old file)
      → answer ≡ is_some (text_by all t (all_to_come index old file))
  pub reads : ReadsBefore index file (rest_of t) old new 0

-- all records of a file can be read, and have lines
abbrev pub has_all_records : Index → Disk → FileReader → Bool
has_all_records index disk file = is_some (lines_of_records (file_to_come index disk file))

-- It was found whether they can.
pub record TellsRecords (index : Index) (file : FileReader) (answer : Bool) (old new : Disk) : Type 0 where
  pub tells : IsTrue old.honest → answer ≡ has_all_records index old file
  pub reads : ReadsRecords index file old new 0
