-- What `get` takes out of a volume, faulty or not (profile).
use Rattle.std.specs.Prelude.{◌≡◌, ℕ, ◌+◌, Bool, IsTrue, List, [], ◌∷◌, ◌++◌, codes, length, take, Option, Some, None, is_some, option_map}
use Rattle.std.specs.Prelude.{Result, Ok, Err}
use Rattle.std.specs.Fmt.{decimal}
use Rattle.std.specs.List.{concat}
use Rattle.std.specs.Option.{ok_or}
use Rattle.f11_catalog.specs.Listing.{id_entered}
use Rattle.f11_catalog.specs.Records.{Reads, file_found, file_named, index_by}
use Rattle.f11_catalog.specs.chain.Calls.{table}
use Rattle.f11_dev.specs.Disk.{Disk}
use Rattle.f11_dev.specs.Image.{Image}
use Rattle.f11_dev.specs.Looked.{Looked}
use Rattle.f11_flx.specs.declared.mode.CopyMode.{CopyMode}
use Rattle.f11_flx.specs.declared.mode.CopyMode.TheVariants as mode
use Rattle.f11_flx.specs.Refusal.{flx_refusal_name}
use Rattle.f11_flx.specs.declared.refusal.FlxRefusal.TheVariants.{BadRecord, Files}
use Rattle.f11_home.specs.Home.{HomeFields}
use Rattle.f11_index.specs.IndexFile.{Index, all_in_use, index_of}
use Rattle.f11_index.specs.Kept.{IndexLiesWithin}
use Rattle.f11_index.specs.Table.{Table, table_in, table_of}
use Rattle.f11_rad50.specs.Name.{name_text}
use Rattle.f11_reader.specs.Missing.{FindsMissing}
use Rattle.f11_reader.specs.Reading.{IsReading, headers_left}
use Rattle.f11_reader.specs.declared.file.FileReader.{FileReader}
use Rattle.f11_store.specs.File.{File, stated_end}
use Rattle.f11_store.specs.declared.files.FileId.{FileId}
use Rattle.f11_store.specs.declared.refusals.Refusal.{Refusal}
use Rattle.f11_store.specs.declared.refusals.Refusal.TheVariants.{NoSuchFile}
use Rattle.f11_volume.specs.Contents.{blocks_reached}
use Rattle.f11_commands.specs.AnyVolume.{CannotBeRead, IsReadable, TellsFault, directory_named, unless_refused}
use Rattle.f11_commands.specs.CopyCommand.{refused_line}
use Rattle.f11_commands.specs.Output.{WriterTakes}
use Rattle.f11_commands.specs.Size.{volume_end, volume_end_on}
use Rattle.f11_commands.specs.TakingOut.{FailsToWriteContent, WritesContent, blocks_before_end, bytes_to_come, end_before, lbns_to_come}
use Rattle.f11_commands.specs.TakingOut.{missing_text}
use Rattle.f11_commands.specs.TakingText.{FailsToWriteText, WritesGoodText, WritesText, file_to_come}
use Rattle.f11_commands.specs.declared.get.sought.Sought.{Sought}
use Rattle.f11_commands.specs.declared.get.told.Told.{Told}
use Rattle.f11_commands.specs.declared.get.told.Told.TheVariants.{BadRecords, Copied}
use Rattle.f11_commands.specs.declared.outcome.Answer.{Answer}
use Rattle.f11_commands.specs.declared.outcome.Answer.TheVariants.{Done, Fault}
use Rattle.f11_commands.specs.declared.outcome.Failure.{Failure}
use Rattle.f11_commands.specs.declared.outcome.Failure.TheVariants.{DeviceFault, NoMemory, CannotWrite}
use Rattle.f11_commands.specs.declared.volume.VolumeFault.{VolumeFault}

-- the bytes of a file up to its end, or all where its blocks end before (Files-11 On-Disk Structure Level 1, "File Attributes")
abbrev pub bytes_of : File → List ℕ
bytes_of f = take (stated_end f.attr) (concat f.blocks)

-- an identification and the file with it, if there is one: one whose slot is in use, else the one that the index file has which takes each
-- slot as in use
abbrev pub file_identified : Index → Image → Table → FileId → Result (FileId × File) Refusal
file_identified wide image t id = ok_or (option_map (λ file. (id, file)) (file_found wide image t id)) NoSuchFile

-- those that a directory has under a name, or why there is none
abbrev pub file_entered : Index → Image → Table → List ℕ → FileId → Result (FileId × File) Refusal
file_entered wide image t name directory =
    unless_refused (file_identified wide image t) (id_entered wide image t directory name)

-- those that the directory with a name has under a name, or why there is none
abbrev pub file_sought : Index → Image → Table → List ℕ → List ℕ → Result (FileId × File) Refusal
file_sought wide image t directory name = unless_refused (file_entered wide image t name) (directory_named wide image t directory)

-- so on a volume
abbrev pub volume_file : Image → HomeFields → List ℕ → List ℕ → Result (FileId × File) Refusal
volume_file image home directory name = file_sought (all_in_use (index_of image home)) image (table_of image home) directory name

-- the index file by which a file is read that was found: its slot is in use, or isn't
abbrev pub read_by : Index → Index → Sought → Index
read_by index wide sought = index_by sought.in_use index wide

-- A file was found, by what this says of the files that an index file has: it is told whether its slot is in use, and all its bytes and
-- blocks are to come.
pub record OpensSought (what : Image → Table → Result (FileId × File) Refusal) (index wide : Index) (sought : Sought) (old new : Disk)
    : Type 0 where
  pub id : FileId
  pub file : File
  pub is : IsTrue old.honest → what old.image (table index old) ≡ Ok (id, file)
  pub use_is : IsTrue old.honest → sought.in_use ≡ is_some (file_named old.image (table index old) id)
  pub places : IsTrue old.honest →
      lbns_to_come (read_by index wide sought) new sought.file ≡ blocks_reached (table (read_by index wide sought) old) id.number
  pub to_come : IsTrue old.honest → bytes_to_come (read_by index wide sought) new sought.file sought.end ≡ bytes_of file
  pub end_is : IsTrue old.honest → sought.end ≡ stated_end file.attr
  pub attr_is : IsTrue old.honest → (file_to_come (read_by index wide sought) new sought.file).attr ≡ file.attr
  pub blocks_are : IsTrue old.honest → (file_to_come (read_by index wide sought) new sought.file).blocks ≡ file.blocks
  pub reading : IsReading (read_by index wide sought) sought.file new
  pub reads : Reads old new 0

-- So it was, and where the volume ends.
pub record OpensWithEnd (what : Image → Table → Result (FileId × File) Refusal) (index wide : Index) (sought : Sought) (size : ℕ)
    (old new : Disk) : Type 0 where
  pub opens : OpensSought what index wide sought old new
  pub size_is : IsTrue old.honest → size ≡ volume_end wide old.image (table index old)

-- It wasn't.
pub record LacksSought (what : Image → Table → Result (FileId × File) Refusal) (index : Index) (refusal : Refusal) (old new : Disk)
    : Type 0 where
  pub refused : IsTrue old.honest → what old.image (table index old) ≡ Err refusal
  pub reads : Reads old new 0

-- A file is to be read: it has its header in hand, and its volume's index file lies on the device.
pub record IsToRead (index : Index) (file : FileReader) (disk : Disk) : Type 0 where
  pub within : IndexLiesWithin index (length disk.image)
  pub reading : IsReading index file disk

-- the index file by which a volume's file is read: its slot is in use, or isn't
abbrev pub index_read : Bool → Image → HomeFields → Index
index_read in_use image home = index_by in_use (index_of image home) (all_in_use (index_of image home))

-- The file of a directory was found on a volume that can be read and ends here; its slot is in use, or isn't, and it is read by the index
-- file that has it so. What is to come is all of it: its bytes, up to the end that it states; its blocks, which lie there; and, as another
-- file, what its attributes and its blocks say.
pub record FindsSought (directory name : List ℕ) (in_use : Bool) (by : Index) (size : ℕ) (bytes : List ℕ) (end : ℕ) (lbns : List ℕ)
    (come : File) (old new : Disk) : Type 0 where
  pub home : HomeFields
  pub readable : IsTrue old.honest → IsReadable old.image home
  pub id : FileId
  pub file : File
  pub is : IsTrue old.honest → volume_file old.image home directory name ≡ Ok (id, file)
  pub use_is : IsTrue old.honest → in_use ≡ is_some (file_named old.image (table_of old.image home) id)
  pub by_is : IsTrue old.honest → by ≡ index_read in_use old.image home
  pub places : IsTrue old.honest → lbns ≡ blocks_reached (table_in old.image (index_read in_use old.image home)) id.number
  pub size_is : IsTrue old.honest → size ≡ volume_end_on old.image home
  pub bytes_are : IsTrue old.honest → bytes ≡ bytes_of file
  pub end_is : IsTrue old.honest → end ≡ stated_end file.attr
  pub attr_is : IsTrue old.honest → come.attr ≡ file.attr
  pub blocks_are : IsTrue old.honest → come.blocks ≡ file.blocks
  pub reads : Reads old new 0

-- There is none on it, and this says why.
pub record LacksFile (directory name : List ℕ) (refusal : Refusal) (old new : Disk) : Type 0 where
  pub home : HomeFields
  pub readable : IsTrue old.honest → IsReadable old.image home
  pub refused : IsTrue old.honest → volume_file old.image home directory name ≡ Err refusal
  pub reads : Reads old new 0

-- No file can be found: it isn't on a volume that can be read, or the volume can't be read.
pub data CannotBeFound (directory name : List ℕ) (old new : Disk) : Type 0 where
  lacks_file : (refusal : Refusal) → LacksFile directory name refusal old new → CannotBeFound directory name old new
  cannot_be_read : (fault : VolumeFault) → CannotBeRead fault old new → CannotBeFound directory name old new

-- what a line begins with: the name of its file, or nothing
abbrev pub called_text : Option (List ℕ) → List ℕ
called_text None = []
called_text (Some name) = name_text name ++ codes " "

-- The line was written that says why there is none.
pub record TellsNone {W : Type 0} (called : Option (List ℕ)) (directory name : List ℕ) (answer : Answer) (old new : Disk)
    (contents : W → Option (List ℕ))
    (before after : W) : Type 0 where
  pub is_fault : answer ≡ Fault
  pub refusal : Refusal
  pub lacks : LacksFile directory name refusal old new
  pub takes : WriterTakes contents before after (called_text called ++ refused_line (Files refusal))

-- Nothing is taken out: the volume can be read and the file isn't found, or it can't be read.
pub data TellsWhyNot {W : Type 0} (called : Option (List ℕ)) (directory name : List ℕ) (answer : Answer) (old new : Disk)
    (contents : W → Option (List ℕ)) (before after : W) : Type 0 where
  tells_none : TellsNone called directory name answer old new contents before after
      → TellsWhyNot called directory name answer old new contents before after
  tells_fault : TellsFault answer old new contents before after
      → TellsWhyNot called directory name answer old new contents before after

-- The file couldn't be sought: a transfer failed, or there was no memory, and nothing was written; or there was a line to write, and the
-- writer takes no more.
abbrev pub FailsToSeek : {W : Type 0} → Failure → List ℕ → List ℕ → Disk → Disk → W → W → Type 0
FailsToSeek DeviceFault directory name old new before after = Reads old new 1 × (after ≡ before)
FailsToSeek NoMemory directory name old new before after = Reads old new 0 × (after ≡ before)
FailsToSeek CannotWrite directory name old new before after = CannotBeFound directory name old new

-- what a line says of a file that was taken out: how many bytes were given, or that its records can't all be read
abbrev pub told_text : Told → List ℕ
told_text (Copied count) = codes "copied " ++ (decimal count ++ codes " bytes")
told_text BadRecords = codes "no " ++ flx_refusal_name BadRecord

-- its line: for which block zeros were the first, and by which the file broke off
abbrev pub taken_line : Option (List ℕ) → Told → Option ℕ → Option ℕ → List ℕ
taken_line called told zeros broke = called_text called ++ (told_text told ++ (missing_text zeros broke ++ 10 ∷ []))

-- the line of a file that was taken out as text
abbrev pub text_line : Option (List ℕ) → Told → Option ℕ → List ℕ
text_line called told broke = taken_line called told None broke

-- behind how many blocks a file breaks off: as it is at the volume's end, as text at the device's
abbrev pub limit_in : CopyMode → ℕ → ℕ → ℕ
limit_in mode.Image size blocks = size
limit_in mode.Text size blocks = blocks

-- The line was written of a file of which so many bytes were given, before an end: it tells for which block zeros were the first, if for
-- any.
pub record TellsZeros {W : Type 0} (called : Option (List ℕ)) (index : Index) (file : FileReader) (end count : ℕ) (broke : Option ℕ)
    (old new : Disk)
    (contents : W → Option (List ℕ)) (before after : W) : Type 0 where
  pub zeros : Option ℕ
  pub finds : FindsMissing index file (length old.image) (blocks_before_end end) zeros old new
  pub takes : WriterTakes contents before after (taken_line called (Copied count) zeros broke)

-- It wasn't: a transfer failed before that block was found, and nothing is told; or it was found, and the writer takes no more.
abbrev pub FailsToZero : {W : Type 0} → Failure → Index → FileReader → ℕ → Disk → Disk → W → W → Type 0
FailsToZero DeviceFault index file end old new before after = Looked old new (headers_left file + 1) 1 × (after ≡ before)
FailsToZero NoMemory index file end old new before after = ⊥
FailsToZero CannotWrite index file end old new before after =
    (zeros : Option ℕ) × FindsMissing index file (length old.image) (blocks_before_end end) zeros old new

-- The file was written to the host, as it is: so many bytes, up to the end or before the block by which it breaks off; and then its line.
pub record TakesOutImage {H W : Type 0} (called : Option (List ℕ)) (index : Index) (file : FileReader) (end : ℕ) (broke : Option ℕ)
    (old new : Disk)
    (held : H → Option (List ℕ)) (host_before host_after : H) (contents : W → Option (List ℕ)) (before after : W) : Type 0 where
  pub count : ℕ
  pub mid : Disk
  pub writes : WritesContent index file (end_before end broke) count old mid held host_before host_after
  pub tells : TellsZeros called index file (end_before end broke) count broke mid new contents before after

-- It couldn't be: a transfer failed, and then the host was given a beginning of it, or the host takes no more; or its line couldn't be
-- written. It takes no memory.
pub data FailsToTakeOutImage {H W : Type 0} (failure : Failure) (index : Index) (file : FileReader) (end : ℕ) (broke : Option ℕ)
    (old new : Disk) (held : H → Option (List ℕ)) (host_before host_after : H) (before after : W) : Type 0 where
  stops : FailsToWriteContent failure index file (end_before end broke) old new held host_before host_after → after ≡ before
      → FailsToTakeOutImage failure index file end broke old new held host_before host_after before after
  untold : (count : ℕ) (mid : Disk) → WritesContent index file (end_before end broke) count old mid held host_before host_after
      → FailsToZero failure index file (end_before end broke) mid new before after
      → FailsToTakeOutImage failure index file end broke old new held host_before host_after before after

-- The text of its records was written to the host, and its line.
pub record TakesOutText {H W : Type 0} (called : Option (List ℕ)) (index : Index) (file : FileReader) (broke : Option ℕ) (old new : Disk)
    (held : H → Option (List ℕ))
    (host_before host_after : H) (contents : W → Option (List ℕ)) (before after : W) : Type 0 where
  pub count : ℕ
  pub writes : WritesText index file broke count old new held host_before host_after
  pub line : WriterTakes contents before after (text_line called (Copied count) broke)

-- Its records can't all be read: the text of those before the first that can't was written to the host, and the line that says so.
pub record TellsBadRecord {H W : Type 0} (called : Option (List ℕ)) (index : Index) (file : FileReader) (broke : Option ℕ) (old new : Disk)
    (held : H → Option (List ℕ)) (host_before host_after : H) (contents : W → Option (List ℕ)) (before after : W) : Type 0 where
  pub writes : WritesGoodText index file broke old new held host_before host_after
  pub line : WriterTakes contents before after (text_line called BadRecords broke)

-- what was told of a text, with each answer
abbrev pub TakesOutTextAs : {H W : Type 0} → Option (List ℕ) → Answer → Index → FileReader → Option ℕ → Disk → Disk → (H → Option (List ℕ))
    → H → H
    → (W → Option (List ℕ)) → W → W → Type 0
TakesOutTextAs called Done index file broke old new held host_before host_after contents before after =
    TakesOutText called index file broke old new held host_before host_after contents before after
TakesOutTextAs called Fault index file broke old new held host_before host_after contents before after =
    TellsBadRecord called index file broke old new held host_before host_after contents before after

-- It couldn't be as text, likewise: or the writer takes no more of the line.
pub data FailsToTakeOutText {H W : Type 0} (failure : Failure) (index : Index) (file : FileReader) (broke : Option ℕ) (old new : Disk)
    (held : H → Option (List ℕ)) (host_before host_after : H) (before after : W) : Type 0 where
  stops_text : FailsToWriteText failure index file broke old new held host_before host_after → after ≡ before
      → FailsToTakeOutText failure index file broke old new held host_before host_after before after
  untold_text : failure ≡ CannotWrite → (count : ℕ) → WritesText index file broke count old new held host_before host_after
      → FailsToTakeOutText failure index file broke old new held host_before host_after before after
  untold_bad : failure ≡ CannotWrite → WritesGoodText index file broke old new held host_before host_after
      → FailsToTakeOutText failure index file broke old new held host_before host_after before after

-- what was taken out in each mode, before the block by which the file breaks off
abbrev pub TakesOutAs : {H W : Type 0} → Option (List ℕ) → CopyMode → Answer → Index → FileReader → ℕ → Option ℕ → Disk → Disk
    → (H → Option (List ℕ))
    → H → H → (W → Option (List ℕ)) → W → W → Type 0
TakesOutAs called mode.Image Done index file end broke old new held host_before host_after contents before after =
    TakesOutImage called index file end broke old new held host_before host_after contents before after
TakesOutAs called mode.Image Fault index file end broke old new held host_before host_after contents before after = ⊥
TakesOutAs called mode.Text answer index file end broke old new held host_before host_after contents before after =
    TakesOutTextAs called answer index file broke old new held host_before host_after contents before after

-- nor in a mode
abbrev pub FailsToTakeOutAs : {H W : Type 0} → CopyMode → Failure → Index → FileReader → ℕ → Option ℕ → Disk → Disk
    → (H → Option (List ℕ)) → H → H → W → W → Type 0
FailsToTakeOutAs mode.Image failure index file end broke old new held host_before host_after before after =
    FailsToTakeOutImage failure index file end broke old new held host_before host_after before after
FailsToTakeOutAs mode.Text failure index file end broke old new held host_before host_after before after =
    FailsToTakeOutText failure index file broke old new held host_before host_after before after

-- It was found by which block before its end the file breaks off, if by any, and it was taken out so.
pub record TakesOut {H W : Type 0} (called : Option (List ℕ)) (mode : CopyMode) (answer : Answer) (index : Index) (file : FileReader)
    (size end : ℕ) (old new : Disk)
    (held : H → Option (List ℕ)) (host_before host_after : H) (contents : W → Option (List ℕ)) (before after : W) : Type 0 where
  pub broke : Option ℕ
  pub mid : Disk
  pub finds : FindsMissing index file (limit_in mode size (length old.image)) (blocks_before_end end) broke old mid
  pub takes : TakesOutAs called mode answer index file end broke mid new held host_before host_after contents before after

-- A transfer failed before that was found, and nothing was written; or it was, and it couldn't be taken out.
pub data FailsToTakeOut {H W : Type 0} (mode : CopyMode) (failure : Failure) (index : Index) (file : FileReader) (size end : ℕ)
    (old new : Disk) (held : H → Option (List ℕ)) (host_before host_after : H) (before after : W) : Type 0 where
  unfound : failure ≡ DeviceFault → Looked old new (headers_left file + 1) 1 → host_after ≡ host_before → after ≡ before
      → FailsToTakeOut mode failure index file size end old new held host_before host_after before after
  untaken : (broke : Option ℕ) (mid : Disk)
      → FindsMissing index file (limit_in mode size (length old.image)) (blocks_before_end end) broke old mid
      → FailsToTakeOutAs mode failure index file end broke mid new held host_before host_after before after
      → FailsToTakeOut mode failure index file size end old new held host_before host_after before after
