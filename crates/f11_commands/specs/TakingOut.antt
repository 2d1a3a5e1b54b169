-- What taking out a file's content tells (profile).
use Rattle.std.specs.Prelude.{◌≡◌, ℕ, ◌+◌, ◌-◌, ◌*◌, ◌/◌, ◌≤◌, min, IsTrue, List, [], ◌++◌, codes, length, take, Option, Some, None}
use Rattle.std.specs.Fmt.{decimal}
use Rattle.std.specs.Int.{div_ceil}
use Rattle.std.specs.List.{concat}
use Rattle.f11_catalog.specs.chain.Calls.{table}
use Rattle.f11_dev.specs.Disk.{Disk}
use Rattle.f11_dev.specs.Looked.{Looked}
use Rattle.f11_index.specs.IndexFile.{Index}
use Rattle.f11_reader.specs.Reading.{blocks_to_come, contents_to_come, headers_left}
use Rattle.f11_reader.specs.declared.file.FileReader.{FileReader}
use Rattle.f11_commands.specs.Output.{TakesText}
use Rattle.f11_commands.specs.declared.outcome.Failure.{Failure}
use Rattle.f11_commands.specs.declared.outcome.Stop.{Stop}
use Rattle.f11_commands.specs.declared.outcome.Stop.TheVariants as stop
use Rattle.f11_commands.specs.declared.outcome.Failure.TheVariants.{DeviceFault, NoMemory, CannotWrite}

-- a text begins with another
pub record BeginsWith (part whole : List ℕ) : Type 0 where
  pub rest : List ℕ
  pub is : whole ≡ part ++ rest

-- how many blocks have bytes before an end
abbrev pub blocks_before_end : ℕ → ℕ
blocks_before_end end = div_ceil end 512

-- where a file ends that is taken out up to an end, or before the block by which it breaks off: a block that lies past the volume's end, or
-- that no header names
abbrev pub end_before : ℕ → Option ℕ → ℕ
end_before end None = end
end_before end (Some vbn) = min end (512 * (vbn - 1))

-- the first block for which zeros were given, and the first that wasn't given
abbrev pub zeros_text : Option ℕ → List ℕ
zeros_text (Some vbn) = codes " zeros from VBN " ++ decimal vbn
zeros_text None = []

abbrev pub broke_text : Option ℕ → List ℕ
broke_text (Some vbn) = codes " broke off at VBN " ++ decimal vbn
broke_text None = []

abbrev pub missing_text : Option ℕ → Option ℕ → List ℕ
missing_text zeros broke = zeros_text zeros ++ broke_text broke

-- where the blocks of a file lie that are still to come
abbrev pub lbns_to_come : Index → Disk → FileReader → List ℕ
lbns_to_come index disk file = blocks_to_come (table index disk) file

-- the bytes of a file that are still to come before an end
abbrev pub bytes_to_come : Index → Disk → FileReader → ℕ → List ℕ
bytes_to_come index disk file end = take end (concat (contents_to_come index disk file))

-- At most so many transfers were made: one for each block of a file that holds bytes before an end and one for each header that the file
-- may still have, and those that failed.
pub record ReadsBefore (index : Index) (file : FileReader) (end : ℕ) (old new : Disk) (faults : ℕ) : Type 0 where
  pub blocks : ℕ
  pub few : blocks ≤ (end + 511) / 512
  pub come : IsTrue old.honest → blocks ≤ length (contents_to_come index old file)
  pub looked : Looked old new (headers_left file + blocks + faults) faults

-- a text of so many bytes is the file's before an end
pub record IsContent (index : Index) (file : FileReader) (end count : ℕ) (disk : Disk) (text : List ℕ) : Type 0 where
  pub counted : length text ≡ count
  pub few : count ≤ end
  pub is : IsTrue disk.honest → text ≡ bytes_to_come index disk file end

-- or a beginning of it
pub record IsBeginning (index : Index) (file : FileReader) (end : ℕ) (disk : Disk) (text : List ℕ) : Type 0 where
  pub few : length text ≤ end
  pub begins : IsTrue disk.honest → BeginsWith text (bytes_to_come index disk file end)

-- a beginning of so many bytes
pub record IsPart (index : Index) (file : FileReader) (end count : ℕ) (disk : Disk) (text : List ℕ) : Type 0 where
  pub counted : length text ≡ count
  pub begins : IsBeginning index file end disk text

-- The file's content before an end was written: so many bytes.
pub record WritesContent {W : Type 0} (index : Index) (file : FileReader) (end count : ℕ) (old new : Disk)
    (contents : W → Option (List ℕ)) (before after : W) : Type 0 where
  pub takes : TakesText contents (IsContent index file end count old) before after
  pub reads : ReadsBefore index file end old new 0

-- A transfer failed: a beginning of it was written.
pub record BreaksOff {W : Type 0} (index : Index) (file : FileReader) (end : ℕ) (old new : Disk)
    (contents : W → Option (List ℕ)) (before after : W) : Type 0 where
  pub takes : TakesText contents (IsBeginning index file end old) before after
  pub reads : ReadsBefore index file end old new 1

-- A transfer failed behind so many bytes of it, which were written.
pub record StopsBehind {W : Type 0} (index : Index) (file : FileReader) (end count : ℕ) (old new : Disk)
    (contents : W → Option (List ℕ)) (before after : W) : Type 0 where
  pub takes : TakesText contents (IsPart index file end count old) before after
  pub reads : ReadsBefore index file end old new 1

-- or the writer takes no more
abbrev pub StopsWriting : {W : Type 0} → Stop → Index → FileReader → ℕ → Disk → Disk → (W → Option (List ℕ)) → W → W → Type 0
StopsWriting (stop.DeviceFault count) index file end old new contents before after =
    StopsBehind index file end count old new contents before after
StopsWriting stop.CannotWrite index file end old new contents before after = ReadsBefore index file end old new 0

-- what is left where the content couldn't be written: it takes no memory
abbrev pub FailsToWriteContent : {W : Type 0} → Failure → Index → FileReader → ℕ → Disk → Disk → (W → Option (List ℕ)) → W → W → Type 0
FailsToWriteContent DeviceFault index file end old new contents before after = BreaksOff index file end old new contents before after
FailsToWriteContent NoMemory index file end old new contents before after = ⊥
FailsToWriteContent CannotWrite index file end old new contents before after = ReadsBefore index file end old new 0
