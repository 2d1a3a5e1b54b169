-- What `get --all` takes out of a volume, faulty or not: every file, one after another, and a line for each record that names none
-- (profile).
use Rattle.std.specs.Prelude.{◌≡◌, ℕ, ◌+◌, ◌*◌, ◌/◌, ◌||◌, ◌&&◌, ◌==◌, not, min, Bool, true, false, IsTrue, List, [], ◌∷◌, ◌++◌, codes}
use Rattle.std.specs.Prelude.{length}
use Rattle.std.specs.Prelude.{Option, Some, None, Result, Ok, Err, is_some, if◌then◌else◌}
use Rattle.std.specs.Fmt.{decimal}
use Rattle.std.specs.List.{concat}
use Rattle.f11_catalog.specs.AllFiles.{HasAllLed, HasOnlyLed, all_files, id_of}
use Rattle.f11_catalog.specs.Lines.{place_text}
use Rattle.f11_catalog.specs.Records.{Reads, index_by as by_use}
use Rattle.f11_catalog.specs.Walking.{BeginsWalk, GivesFile, HasNoFile, files_left as walk_left, files_to_come, one_if}
use Rattle.f11_catalog.specs.declared.fault.WalkFault.{WalkFault}
use Rattle.f11_catalog.specs.declared.fault.WalkFault.TheVariants as walk
use Rattle.f11_catalog.specs.chain.Calls.{table}
use Rattle.f11_catalog.specs.declared.walk.content.Absence.TheVariants.{BadHeader, NoFile}
use Rattle.f11_catalog.specs.declared.walk.content.Content.{Content}
use Rattle.f11_catalog.specs.declared.walk.content.Content.TheVariants as content
use Rattle.f11_catalog.specs.declared.walk.place.FileAt.{FileAt}
use Rattle.f11_catalog.specs.declared.walk.place.Place.{Place}
use Rattle.f11_catalog.specs.declared.walk.place.Place.TheVariants.{Entered, Lost}
use Rattle.f11_catalog.specs.declared.walk.state.AllFiles.{AllFiles}
use Rattle.f11_dev.specs.Disk.{Disk}
use Rattle.f11_dev.specs.Looked.{Looked}
use Rattle.f11_dev.specs.declared.device.Device.{Ghosts}
use Rattle.f11_header.specs.Fields.{attributes}
use Rattle.f11_home.specs.Home.{HomeFields}
use Rattle.f11_index.specs.IndexFile.{Index, all_in_use, index_of as index_of_image}
use Rattle.f11_index.specs.Kept.{index_kept}
use Rattle.f11_index.specs.Table.{Table, table_of}
use Rattle.f11_reader.specs.Missing.{FindsMissing}
use Rattle.f11_reader.specs.Reading.{IsReading, blocks_to_come, header_in_hand, headers_left}
use Rattle.f11_reader.specs.declared.file.FileReader.{FileReader}
use Rattle.f11_store.specs.File.{stated_end}
use Rattle.f11_store.specs.Text.{id_text}
use Rattle.f11_store.specs.declared.files.FileId.{FileId}
use Rattle.f11_commands.specs.AnyVolume.{CannotBeRead, IsReadable}
use Rattle.f11_commands.specs.Copying.{master_directory}
use Rattle.f11_commands.specs.OpenEnd.{has_open_end}
use Rattle.f11_commands.specs.Output.{WriterTakes}
use Rattle.f11_commands.specs.FoundFile.{last_end}
use Rattle.f11_commands.specs.Size.{FindsVolumeEnd, volume_end_on}
use Rattle.f11_commands.specs.TakingOut.{StopsBehind, WritesContent, blocks_before_end, end_before, missing_text}
use Rattle.f11_commands.specs.declared.get.all.counts.Counts.{Counts}
use Rattle.f11_commands.specs.declared.get.all.left_out.LeftOut.{LeftOut}
use Rattle.f11_commands.specs.declared.get.all.left_out.LeftOut.TheVariants.{Again, Host, Missing}
use Rattle.f11_commands.specs.declared.get.all.state.TakingAll.{TakingAll}
use Rattle.f11_commands.specs.declared.get.all.taking.Taken.{Taken}
use Rattle.f11_commands.specs.declared.ls.Served.{Served}
use Rattle.f11_commands.specs.declared.outcome.Answer.{Answer}
use Rattle.f11_commands.specs.declared.outcome.Answer.TheVariants.{Done, Fault}
use Rattle.f11_commands.specs.declared.outcome.Failure.{Failure}
use Rattle.f11_commands.specs.declared.outcome.Failure.TheVariants.{DeviceFault, NoMemory, CannotWrite}
use Rattle.f11_commands.specs.declared.volume.VolumeFault.{VolumeFault}

-- how many files were taken out, and how many weren't: none so far, and one more, if it counts, up to the most that 64 bits hold
abbrev pub no_counts : Counts
no_counts = record { copied = 0; cut = 0; left_out = 0; lost = 0 }

abbrev pub more_if : Bool → ℕ → ℕ
more_if counts n = if counts then min (n + 1) 18446744073709551615 else n

abbrev pub with_copied : Bool → Bool → Counts → Counts
with_copied is_cut is_lost c =
    record c { copied = more_if true c.copied; cut = more_if is_cut c.cut; lost = more_if is_lost c.lost }

abbrev pub with_left_out : Bool → Counts → Counts
with_left_out is_wanting c = record c { left_out = more_if is_wanting c.left_out }

-- its device, its index file, that with each slot in use, where the volume ends, the files that are still to come, whether it has faults,
-- whether a transfer failed, and the counts
abbrev pub device_of : {D : Type 0} {G : Ghosts D} → TakingAll D G → D
device_of all = all.device

abbrev pub index_of : {D : Type 0} {G : Ghosts D} → TakingAll D G → Index
index_of all = index_kept all.index

abbrev pub wide_of : {D : Type 0} {G : Ghosts D} → TakingAll D G → Index
wide_of all = index_kept all.wide

abbrev pub size_of : {D : Type 0} {G : Ghosts D} → TakingAll D G → ℕ
size_of all = all.size

abbrev pub files_of : {D : Type 0} {G : Ghosts D} → TakingAll D G → AllFiles
files_of all = all.files

abbrev pub has_faults : {D : Type 0} {G : Ghosts D} → TakingAll D G → Bool
has_faults all = all.faulty

abbrev pub has_failed : {D : Type 0} {G : Ghosts D} → TakingAll D G → Bool
has_failed all = all.failed

abbrev pub counts_of : {D : Type 0} {G : Ghosts D} → TakingAll D G → Counts
counts_of all = all.counts

-- the index file by which a file was found: its slot is in use, or isn't
abbrev pub index_by : {D : Type 0} {G : Ghosts D} → Bool → TakingAll D G → Index
index_by in_use all = by_use in_use (index_of all) (wide_of all)

-- how many more files may come at most
abbrev pub files_left : {D : Type 0} {G : Ghosts D} → TakingAll D G → ℕ
files_left all = walk_left all.files

-- no directory names the file in this place
abbrev pub place_is_lost : Place → Bool
place_is_lost (Entered directory name id) = false
place_is_lost (Lost name id) = true

-- where a file ends in bytes as it is taken out: then behind the last block that is reached, else where it states
abbrev pub end_taken : Table → FileReader → ℕ
end_taken t file = if has_open_end file then last_end t file else stated_end (attributes (header_in_hand file))

-- so all its blocks are taken out, if it has some
abbrev pub takes_all : Table → FileReader → Bool
takes_all t file = has_open_end file && not (length (blocks_to_come t file) == 0)

-- the identification of a file that stands beside another of its name
abbrev pub beside_text : Option FileId → List ℕ
beside_text (Some id) = codes " (" ++ (id_text id ++ codes ")")
beside_text None = []

-- all its blocks were to be taken out
abbrev pub open_text : Bool → List ℕ
open_text all_blocks = if all_blocks then codes " open, all blocks" else []

-- its slot isn't in use
abbrev pub use_text : Bool → List ℕ
use_text in_use = if in_use then [] else codes " out of use"

-- the line of a file that was taken out: where it stands, how many bytes were written, whether its slot is in use, for which block zeros
-- were the first, and by which it broke off
abbrev pub taken_at_line : Place → Bool → Option FileId → Taken → List ℕ
taken_at_line place in_use beside taken = concat (place_text place ∷ beside_text beside ∷ codes " copied " ∷ decimal taken.bytes
    ∷ codes " bytes" ∷ open_text taken.all_blocks ∷ use_text in_use ∷ missing_text taken.zeros taken.broke ∷ (10 ∷ []) ∷ [])

-- why a file isn't taken out
abbrev pub left_out_text : LeftOut → List ℕ
left_out_text (Missing id NoFile) = codes "no file " ++ id_text id
left_out_text (Missing id BadHeader) = codes "header " ++ (decimal id.number ++ codes " bad")
left_out_text Host = codes "no file of the host"
left_out_text Again = codes "again"

-- something is wanting then: what was taken out already isn't
abbrev pub is_wanting : LeftOut → Bool
is_wanting (Missing id absence) = true
is_wanting Host = true
is_wanting Again = false

-- its line
abbrev pub left_out_line : Place → LeftOut → List ℕ
left_out_line place why = concat (place_text place ∷ codes " not copied " ∷ left_out_text why ∷ (10 ∷ []) ∷ [])

-- the last line
abbrev pub all_line : Counts → List ℕ
all_line c = concat (codes "all " ∷ decimal c.copied ∷ codes " copied, " ∷ decimal c.cut ∷ codes " cut, " ∷ decimal c.left_out
    ∷ codes " not copied, " ∷ decimal c.lost ∷ codes " in lost" ∷ (10 ∷ []) ∷ [])

-- the answer: done, where no file broke off or was left out
abbrev pub all_answer : Counts → Answer
all_answer c = if (c.cut == 0) && (c.left_out == 0) then Done else Fault

-- what the command answers: that a transfer failed, or that answer, and whether the volume has faults
abbrev pub all_answered : {D : Type 0} {G : Ghosts D} → TakingAll D G → Result Served Failure
all_answered all = if all.failed then Err DeviceFault else Ok (record { answer = all_answer all.counts; faulty = all.faulty })

-- All files were begun with, of those that an index file has, and it was found where the volume ends.
pub record BeginsWithEnd (index wide : Index) (size : ℕ) (files : AllFiles) (failed : Bool) (old new : Disk) : Type 0 where
  pub mid : Disk
  pub ends : FindsVolumeEnd index wide size old mid
  pub begins : BeginsWalk index wide master_directory files failed mid new

-- They weren't.
abbrev pub FailsWithEnd : WalkFault → Disk → Disk → Type 0
FailsWithEnd walk.DeviceFault old new = Reads old new 1
FailsWithEnd walk.NoMemory old new = Reads old new 0

-- All files of a volume that can be read are to come, where these are the numbers to which directories lead; or some of these, since a
-- transfer failed.
pub record BeginsAll (index wide : Index) (size : ℕ) (files : AllFiles) (failed : Bool) (old new : Disk) : Type 0 where
  pub home : HomeFields
  pub readable : IsTrue old.honest → IsReadable old.image home
  pub led : ℕ → Bool
  pub only : IsTrue old.honest → HasOnlyLed wide old.image (table_of old.image home) master_directory led
  pub whole : failed ≡ false → IsTrue old.honest → HasAllLed wide old.image (table_of old.image home) master_directory led
  pub all : IsTrue old.honest →
      files_to_come index wide new files ≡ all_files wide old.image (table_of old.image home) master_directory led
  pub index_is : IsTrue old.honest → index ≡ index_of_image old.image home
  pub wide_is : wide ≡ all_in_use index
  pub size_is : IsTrue old.honest → size ≡ volume_end_on old.image home
  pub reads : Reads old new (one_if failed)

-- The files couldn't be begun with: a transfer failed, or there was no memory, and nothing was written; or the volume can't be read, and
-- the writer takes no more.
abbrev pub FailsToBeginAll : {W : Type 0} → Failure → Disk → Disk → W → W → Type 0
FailsToBeginAll DeviceFault old new before after = Reads old new 1 × (after ≡ before)
FailsToBeginAll NoMemory old new before after = Reads old new 0 × (after ≡ before)
FailsToBeginAll CannotWrite old new before after = (fault : VolumeFault) × CannotBeRead fault old new

-- what stands in a place can be read: its header in hand is one of the disk's
abbrev pub CanBeRead : Index → Index → Content → Disk → Type 0
CanBeRead index wide (content.File file) disk = IsReading index file disk
CanBeRead index wide (content.OutOfUse file) disk = IsReading wide file disk
CanBeRead index wide (content.Missing absence) disk = Unit {0}

module _ {D : Type 0} {G : Ghosts D} where
  -- The same volume is in hand, and the same is known of its faults.
  pub record StaysInHand (all later : TakingAll D G) : Type 0 where
    pub index : index_of later ≡ index_of all
    pub wide : wide_of later ≡ wide_of all
    pub size : size_of later ≡ size_of all
    pub faulty : has_faults later ≡ has_faults all

  -- What stands in the next place was found.
  pub record FindsNext (found : FileAt) (disk : D → Disk) (all later : TakingAll D G) : Type 0 where
    pub stays : StaysInHand all later
    pub failed : has_failed later ≡ has_failed all
    pub counts : counts_of later ≡ counts_of all
    pub gives : GivesFile (index_of all) (wide_of all) (files_of all) (files_of later) found (disk (device_of all)) (disk (device_of later))

  -- Nothing was: no place is left, or a transfer failed.
  pub data HasNoNext (disk : D → Disk) (all later : TakingAll D G) : Type 0 where
    has_none : StaysInHand all later → has_failed later ≡ has_failed all → counts_of later ≡ counts_of all
        → HasNoFile (index_of all) (wide_of all) (files_of all) (files_of later) (disk (device_of all)) (disk (device_of later))
        → HasNoNext disk all later
    fails : StaysInHand all later → has_failed later ≡ true → counts_of later ≡ counts_of all
        → Reads (disk (device_of all)) (disk (device_of later)) 1
        → HasNoNext disk all later

-- A file's content was written to its end, or before the block by which it breaks off, and it was found for which of the blocks before
-- that zeros were the first.
pub record TakesWhole {H : Type 0} (index : Index) (file : FileReader) (end : ℕ) (broke : Option ℕ) (taken : Taken) (old new : Disk)
    (held : H → Option (List ℕ)) (before after : H) : Type 0 where
  pub mid : Disk
  pub well : taken.failed ≡ false
  pub broke_is : taken.broke ≡ broke
  pub writes : WritesContent index file (end_before end broke) taken.bytes old mid held before after
  pub finds : FindsMissing index file (length old.image) (blocks_before_end (end_before end broke)) taken.zeros mid new

-- It was written, and a transfer failed before that block was found.
pub record TakesUnsure {H : Type 0} (index : Index) (file : FileReader) (end : ℕ) (broke : Option ℕ) (taken : Taken) (old new : Disk)
    (held : H → Option (List ℕ)) (before after : H) : Type 0 where
  pub mid : Disk
  pub failed : taken.failed ≡ true
  pub broke_is : taken.broke ≡ broke
  pub writes : WritesContent index file (end_before end broke) taken.bytes old mid held before after
  pub zeros : taken.zeros ≡ None
  pub looked : Looked mid new (headers_left file + 1) 1

-- A transfer failed at the block that has the next byte: a beginning was written.
pub record TakesPart {H : Type 0} (index : Index) (file : FileReader) (end : ℕ) (broke : Option ℕ) (taken : Taken) (old new : Disk)
    (held : H → Option (List ℕ)) (before after : H) : Type 0 where
  pub failed : taken.failed ≡ true
  pub stops : StopsBehind index file (end_before end broke) taken.bytes old new held before after
  pub zeros : taken.zeros ≡ None
  pub broke_is : taken.broke ≡ Some (taken.bytes / 512 + 1)

-- What was taken out of a file.
pub data TakesFile {H : Type 0} (index : Index) (file : FileReader) (end : ℕ) (broke : Option ℕ) (taken : Taken) (old new : Disk)
    (held : H → Option (List ℕ)) (before after : H) : Type 0 where
  whole : TakesWhole index file end broke taken old new held before after → TakesFile index file end broke taken old new held before after
  unsure : TakesUnsure index file end broke taken old new held before after → TakesFile index file end broke taken old new held before after
  part : TakesPart index file end broke taken old new held before after → TakesFile index file end broke taken old new held before after

-- It was found where a file ends as it is taken out; headers alone were read.
pub record FindsEndTaken (index : Index) (file : FileReader) (end : ℕ) (all_blocks : Bool) (old new : Disk) : Type 0 where
  pub end_is : IsTrue old.honest → end ≡ end_taken (table index old) file
  pub all_is : IsTrue old.honest → all_blocks ≡ takes_all (table index old) file
  pub looked : Looked old new (2 * headers_left file) 0

-- The file was taken out up to that end, or before the first block of it that lies past the volume's end, or that no header names.
pub record TakesToEnd {H : Type 0} (index : Index) (size : ℕ) (file : FileReader) (taken : Taken) (old new : Disk)
    (held : H → Option (List ℕ)) (before after : H) : Type 0 where
  pub mid : Disk
  pub there : Disk
  pub end : ℕ
  pub broke : Option ℕ
  pub finds : FindsEndTaken index file end taken.all_blocks old mid
  pub breaks : FindsMissing index file size (blocks_before_end end) broke mid there
  pub takes : TakesFile index file end broke taken there new held before after

-- It breaks off by its first block, since a transfer failed.
pub record TakesNone (file : FileReader) (taken : Taken) : Type 0 where
  pub failed : taken.failed ≡ true
  pub none : taken.bytes ≡ 0
  pub zeros : taken.zeros ≡ None
  pub broke_is : taken.broke ≡ Some 1
  pub all_blocks : taken.all_blocks ≡ has_open_end file

-- A transfer failed before that was found: nothing was written.
pub record TakesNothing {H : Type 0} (file : FileReader) (taken : Taken) (old new : Disk) (before after : H) : Type 0 where
  pub none : TakesNone file taken
  pub untouched : after ≡ before
  pub reads : Reads old new 1

-- What was taken out of a file, as far as it could be read.
pub data TakesAtEnd {H : Type 0} (index : Index) (size : ℕ) (file : FileReader) (taken : Taken) (old new : Disk)
    (held : H → Option (List ℕ)) (before after : H) : Type 0 where
  to_end : TakesToEnd index size file taken old new held before after → TakesAtEnd index size file taken old new held before after
  nothing : TakesNothing file taken old new before after → TakesAtEnd index size file taken old new held before after

-- a block isn't there
abbrev pub is_cut : Taken → Bool
is_cut taken = is_some taken.zeros || is_some taken.broke

module _ {D : Type 0} {G : Ghosts D} where
  -- A file was taken out to the host, and counted. The same files are still to come, and it is known if a transfer failed.
  pub record TakesOut {H : Type 0} (place : Place) (file : FileReader) (in_use : Bool) (taken : Taken) (disk : D → Disk)
      (all later : TakingAll D G) (held : H → Option (List ℕ)) (host host' : H) : Type 0 where
    pub stays : StaysInHand all later
    pub files : files_of later ≡ files_of all
    pub takes : TakesAtEnd (index_by in_use all) (size_of all) file taken (disk (device_of all)) (disk (device_of later)) held host host'
    pub failed : has_failed later ≡ (has_failed all || taken.failed)
    pub counts : counts_of later ≡ with_copied (is_cut taken) (place_is_lost place) (counts_of all)

  -- It was, and its line says how far.
  pub record TakesFileNext {H W : Type 0} (place : Place) (file : FileReader) (in_use : Bool) (beside : Option FileId) (disk : D → Disk)
      (all later : TakingAll D G) (held : H → Option (List ℕ)) (host host' : H) (contents : W → Option (List ℕ)) (before after : W)
      : Type 0 where
    pub taken : Taken
    pub takes_out : TakesOut place file in_use taken disk all later held host host'
    pub line : WriterTakes contents before after (taken_at_line place in_use beside taken)

  -- One more was left out, and counted where it is wanting; nothing else changes.
  pub record CountsLeftOut (why : LeftOut) (all later : TakingAll D G) : Type 0 where
    pub stays : StaysInHand all later
    pub device : device_of later ≡ device_of all
    pub files : files_of later ≡ files_of all
    pub failed : has_failed later ≡ has_failed all
    pub counts : counts_of later ≡ with_left_out (is_wanting why) (counts_of all)

  -- Its line says why.
  pub record LeavesOut {W : Type 0} (place : Place) (why : LeftOut) (all later : TakingAll D G) (contents : W → Option (List ℕ))
      (before after : W) : Type 0 where
    pub leaves : CountsLeftOut why all later
    pub line : WriterTakes contents before after (left_out_line place why)

  -- Or the writer took no more of the line.
  abbrev pub FailsToLeaveOut : Failure → LeftOut → TakingAll D G → TakingAll D G → Type 0
  FailsToLeaveOut DeviceFault why all later = ⊥
  FailsToLeaveOut NoMemory why all later = ⊥
  FailsToLeaveOut CannotWrite why all later = CountsLeftOut why all later

  -- What stands in a place was taken out, or left out where there is no file.
  abbrev pub TakesNext : {H W : Type 0} → Place → Content → Option FileId → (D → Disk) → TakingAll D G → TakingAll D G
      → (H → Option (List ℕ)) → H → H → (W → Option (List ℕ)) → W → W → Type 0
  TakesNext place (content.File file) beside disk all later held host host' contents before after =
      TakesFileNext place file true beside disk all later held host host' contents before after
  TakesNext place (content.OutOfUse file) beside disk all later held host host' contents before after =
      TakesFileNext place file false beside disk all later held host host' contents before after
  TakesNext place (content.Missing absence) beside disk all later held host host' contents before after =
      (host' ≡ host) × LeavesOut place (Missing (id_of place) absence) all later contents before after

  -- The host took no more, and no transfer failed. The same files are still to come.
  pub record FillsHost (disk : D → Disk) (all later : TakingAll D G) : Type 0 where
    pub stays : StaysInHand all later
    pub files : files_of later ≡ files_of all
    pub failed : has_failed later ≡ has_failed all
    pub counts : counts_of later ≡ counts_of all
    pub reads : Reads (disk (device_of all)) (disk (device_of later)) 0

  -- The host took no more, and no line was begun; or it has all that was to be taken out and the writer took no more of the line.
  pub data CannotTake {H W : Type 0} (place : Place) (file : FileReader) (in_use : Bool) (disk : D → Disk) (all later : TakingAll D G)
      (held : H → Option (List ℕ)) (host host' : H) (before after : W) : Type 0 where
    host_full : FillsHost disk all later → after ≡ before → CannotTake place file in_use disk all later held host host' before after
    line_lost : (taken : Taken) → TakesOut place file in_use taken disk all later held host host'
        → CannotTake place file in_use disk all later held host host' before after

  -- A file couldn't be taken out, or its line not be written.
  abbrev pub FailsToTakeFile : {H W : Type 0} → Failure → Place → FileReader → Bool → (D → Disk) → TakingAll D G → TakingAll D G
      → (H → Option (List ℕ)) → H → H → W → W → Type 0
  FailsToTakeFile DeviceFault place file in_use disk all later held host host' before after = ⊥
  FailsToTakeFile NoMemory place file in_use disk all later held host host' before after = ⊥
  FailsToTakeFile CannotWrite place file in_use disk all later held host host' before after =
      CannotTake place file in_use disk all later held host host' before after

  abbrev pub FailsToTake : {H W : Type 0} → Failure → Place → Content → (D → Disk) → TakingAll D G → TakingAll D G
      → (H → Option (List ℕ)) → H → H → W → W → Type 0
  FailsToTake failure place (content.File file) disk all later held host host' before after =
      FailsToTakeFile failure place file true disk all later held host host' before after
  FailsToTake failure place (content.OutOfUse file) disk all later held host host' before after =
      FailsToTakeFile failure place file false disk all later held host host' before after
  FailsToTake failure place (content.Missing absence) disk all later held host host' before after =
      (host' ≡ host) × FailsToLeaveOut failure (Missing (id_of place) absence) all later

  -- The last line was written, and the answer tells of failed transfers, faults and counts; or the writer took no more of it.
  pub data EndsAll {W : Type 0} (all : TakingAll D G) (answer : Result Served Failure) (contents : W → Option (List ℕ)) (before after : W)
      : Type 0 where
    told : answer ≡ all_answered all → WriterTakes contents before after (all_line (counts_of all))
        → EndsAll all answer contents before after
    untold : answer ≡ Err (if has_failed all then DeviceFault else CannotWrite) → EndsAll all answer contents before after
