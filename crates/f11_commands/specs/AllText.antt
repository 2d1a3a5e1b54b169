-- What `get --all` takes out of a volume as texts of the host: files whose records can all be read (RSX-11M Utilities manual, FLX;
-- profile).
use Rattle.std.specs.Prelude.{◌≡◌, ℕ, ◌+◌, ◌*◌, ◌/◌, ◌≤◌, ◌||◌, ◌&&◌, not, min, Bool, true, false, IsTrue, List, [], ◌∷◌, ◌++◌, codes}
use Rattle.std.specs.Prelude.{length, Option, None, is_some}
use Rattle.std.specs.Fmt.{decimal}
use Rattle.std.specs.List.{concat}
use Rattle.f11_catalog.specs.AllFiles.{id_of}
use Rattle.f11_catalog.specs.Lines.{place_text}
use Rattle.f11_catalog.specs.declared.walk.content.Content.{Content}
use Rattle.f11_catalog.specs.declared.walk.content.Content.TheVariants as content
use Rattle.f11_catalog.specs.declared.walk.place.Place.{Place}
use Rattle.f11_dev.specs.Disk.{Disk}
use Rattle.f11_dev.specs.Looked.{Looked}
use Rattle.f11_dev.specs.declared.device.Device.{Ghosts}
use Rattle.f11_header.specs.Fields.{attributes}
use Rattle.f11_index.specs.IndexFile.{Index}
use Rattle.f11_reader.specs.Missing.{missing_of}
use Rattle.f11_reader.specs.Reading.{header_in_hand, headers_left}
use Rattle.f11_reader.specs.declared.file.FileReader.{FileReader}
use Rattle.f11_store.specs.File.{stated_end}
use Rattle.f11_store.specs.declared.files.FileId.{FileId}
use Rattle.f11_commands.specs.AllCommand.{FailsToLeaveOut, FillsHost, LeavesOut, StaysInHand, beside_text, counts_of, device_of, files_of}
use Rattle.f11_commands.specs.AllCommand.{has_failed, index_by, index_of, place_is_lost, size_of, use_text, wide_of, with_copied}
use Rattle.f11_commands.specs.OpenEnd.{has_open_end, is_text}
use Rattle.f11_commands.specs.Output.{WriterTakes}
use Rattle.f11_commands.specs.TakingOut.{blocks_before_end, lbns_to_come}
use Rattle.f11_commands.specs.TakingText.{BreaksOffText, IsGoodTextOf, WritesGoodText, WritesText, has_all_records}
use Rattle.f11_commands.specs.declared.get.all.left_out.LeftOut.TheVariants.{Missing}
use Rattle.f11_commands.specs.declared.get.all.state.TakingAll.{TakingAll}
use Rattle.f11_commands.specs.declared.get.all.taken_text.TakenText.{TakenText}
use Rattle.f11_commands.specs.declared.get.all.taken_text.TakenText.TheVariants.{Bad, Broke, Whole}
use Rattle.f11_commands.specs.declared.outcome.Failure.{Failure}
use Rattle.f11_commands.specs.declared.outcome.Failure.TheVariants.{DeviceFault, NoMemory, CannotWrite}

-- a file's header states its end
abbrev pub states_end : FileReader → Bool
states_end file = not (has_open_end file)

-- its records are taken for lines: in any case, or where its header says so
abbrev pub may_be_lines : Bool → FileReader → Bool
may_be_lines by_header file = not by_header || is_text file

-- each block before the end that it states is there: a header names it, and it lies on the volume, which ends here, and on the device
abbrev pub has_all_blocks : Index → ℕ → Disk → FileReader → Bool
has_all_blocks index size disk file = not (is_some (missing_of (min size (length disk.image))
    (blocks_before_end (stated_end (attributes (header_in_hand file)))) (lbns_to_come index disk file)))

-- then it can be taken out as a text, whole, where all its records can be read
abbrev pub can_be_text : Index → ℕ → Bool → Disk → FileReader → Bool
can_be_text index size by_header disk file =
    (states_end file && may_be_lines by_header file) && (has_all_blocks index size disk file && has_all_records index disk file)

-- and so can what stands in a place, where it is such a file
abbrev pub content_can_be_text : Index → Index → ℕ → Bool → Disk → Content → Bool
content_can_be_text index wide size by_header disk (content.File file) = can_be_text index size by_header disk file
content_can_be_text index wide size by_header disk (content.OutOfUse file) = can_be_text wide size by_header disk file
content_can_be_text index wide size by_header disk (content.Missing absence) = false

-- At most so many transfers were made to look through a file: three for each header that it may still have, one for each block that holds
-- bytes before its end, and those that failed.
pub record LooksThrough (file : FileReader) (old new : Disk) (faults : ℕ) : Type 0 where
  pub blocks : ℕ
  pub few : blocks ≤ (stated_end (attributes (header_in_hand file)) + 511) / 512
  pub looked : Looked old new (3 * headers_left file + blocks + faults) faults

-- none where there is no file
abbrev pub LooksAt : Content → Disk → Disk → ℕ → Type 0
LooksAt (content.File file) old new faults = LooksThrough file old new faults
LooksAt (content.OutOfUse file) old new faults = LooksThrough file old new faults
LooksAt (content.Missing absence) old new faults = Looked old new 0 faults

-- It was found whether a file can be taken out so.
pub record FindsFileText (index : Index) (size : ℕ) (by_header : Bool) (file : FileReader) (answer : Bool) (old new : Disk) : Type 0 where
  pub answer_is : IsTrue old.honest → answer ≡ can_be_text index size by_header old file
  pub looks : LooksThrough file old new 0

-- Or whether what stands in a place can.
pub record FindsText (index wide : Index) (size : ℕ) (by_header : Bool) (content : Content) (answer : Bool) (old new : Disk) : Type 0 where
  pub answer_is : IsTrue old.honest → answer ≡ content_can_be_text index wide size by_header old content
  pub looks : LooksAt content old new 0

module _ {D : Type 0} {G : Ghosts D} where
  -- The same volume is in hand, the same files are still to come, and no more was counted.
  pub record StaysInPlace (all later : TakingAll D G) : Type 0 where
    pub stays : StaysInHand all later
    pub files : files_of later ≡ files_of all
    pub counts : counts_of later ≡ counts_of all

  -- It was found whether what stands in a place can be taken out as a text.
  pub record TellsText (content : Content) (by_header answer : Bool) (disk : D → Disk) (all later : TakingAll D G) : Type 0 where
    pub finds : FindsText (index_of all) (wide_of all) (size_of all) by_header content answer (disk (device_of all))
        (disk (device_of later))
    pub failed : has_failed later ≡ has_failed all

  -- It wasn't, since a transfer failed.
  pub record FailsToTellText (content : Content) (answer : Bool) (disk : D → Disk) (all later : TakingAll D G) : Type 0 where
    pub answer_is : answer ≡ false
    pub looks : LooksAt content (disk (device_of all)) (disk (device_of later)) 1
    pub failed : has_failed later ≡ true

  -- So it was answered.
  pub data AnswersText (content : Content) (by_header answer : Bool) (disk : D → Disk) (all later : TakingAll D G) : Type 0 where
    tells : TellsText content by_header answer disk all later → AnswersText content by_header answer disk all later
    fails : FailsToTellText content answer disk all later → AnswersText content by_header answer disk all later

-- some of a text is wanting: a record can't be read, or a transfer failed
abbrev pub text_is_cut : TakenText → Bool
text_is_cut (Whole bytes) = false
text_is_cut Bad = true
text_is_cut Broke = true

abbrev pub text_has_failed : TakenText → Bool
text_has_failed (Whole bytes) = false
text_has_failed Bad = false
text_has_failed Broke = true

-- how much of it was written
abbrev pub how_much : TakenText → List ℕ
how_much (Whole bytes) = decimal bytes ++ codes " bytes"
how_much Bad = codes "a beginning"
how_much Broke = codes "a beginning"

-- the line of a file whose text was taken out: where it stands, how much was written, and whether its slot is in use
abbrev pub text_at_line : Place → Bool → Option FileId → TakenText → List ℕ
text_at_line place in_use beside taken = concat (place_text place ∷ beside_text beside ∷ codes " copied " ∷ how_much taken
    ∷ codes " as text" ∷ use_text in_use ∷ (10 ∷ []) ∷ [])

-- The text of a file's records was written: all of it; or that of the records before the first that can't be read, since not all can; or a
-- beginning of that, since a transfer failed.
abbrev pub WritesTaken : {H : Type 0} → TakenText → Index → FileReader → Disk → Disk → (H → Option (List ℕ)) → H → H → Type 0
WritesTaken (Whole bytes) index file old new held host host' = WritesText index file None bytes old new held host host'
WritesTaken Bad index file old new held host host' = WritesGoodText index file None old new held host host'
WritesTaken Broke index file old new held host host' = BreaksOffText index file None old new held host host'

module _ {D : Type 0} {G : Ghosts D} where
  -- A file's text was taken out to the host, and counted. The same files are still to come, and it is known if a transfer failed.
  pub record TakesOutText {H : Type 0} (place : Place) (file : FileReader) (in_use : Bool) (taken : TakenText) (disk : D → Disk)
      (all later : TakingAll D G) (held : H → Option (List ℕ)) (host host' : H) : Type 0 where
    pub stays : StaysInHand all later
    pub files : files_of later ≡ files_of all
    pub writes : WritesTaken taken (index_by in_use all) file (disk (device_of all)) (disk (device_of later)) held host host'
    pub failed : has_failed later ≡ (has_failed all || text_has_failed taken)
    pub counts : counts_of later ≡ with_copied (text_is_cut taken) (place_is_lost place) (counts_of all)

  -- It was, and its line says how much.
  pub record TakesTextFile {H W : Type 0} (place : Place) (file : FileReader) (in_use : Bool) (beside : Option FileId) (disk : D → Disk)
      (all later : TakingAll D G) (held : H → Option (List ℕ)) (host host' : H) (contents : W → Option (List ℕ)) (before after : W)
      : Type 0 where
    pub taken : TakenText
    pub takes_out : TakesOutText place file in_use taken disk all later held host host'
    pub line : WriterTakes contents before after (text_at_line place in_use beside taken)

  -- The text of what stands in a place was taken out, or it was left out where there is no file.
  abbrev pub TakesTextNext : {H W : Type 0} → Place → Content → Option FileId → (D → Disk) → TakingAll D G → TakingAll D G
      → (H → Option (List ℕ)) → H → H → (W → Option (List ℕ)) → W → W → Type 0
  TakesTextNext place (content.File file) beside disk all later held host host' contents before after =
      TakesTextFile place file true beside disk all later held host host' contents before after
  TakesTextNext place (content.OutOfUse file) beside disk all later held host host' contents before after =
      TakesTextFile place file false beside disk all later held host host' contents before after
  TakesTextNext place (content.Missing absence) beside disk all later held host host' contents before after =
      (host' ≡ host) × LeavesOut place (Missing (id_of place) absence) all later contents before after

  -- The host took no more, and no line was begun; or it has all that was to be taken out and the writer took no more of the line.
  pub data CannotTakeText {H W : Type 0} (place : Place) (file : FileReader) (in_use : Bool) (disk : D → Disk) (all later : TakingAll D G)
      (held : H → Option (List ℕ)) (host host' : H) (before after : W) : Type 0 where
    host_full : FillsHost disk all later → after ≡ before
        → CannotTakeText place file in_use disk all later held host host' before after
    line_lost : (taken : TakenText) → TakesOutText place file in_use taken disk all later held host host'
        → CannotTakeText place file in_use disk all later held host host' before after

  -- A file's text couldn't be taken out, or its line not be written.
  abbrev pub FailsToTakeTextFile : {H W : Type 0} → Failure → Place → FileReader → Bool → (D → Disk) → TakingAll D G → TakingAll D G
      → (H → Option (List ℕ)) → H → H → W → W → Type 0
  FailsToTakeTextFile DeviceFault place file in_use disk all later held host host' before after = ⊥
  FailsToTakeTextFile NoMemory place file in_use disk all later held host host' before after = ⊥
  FailsToTakeTextFile CannotWrite place file in_use disk all later held host host' before after =
      CannotTakeText place file in_use disk all later held host host' before after

  abbrev pub FailsToTakeText : {H W : Type 0} → Failure → Place → Content → (D → Disk) → TakingAll D G → TakingAll D G
      → (H → Option (List ℕ)) → H → H → W → W → Type 0
  FailsToTakeText failure place (content.File file) disk all later held host host' before after =
      FailsToTakeTextFile failure place file true disk all later held host host' before after
  FailsToTakeText failure place (content.OutOfUse file) disk all later held host host' before after =
      FailsToTakeTextFile failure place file false disk all later held host host' before after
  FailsToTakeText failure place (content.Missing absence) disk all later held host host' before after =
      (host' ≡ host) × FailsToLeaveOut failure (Missing (id_of place) absence) all later

-- What was found to be a text has no record that can't be read when it is taken out.
abbrev pub TextsAreWhole : Type 0
TextsAreWhole =
    (index : Index) (size : ℕ) (by_header : Bool) (file : FileReader) (old mid : Disk) (text : List ℕ) → IsTrue old.honest →
    can_be_text index size by_header old file ≡ true → LooksThrough file old mid 0 → IsGoodTextOf index file None mid text → ⊥
