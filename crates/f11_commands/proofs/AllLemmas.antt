-- What each step of taking out all files tells.
use Rattle.std.proofs.Common.{◌≡◌, ℕ, ◌+◌, ◌&&◌, min, Bool, true, false, IsTrue, List, Option, None, length, refl, sym, ap, subst, ◌∙◌}
use Rattle.std.proofs.Common.{arith}
use Rattle.std.specs.Prelude.{is_some, not, option_map}
use Rattle.f11_catalog.proofs.ListingLemmas.{reads-then, said-later}
use Rattle.f11_catalog.proofs.EnteredLemmas.{hand-on, master-on}
use Rattle.f11_catalog.proofs.FilesLemmas.{files-later}
use Rattle.f11_catalog.specs.AllFiles.{HasAllLed, HasOnlyLed, all_files, id_of}
use Rattle.f11_catalog.specs.Contents.{Holds}
use Rattle.f11_catalog.specs.Records.{Reads}
use Rattle.f11_catalog.specs.Walking.{FailsToBegin, HoldsAt, IsWalking, one_if}
use Rattle.f11_catalog.specs.declared.fault.WalkFault.{WalkFault}
use Rattle.f11_catalog.specs.declared.fault.WalkFault.TheVariants as walk
use Rattle.f11_catalog.specs.declared.walk.content.Absence.{Absence}
use Rattle.f11_catalog.specs.declared.walk.content.Content.{Content}
use Rattle.f11_catalog.specs.declared.walk.content.Content.TheVariants.{File, Missing, OutOfUse}
use Rattle.f11_catalog.specs.declared.walk.place.FileAt.{FileAt}
use Rattle.f11_catalog.specs.declared.walk.place.Place.{Place}
use Rattle.f11_catalog.specs.declared.walk.state.AllFiles.{AllFiles}
use Rattle.f11_dev.proofs.LookedLemmas.{looked_more, looked_within}
use Rattle.f11_dev.specs.Disk.{Disk}
use Rattle.f11_dev.specs.Looked.{Looked}
use Rattle.f11_dev.specs.declared.device.Device.{Ghosts}
use Rattle.f11_dev.specs.Image.{Image}
use Rattle.f11_flx.specs.Lines.{text_with}
use Rattle.f11_flx.specs.declared.line_end.LineEnd.TheVariants.{Lf}
use Rattle.f11_header.specs.Fields.{attributes}
use Rattle.f11_home.specs.Home.{HomeFields}
use Rattle.f11_index.proofs.UsedLemmas.{all-lies-within}
use Rattle.f11_index.specs.IndexFile.{Index, all_in_use, index_of}
use Rattle.f11_index.specs.Table.{Table, table_in, table_of}
use Rattle.f11_index.specs.Kept.{IndexLiesWithin}
use Rattle.f11_reader.specs.Missing.{FindsMissing, missing_of}
use Rattle.f11_reader.specs.Reading.{header_in_hand, headers_left}
use Rattle.f11_reader.specs.declared.file.FileReader.{FileReader}
use Rattle.f11_store.specs.File.{no_file, stated_end}
use Rattle.f11_store.specs.declared.files.FileId.{FileId}
use Rattle.f11_commands.specs.AllCommand.{LeavesOut, TakesNext}
use Rattle.f11_commands.specs.AllCommand.{BeginsAll, BeginsWithEnd, CanBeRead, FailsToBeginAll, FailsWithEnd, TakesAtEnd, TakesFile}
use Rattle.f11_commands.specs.AllCommand.{nothing, part, to_end, unsure}
use Rattle.f11_commands.specs.AllCommand.{whole}
use Rattle.f11_commands.specs.AllText.{FindsFileText, LooksThrough, TakesTextNext, TextsAreWhole, can_be_text, has_all_blocks}
use Rattle.f11_commands.specs.AllText.{may_be_lines, states_end}
use Rattle.f11_commands.specs.AnyVolume.{FindsVolume, IsReadable}
use Rattle.f11_commands.specs.Copying.{master_directory}
use Rattle.f11_commands.specs.Size.{volume_end, volume_end_on}
use Rattle.f11_commands.specs.TakingOut.{blocks_before_end, lbns_to_come}
use Rattle.f11_commands.specs.TakingText.{ReadsRecords, TellsRecords, has_all_records, lines_of_records}
use Rattle.f11_commands.specs.declared.outcome.Failure.{Failure}
use Rattle.f11_commands.specs.declared.outcome.Failure.TheVariants.{DeviceFault, NoMemory, CannotWrite}
use Rattle.f11_commands.proofs.AnyVolumeLemmas.{hindered-behind, index-of-volume, said-of-volume}
use Rattle.f11_commands.proofs.TakingOutLemmas.{contents-stay}
use Rattle.f11_commands.specs.declared.get.all.left_out.LeftOut.TheVariants as left
use Rattle.f11_commands.specs.declared.get.all.state.TakingAll.{TakingAll}
use Rattle.f11_commands.specs.declared.get.all.taking.Taken.{Taken}

-- what was read for a file, taken out or not
pub takes-reads : {H : Type 0} (index : Index) (file : FileReader) (end : ℕ) (broke : Option ℕ) (taken : Taken) (old new : Disk)
    (held : H → Option (List ℕ)) (before after : H) → TakesFile index file end broke taken old new held before after
    → (faults : ℕ) × Reads old new faults
takes-reads index file end broke taken old new held before after (whole so) =
    (0, reads-then (_, so.writes.reads.looked) (_, so.finds.looked))
takes-reads index file end broke taken old new held before after (unsure so) =
    (1, reads-then (_, so.writes.reads.looked) (_, so.looked))
takes-reads index file end broke taken old new held before after (part so) = (1, (_, so.stops.reads.looked))

pub taken-reads : {H : Type 0} (index : Index) (size : ℕ) (file : FileReader) (taken : Taken) (old new : Disk) (held : H → Option (List ℕ))
    (before after : H) → TakesAtEnd index size file taken old new held before after → (faults : ℕ) × Reads old new faults
taken-reads index size file taken old new held before after (to_end so) =
    let rest = takes-reads index file so.end so.broke taken so.there new held before after so.takes in
    (rest.0, reads-then (_, so.finds.looked) (reads-then (_, so.breaks.looked) rest.1))
taken-reads index size file taken old new held before after (nothing so) = (1, so.reads)

-- what stands in a place that was found can be read
pub found-reading : (index wide : Index) (found : FileAt) (old new : Disk) → HoldsAt index wide found old new
    → CanBeRead index wide found.content new
found-reading index wide found old new holds = go found.content holds.holds
  where
    go : (c : Content) → Holds index wide (id_of found.place) c holds.mid new → CanBeRead index wide c new
    go (File file) is = is.opens.reading
    go (OutOfUse file) is = is.opens.opens.reading
    go (Missing absence) is = tt

-- a place without a file is left out, which is all that comes of it
module _ {D : Type 0} {G : Ghosts D} {H W : Type 0} where
  pub leaves-next : (place : Place) (content : Content) (beside : Option FileId) (disk : D → Disk) (all later : TakingAll D G)
      (held : H → Option (List ℕ)) (host : H) (contents : W → Option (List ℕ)) (before after : W) (absence : Absence) (id : FileId)
      → content ≡ Missing absence → id ≡ id_of place → LeavesOut place (left.Missing id absence) all later contents before after
      → TakesNext place content beside disk all later held host host contents before after
  leaves-next place content beside disk all later held host contents before after absence id is same leaves =
      subst (λ (t : Content). TakesNext place t beside disk all later held host host contents before after) (sym is)
      (refl, subst (λ (i : FileId). LeavesOut place (left.Missing i absence) all later contents before after) same leaves)

  pub leaves-text : (place : Place) (content : Content) (beside : Option FileId) (disk : D → Disk) (all later : TakingAll D G)
      (held : H → Option (List ℕ)) (host : H) (contents : W → Option (List ℕ)) (before after : W) (absence : Absence) (id : FileId)
      → content ≡ Missing absence → id ≡ id_of place → LeavesOut place (left.Missing id absence) all later contents before after
      → TakesTextNext place content beside disk all later held host host contents before after
  leaves-text place content beside disk all later held host contents before after absence id is same leaves =
      subst (λ (t : Content). TakesTextNext place t beside disk all later held host host contents before after) (sym is)
      (refl, subst (λ (i : FileId). LeavesOut place (left.Missing i absence) all later contents before after) same leaves)

-- a file was looked through: its headers alone, or its records behind them
looks-headers : (file : FileReader) (old new : Disk) (faults : ℕ) → Looked old new (headers_left file + faults) faults
    → LooksThrough file old new faults
looks-headers file old new faults looked = record { blocks = 0; few = omega arith; looked = looked_within looked (omega arith) }

pub looks-records : (index : Index) (file : FileReader) (old mid new : Disk) (faults : ℕ) → Looked old mid (headers_left file) 0
    → ReadsRecords index file mid new faults → LooksThrough file old new faults
looks-records index file old mid new faults looked reads = record {
  blocks = reads.blocks;
  few = reads.few;
  looked = looked_within (looked_more looked reads.looked) (omega arith);
}

-- a device that was looked at has the same records of a file
records-stay : (index : Index) (file : FileReader) (old mid : Disk) (most faults : ℕ) → Looked old mid most faults
    → has_all_records index mid file ≡ has_all_records index old file
records-stay index file old mid most faults looked =
    ap (λ (bs : List (List ℕ)). is_some (lines_of_records (record no_file { attr = attributes (header_in_hand file); blocks = bs })))
    (contents-stay index file old mid most faults looked)

-- it was found whether each block before a file's end is there
module _ (index : Index) (size : ℕ) (by_header : Bool) (file : FileReader) (old mid : Disk) (may : Bool) (there blocks : ℕ)
    (may-is : may ≡ (states_end file && may_be_lines by_header file)) (may-be : may ≡ true) (there-is : there ≡ min size (length old.image))
    (blocks-are : blocks ≡ blocks_before_end (stated_end (attributes (header_in_hand file)))) (missing : Option ℕ)
    (finds : FindsMissing index file there blocks missing old mid) where
  blocks-found : IsTrue old.honest → not (is_some missing) ≡ has_all_blocks index size old file
  blocks-found honest =
      ap (λ (m : Option ℕ). not (is_some m))
      (finds.missing_is honest
      ∙ ap (λ (n : ℕ). missing_of there n (lbns_to_come index old file)) blocks-are
      ∙ ap (λ (n : ℕ). missing_of n (blocks_before_end (stated_end (attributes (header_in_hand file)))) (lbns_to_come index old file))
      there-is)

  judged : (answer : Bool) → IsTrue old.honest → answer ≡ (not (is_some missing) && has_all_records index old file)
      → answer ≡ can_be_text index size by_header old file
  judged answer honest is =
      is
      ∙ ap (λ (b : Bool). b && has_all_records index old file) (blocks-found honest)
      ∙ ap (λ (b : Bool). b && (has_all_blocks index size old file && has_all_records index old file)) (sym may-be ∙ may-is)

  -- one isn't, and the file is no text
  pub finds-missing : is_some missing ≡ true → FindsFileText index size by_header file false old mid
  finds-missing some = record {
    answer_is = λ honest. judged false honest (ap (λ (b : Bool). not b && has_all_records index old file) (sym some));
    looks = looks-headers file old mid 0 (looked_within finds.looked (omega arith));
  }

  -- or all are, and it is one where all its records can be read
  pub finds-records : missing ≡ None → (answer : Bool) (new : Disk) → TellsRecords index file answer mid new
      → FindsFileText index size by_header file answer old new
  finds-records none answer new tells = record {
    answer_is = λ honest.
        judged answer honest
        (tells.tells (finds.looked.honest ∙ honest)
        ∙ records-stay index file old mid _ _ finds.looked
        ∙ ap (λ (m : Option ℕ). not (is_some m) && has_all_records index old file) (sym none));
    looks = looks-records index file old mid new 0 finds.looked tells.reads;
  }

-- a text is one whose records can all be read
last-of : (a b c d : Bool) → ((a && b) && (c && d)) ≡ true → d ≡ true
last-of true true true d is = is
last-of true true false d is = absurd (cc)
last-of true false c d is = absurd (cc)
last-of false b c d is = absurd (cc)

-- so none of them goes past its end
pub texts-whole : TextsAreWhole
texts-whole index size by_header file old mid text honest is looks good =
    let all-records = last-of (states_end file) (may_be_lines by_header file) (has_all_blocks index size old file)
    (has_all_records index old file) is in
    let none : has_all_records index mid file ≡ false =
    ap (λ (records : Option (List (List ℕ))). is_some (option_map (text_with Lf) records)) (good.bad (looks.looked.honest ∙ honest)) in
    let same : has_all_records index mid file ≡ has_all_records index old file =
    records-stay index file old mid _ _ looks.looked in
    let never : false ≡ true = sym none ∙ same ∙ all-records in
    absurd cc

-- behind some reads the same directories are read, and the index file lies on the device
pub walking-on : (index wide : Index) (files : AllFiles) (old new : Disk) (faults : ℕ) → Reads old new faults
    → IsWalking index wide files old → IsWalking index wide files new
walking-on index wide files old new faults reads walking = (
  hand-on index wide files.entered.hand old new faults reads walking.0,
  master-on index wide files.entered.directories.master old new faults reads walking.1,
)

pub within-on : (index : Index) (old new : Disk) (faults : ℕ) → Reads old new faults → IndexLiesWithin index (length old.image)
    → IndexLiesWithin index (length new.image)
within-on index old new faults reads within = subst (λ (i : Image). IndexLiesWithin index (length i)) (sym reads.1.image) within

-- The index file was read, and all its files begun with.
module _ (home : HomeFields) (index wide : Index) (old mid : Disk) (found : FindsVolume home index old mid) (size : ℕ) (files : AllFiles)
    (failed : Bool) (new : Disk) (begun : BeginsWithEnd index wide size files failed mid new) (all-used : wide ≡ all_in_use index) where
  begun-reads : Reads mid new (one_if failed)
  begun-reads = reads-then begun.ends.reads begun.begins.reads

  there : IsTrue old.honest → IsTrue begun.mid.honest
  there honest = begun.ends.reads.1.honest ∙ (found.looked.honest ∙ honest)

  on-volume : IsTrue old.honest → (says : Image → Table → Type 0) → says begun.mid.image (table_in begun.mid.image index)
      → says old.image (table_of old.image home)
  on-volume honest says said =
      subst (λ (i : Index). says old.image (table_in old.image i)) (index-of-volume home index old mid found honest)
      (subst (λ (i : Image). says i (table_in i index)) (begun.ends.reads.1.image ∙ found.looked.image) said)

  pub begins-all : BeginsAll index wide size files failed old new
  begins-all = record {
    home = home;
    readable = found.readable;
    led = begun.begins.led;
    only = λ honest.
        on-volume honest (λ image t. HasOnlyLed wide image t master_directory begun.begins.led) (begun.begins.only (there honest));
    whole = λ well honest.
        on-volume honest (λ image t. HasAllLed wide image t master_directory begun.begins.led) (begun.begins.whole well (there honest));
    all = λ honest.
        files-later index wide files begun.mid new begun.begins.reads.1.image
        ∙ begun.begins.all (there honest)
        ∙ said-later (λ image t. all_files wide image t master_directory begun.begins.led) index begun.ends.reads.1
        ∙ said-of-volume home index old mid found (λ image t. all_files wide image t master_directory begun.begins.led) honest;
    index_is = index-of-volume home index old mid found;
    wide_is = all-used;
    size_is = λ honest.
        begun.ends.end_is (found.looked.honest ∙ honest) ∙ said-of-volume home index old mid found (volume_end wide) honest
        ∙ ap (λ (x : Index). volume_end x old.image (table_of old.image home))
        (all-used ∙ ap all_in_use (index-of-volume home index old mid found honest));
    reads = reads-then (_, found.looked) begun-reads;
  }

  pub lies-within : IndexLiesWithin index (length new.image)
  lies-within = within-on index mid new (one_if failed) begun-reads found.is_for.within

  pub wide-within : IndexLiesWithin wide (length new.image)
  wide-within =
      subst (λ (i : Index). IndexLiesWithin i (length new.image)) (sym all-used) (all-lies-within index (length new.image) lies-within)

-- or they couldn't be begun with
pub begin-fails : (fault : WalkFault) (old mid new : Disk) → Reads old mid 0 → FailsToBegin fault mid new → FailsWithEnd fault old new
begin-fails walk.DeviceFault old mid new reads fails = reads-then reads (_, fails)
begin-fails walk.NoMemory old mid new reads fails = reads-then reads fails

-- the volume was verified before
module _ (old mid new : Disk) (reads : Reads old mid 0) where
  pub all-behind : (index wide : Index) (size : ℕ) (files : AllFiles) (failed : Bool) → BeginsAll index wide size files failed mid new
      → BeginsAll index wide size files failed old new
  all-behind index wide size files failed begins = record {
    home = begins.home;
    readable = λ honest. subst (λ (i : Image). IsReadable i begins.home) reads.1.image (begins.readable (reads.1.honest ∙ honest));
    led = begins.led;
    only = λ honest.
        subst (λ (i : Image). HasOnlyLed wide i (table_of i begins.home) master_directory begins.led) reads.1.image
        (begins.only (reads.1.honest ∙ honest));
    whole = λ well honest.
        subst (λ (i : Image). HasAllLed wide i (table_of i begins.home) master_directory begins.led) reads.1.image
        (begins.whole well (reads.1.honest ∙ honest));
    all = λ honest.
        begins.all (reads.1.honest ∙ honest)
        ∙ ap (λ (i : Image). all_files wide i (table_of i begins.home) master_directory begins.led) reads.1.image;
    index_is = λ honest. begins.index_is (reads.1.honest ∙ honest) ∙ ap (λ (i : Image). index_of i begins.home) reads.1.image;
    wide_is = begins.wide_is;
    size_is = λ honest.
        begins.size_is (reads.1.honest ∙ honest) ∙ ap (λ (i : Image). volume_end_on i begins.home) reads.1.image;
    reads = reads-then reads begins.reads;
  }

  pub not-begun-behind : {W : Type 0} (failure : Failure) (before after : W) → FailsToBeginAll failure mid new before after
      → FailsToBeginAll failure old new before after
  not-begun-behind DeviceFault before after fails = (reads-then reads fails.0, fails.1)
  not-begun-behind NoMemory before after fails = (reads-then reads fails.0, fails.1)
  not-begun-behind CannotWrite before after fails = (fails.0, hindered-behind fails.0 old mid new reads fails.1)
