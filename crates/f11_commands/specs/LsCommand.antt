-- What `ls` lists of a volume, faulty or not (profile).
use Rattle.std.specs.Prelude.{◌≡◌, ℕ, IsTrue, List, Option, Some, None, Result, Ok, Err}
use Rattle.f11_catalog.specs.Lines.{all_directory_lines, record_lines}
use Rattle.f11_catalog.specs.Records.{Reads, directory_refusal, file_found, records_found}
use Rattle.f11_catalog.specs.chain.Calls.{table}
use Rattle.f11_catalog.specs.declared.line_form.LineForm.{LineForm}
use Rattle.f11_dev.specs.Disk.{Disk}
use Rattle.f11_dev.specs.Image.{Image}
use Rattle.f11_flx.specs.declared.refusal.FlxRefusal.TheVariants.{Files}
use Rattle.f11_home.specs.Home.{HomeFields}
use Rattle.f11_index.specs.IndexFile.{Index, all_in_use, index_of}
use Rattle.f11_index.specs.Table.{Table, table_of}
use Rattle.f11_store.specs.declared.files.FileId.{FileId}
use Rattle.f11_store.specs.declared.refusals.Refusal.{Refusal}
use Rattle.f11_commands.specs.AnyVolume.{IsVerified, IsReadable, TellsFault, directory_named, unless_refused}
use Rattle.f11_commands.specs.CopyCommand.{refused_line}
use Rattle.f11_commands.specs.Copying.{master_directory}
use Rattle.f11_commands.specs.Output.{WriterTakes}
use Rattle.f11_commands.specs.declared.ls.Served.{Served}
use Rattle.f11_commands.specs.declared.outcome.Answer.{Answer}
use Rattle.f11_commands.specs.declared.outcome.Answer.TheVariants.{Done, Fault}
use Rattle.f11_commands.specs.declared.outcome.Failure.{Failure}
use Rattle.f11_commands.specs.declared.outcome.Failure.TheVariants.{DeviceFault, NoMemory, CannotWrite}

-- these lines, where nothing stands against them
abbrev pub lines_or : Option Refusal → List ℕ → Result (List ℕ) Refusal
lines_or None lines = Ok lines
lines_or (Some refusal) lines = Err refusal

-- of a directory with an identification: a line for each record
abbrev pub directory_listed : LineForm → Index → Image → Table → FileId → Result (List ℕ) Refusal
directory_listed form wide image t id =
    lines_or (directory_refusal (file_found wide image t id)) (record_lines form wide image t (records_found wide image t id))

-- of the master file directory: the lines of each directory that it names
abbrev pub directories_listed : LineForm → Index → Image → Table → Result (List ℕ) Refusal
directories_listed form wide image t = lines_or (directory_refusal (file_found wide image t master_directory))
    (all_directory_lines form wide image t (records_found wide image t master_directory))

-- of the directory with a name
abbrev pub one_listed : LineForm → Index → Image → Table → List ℕ → Result (List ℕ) Refusal
one_listed form wide image t directory = unless_refused (directory_listed form wide image t) (directory_named wide image t directory)

-- of what is asked for: the directory with a name, or all
abbrev pub listed : LineForm → Index → Image → Table → Option (List ℕ) → Result (List ℕ) Refusal
listed form wide image t (Some directory) = one_listed form wide image t directory
listed form wide image t None = directories_listed form wide image t

-- of a volume, where a file is read by its record though the bit of its slot is 0
abbrev pub volume_listed : LineForm → Image → HomeFields → Option (List ℕ) → Result (List ℕ) Refusal
volume_listed form image home directory = listed form (all_in_use (index_of image home)) image (table_of image home) directory

-- what is written: the lines, or why there are none
abbrev pub listing_text : Result (List ℕ) Refusal → List ℕ
listing_text (Ok lines) = lines
listing_text (Err refusal) = refused_line (Files refusal)

-- and what is answered
abbrev pub listing_answer : Result (List ℕ) Refusal → Answer
listing_answer (Ok lines) = Done
listing_answer (Err refusal) = Fault

-- The lines were written that this lists of the files that an index file has.
pub record WritesListing {W : Type 0} (lists : Image → Table → Result (List ℕ) Refusal) (index : Index) (old new : Disk)
    (contents : W → Option (List ℕ)) (before after : W) : Type 0 where
  pub lines : List ℕ
  pub lines_are : IsTrue old.honest → lists old.image (table index old) ≡ Ok lines
  pub takes : WriterTakes contents before after lines
  pub reads : Reads old new 0

-- There are none.
pub record IsNotListed (lists : Image → Table → Result (List ℕ) Refusal) (index : Index) (refusal : Refusal) (old new : Disk) : Type 0 where
  pub refused : IsTrue old.honest → lists old.image (table index old) ≡ Err refusal
  pub reads : Reads old new 0

-- What is asked for was listed, of the files that an index file has.
pub record ListsIndex {W : Type 0} (form : LineForm) (index wide : Index) (directory : Option (List ℕ)) (answer : Answer) (old new : Disk)
    (contents : W → Option (List ℕ))
    (before after : W) : Type 0 where
  pub text : List ℕ
  pub text_is : IsTrue old.honest → text ≡ listing_text (listed form wide old.image (table index old) directory)
  pub answer_is : IsTrue old.honest → answer ≡ listing_answer (listed form wide old.image (table index old) directory)
  pub takes : WriterTakes contents before after text
  pub reads : Reads old new 0

-- What is asked for was listed, of a volume that can be read.
pub record ListsFiles {W : Type 0} (form : LineForm) (directory : Option (List ℕ)) (answer : Answer) (old new : Disk)
    (contents : W → Option (List ℕ))
    (before after : W) : Type 0 where
  pub home : HomeFields
  pub readable : IsTrue old.honest → IsReadable old.image home
  pub text : List ℕ
  pub text_is : IsTrue old.honest → text ≡ listing_text (volume_listed form old.image home directory)
  pub answer_is : IsTrue old.honest → answer ≡ listing_answer (volume_listed form old.image home directory)
  pub takes : WriterTakes contents before after text
  pub reads : Reads old new 0

-- What `ls` does to a volume: it can be read, or can't.
pub data ListsVolume {W : Type 0} (form : LineForm) (directory : Option (List ℕ)) (answer : Answer) (old new : Disk)
    (contents : W → Option (List ℕ))
    (before after : W) : Type 0 where
  lists : ListsFiles form directory answer old new contents before after → ListsVolume form directory answer old new contents before after
  tells : TellsFault answer old new contents before after → ListsVolume form directory answer old new contents before after

-- The volume was verified and what is asked for listed: it is said whether it has faults.
pub record PrintsListing {W : Type 0} (form : LineForm) (directory : Option (List ℕ)) (served : Served) (old new : Disk)
    (contents : W → Option (List ℕ))
    (before after : W) : Type 0 where
  pub verified : IsVerified served.faulty old
  pub lists : ListsVolume form directory served.answer old new contents before after

-- The files that an index file has couldn't be listed: a transfer failed, or the writer takes no more.
abbrev pub FailsToListIndex : Failure → Disk → Disk → Type 0
FailsToListIndex DeviceFault old new = Reads old new 1
FailsToListIndex NoMemory old new = ⊥
FailsToListIndex CannotWrite old new = Reads old new 0
