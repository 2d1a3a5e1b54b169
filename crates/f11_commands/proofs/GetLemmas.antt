-- What finding a file by its name tells, step by step.
use Rattle.std.proofs.Common.{◌≡◌, ℕ, Bool, true, false, IsTrue, List, Option, Some, None, Result, Ok, length, refl, ap, subst, sym, take}
use Rattle.std.proofs.Common.{◌∙◌, is_some, option_map}
use Rattle.std.specs.List.{concat}
use Rattle.std.specs.Option.{ok_or, option_or}
use Rattle.f11_catalog.proofs.ComingLemmas.{named-none, named-some}
use Rattle.f11_catalog.proofs.ListingLemmas.{reads-then, said-later}
use Rattle.f11_catalog.proofs.OpenLemmas.{attr-is}
use Rattle.f11_catalog.specs.Listing.{FindsId, FindsNoId}
use Rattle.f11_catalog.specs.Records.{Reads, file_named, index_by}
use Rattle.f11_catalog.specs.chain.Calls.{table}
use Rattle.f11_dev.specs.Disk.{Disk}
use Rattle.f11_dev.specs.Image.{Image}
use Rattle.f11_header.specs.Fields.{attributes}
use Rattle.f11_home.specs.Home.{HomeFields}
use Rattle.f11_index.proofs.UsedLemmas.{all-lies-within}
use Rattle.f11_index.specs.IndexFile.{Index, all_in_use, index_of}
use Rattle.f11_index.specs.Kept.{IndexLiesWithin}
use Rattle.f11_index.specs.Table.{Table, table_in, table_of}
use Rattle.f11_reader.proofs.LawLemmas.{opened-has}
use Rattle.f11_reader.specs.Reading.{FindsNone, OpensFile, blocks_to_come}
use Rattle.f11_reader.specs.declared.file.FileReader.{FileReader}
use Rattle.f11_store.specs.File.{File, stated_end}
use Rattle.f11_store.specs.declared.files.FileId.{FileId}
use Rattle.f11_store.specs.declared.refusals.Refusal.{Refusal}
use Rattle.f11_store.specs.declared.refusals.Refusal.TheVariants.{NoSuchFile}
use Rattle.f11_volume.specs.Contents.{blocks_reached, file_of}
use Rattle.f11_commands.specs.AnyVolume.{FindsVolume, IsReadable, unless_refused}
use Rattle.f11_commands.specs.Copying.{master_directory}
use Rattle.f11_commands.specs.GetCommand.{CannotBeFound, FailsToSeek, FindsSought, IsToRead, LacksFile, LacksSought, OpensSought}
use Rattle.f11_commands.specs.GetCommand.{OpensWithEnd}
use Rattle.f11_commands.specs.GetCommand.{TellsWhyNot, cannot_be_read, lacks_file, tells_fault, tells_none}
use Rattle.f11_commands.specs.GetCommand.{file_entered, file_identified, file_sought, index_read, read_by, volume_file}
use Rattle.f11_commands.specs.Size.{FindsVolumeEnd, volume_end, volume_end_on}
use Rattle.f11_commands.specs.TakingOut.{bytes_to_come, lbns_to_come}
use Rattle.f11_commands.specs.TakingText.{file_to_come}
use Rattle.f11_commands.specs.declared.get.sought.Sought.{Sought}
use Rattle.f11_commands.specs.declared.outcome.Answer.{Answer}
use Rattle.f11_commands.specs.declared.outcome.Failure.{Failure}
use Rattle.f11_commands.specs.declared.outcome.Failure.TheVariants.{DeviceFault, NoMemory, CannotWrite}
use Rattle.f11_commands.proofs.AnyVolumeLemmas.{fault-behind, hindered-behind, index-of-volume, said-of-volume}
use Rattle.f11_commands.proofs.TakingOutLemmas.{contents-stay}

-- the file with an identification was opened by the index file that takes its slot as it is
module _ (what : Image → Table → Result (FileId × File) Refusal) (index wide : Index) (id : FileId) (old new : Disk) (sought : Sought)
    (opens : OpensFile (read_by index wide sought) id sought.file old new)
    (end-is : sought.end ≡ stated_end (attributes sought.file.header)) where
  abbrev by : Index
  by = read_by index wide sought

  abbrev f : File
  f = file_of old.image (table by old) sought.file.number

  its-end : IsTrue old.honest → sought.end ≡ stated_end f.attr
  its-end honest =
      end-is ∙ ap (λ b. stated_end (attributes b)) (opens.header_is honest)
      ∙ ap stated_end (sym (attr-is old.image (table by old) sought.file.number))

  opened-as : (IsTrue old.honest → what old.image (table index old) ≡ Ok (id, f))
      → (IsTrue old.honest → sought.in_use ≡ is_some (file_named old.image (table index old) id))
      → OpensSought what index wide sought old new
  opened-as is use-is = record {
    id = id;
    file = f;
    is = is;
    use_is = use-is;
    places = λ honest.
        said-later (λ image t. blocks_to_come t sought.file) by opens.looked ∙ opens.blocks honest
        ∙ ap (blocks_reached (table by old)) opens.number;
    to_come = λ honest.
        ap (λ (bs : List (List ℕ)). take sought.end (concat bs))
        (contents-stay by sought.file old new _ _ opens.looked ∙ opened-has by id sought.file old new opens honest)
        ∙ ap (λ (n : ℕ). take n (concat f.blocks)) (its-end honest);
    end_is = its-end;
    attr_is = λ honest. ap attributes (opens.header_is honest) ∙ sym (attr-is old.image (table by old) sought.file.number);
    blocks_are = λ honest.
        contents-stay by sought.file old new _ _ opens.looked ∙ opened-has by id sought.file old new opens honest;
    reading = opens.reading;
    reads = (_, opens.looked);
  }

-- what is found behind a look is what is sought
module _ (what next : Image → Table → Result (FileId × File) Refusal) (index : Index) (old mid new : Disk) (reads : Reads old mid 0)
    (same : IsTrue old.honest → what old.image (table index old) ≡ next old.image (table index old)) where
  later : IsTrue old.honest → what old.image (table index old) ≡ next mid.image (table index mid)
  later honest = same honest ∙ sym (said-later next index reads.1)

  pub finds-behind : (wide : Index) (sought : Sought) → OpensSought next index wide sought mid new
      → OpensSought what index wide sought old new
  finds-behind wide sought finds = record {
    id = finds.id;
    file = finds.file;
    is = λ honest. later honest ∙ finds.is (reads.1.honest ∙ honest);
    use_is = λ honest.
        finds.use_is (reads.1.honest ∙ honest) ∙ said-later (λ image t. is_some (file_named image t finds.id)) index reads.1;
    places = λ honest.
        finds.places (reads.1.honest ∙ honest)
        ∙ said-later (λ image t. blocks_reached t finds.id.number) (read_by index wide sought) reads.1;
    to_come = λ honest. finds.to_come (reads.1.honest ∙ honest);
    end_is = λ honest. finds.end_is (reads.1.honest ∙ honest);
    attr_is = λ honest. finds.attr_is (reads.1.honest ∙ honest);
    blocks_are = λ honest. finds.blocks_are (reads.1.honest ∙ honest);
    reading = finds.reading;
    reads = reads-then reads finds.reads;
  }

  pub none-behind : (refusal : Refusal) → LacksSought next index refusal mid new → LacksSought what index refusal old new
  none-behind refusal none = record {
    refused = λ honest. later honest ∙ none.refused (reads.1.honest ∙ honest);
    reads = reads-then reads none.reads;
  }

-- it was found behind a look for the volume's end
pub finds-with-end : (what : Image → Table → Result (FileId × File) Refusal) (index wide : Index) (sought : Sought) (size : ℕ)
    (old mid new : Disk) → FindsVolumeEnd index wide size old mid → OpensSought what index wide sought mid new
    → OpensWithEnd what index wide sought size old new
finds-with-end what index wide sought size old mid new ends finds = record {
  opens = finds-behind what what index old mid new ends.reads (λ honest. refl) wide sought finds;
  size_is = ends.end_is;
}

-- the file with an identification is the one whose slot is in use, else the one whose slot isn't
module _ (index wide : Index) (id : FileId) where
  abbrev identified : Image → Table → Result (FileId × File) Refusal
  identified image t = file_identified wide image t id

  abbrev with_id : Option File → Result (FileId × File) Refusal
  with_id o = ok_or (option_map (λ file. (id, file)) o) NoSuchFile

  identified-as : (image : Image) (t : Table) (first other : Option File) → file_named image t id ≡ first
      → file_named image (table_in image wide) id ≡ other → identified image t ≡ with_id (option_or first other)
  identified-as image t first other first-is other-is =
      ap (λ x. with_id (option_or x (file_named image (table_in image wide) id))) first-is
      ∙ ap (λ x. with_id (option_or first x)) other-is

  -- a file that was found
  abbrev as_found : FileReader → ℕ → Bool → Sought
  as_found file end in_use = record { file = file; end = end; in_use = in_use }

  pub opened-finds : (old new : Disk) (file : FileReader) (end : ℕ) → OpensFile index id file old new
      → end ≡ stated_end (attributes file.header) → OpensSought identified index wide (as_found file end true) old new
  opened-finds old new file end opens end-is =
      let named : IsTrue old.honest → file_named old.image (table index old) id ≡ Some (file_of old.image (table index old) file.number) =
      λ honest. named-some old.image (table index old) id file.number (opens.is_id honest) in
      opened-as identified index wide id old new (as_found file end true) opens end-is
      (λ honest. identified-as old.image (table index old) _ _ (named honest) refl)
      (λ honest. sym (ap (λ (o : Option File). is_some o) (named honest)))

  -- so it is told, with whether its slot is in use
  pub told-as : (old new : Disk) (found : Sought) (file : FileReader) (used : Bool)
      → OpensSought identified index wide (as_found file found.end used) old new → found.file ≡ file → found.in_use ≡ used
      → OpensSought identified index wide found old new
  told-as old new found file used finds file-is use-is =
      subst (λ (b : Bool). OpensSought identified index wide (as_found found.file found.end b) old new) (sym use-is)
      (subst (λ (f : FileReader). OpensSought identified index wide (as_found f found.end used) old new) (sym file-is) finds)

  module _ (old mid : Disk) (none : FindsNone index id old mid) where
    none-later : IsTrue mid.honest → file_named mid.image (table index mid) id ≡ None
    none-later honest =
        said-later (λ image t. file_named image t id) index none.looked
        ∙ named-none old.image (table index old) id (none.none (sym none.looked.honest ∙ honest))

    pub opened-else : (new : Disk) (file : FileReader) (end : ℕ) → OpensFile wide id file mid new
        → end ≡ stated_end (attributes file.header) → OpensSought identified index wide (as_found file end false) old new
    opened-else new file end opens end-is =
        finds-behind identified identified index old mid new (_, none.looked) (λ honest. refl) wide (as_found file end false)
        (opened-as identified index wide id mid new (as_found file end false) opens end-is
        (λ honest. identified-as mid.image (table index mid) None (Some (file_of mid.image (table wide mid) file.number))
        (none-later honest) (named-some mid.image (table wide mid) id file.number (opens.is_id honest)))
        (λ honest. sym (ap (λ (o : Option File). is_some o) (none-later honest))))

    pub opened-none : (new : Disk) → FindsNone wide id mid new → LacksSought identified index NoSuchFile old new
    opened-none new other =
        none-behind identified identified index old mid new (_, none.looked) (λ honest. refl) NoSuchFile (record {
          refused = λ honest.
              identified-as mid.image (table index mid) None None (none-later honest)
              (named-none mid.image (table wide mid) id (other.none honest));
          reads = (_, other.looked);
        })

-- a directory has the name, or hasn't
module _ (index wide : Index) (directory : FileId) (name : List ℕ) (old new : Disk) where
  pub entered-is : (id : FileId) → FindsId index wide directory name id old new → IsTrue old.honest
      → file_entered wide old.image (table index old) name directory ≡ file_identified wide old.image (table index old) id
  entered-is id found honest = ap (unless_refused (file_identified wide old.image (table index old))) (found.found honest)

  pub none-entered : (refusal : Refusal) → FindsNoId index wide directory name refusal old new
      → LacksSought (λ image t. file_entered wide image t name directory) index refusal old new
  none-entered refusal none = record {
    refused = λ honest. ap (unless_refused (file_identified wide old.image (table index old))) (none.refused honest);
    reads = none.reads;
  }

-- and the master file directory that of the directory
module _ (index wide : Index) (directory name : List ℕ) (old new : Disk) where
  pub sought-is : (id : FileId) → FindsId index wide master_directory directory id old new → IsTrue old.honest
      → file_sought wide old.image (table index old) directory name ≡ file_entered wide old.image (table index old) name id
  sought-is id found honest = ap (unless_refused (file_entered wide old.image (table index old) name)) (found.found honest)

-- the index file was read before, and the one that takes each slot as in use was made of it
module _ (home : HomeFields) (index wide : Index) (old mid : Disk) (found : FindsVolume home index old mid)
    (all-used : wide ≡ all_in_use index) (directory name : List ℕ) (new : Disk) where
  by-volume : (in_use : Bool) → IsTrue old.honest → index_by in_use index wide ≡ index_read in_use old.image home
  by-volume true honest = index-of-volume home index old mid found honest
  by-volume false honest = all-used ∙ ap all_in_use (index-of-volume home index old mid found honest)

  by-within : (in_use : Bool) → IndexLiesWithin (index_by in_use index wide) (length mid.image)
  by-within true = found.is_for.within
  by-within false =
      subst (λ (i : Index). IndexLiesWithin i (length mid.image)) (sym all-used)
      (all-lies-within index (length mid.image) found.is_for.within)

  of-table : {X : Type 0} (text : Image → Table → X) (in_use : Bool) → IsTrue old.honest
      → text mid.image (table (index_by in_use index wide) mid) ≡ text old.image (table_in old.image (index_read in_use old.image home))
  of-table text in_use honest =
      ap (λ (i : Image). text i (table_in i (index_by in_use index wide))) found.looked.image
      ∙ ap (λ (x : Index). text old.image (table_in old.image x)) (by-volume in_use honest)

  -- what is said by the one that takes each slot as in use
  of-volume : {X : Type 0} (text : Index → Image → Table → X) → IsTrue old.honest
      → text wide mid.image (table index mid) ≡ text (all_in_use (index_of old.image home)) old.image (table_of old.image home)
  of-volume text honest =
      said-of-volume home index old mid found (text wide) honest
      ∙ ap (λ (x : Index). text x old.image (table_of old.image home)) (by-volume false honest)

  abbrev what : Index → Image → Table → Result (FileId × File) Refusal
  what x image t = file_sought x image t directory name

  module _ (sought : Sought) (size : ℕ) (both : OpensWithEnd (what wide) index wide sought size mid new) where
    volume-has : let by = read_by index wide sought in
        FindsSought directory name sought.in_use by size (bytes_to_come by new sought.file sought.end) sought.end
        (lbns_to_come by new sought.file) (file_to_come by new sought.file) old new
    volume-has = let finds = both.opens in record {
      home = home;
      readable = found.readable;
      id = finds.id;
      file = finds.file;
      is = λ honest. sym (of-volume what honest) ∙ finds.is (found.looked.honest ∙ honest);
      use_is = λ honest.
          finds.use_is (found.looked.honest ∙ honest)
          ∙ said-of-volume home index old mid found (λ image t. is_some (file_named image t finds.id)) honest;
      by_is = by-volume sought.in_use;
      places = λ honest.
          finds.places (found.looked.honest ∙ honest) ∙ of-table (λ image t. blocks_reached t finds.id.number) sought.in_use honest;
      size_is = λ honest. both.size_is (found.looked.honest ∙ honest) ∙ of-volume volume_end honest;
      bytes_are = λ honest. finds.to_come (found.looked.honest ∙ honest);
      end_is = λ honest. finds.end_is (found.looked.honest ∙ honest);
      attr_is = λ honest. finds.attr_is (found.looked.honest ∙ honest);
      blocks_are = λ honest. finds.blocks_are (found.looked.honest ∙ honest);
      reads = reads-then (_, found.looked) finds.reads;
    }

    is-to-read : IsToRead (read_by index wide sought) sought.file new
    is-to-read = record {
      within =
          subst (λ (i : Image). IndexLiesWithin (read_by index wide sought) (length i)) (sym both.opens.reads.1.image)
          (by-within sought.in_use);
      reading = both.opens.reading;
    }

    -- so it is by the one that is kept
    pub volume-gives : (chosen : Index) → chosen ≡ read_by index wide sought → IsToRead chosen sought.file new
        × FindsSought directory name sought.in_use chosen size (bytes_to_come chosen new sought.file sought.end) sought.end
        (lbns_to_come chosen new sought.file) (file_to_come chosen new sought.file) old new
    volume-gives chosen is =
        subst (λ (i : Index). IsToRead i sought.file new
        × FindsSought directory name sought.in_use i size (bytes_to_come i new sought.file sought.end) sought.end
        (lbns_to_come i new sought.file) (file_to_come i new sought.file) old new)
        (sym is) (is-to-read, volume-has)

  pub volume-lacks : (refusal : Refusal) → LacksSought (λ image t. file_sought wide image t directory name) index refusal mid new
      → LacksFile directory name refusal old new
  volume-lacks refusal none = record {
    home = home;
    readable = found.readable;
    refused = λ honest. sym (of-volume what honest) ∙ none.refused (found.looked.honest ∙ honest);
    reads = reads-then (_, found.looked) none.reads;
  }

-- the volume was verified before
module _ (directory name : List ℕ) (old mid new : Disk) (reads : Reads old mid 0) where
  pub sought-behind : (in_use : Bool) (by : Index) (size : ℕ) (bytes : List ℕ) (end : ℕ) (lbns : List ℕ) (come : File)
      → FindsSought directory name in_use by size bytes end lbns come mid new
      → FindsSought directory name in_use by size bytes end lbns come old new
  sought-behind in_use by size bytes end lbns come finds = record {
    home = finds.home;
    readable = λ honest. subst (λ (i : Image). IsReadable i finds.home) reads.1.image (finds.readable (reads.1.honest ∙ honest));
    id = finds.id;
    file = finds.file;
    is = λ honest.
        sym (ap (λ (i : Image). volume_file i finds.home directory name) reads.1.image) ∙ finds.is (reads.1.honest ∙ honest);
    use_is = λ honest.
        finds.use_is (reads.1.honest ∙ honest)
        ∙ ap (λ (i : Image). is_some (file_named i (table_of i finds.home) finds.id)) reads.1.image;
    by_is = λ honest. finds.by_is (reads.1.honest ∙ honest) ∙ ap (λ (i : Image). index_read in_use i finds.home) reads.1.image;
    places = λ honest.
        finds.places (reads.1.honest ∙ honest)
        ∙ ap (λ (i : Image). blocks_reached (table_in i (index_read in_use i finds.home)) finds.id.number) reads.1.image;
    size_is = λ honest.
        finds.size_is (reads.1.honest ∙ honest) ∙ ap (λ (i : Image). volume_end_on i finds.home) reads.1.image;
    bytes_are = λ honest. finds.bytes_are (reads.1.honest ∙ honest);
    end_is = λ honest. finds.end_is (reads.1.honest ∙ honest);
    attr_is = λ honest. finds.attr_is (reads.1.honest ∙ honest);
    blocks_are = λ honest. finds.blocks_are (reads.1.honest ∙ honest);
    reads = reads-then reads finds.reads;
  }

  lacks-behind : (refusal : Refusal) → LacksFile directory name refusal mid new → LacksFile directory name refusal old new
  lacks-behind refusal lacks = record {
    home = lacks.home;
    readable = λ honest. subst (λ (i : Image). IsReadable i lacks.home) reads.1.image (lacks.readable (reads.1.honest ∙ honest));
    refused = λ honest.
        sym (ap (λ (i : Image). volume_file i lacks.home directory name) reads.1.image) ∙ lacks.refused (reads.1.honest ∙ honest);
    reads = reads-then reads lacks.reads;
  }

  pub why-not-behind : {W : Type 0} (called : Option (List ℕ)) (answer : Answer) (contents : W → Option (List ℕ)) (before after : W)
      → TellsWhyNot called directory name answer mid new contents before after
      → TellsWhyNot called directory name answer old new contents before after
  why-not-behind called answer contents before after (tells_none none) = tells_none (record {
    is_fault = none.is_fault;
    refusal = none.refusal;
    lacks = lacks-behind none.refusal none.lacks;
    takes = none.takes;
  })
  why-not-behind called answer contents before after (tells_fault fault) =
      tells_fault (fault-behind answer old mid new contents before after reads fault)

  unfound-behind : CannotBeFound directory name mid new → CannotBeFound directory name old new
  unfound-behind (lacks_file refusal lacks) = lacks_file refusal (lacks-behind refusal lacks)
  unfound-behind (cannot_be_read fault hindered) = cannot_be_read fault (hindered-behind fault old mid new reads hindered)

  pub unsought-behind : {W : Type 0} (failure : Failure) (before after : W) → FailsToSeek failure directory name mid new before after
      → FailsToSeek failure directory name old new before after
  unsought-behind DeviceFault before after fails = (reads-then reads fails.0, fails.1)
  unsought-behind NoMemory before after fails = (reads-then reads fails.0, fails.1)
  unsought-behind CannotWrite before after fails = unfound-behind fails
