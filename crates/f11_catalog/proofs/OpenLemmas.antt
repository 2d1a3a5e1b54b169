-- What a directory's header tells, and what each step along its records does.
use Rattle.std.proofs.Common.{◌≡◌, ◌+◌, ◌-◌, ◌/◌, ◌<◌, ℕ, Bool, true, false, IsTrue, List, length, map, take}
use Rattle.std.proofs.Common.{Option, Some, None, cond, unwrap_or, refl, sym, ap, subst, ◌∙◌, arith}
use Rattle.std.proofs.lemmas.List.{length-map}
use Rattle.std.specs.Option.{option_or}
use Rattle.f11_chain.specs.Calls.{table}
use Rattle.f11_dev.specs.Disk.{Disk}
use Rattle.f11_dev.specs.Image.{Image}
use Rattle.f11_dev.proofs.LookedLemmas.{looked_more, looked_none, looked_within}
use Rattle.f11_dev.specs.Looked.{Looked}
use Rattle.f11_dir.specs.Records.{record_of_bytes}
use Rattle.f11_dir.specs.declared.record.Record.{Record}
use Rattle.f11_header.specs.Fields.{attributes}
use Rattle.f11_index.specs.IndexFile.{Index}
use Rattle.f11_index.specs.Table.{Table, table_in}
use Rattle.f11_reader.specs.Reading.{FindsNone, HasEnded, IsReading, OpensFile, ReadsOn, contents_to_come}
use Rattle.f11_reader.specs.declared.file.FileReader.{FileReader}
use Rattle.f11_store.specs.Directory.{entries_of, is_directory, record_in}
use Rattle.f11_store.specs.File.{File, no_file, stated_end}
use Rattle.f11_store.specs.declared.files.FileId.{FileId}
use Rattle.f11_store.specs.declared.refusals.Refusal.{Refusal}
use Rattle.f11_store.specs.declared.refusals.Refusal.TheVariants.{NoSuchFile, NotDirectory}
use Rattle.f11_volume.specs.Contents.{block_or_zeros, blocks_reached, file_of}
use Rattle.f11_catalog.specs.Facts.{facts_in, is_directory_header}
use Rattle.f11_catalog.specs.Lines.{facts_of}
use Rattle.f11_catalog.specs.Records.{BeginsDirectory, FindsDirectory, HasBlockInHand, HasNoRecord, IsReadingRecords, LacksDirectory}
use Rattle.f11_catalog.specs.Records.{ReadsRecord}
use Rattle.f11_catalog.specs.Records.{all_records, directory_refusal, file_found, file_named, index_by, records_of, records_to_come}
use Rattle.f11_catalog.specs.declared.directory.DirectoryReader.{DirectoryReader}
use Rattle.f11_catalog.specs.declared.found.FoundDirectory.{FoundDirectory}
use Rattle.f11_catalog.proofs.ComingLemmas.{coming-begin, coming-behind, coming-ended, coming-next, coming-none, named-none, named-some}
use Rattle.f11_catalog.proofs.ListingLemmas.{coming-later}
use Rattle.f11_catalog.proofs.RecordLemmas.{entries-are}

-- what a first header says of a file
pub header-is-directory : (image : Image) (t : Table) (n : ℕ) → is_directory (file_of image t n) ≡ is_directory_header (t.header n)
unfolding file_of is_directory
header-is-directory image t n = refl

pub header-facts : (image : Image) (t : Table) (n blocks : ℕ) → blocks ≡ length (blocks_reached t n)
    → facts_in (t.header n) blocks ≡ facts_of (file_of image t n)
unfolding file_of
header-facts image t n blocks count =
    ap (facts_in (t.header n)) (count ∙ sym (length-map (blocks_reached t n) (block_or_zeros image)))

pub attr-is : (image : Image) (t : Table) (n : ℕ) → (file_of image t n).attr ≡ attributes (t.header n)
unfolding file_of
attr-is image t n = refl

blocks-are : (image : Image) (t : Table) (n : ℕ) → (file_of image t n).blocks ≡ map (block_or_zeros image) (blocks_reached t n)
unfolding file_of
blocks-are image t n = refl

-- The directory with an identification was found in an index file: all its records are to come.
pub record OpensDirectory (index : Index) (id : FileId) (directory : DirectoryReader) (old new : Disk) : Type 0 where
  pub reading : IsReadingRecords index directory new
  pub readable : IsTrue old.honest → directory_refusal (file_named old.image (table index old) id) ≡ None
  pub records : IsTrue old.honest → records_to_come index old directory ≡ records_of old.image (table index old) id
  pub looked : Looked old new 1 0

-- A file was found by its identification.
module _ (index : Index) (id : FileId) (file : FileReader) (old new : Disk) (opens : OpensFile index id file old new) where
  named : IsTrue old.honest → file_named old.image (table index old) id ≡ Some (file_of old.image (table index old) file.number)
  named honest = named-some old.image (table index old) id file.number (opens.is_id honest)

  tested : IsTrue old.honest → (b : Bool) → is_directory_header file.header ≡ b
      → is_directory (file_of old.image (table index old) file.number) ≡ b
  tested honest b is = header-is-directory old.image (table index old) file.number
      ∙ ap is_directory_header (sym (opens.header_is honest)) ∙ is

  -- it is no directory
  pub is-refused : is_directory_header file.header ≡ false → IsTrue old.honest
      → directory_refusal (file_named old.image (table index old) id) ≡ Some NotDirectory
  is-refused fails honest =
      ap directory_refusal (named honest) ∙ ap (λ (b : Bool). cond b None (Some NotDirectory)) (tested honest false fails)

  -- it is one
  pub begins : (directory : DirectoryReader) → BeginsDirectory file directory → OpensDirectory index id directory old new
  begins directory from = record {
    reading = subst (λ (f : FileReader). IsReading index f new) (sym from.same) opens.reading;
    readable = λ honest.
        ap directory_refusal (named honest) ∙ ap (λ (b : Bool). cond b None (Some NotDirectory)) (tested honest true from.is);
    records = λ honest.
        let t = table index old in
        let f = file_of old.image t file.number in
        let contents : contents_to_come index old directory.file ≡ f.blocks =
        ap (contents_to_come index old) from.same ∙ ap (map (block_or_zeros old.image)) (opens.blocks honest)
        ∙ sym (blocks-are old.image t file.number) in
        let end : directory.left ≡ stated_end f.attr / 16 =
        from.left ∙ ap (λ b. stated_end (attributes b) / 16) (opens.header_is honest)
        ∙ ap (λ a. stated_end a / 16) (sym (attr-is old.image t file.number)) in
        coming-behind index old directory from.at
        ∙ ap (λ k. take k (all_records (contents_to_come index old directory.file))) end
        ∙ ap (λ bs. take (stated_end f.attr / 16) (all_records bs)) contents
        ∙ entries-are f
        ∙ ap (λ (o : Option File). entries_of (unwrap_or o no_file)) (sym (named honest));
    looked = opens.looked;
  }

-- A file was looked for in the index file, and then in the one that takes each slot as in use.
module _ (index wide : Index) (id : FileId) where
  -- it was found in the former
  module _ (file : FileReader) (old new : Disk) (opens : OpensFile index id file old new) where
    in-use : IsTrue old.honest → file_found wide old.image (table index old) id ≡ file_named old.image (table index old) id
    in-use honest =
        let is = named index id file old new opens honest in
        ap (λ (o : Option File). option_or o (file_named old.image (table wide old) id)) is ∙ sym is

    pub finds-in-use : (found : FoundDirectory) → (found.in_use ≡ true) × BeginsDirectory file found.directory
        → FindsDirectory index wide id found old new
    finds-in-use found is =
        let all = begins index id file old new opens found.directory is.1 in
        record {
          reading = subst (λ (b : Bool). IsReadingRecords (index_by b index wide) found.directory new) (sym is.0) all.reading;
          readable = λ honest. ap directory_refusal (in-use honest) ∙ all.readable honest;
          records = λ honest.
              ap (λ (b : Bool). records_to_come (index_by b index wide) old found.directory) is.0
              ∙ all.records honest
              ∙ ap (λ (o : Option File). entries_of (unwrap_or o no_file)) (sym (in-use honest));
          looked = looked_within all.looked (omega arith);
        }

    pub lacks-in-use : (refusal : Refusal) → (refusal ≡ NotDirectory) × (is_directory_header file.header ≡ false)
        → LacksDirectory index wide id refusal old new
    lacks-in-use refusal is = record {
      refused = λ honest. ap directory_refusal (in-use honest)
          ∙ is-refused index id file old new opens is.1 honest ∙ ap (λ (r : Refusal). Some r) (sym is.0);
      looked = looked_within opens.looked (omega arith);
    }

  -- or it wasn't
  module _ (old mid : Disk) (none : FindsNone index id old mid) where
    out-of-use : IsTrue old.honest → file_found wide old.image (table index old) id ≡ file_named mid.image (table wide mid) id
    out-of-use honest =
        ap (λ (o : Option File). option_or o (file_named old.image (table wide old) id))
        (named-none old.image (table index old) id (none.none honest))
        ∙ ap (λ (i : Image). file_named i (table_in i wide) id) (sym none.looked.image)

    pub finds-out-of-use : (file : FileReader) (new : Disk) → OpensFile wide id file mid new → (found : FoundDirectory)
        → (found.in_use ≡ false) × BeginsDirectory file found.directory → FindsDirectory index wide id found old new
    finds-out-of-use file new opens found is =
        let all = begins wide id file mid new opens found.directory is.1 in
        record {
          reading = subst (λ (b : Bool). IsReadingRecords (index_by b index wide) found.directory new) (sym is.0) all.reading;
          readable = λ honest. ap directory_refusal (out-of-use honest) ∙ all.readable (none.looked.honest ∙ honest);
          records = λ honest.
              ap (λ (b : Bool). records_to_come (index_by b index wide) old found.directory) is.0
              ∙ sym (coming-later wide old mid found.directory none.looked.image)
              ∙ all.records (none.looked.honest ∙ honest)
              ∙ ap (λ (o : Option File). entries_of (unwrap_or o no_file)) (sym (out-of-use honest));
          looked = looked_more none.looked all.looked;
        }

    pub lacks-out-of-use : (file : FileReader) (new : Disk) → OpensFile wide id file mid new → (refusal : Refusal)
        → (refusal ≡ NotDirectory) × (is_directory_header file.header ≡ false) → LacksDirectory index wide id refusal old new
    lacks-out-of-use file new opens refusal is = record {
      refused = λ honest. ap directory_refusal (out-of-use honest)
          ∙ is-refused wide id file mid new opens is.1 (none.looked.honest ∙ honest) ∙ ap (λ (r : Refusal). Some r) (sym is.0);
      looked = looked_more none.looked opens.looked;
    }

    pub lacks-any : (new : Disk) → FindsNone wide id mid new → LacksDirectory index wide id NoSuchFile old new
    lacks-any new none-else = record {
      refused = λ honest. ap directory_refusal (out-of-use honest
          ∙ named-none mid.image (table wide mid) id (none-else.none (none.looked.honest ∙ honest)));
      looked = looked_more none.looked none-else.looked;
    }

-- A block was read, or none is left.
module _ (index : Index) (directory : DirectoryReader) (old new : Disk) (ended : directory.at ≡ 32) where
  pub turns : (later : DirectoryReader) (block : List ℕ) → ReadsOn index directory.file later.file block old new → later.block ≡ block
      → later.at ≡ 0 → later.left ≡ directory.left → HasBlockInHand index directory later old new
  turns later block reads is at left = record {
    some = omega (arith, at);
    same = λ honest.
        sym (coming-behind index old directory ended
        ∙ ap (λ bs. take directory.left (all_records bs)) (reads.next honest)
        ∙ coming-begin index old later block at is directory.left left);
    left = left;
    reads = (_, reads.looked);
  }

  pub ends : (file : FileReader) → HasEnded index directory.file file old new → HasNoRecord index directory old new
  ends file none = record {
    none = λ honest. coming-ended index old directory ended (ap (map (block_or_zeros old.image)) (none.none honest));
    reads = (_, none.looked);
  }

-- The next record is read of a block in hand.
pub next-read : (index : Index) (directory turned later : DirectoryReader) (r : Record) (old new : Disk)
    → HasBlockInHand index directory turned old new → 0 < directory.left → r ≡ record_of_bytes (record_in turned.block turned.at)
    → later.block ≡ turned.block → later.at ≡ turned.at + 1 → later.left ≡ turned.left - 1 → later.file ≡ turned.file
    → ReadsRecord index directory later r old new
next-read index directory turned later r old new holds some is block at left file =
    let same = holds.left in
    record {
      bytes = record_in turned.block turned.at;
      record_is = is;
      next = λ honest.
          sym (holds.same honest)
          ∙ coming-next index old turned later holds.some (omega (arith, same, some)) block at (omega (arith, left, same, some)) file;
      shorter = omega (arith, left, same, some);
      reads = holds.reads;
    }

-- none is left
pub none-next : (index : Index) (directory : DirectoryReader) (disk : Disk) → directory.left ≡ 0 → HasNoRecord index directory disk disk
none-next index directory disk none =
    record { none = λ honest. coming-none index disk directory none; reads = (0, looked_none disk) }
