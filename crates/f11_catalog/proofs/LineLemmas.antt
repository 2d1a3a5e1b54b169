-- The line of a record that was read.
use Rattle.std.proofs.Common.{◌≡◌, ◌≢◌, ◌∙◌, ℕ, Bool, true, false, List, [], Option, Some, None, SomeIff, cond, length, sym, ap, inl, inr}
use Rattle.std.proofs.Common.{Result, Ok, Err, subst}
use Rattle.std.specs.Prelude.{IfErr, IsErrAnd}
use Rattle.std.proofs.lemmas.Bool.{eqb-false}
use Rattle.std.proofs.lemmas.Bool.Decides.{eqb_tells}
use Rattle.std.specs.Bool.{Decides}
use Rattle.std.specs.Io.KnownBytes.{Appends}
use Rattle.f11_chain.specs.Calls.{table}
use Rattle.f11_dev.specs.Disk.{Disk}
use Rattle.f11_dev.specs.Image.{Image}
use Rattle.f11_dir.proofs.RecordTests.{is_empty_is}
use Rattle.f11_dir.specs.Records.{record_of_bytes}
use Rattle.f11_dir.specs.declared.record.Record.{Record}
use Rattle.f11_index.specs.IndexFile.{Index}
use Rattle.f11_index.specs.Table.{Table, table_in}
use Rattle.f11_rad50.proofs.Spelled.{name_by_test}
use Rattle.f11_rad50.specs.Name.{IsName}
use Rattle.f11_reader.specs.Reading.{FindsNone, OpensFile, blocks_to_come}
use Rattle.f11_reader.specs.declared.file.FileReader.{FileReader}
use Rattle.f11_store.specs.Directory.{is_empty, record_id, record_name}
use Rattle.f11_store.specs.File.{File}
use Rattle.f11_store.specs.declared.files.FileId.{FileId}
use Rattle.f11_volume.specs.Contents.{file_of}
use Rattle.f11_catalog.specs.Facts.{facts_in}
use Rattle.f11_catalog.specs.Lines.{entry_line, facts_of, file_line, found_shown, name_found, name_shown, named_line, record_line}
use Rattle.f11_catalog.specs.Listing.{BreaksOff, Writes, WritesFile}
use Rattle.f11_catalog.specs.Records.{Reads, file_named}
use Rattle.f11_catalog.specs.declared.fault.ListFault.{ListFault}
use Rattle.f11_catalog.specs.declared.fault.ListFault.TheVariants.{DeviceFault, CannotWrite}
use Rattle.f11_catalog.specs.declared.line_form.LineForm.{LineForm}
use Rattle.f11_catalog.proofs.ComingLemmas.{named-none, named-some}
use Rattle.f11_catalog.proofs.ListingLemmas.{reads-none, reads-then, said-later, writes-none, writes-one}
use Rattle.f11_catalog.proofs.OpenLemmas.{header-facts}

-- it breaks off behind what was read
pub breaks-behind : (fault : ListFault) (a b c : Disk) → Reads a b 0 → BreaksOff fault b c → BreaksOff fault a c
breaks-behind DeviceFault a b c reads breaks = reads-then reads breaks
breaks-behind CannotWrite a b c reads breaks = reads-then reads breaks

-- and where a fault is handed on
pub breaks-handed : {T : Type 0} (r : Result T ListFault) (fault : ListFault) (old new : Disk) → IsErrAnd r (λ e. e ≡ fault)
    → BreaksOff fault old new → IfErr r (λ e. BreaksOff e old new)
breaks-handed (Ok x) fault old new is breaks = absurd is
breaks-handed (Err e) fault old new is breaks = subst (λ (f : ListFault). BreaksOff f old new) (sym is) breaks

-- what a name is, where the record isn't empty
pub is-named : {A : Type 0} (found : Option (List ℕ)) (words : List ℕ) → A → SomeIff found (A × IsName words) words
    → SomeIff found (IsName words) words
is-named None words here none = λ named. none (here, named)
is-named (Some name) words here is = (is.0.1, is.1)

module _ (bytes : List ℕ) (r : Record) (is : r ≡ record_of_bytes bytes) where
  pub is-empty : (b : Bool) → Decides b (r.id.number ≡ 0) → is_empty bytes ≡ b
  is-empty b decides = is_empty_is bytes r b is decides

  pub id-is : r.id ≡ record_id bytes
  id-is = ap (λ (x : Record). x.id) is

  words-are : r.words ≡ record_name bytes
  words-are = ap (λ (x : Record). x.words) is

  -- it isn't empty where its number is some
  pub some-record : r.id.number ≢ 0 → is_empty bytes ≡ false
  some-record some = elim (eqb_tells (record_id bytes).number 0) [
    | inl zero ↦ absurd (some (ap (λ (x : FileId). x.number) id-is ∙ zero.1))
    | inr other ↦ other.0
  ]

  pub some-number : is_empty bytes ≡ false → r.id.number ≢ 0
  some-number some zero = eqb-false (record_id bytes).number 0 some (sym (ap (λ (x : FileId). x.number) id-is) ∙ zero)

  -- the name that was found in it
  pub found-is : (found : Option (List ℕ)) → r.id.number ≢ 0 → SomeIff found ((r.id.number ≢ 0) × IsName r.words) r.words
      → found ≡ name_found (record_name bytes)
  found-is found some named = name_by_test found r.words (is-named found r.words some named) ∙ ap name_found words-are

  line-is : (form : LineForm) (wide : Index) (image : Image) (t : Table) → is_empty bytes ≡ false
      → record_line form wide image t bytes
      ≡ named_line form (name_shown (record_name bytes)) r.id (file_named image t r.id) (file_named image (table_in image wide) r.id)
  line-is form wide image t some =
      ap (λ (b : Bool). cond b [] (named_line form (name_shown (record_name bytes)) (record_id bytes) (file_named image t (record_id bytes))
      (file_named image (table_in image wide) (record_id bytes))))
      some
      ∙ ap (λ (id : FileId). named_line form (name_shown (record_name bytes)) id (file_named image t id)
      (file_named image (table_in image wide) id)) (sym id-is)

-- The line of a file was written that was found by its identification: a text that is this is written.
module _ {W : Type 0} (form : LineForm) (index : Index) (contents : W → Option (List ℕ)) (text : Image → Table → List ℕ) (in_use : Bool)
    (name : List ℕ) (id : FileId) (old mid new : Disk) (before after : W) where
  pub file-line : (file : FileReader) → OpensFile index id file old mid
      → WritesFile form index in_use name id file mid new contents before after
      → ((f : File) → file_named old.image (table index old) id ≡ Some f
      → text old.image (table index old) ≡ file_line form in_use name id (facts_of f))
      → Writes text index old new contents before after
  file-line file opens writes is =
      writes-one text index old new contents before after
      (file_line form in_use name id (facts_in file.header writes.blocks))
      (λ honest.
      let t = table index old in
      let f = file_of old.image t file.number in
      let count : writes.blocks ≡ length (blocks_to_come t file) =
      writes.count (opens.looked.honest ∙ honest)
      ∙ said-later (λ image t. length (blocks_to_come t file)) index opens.looked in
      let facts : facts_in file.header writes.blocks ≡ facts_of f =
      ap (λ (h : List ℕ). facts_in h writes.blocks) (opens.header_is honest)
      ∙ header-facts old.image t file.number writes.blocks (count ∙ ap length (opens.blocks honest)) in
      is f (named-some old.image t id file.number (opens.is_id honest)) ∙ ap (file_line form in_use name id) (sym facts))
      writes.takes (reads-then (_, opens.looked) writes.reads)

-- The line of a file whose slot isn't in use, or of none.
module _ {W : Type 0} (form : LineForm) (wide : Index) (contents : W → Option (List ℕ)) (name : List ℕ) (id : FileId) (old mid : Disk)
    (before : W) where
  abbrev other_line : Image → Table → List ℕ
  other_line image t = named_line form name id None (file_named image t id)

  pub no-file-line : (after : W) → FindsNone wide id old mid → Appends (contents before) (contents after) (entry_line name id)
      → Writes other_line wide old mid contents before after
  no-file-line after none takes =
      writes-one other_line wide old mid contents before after (entry_line name id)
      (λ honest. ap (named_line form name id None) (named-none old.image (table wide old) id (none.none honest)))
      takes (_, none.looked)

  pub out-of-use-line : (file : FileReader) (new : Disk) (after : W) → OpensFile wide id file old mid
      → WritesFile form wide false name id file mid new contents before after → Writes other_line wide old new contents before after
  out-of-use-line file new after opens writes =
      file-line form wide contents other_line false name id old mid new before after file opens writes
      (λ f is. ap (named_line form name id None) is)

module _ (bytes : List ℕ) (r : Record) (is : r ≡ record_of_bytes bytes) {W : Type 0} (form : LineForm) (index wide : Index)
    (contents : W → Option (List ℕ)) where
  abbrev text : Image → Table → List ℕ
  text image t = record_line form wide image t bytes

  -- an empty record has none
  pub empty-line : (disk : Disk) (writer : W) (b : Bool) → Decides b (r.id.number ≡ 0) → b ≡ true
      → Writes text index disk disk contents writer writer
  empty-line disk writer b decides empty =
      writes-none text index disk disk contents writer
      (λ honest.
      ap (λ (b : Bool). cond b [] (named_line form (name_shown (record_name bytes)) (record_id bytes)
      (file_named disk.image (table index disk) (record_id bytes)) (file_named disk.image (table_in disk.image wide) (record_id bytes))))
      (is-empty bytes r is b decides ∙ empty)) (reads-none disk)

  module _ (found : Option (List ℕ)) (b : Bool) (decides : Decides b (r.id.number ≡ 0)) (some : b ≡ false)
      (named : SomeIff found ((r.id.number ≢ 0) × IsName r.words) r.words) (old mid : Disk) where
    number : r.id.number ≢ 0
    number none = let no : true ≡ false = sym (decides.1 none) ∙ some in absurd cc

    line : (image : Image) (t : Table) → text image t
        ≡ named_line form (found_shown found) r.id (file_named image t r.id) (file_named image (table_in image wide) r.id)
    line image t = line-is bytes r is form wide image t (is-empty bytes r is b decides ∙ some)
        ∙ ap (λ xs. named_line form xs r.id (file_named image t r.id) (file_named image (table_in image wide) r.id))
        (sym (ap found_shown (found-is bytes r is found number named)))

    -- one that names no file whose slot is in use
    pub other-line : (new : Disk) (before after : W) → FindsNone index r.id old mid
        → Writes (λ image t. named_line form (found_shown found) r.id None (file_named image t r.id)) wide mid new contents before after
        → Writes text index old new contents before after
    other-line new before after none writes = record {
      written = writes.written;
      is = λ honest.
          writes.is (none.looked.honest ∙ honest)
          ∙ ap (λ (i : Image). named_line form (found_shown found) r.id None (file_named i (table_in i wide) r.id)) none.looked.image
          ∙ sym (line old.image (table index old)
          ∙ ap (λ f. named_line form (found_shown found) r.id f (file_named old.image (table_in old.image wide) r.id))
          (named-none old.image (table index old) r.id (none.none honest)));
      takes = writes.takes;
      reads = reads-then (_, none.looked) writes.reads;
    }

    -- and one that names one
    pub found-line : (new : Disk) (before after : W) (file : FileReader) → OpensFile index r.id file old mid
        → WritesFile form index true (found_shown found) r.id file mid new contents before after
        → Writes text index old new contents before after
    found-line new before after file opens writes =
        file-line form index contents text true (found_shown found) r.id old mid new before after file opens writes
        (λ f is. line old.image (table index old)
        ∙ ap (λ f. named_line form (found_shown found) r.id f (file_named old.image (table_in old.image wide) r.id)) is)
