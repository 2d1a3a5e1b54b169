-- The lines of directories.
use Rattle.std.proofs.Common.{◌≡◌, ◌≢◌, ◌∙◌, ◌++◌, ℕ, Bool, true, false, List, [], ◌∷◌, Option, Some, None, SomeIff, cond, refl, sym, ap}
use Rattle.std.proofs.Common.{append_assoc, inl, inr}
use Rattle.std.proofs.lemmas.Bool.{cases_Bool}
use Rattle.std.specs.Io.KnownBytes.{Appends}
use Rattle.f11_chain.specs.Calls.{table}
use Rattle.f11_dev.specs.Disk.{Disk}
use Rattle.f11_dev.specs.Image.{Image}
use Rattle.f11_dir.specs.Records.{record_of_bytes}
use Rattle.f11_dir.specs.declared.record.Record.{Record}
use Rattle.f11_index.specs.IndexFile.{Index}
use Rattle.f11_index.specs.Table.{Table}
use Rattle.f11_rad50.specs.Name.{IsName}
use Rattle.f11_store.specs.Directory.{is_directory, is_empty, record_id, record_name}
use Rattle.f11_store.specs.File.{File}
use Rattle.f11_store.specs.declared.files.FileId.{FileId}
use Rattle.f11_store.specs.declared.refusals.Refusal.{Refusal}
use Rattle.f11_store.specs.declared.refusals.Refusal.TheVariants.{NotDirectory}
use Rattle.f11_catalog.specs.DirectoryNames.{directory_called, directory_text}
use Rattle.f11_catalog.specs.Lines.{directory_lines, lines_by, lines_in, lines_under, name_found, names_directory, record_lines}
use Rattle.f11_catalog.specs.Listing.{Writes, WritesRest}
use Rattle.f11_catalog.specs.Records.{FindsDirectory, LacksDirectory, directory_refusal, file_found, index_by, records_found}
use Rattle.f11_catalog.specs.declared.found.FoundDirectory.{FoundDirectory}
use Rattle.f11_catalog.specs.declared.line_form.LineForm.{LineForm}
use Rattle.f11_catalog.specs.declared.directory_name.DirectoryName.{DirectoryName}
use Rattle.f11_catalog.proofs.LineLemmas.{found-is, id-is, some-number, some-record}
use Rattle.f11_catalog.proofs.ListingLemmas.{lists-all, reads-none, writes-none, writes-one, writes-then}

-- what is refused names no directory, and what isn't does
pub refused-none : (found : Option File) (refusal : Refusal) → directory_refusal found ≡ Some refusal → names_directory found ≡ false
refused-none None refusal is = refl
refused-none (Some f) refusal is = elim (cases_Bool (is_directory f)) [
  | inl directory ↦
      let none : None ≡ Some refusal = sym (ap (λ (b : Bool). cond b None (Some NotDirectory)) directory) ∙ is in absurd cc
  | inr other ↦ other
]

pub readable-names : (found : Option File) → directory_refusal found ≡ None → names_directory found ≡ true
readable-names None is = absurd cc
readable-names (Some f) is = elim (cases_Bool (is_directory f)) [
  | inl directory ↦ directory
  | inr other ↦
      let some : Some NotDirectory ≡ None = sym (ap (λ (b : Bool). cond b None (Some NotDirectory)) other) ∙ is in absurd cc
]

module _ {W : Type 0} (form : LineForm) (index wide : Index) (contents : W → Option (List ℕ)) (name : DirectoryName) (id : FileId)
    (old mid : Disk) where
  abbrev text : Image → Table → List ℕ
  text image t = lines_in form wide image t id name

  -- a record names no directory
  pub no-directory : (refusal : Refusal) (writer : W) → LacksDirectory index wide id refusal old mid
      → Writes text index old mid contents writer writer
  no-directory refusal writer none =
      writes-none text index old mid contents writer
      (λ honest.
      ap (λ (b : Bool). cond b (lines_under form wide old.image (table index old) name id) [])
      (refused-none (file_found wide old.image (table index old) id) refusal (none.refused honest)))
      (_, none.looked)

  -- or one, whose lines were written under what it is called
  pub directory-listed : (by : Index) (found : FoundDirectory) (new : Disk) (before heading after : W)
      → FindsDirectory index wide id found old mid → by ≡ index_by found.in_use index wide
      → Appends (contents before) (contents heading) (directory_text name ++ 10 ∷ [])
      → WritesRest (record_lines form wide) index by found.directory mid new contents heading after
      → Writes text index old new contents before after
  directory-listed by found new before heading after finds is head rest = record {
    written = both.written;
    is = λ honest.
        both.is honest
        ∙ append_assoc (directory_text name) (10 ∷ [])
        (record_lines form wide old.image (table index old) (records_found wide old.image (table index old) id))
        ∙ sym (ap (λ (b : Bool). cond b (lines_under form wide old.image (table index old) name id) [])
        (readable-names (file_found wide old.image (table index old) id) (finds.readable honest)));
    takes = both.takes;
    reads = both.reads;
  }
    where
      all : Writes (λ image t. record_lines form wide image t (records_found wide image t id)) index old new contents heading after
      all = lists-all (record_lines form wide) index wide by id contents finds is rest

      both : Writes (λ image t. (directory_text name ++ 10 ∷ []) ++ record_lines form wide image t (records_found wide image t id)) index
          old new
          contents
          before after
      both =
          writes-then (λ _ _. directory_text name ++ 10 ∷ []) (λ image t. record_lines form wide image t (records_found wide image t id))
          index
          contents
          (writes-one (λ _ _. directory_text name ++ 10 ∷ []) index old old contents before heading (directory_text name ++ 10 ∷ [])
          (λ _. refl) head (reads-none old)) all

module _ (bytes : List ℕ) (r : Record) (is : r ≡ record_of_bytes bytes) where
  -- what is made of a record by its name, where it has none
  pub by-no-name : {X : Type 0} (none : X) (by : FileId → Option (List ℕ) → X)
      → SomeIff None ((r.id.number ≢ 0) × IsName r.words) r.words → ((id : FileId) → by id None ≡ none)
      → cond (is_empty bytes) none (by (record_id bytes) (name_found (record_name bytes))) ≡ none
  by-no-name none by named nothing = elim (cases_Bool (is_empty bytes)) [
    | inl empty ↦ ap (λ (b : Bool). cond b none (by (record_id bytes) (name_found (record_name bytes)))) empty
    | inr some ↦
        ap (λ (b : Bool). cond b none (by (record_id bytes) (name_found (record_name bytes)))) some
        ∙ ap (by (record_id bytes)) (sym (found-is bytes r is None (some-number bytes r is some) named))
        ∙ nothing (record_id bytes)
  ]

  -- or this one
  pub by-name : {X : Type 0} (none : X) (by : FileId → Option (List ℕ) → X) (name : List ℕ)
      → SomeIff (Some name) ((r.id.number ≢ 0) × IsName r.words) r.words
      → cond (is_empty bytes) none (by (record_id bytes) (name_found (record_name bytes))) ≡ by r.id (Some name)
  by-name none by name named =
      ap (λ (b : Bool). cond b none (by (record_id bytes) (name_found (record_name bytes)))) (some-record bytes r is named.0.0)
      ∙ ap (by (record_id bytes)) (sym (found-is bytes r is (Some name) named.0.0 named))
      ∙ ap (λ (id : FileId). by id (Some name)) (sym (id-is bytes r is))

  module _ {W : Type 0} (form : LineForm) (index wide : Index) (contents : W → Option (List ℕ)) where
    -- the record has no name
    pub no-name : (disk : Disk) (writer : W) → SomeIff None ((r.id.number ≢ 0) × IsName r.words) r.words
        → Writes (λ image t. directory_lines form wide image t bytes) index disk disk contents writer writer
    no-name disk writer named =
        writes-none (λ image t. directory_lines form wide image t bytes) index disk disk contents writer
        (λ _. by-no-name [] (lines_by form wide disk.image (table index disk)) named (λ id. refl)) (reads-none disk)

    -- or one, and the lines of that directory were written
    pub named-lines : (name : List ℕ) → SomeIff (Some name) ((r.id.number ≢ 0) × IsName r.words) r.words
        → (old new : Disk) (before after : W)
        → Writes (λ image t. lines_in form wide image t r.id (directory_called name)) index old new contents before after
        → Writes (λ image t. directory_lines form wide image t bytes) index old new contents before after
    named-lines name named old new before after writes = record {
      written = writes.written;
      is = λ honest.
          writes.is honest ∙ sym (by-name [] (lines_by form wide old.image (table index old)) name named);
      takes = writes.takes;
      reads = writes.reads;
    }
