-- The names of records that are read one after another.
use Rattle.std.proofs.Common.{◌≡◌, ◌≢◌, ◌++◌, ℕ, IsTrue, List, [], ◌∷◌, Some, None, SomeIff, Result, Ok, Err, refl, sym, ap, ◌∙◌}
use Rattle.std.proofs.Common.{append_assoc, subst}
use Rattle.std.proofs.lemmas.List.{append-nil}
use Rattle.std.proofs.lemmas.List.Concat.{flat_map-cons}
use Rattle.std.specs.Prelude.{IfErr, IsErrAnd}
use Rattle.f11_dev.specs.Disk.{Disk}
use Rattle.f11_dir.specs.Records.{record_of_bytes}
use Rattle.f11_dir.specs.declared.record.Record.{Record}
use Rattle.f11_index.specs.IndexFile.{Index}
use Rattle.f11_rad50.specs.Name.{IsName}
use Rattle.f11_store.specs.declared.files.FileId.{FileId}
use Rattle.f11_catalog.specs.Names.{AddsNames, FailsToName, ListsNames, name_alone, names_in, record_names}
use Rattle.f11_catalog.specs.Records.{FindsDirectory, HasNoRecord, Reads, ReadsRecord, index_by, records_to_come}
use Rattle.f11_catalog.specs.declared.directory.DirectoryReader.{DirectoryReader}
use Rattle.f11_catalog.specs.declared.fault.WalkFault.{WalkFault}
use Rattle.f11_catalog.specs.declared.fault.WalkFault.TheVariants.{DeviceFault, NoMemory}
use Rattle.f11_catalog.specs.declared.found.FoundDirectory.{FoundDirectory}
use Rattle.f11_catalog.proofs.DirectoryLemmas.{by-name, by-no-name}
use Rattle.f11_catalog.proofs.ListingLemmas.{coming-later, reads-none, reads-then}

module _ (bytes : List ℕ) (r : Record) (is : r ≡ record_of_bytes bytes) (before : List (List ℕ)) where
  -- a record has no name
  pub adds-none : SomeIff None ((r.id.number ≢ 0) × IsName r.words) r.words → before ≡ before ++ record_names bytes
  adds-none named =
      sym (ap (λ (xs : List (List ℕ)). before ++ xs) (by-no-name bytes r is [] (λ _. name_alone) named (λ id. refl)) ∙ append-nil before)

  -- or this one
  pub adds-one : (name : List ℕ) (after : List (List ℕ)) → SomeIff (Some name) ((r.id.number ≢ 0) × IsName r.words) r.words
      → after ≡ before ++ name ∷ [] → after ≡ before ++ record_names bytes
  adds-one name after named same =
      same ∙ sym (ap (λ (xs : List (List ℕ)). before ++ xs) (by-name bytes r is [] (λ _. name_alone) name named))

-- The names of a directory's first records were put behind others, and those from here on are still to come.
pub record NamesFirst (by : Index) (first here : DirectoryReader) (before names : List (List ℕ)) (old now : Disk) : Type 0 where
  pub added : IsTrue old.honest
      → before ++ names_in (records_to_come by old first) ≡ names ++ names_in (records_to_come by old here)
  pub reads : Reads old now 0

pub names-none : (by : Index) (first : DirectoryReader) (before : List (List ℕ)) (disk : Disk)
    → NamesFirst by first first before before disk disk
names-none by first before disk = record { added = λ _. refl; reads = reads-none disk }

module _ (by : Index) (first here : DirectoryReader) (before names : List (List ℕ)) (old now : Disk)
    (so : NamesFirst by first here before names old now) where
  -- one more record is read
  pub names-read : (later : DirectoryReader) (r : Record) (next : Disk) (after : List (List ℕ))
      (read : ReadsRecord by here later r now next) → after ≡ names ++ record_names read.bytes
      → NamesFirst by first later before after old next
  names-read later r next after read same = record {
    added = λ honest.
        let image = so.reads.1.image in
        let was : records_to_come by old here ≡ read.bytes ∷ records_to_come by old later =
        sym (coming-later by old now here image) ∙ read.next (so.reads.1.honest ∙ honest)
        ∙ ap (λ rs. read.bytes ∷ rs) (coming-later by old now later image) in
        so.added honest
        ∙ ap (λ rs. names ++ names_in rs) was
        ∙ ap (λ (xs : List (List ℕ)). names ++ xs) (flat_map-cons record_names read.bytes (records_to_come by old later))
        ∙ sym (append_assoc names (record_names read.bytes) (names_in (records_to_come by old later)))
        ∙ ap (λ (xs : List (List ℕ)). xs ++ names_in (records_to_come by old later)) (sym same);
    reads = reads-then so.reads read.reads;
  }

  -- and none is left
  pub names-all : (next : Disk) → HasNoRecord by here now next → AddsNames by first before names old next
  names-all next none = record {
    added = λ honest.
        let left : records_to_come by old here ≡ [] =
        sym (coming-later by old now here so.reads.1.image) ∙ none.none (so.reads.1.honest ∙ honest) in
        sym (so.added honest ∙ ap (λ rs. names ++ names_in rs) left ∙ append-nil names);
    reads = reads-then so.reads none.reads;
  }

-- a directory was found, and then the names of all its records
pub names-found : (index wide by : Index) (id : FileId) (found : FoundDirectory) (old mid new : Disk) (names none : List (List ℕ))
    → FindsDirectory index wide id found old mid → by ≡ index_by found.in_use index wide → none ≡ []
    → AddsNames by found.directory none names mid new → ListsNames index wide id names old new
names-found index wide by id found old mid new names none finds is empty all = record {
  readable = finds.readable;
  names_are = λ honest.
      all.added (finds.looked.honest ∙ honest)
      ∙ ap (λ (xs : List (List ℕ)). xs ++ names_in (records_to_come by mid found.directory)) empty
      ∙ ap names_in (coming-later by old mid found.directory finds.looked.image
      ∙ ap (λ (i : Index). records_to_come i old found.directory) is ∙ finds.records honest);
  reads = reads-then (_, finds.looked) all.reads;
}

-- it breaks off behind what was read
pub fails-to-name : (fault : WalkFault) (old mid new : Disk) → Reads old mid 0 → FailsToName fault mid new → FailsToName fault old new
fails-to-name DeviceFault old mid new reads fails = reads-then reads fails
fails-to-name NoMemory old mid new reads fails = reads-then reads fails

-- and where a fault is handed on
pub fails-handed : {T : Type 0} (r : Result T WalkFault) (fault : WalkFault) (old new : Disk) → IsErrAnd r (λ e. e ≡ fault)
    → FailsToName fault old new → IfErr r (λ e. FailsToName e old new)
fails-handed (Ok x) fault old new is fails = absurd is
fails-handed (Err e) fault old new is fails = subst (λ (f : WalkFault). FailsToName f old new) (sym is) fails
