-- A name that is looked for among records that are read one after another.
use Rattle.std.proofs.Common.{◌≡◌, ℕ, Bool, true, false, IsTrue, List, [], ◌∷◌, Option, Some, None, option_map, find, refl, sym, ap, ◌∙◌}
use Rattle.f11_chain.specs.Calls.{table}
use Rattle.f11_dev.specs.Disk.{Disk}
use Rattle.f11_dir.specs.declared.record.Record.{Record}
use Rattle.f11_index.specs.IndexFile.{Index}
use Rattle.f11_store.specs.Directory.{has_name, record_id}
use Rattle.f11_store.specs.declared.files.FileId.{FileId}
use Rattle.f11_store.specs.declared.refusals.Refusal.TheVariants.{NoSuchEntry}
use Rattle.f11_catalog.specs.Listing.{FindsId, FindsNoId, FindsUnder, id_entered, id_or, id_under}
use Rattle.f11_catalog.specs.Records.{FindsDirectory, HasNoRecord, Reads, ReadsRecord}
use Rattle.f11_catalog.specs.Records.{index_by, records_found, records_to_come}
use Rattle.f11_catalog.specs.declared.directory.DirectoryReader.{DirectoryReader}
use Rattle.f11_catalog.specs.declared.found.FoundDirectory.{FoundDirectory}
use Rattle.f11_catalog.proofs.ListingLemmas.{coming-later, reads-then}

find-here : {X : Type 0} (p : X → Bool) (x : X) (xs : List X) → p x ≡ true → find p (x ∷ xs) ≡ Some x
find-here p x xs is = rw is refl

find-behind : {X : Type 0} (p : X → Bool) (x : X) (xs : List X) → p x ≡ false → find p (x ∷ xs) ≡ find p xs
find-behind p x xs is = rw is refl

-- No record that was read has the name.
pub record LookedFor (name : List ℕ) (index : Index) (first here : DirectoryReader) (old now : Disk) : Type 0 where
  pub rest : IsTrue old.honest →
      find (has_name name) (records_to_come index old first) ≡ find (has_name name) (records_to_come index old here)
  pub reads : Reads old now 0

module _ (name : List ℕ) (index : Index) (first here : DirectoryReader) (old now : Disk) (so : LookedFor name index first here old now)
  where
    came : {bytes : List ℕ} (later : DirectoryReader)
        → (IsTrue now.honest → records_to_come index now here ≡ bytes ∷ records_to_come index now later)
        → IsTrue old.honest → records_to_come index old here ≡ bytes ∷ records_to_come index old later
    came {bytes} later read honest =
        sym (coming-later index old now here so.reads.1.image) ∙ read (so.reads.1.honest ∙ honest)
        ∙ ap (λ rs. bytes ∷ rs) (coming-later index old now later so.reads.1.image)

    pub looked-on : {later : DirectoryReader} {r : Record} {next : Disk} (read : ReadsRecord index here later r now next)
        → has_name name read.bytes ≡ false → LookedFor name index first later old next
    looked-on {later} {r} {next} read other = record {
      rest = λ honest.
          so.rest honest ∙ ap (find (has_name name)) (came later read.next honest)
          ∙ find-behind (has_name name) read.bytes (records_to_come index old later) other;
      reads = reads-then so.reads read.reads;
    }

    -- the next one has
    pub looked-found : {later : DirectoryReader} {r : Record} {next : Disk} (read : ReadsRecord index here later r now next)
        → has_name name read.bytes ≡ true → FindsUnder index first name (Some r.id) old next
    looked-found {later} {r} {next} read is = record {
      found_is = λ honest.
          ap (option_map record_id) (so.rest honest ∙ ap (find (has_name name)) (came later read.next honest)
          ∙ find-here (has_name name) read.bytes (records_to_come index old later) is)
          ∙ ap (λ (x : Record). Some x.id) (sym read.record_is);
      reads = reads-then so.reads read.reads;
    }

    -- nor has any other
    pub looked-all : {next : Disk} → HasNoRecord index here now next → FindsUnder index first name None old next
    looked-all {next} none = record {
      found_is = λ honest.
          let left : records_to_come index old here ≡ [] =
          sym (coming-later index old now here so.reads.1.image) ∙ none.none (so.reads.1.honest ∙ honest) in
          ap (option_map record_id) (so.rest honest ∙ ap (find (has_name name)) left);
      reads = reads-then so.reads none.reads;
    }

-- A directory was found, and then what it has under the name.
module _ (index wide by : Index) (id : FileId) (name : List ℕ) (directory : FoundDirectory) (old mid new : Disk)
    (finds : FindsDirectory index wide id directory old mid) (is : by ≡ index_by directory.in_use index wide) where
  entered : (found : Option FileId) → FindsUnder by directory.directory name found mid new → IsTrue old.honest
      → id_entered wide old.image (table index old) id name ≡ id_or None found
  entered found under honest =
      ap (λ r. id_or r (id_under name (records_found wide old.image (table index old) id))) (finds.readable honest)
      ∙ ap (λ (rs : List (List ℕ)). id_or None (id_under name rs)) (sym (finds.records honest))
      ∙ ap (λ (i : Index). id_or None (id_under name (records_to_come i old directory.directory))) (sym is)
      ∙ ap (λ (rs : List (List ℕ)). id_or None (id_under name rs)) (sym (coming-later by old mid directory.directory finds.looked.image))
      ∙ ap (id_or None) (under.found_is (finds.looked.honest ∙ honest))

  pub enters-some : (found : FileId) → FindsUnder by directory.directory name (Some found) mid new
      → FindsId index wide id name found old new
  enters-some found under =
      record { found = entered (Some found) under; reads = reads-then (_, finds.looked) under.reads }

  pub enters-none : FindsUnder by directory.directory name None mid new → FindsNoId index wide id name NoSuchEntry old new
  enters-none under = record { refused = entered None under; reads = reads-then (_, finds.looked) under.reads }

  -- a transfer failed
  pub enters-fails : Reads mid new 1 → Reads old new 1
  enters-fails reads = reads-then (_, finds.looked) reads
