-- A record that isn't empty, looked for among records that are read one after another.
use Rattle.std.proofs.Common.{◌≡◌, ℕ, Bool, true, false, not, ◌||◌, IsTrue, List, ◌∷◌, refl, sym, ap, ◌∙◌}
use Rattle.f11_dev.specs.Disk.{Disk}
use Rattle.f11_dir.specs.declared.record.Record.{Record}
use Rattle.f11_index.specs.IndexFile.{Index}
use Rattle.f11_store.specs.Directory.{is_empty}
use Rattle.f11_store.specs.declared.files.FileId.{FileId}
use Rattle.f11_catalog.specs.Holding.{FindsSome, TellsSome, has_some, is_used}
use Rattle.f11_catalog.specs.Records.{FindsDirectory, HasNoRecord, Reads, ReadsRecord}
use Rattle.f11_catalog.specs.Records.{index_by, records_to_come}
use Rattle.f11_catalog.specs.declared.directory.DirectoryReader.{DirectoryReader}
use Rattle.f11_catalog.specs.declared.found.FoundDirectory.{FoundDirectory}
use Rattle.f11_catalog.proofs.ListingLemmas.{coming-later, reads-none, reads-then}

-- Each record that was read is empty.
pub record AllEmpty (index : Index) (first here : DirectoryReader) (old now : Disk) : Type 0 where
  pub rest : IsTrue old.honest → has_some (records_to_come index old first) ≡ has_some (records_to_come index old here)
  pub reads : Reads old now 0

pub empty-none : (index : Index) (first : DirectoryReader) (disk : Disk) → AllEmpty index first first disk disk
empty-none index first disk = record { rest = λ _. refl; reads = reads-none disk }

module _ (index : Index) (first here : DirectoryReader) (old now : Disk) (so : AllEmpty index first here old now) where
  came : {bytes : List ℕ} (later : DirectoryReader)
      → (IsTrue now.honest → records_to_come index now here ≡ bytes ∷ records_to_come index now later)
      → IsTrue old.honest → has_some (records_to_come index old first) ≡ (is_used bytes || has_some (records_to_come index old later))
  came {bytes} later read honest =
      so.rest honest
      ∙ ap has_some (sym (coming-later index old now here so.reads.1.image) ∙ read (so.reads.1.honest ∙ honest)
      ∙ ap (λ rs. bytes ∷ rs) (coming-later index old now later so.reads.1.image))

  pub empty-on : {later : DirectoryReader} {r : Record} {next : Disk} (read : ReadsRecord index here later r now next)
      → is_empty read.bytes ≡ true → AllEmpty index first later old next
  empty-on {later} {r} {next} read is = record {
    rest = λ honest. came later read.next honest ∙ ap (λ b. not b || has_some (records_to_come index old later)) is;
    reads = reads-then so.reads read.reads;
  }

  -- the next one isn't
  pub used-found : {later : DirectoryReader} {r : Record} {next : Disk} (read : ReadsRecord index here later r now next)
      → is_empty read.bytes ≡ false → FindsSome index first true old next
  used-found {later} {r} {next} read is = record {
    some_is = λ honest. sym (came later read.next honest ∙ ap (λ b. not b || has_some (records_to_come index old later)) is);
    reads = reads-then so.reads read.reads;
  }

  -- and no other isn't
  pub empty-all : {next : Disk} → HasNoRecord index here now next → FindsSome index first false old next
  empty-all {next} none = record {
    some_is = λ honest.
        sym (so.rest honest
        ∙ ap has_some (sym (coming-later index old now here so.reads.1.image) ∙ none.none (so.reads.1.honest ∙ honest)));
    reads = reads-then so.reads none.reads;
  }

-- a directory was found, and then whether it has one
pub holds-some : (index wide by : Index) (id : FileId) (found : FoundDirectory) (old mid new : Disk) (some : Bool)
    → FindsDirectory index wide id found old mid → by ≡ index_by found.in_use index wide
    → FindsSome by found.directory some mid new → TellsSome index wide id some old new
holds-some index wide by id found old mid new some finds is all = record {
  readable = finds.readable;
  some_is = λ honest.
      all.some_is (finds.looked.honest ∙ honest)
      ∙ ap has_some (coming-later by old mid found.directory finds.looked.image
      ∙ ap (λ (i : Index). records_to_come i old found.directory) is ∙ finds.records honest);
  reads = reads-then (_, finds.looked) all.reads;
}
