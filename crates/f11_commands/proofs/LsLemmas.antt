-- What is listed of a volume.
use Rattle.std.proofs.Common.{◌≡◌, ℕ, Bool, IsTrue, List, Option, Ok, sym}
use Rattle.std.proofs.Common.{ap, subst, ◌∙◌}
use Rattle.std.proofs.Common.{not}
use Rattle.f11_catalog.proofs.ListingLemmas.{reads-then, said-later}
use Rattle.f11_catalog.specs.Lines.{record_lines}
use Rattle.f11_catalog.specs.Listing.{FindsId, IsRefused, Lists}
use Rattle.f11_catalog.specs.Records.{Reads, records_found}
use Rattle.f11_catalog.specs.chain.Calls.{table}
use Rattle.f11_catalog.specs.declared.line_form.LineForm.{LineForm}
use Rattle.f11_dev.specs.Disk.{Disk}
use Rattle.f11_dev.specs.Image.{Image}
use Rattle.f11_findings.specs.declared.finding.Finding.{Finding}
use Rattle.f11_home.specs.Home.{HomeFields}
use Rattle.f11_index.specs.IndexFile.{Index, all_in_use}
use Rattle.f11_index.specs.Table.{Table, table_of}
use Rattle.f11_store.specs.declared.files.FileId.{FileId}
use Rattle.f11_store.specs.declared.refusals.Refusal.{Refusal}
use Rattle.f11_serving.specs.vfy.Verify.{TellsVerdict}
use Rattle.f11_commands.specs.Copying.{master_directory}
use Rattle.f11_commands.specs.AnyVolume.{FailsToServe, FindsVolume, IsReadable, unless_refused}
use Rattle.f11_commands.specs.LsCommand.{FailsToListIndex, IsNotListed, ListsIndex, ListsVolume, lists, tells}
use Rattle.f11_commands.specs.LsCommand.{PrintsListing, WritesListing, directory_listed, lines_or, listed}
use Rattle.f11_commands.specs.LsCommand.{listing_answer, listing_text, one_listed, volume_listed}
use Rattle.f11_commands.specs.VfyCommand.{IsVerdict}
use Rattle.f11_commands.proofs.AnyVolumeLemmas.{fault-behind, index-of-volume, said-of-volume, verified-first}
use Rattle.f11_commands.specs.declared.ls.Served.{Served}
use Rattle.f11_commands.specs.declared.outcome.Answer.{Answer}
use Rattle.f11_commands.specs.declared.outcome.Failure.{Failure}
use Rattle.f11_commands.specs.declared.outcome.Failure.TheVariants.{DeviceFault, NoMemory, CannotWrite}

module _ {W : Type 0} (form : LineForm) (index wide : Index) (contents : W → Option (List ℕ)) where
  module _ (directory : List ℕ) (old mid : Disk) where
    module _ (id : FileId) (found : FindsId index wide master_directory directory id old mid) where
      is-listed : IsTrue old.honest
          → one_listed form wide old.image (table index old) directory ≡ directory_listed form wide old.image (table index old) id
      is-listed honest =
          ap (unless_refused (directory_listed form wide old.image (table index old))) (found.found honest)

      later : {X : Type 0} (text : Image → Table → X) → text mid.image (table index mid) ≡ text old.image (table index old)
      later text = said-later text index found.reads.1

      -- one that is
      pub one-lists : (new : Disk) (before after : W) → Lists (record_lines form wide) index wide id mid new contents before after
          → WritesListing (λ image t. one_listed form wide image t directory) index old new contents before after
      one-lists new before after all = record {
        lines = all.writes.written;
        lines_are = λ honest.
            let honest' : IsTrue mid.honest = found.reads.1.honest ∙ honest in
            is-listed honest ∙ sym (later (λ image t. directory_listed form wide image t id))
            ∙ ap (λ r. lines_or r (record_lines form wide mid.image (table index mid) (records_found wide mid.image (table index mid) id)))
            (all.readable honest')
            ∙ ap Ok (sym (all.writes.is honest'));
        takes = all.writes.takes;
        reads = reads-then found.reads all.writes.reads;
      }

      pub one-refused : (new : Disk) (refusal : Refusal) → IsRefused index wide id refusal mid new
          → IsNotListed (λ image t. one_listed form wide image t directory) index refusal old new
      one-refused new refusal none = record {
        refused = λ honest.
            let honest' : IsTrue mid.honest = found.reads.1.honest ∙ honest in
            is-listed honest ∙ sym (later (λ image t. directory_listed form wide image t id))
            ∙ ap (λ r. lines_or r (record_lines form wide mid.image (table index mid) (records_found wide mid.image (table index mid) id)))
            (none.refused honest');
        reads = reads-then found.reads none.reads;
      }

-- the index file was read before
pub volume-lists : {W : Type 0} (form : LineForm) (home : HomeFields) (index wide : Index) (directory : Option (List ℕ)) (answer : Answer)
    (old mid new : Disk)
    (contents : W → Option (List ℕ)) (before after : W) → FindsVolume home index old mid → wide ≡ all_in_use index
    → ListsIndex form index wide directory answer mid new contents before after
    → ListsVolume form directory answer old new contents before after
volume-lists form home index wide directory answer old mid new contents before after found all-used all = lists (record {
  home = home;
  readable = found.readable;
  text = all.text;
  text_is = λ honest. all.text_is (same honest) ∙ ap listing_text (volumes honest);
  answer_is = λ honest. all.answer_is (same honest) ∙ ap listing_answer (volumes honest);
  takes = all.takes;
  reads = reads-then (_, found.looked) all.reads;
})
  where
    same : IsTrue old.honest → IsTrue mid.honest
    same honest = found.looked.honest ∙ honest

    volumes : IsTrue old.honest → listed form wide mid.image (table index mid) directory ≡ volume_listed form old.image home directory
    volumes honest =
        said-of-volume home index old mid found (λ image t. listed form wide image t directory) honest
        ∙ ap (λ (i : Index). listed form i old.image (table_of old.image home) directory)
        (all-used ∙ ap all_in_use (index-of-volume home index old mid found honest))

-- what is said of a volume behind a look at it
pub volume-behind : {W : Type 0} (form : LineForm) (directory : Option (List ℕ)) (answer : Answer) (old mid new : Disk)
    (contents : W → Option (List ℕ))
    (before after : W) → Reads old mid 0 → ListsVolume form directory answer mid new contents before after
    → ListsVolume form directory answer old new contents before after
volume-behind form directory answer old mid new contents before after reads (lists all) = lists (record {
  home = all.home;
  readable = λ honest. subst (λ (i : Image). IsReadable i all.home) reads.1.image (all.readable (reads.1.honest ∙ honest));
  text = all.text;
  text_is = λ honest.
      all.text_is (reads.1.honest ∙ honest)
      ∙ ap (λ (i : Image). listing_text (volume_listed form i all.home directory)) reads.1.image;
  answer_is = λ honest.
      all.answer_is (reads.1.honest ∙ honest)
      ∙ ap (λ (i : Image). listing_answer (volume_listed form i all.home directory)) reads.1.image;
  takes = all.takes;
  reads = reads-then reads all.reads;
})
volume-behind form directory answer old mid new contents before after reads (tells fault) =
    tells (fault-behind answer old mid new contents before after reads fault)

pub fails-to-list : {W : Type 0} (failure : Failure) (old mid new : Disk) (contents : W → Option (List ℕ)) (before after : W)
    → Reads old mid 0 → FailsToListIndex failure mid new → FailsToServe failure old new contents before after
fails-to-list DeviceFault old mid new contents before after reads fails = reads-then reads fails
fails-to-list NoMemory old mid new contents before after reads fails = absurd fails
fails-to-list CannotWrite old mid new contents before after reads fails = reads-then reads fails

-- the volume was verified before: it has faults, or has none
pub judged-listing : {W : Type 0} (form : LineForm) (directory : Option (List ℕ)) (served : Served) (faulty : Bool) (old mid new : Disk)
    (contents : W → Option (List ℕ)) (before after : W) → TellsVerdict faulty old mid
    → (served.faulty ≡ faulty) × ListsVolume form directory served.answer mid new contents before after
    → PrintsListing form directory served old new contents before after
judged-listing form directory served faulty old mid new contents before after told all = record {
  verified = verified-first served.faulty faulty old mid told all.0;
  lists = volume-behind form directory served.answer old mid new contents before after (_, told.looked.looked) all.1;
}
