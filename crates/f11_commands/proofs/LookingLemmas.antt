-- What a look at a volume tells, one thing after another.
use Rattle.std.proofs.Common.{◌≡◌, ℕ, Bool, IsTrue, List, Result, Ok, Err, ap, sym, subst, ◌∙◌}
use Rattle.std.specs.Prelude.{IfErr, IsErrAnd}
use Rattle.f11_catalog.proofs.ListingLemmas.{reads-then, said-later}
use Rattle.f11_catalog.specs.Holding.{TellsSome, has_some}
use Rattle.f11_catalog.specs.Listing.{FindsId, FindsNoId, IsRefused, id_entered}
use Rattle.f11_catalog.specs.Names.{FailsToName, ListsNames, names_in}
use Rattle.f11_catalog.specs.Records.{Reads, records_found}
use Rattle.f11_catalog.specs.chain.Calls.{table}
use Rattle.f11_catalog.specs.declared.fault.WalkFault.{WalkFault}
use Rattle.f11_catalog.specs.declared.fault.WalkFault.TheVariants as faults
use Rattle.f11_dev.specs.Disk.{Disk}
use Rattle.f11_index.specs.IndexFile.{Index, all_in_use, index_of}
use Rattle.f11_index.specs.Table.{table_of}
use Rattle.f11_store.specs.declared.files.FileId.{FileId}
use Rattle.f11_store.specs.declared.refusals.Refusal.{Refusal}
use Rattle.f11_commands.specs.AnyVolume.{unless_refused}
use Rattle.f11_commands.specs.DirectoryNames.{names_with, unless}
use Rattle.f11_commands.specs.DirectoryRecords.{some_with}
use Rattle.f11_commands.specs.Looking.{Ask, LookFails, FindsIndexes, FindsTold, LooksFor, failure_by}
use Rattle.f11_commands.specs.declared.outcome.Failure.{Failure}
use Rattle.f11_commands.proofs.AnyVolumeLemmas.{index-of-volume, said-of-volume}

module _ (index wide : Index) (old mid new : Disk) where
  -- one thing, and then another by what was told
  pub looks-then : {T : Type 0} (first : Ask FileId) (next : FileId → Ask T) (id : FileId) (told : Result T Refusal)
      → LooksFor first index wide (Ok id) old mid → LooksFor (next id) index wide told mid new
      → LooksFor (λ w i t. unless_refused (λ x. next x w i t) (first w i t)) index wide told old new
  looks-then first next id told found behind = record {
    told_is = λ honest.
        ap (unless_refused (λ x. next x wide old.image (table index old))) (found.told_is honest)
        ∙ sym (said-later (λ image t. next id wide image t) index found.reads.1)
        ∙ behind.told_is (found.reads.1.honest ∙ honest);
    reads = reads-then found.reads behind.reads;
  }

  -- the index file was read before
  pub looks-of-volume : {T : Type 0} (ask : Ask T) (told : Result T Refusal) → FindsIndexes index wide old mid
      → LooksFor ask index wide told mid new → FindsTold ask told old new
  looks-of-volume {T} ask told both looks = record {
    home = both.home;
    readable = both.found.readable;
    told_is = λ honest. sym (volumes honest) ∙ looks.told_is (both.found.looked.honest ∙ honest);
    reads = reads-then (_, both.found.looked) looks.reads;
  }
    where
      volumes : IsTrue old.honest
          → ask wide mid.image (table index mid) ≡ ask (all_in_use (index_of old.image both.home)) old.image (table_of old.image both.home)
      volumes honest =
          said-of-volume both.home index old mid both.found (λ image t. ask wide image t) honest
          ∙ ap (λ (i : Index). ask i old.image (table_of old.image both.home))
          (both.all_used ∙ ap all_in_use (index-of-volume both.home index old mid both.found honest))

module _ (index wide : Index) (old new : Disk) where
  -- the first thing is refused
  pub looks-refused : {T : Type 0} (first : Ask FileId) (next : FileId → Ask T) (refusal : Refusal)
      → LooksFor first index wide (Err refusal) old new
      → LooksFor (λ w i t. unless_refused (λ x. next x w i t) (first w i t)) index wide (Err refusal) old new
  looks-refused first next refusal none = record {
    told_is = λ honest. ap (unless_refused (λ x. next x wide old.image (table index old))) (none.told_is honest);
    reads = none.reads;
  }

  -- what a name leads to
  pub looks-id : (dir : FileId) (name : List ℕ) (id : FileId) → FindsId index wide dir name id old new
      → LooksFor (λ w i t. id_entered w i t dir name) index wide (Ok id) old new
  looks-id dir name id found = record { told_is = found.found; reads = found.reads }

  pub looks-no-id : (dir : FileId) (name : List ℕ) (refusal : Refusal) → FindsNoId index wide dir name refusal old new
      → LooksFor (λ w i t. id_entered w i t dir name) index wide (Err refusal) old new
  looks-no-id dir name refusal none = record { told_is = none.refused; reads = none.reads }

  -- the names of a directory, and whether it has records
  pub looks-names : (id : FileId) (names : List (List ℕ)) → ListsNames index wide id names old new
      → LooksFor (λ w i t. names_with w i t id) index wide (Ok names) old new
  looks-names id names all = record {
    told_is = λ honest.
        ap (λ r. unless r (names_in (records_found wide old.image (table index old) id))) (all.readable honest)
        ∙ ap Ok (sym (all.names_are honest));
    reads = all.reads;
  }

  pub looks-no-names : (id : FileId) (refusal : Refusal) → IsRefused index wide id refusal old new
      → LooksFor (λ w i t. names_with w i t id) index wide (Err refusal) old new
  looks-no-names id refusal none = record {
    told_is = λ honest. ap (λ r. unless r (names_in (records_found wide old.image (table index old) id))) (none.refused honest);
    reads = none.reads;
  }

  pub looks-some : (id : FileId) (some : Bool) → TellsSome index wide id some old new
      → LooksFor (λ w i t. some_with w i t id) index wide (Ok some) old new
  looks-some id some tells = record {
    told_is = λ honest.
        ap (λ r. unless r (has_some (records_found wide old.image (table index old) id))) (tells.readable honest)
        ∙ ap Ok (sym (tells.some_is honest));
    reads = tells.reads;
  }

  pub looks-no-some : (id : FileId) (refusal : Refusal) → IsRefused index wide id refusal old new
      → LooksFor (λ w i t. some_with w i t id) index wide (Err refusal) old new
  looks-no-some id refusal none = record {
    told_is = λ honest. ap (λ r. unless r (has_some (records_found wide old.image (table index old) id))) (none.refused honest);
    reads = none.reads;
  }

-- the look broke off behind that
pub looks-fail : (fault : WalkFault) (old mid new : Disk) → Reads old mid 0 → FailsToName fault mid new
    → LookFails (failure_by fault) old new
looks-fail faults.DeviceFault old mid new reads fails = reads-then reads fails
looks-fail faults.NoMemory old mid new reads fails = reads-then reads fails

-- and its failure is handed on
pub failure-handed : {T : Type 0} (r : Result T Failure) (failure : Failure) (old new : Disk) → IsErrAnd r (λ e. e ≡ failure)
    → LookFails failure old new → IfErr r (λ e. LookFails e old new)
failure-handed (Ok x) failure old new is fails = absurd is
failure-handed (Err e) failure old new is fails = subst (λ (f : Failure). LookFails f old new) (sym is) fails
