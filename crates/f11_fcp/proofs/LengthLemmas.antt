-- How long a file is that is accessed.
use Rattle.std.proofs.Common.{◌≡◌, ℕ, Bool, false, IsTrue, Option, Some, None, Ok, Err, refl, sym, ◌∙◌, ap, subst}
use Rattle.std.proofs.Common.{is_none, option_map}
use Rattle.f11_dev.specs.Image.{Image}
use Rattle.f11_dev.specs.declared.device.Device.{Ghosts}
use Rattle.f11_store.specs.Causes.{holds_none, is_missing}
use Rattle.f11_store.specs.Cost.{header_count}
use Rattle.f11_store.specs.File.{File, length_of}
use Rattle.f11_store.specs.Store.{Store, file_held, file_named, id_in}
use Rattle.f11_store.specs.declared.refusals.Refusal.{Refusal}
use Rattle.f11_store.specs.declared.refusals.Refusal.TheVariants.{NoSuchAccess, NoSuchFile}
use Rattle.f11_files.specs.Answers.{FailsToRead, ReadsAtMost}
use Rattle.f11_files.specs.Finding.Length.{CountsBlocks}
use Rattle.f11_files.specs.Open.{disk_in, has_failed, home_in}
use Rattle.f11_files.specs.Operations.{file_causes}
use Rattle.f11_files.specs.declared.files.Files.{Files}
use Rattle.f11_files.specs.image_store.StoreOf.{store_of}
use Rattle.f11_fcp.specs.Accesses.{Entry, HasAccessed, AccessTable, access_of}
use Rattle.f11_fcp.specs.Handles.{IsOpen, State, of_known, store_at}
use Rattle.f11_fcp.specs.Lengths.{Measures, length_causes, length_cost}
use Rattle.f11_fcp.proofs.AccessedLemmas.{drop-false, fails-early, take-true}
use Rattle.f11_fcp.proofs.KnownLemmas.{known-fails, known-file}
use Rattle.f11_fcp.proofs.WindowLemmas.{windows-read}

-- no access is held
pub measure-none : (task lun : ℕ) (old : State) → None ≡ old.table task lun → Measures task lun (Err NoSuchAccess) old old
measure-none task lun old none = record {
  outcome = fails-early NoSuchAccess refl refl
      (λ _. take-true (holds_none (store_at old) task lun) _ _ (ap (λ (o : Option Entry). is_none (option_map access_of o)) (sym none)));
  table = refl;
  counts = refl;
  home = refl;
}

module _ (task lun : ℕ) (old : State) (e : Entry) (held : old.table task lun ≡ Some e)
    (there : IsTrue old.disk.honest → is_missing (store_of old.disk.image old.home) e.file ≡ false) where
  abbrev sb : Store
  sb = store_of old.disk.image old.home

  abbrev named : File
  named = file_named sb e.file

  file : file_held (store_at old) task lun ≡ named
  file = ap (λ (o : Option Entry). file_named sb (id_in (option_map access_of o))) held

  some : holds_none (store_at old) task lun ≡ false
  some = ap (λ (o : Option Entry). is_none (option_map access_of o)) held

  -- the blocks were counted
  pub measured : (blocks : ℕ) (new : State) → CountsBlocks old.home e.file blocks old.disk new.disk → new.home ≡ old.home
      → new.table ≡ old.table → new.counts ≡ old.counts → Measures task lun (Ok blocks) old new
  measured blocks new counted home table counts = record {
    outcome = record {
      accessed = some;
      length_is = λ honest. counted.length_is honest ∙ ap (λ (f : File). length_of f) (sym file);
      few = counted.few;
      reads = subst (λ (f : File). ReadsAtMost (header_count f) old.disk new.disk 0) (sym file) counted.reads;
    };
    table = table;
    counts = counts;
    home = home;
  }

  -- or they weren't
  pub not-measured : {failed : Bool} (er res : Refusal) (new : State) → failed ≡ false
      → FailsToRead failed (file_causes sb e.file) (header_count named) er old.disk new.disk
      → new.home ≡ old.home → new.table ≡ old.table → new.counts ≡ old.counts → res ≡ of_known er → Measures task lun (Err res) old new
  not-measured er res new alive fails home table counts is = record {
    outcome =
        subst (λ (x : Refusal). FailsToRead false (length_causes old task lun) (length_cost old task lun) x old.disk new.disk) (sym is)
        (subst (λ (f : File). FailsToRead false (length_causes old task lun) (header_count f) (of_known er) old.disk new.disk) (sym file)
        (known-fails (file_causes sb e.file) er alive (known-file sb e.file er)
        (λ honest. drop-false (is_missing sb e.file) (Some NoSuchFile) None (there honest)) fails));
    table = table;
    counts = counts;
    home = home;
  }

-- and all stays open, unless the volume failed
pub measured-open : {D : Type 0} {met : Ghosts D} (t : AccessTable) (old new : Files D met) {m faults : ℕ} → IsOpen t old
    → ReadsAtMost m (disk_in old) (disk_in new) faults → home_in new ≡ home_in old → has_failed new ≡ false → IsOpen t new
measured-open t old new is reads home alive = record {
  alive = alive;
  windows = windows-read t old new is reads home;
  kept = λ honest.
      subst (λ (s : Store). HasAccessed t s)
      (sym (ap (λ (i : Image). store_of i (home_in new)) reads.looked.image ∙ ap (store_of (disk_in old).image) home))
      (is.kept (sym reads.looked.honest ∙ honest));
}
