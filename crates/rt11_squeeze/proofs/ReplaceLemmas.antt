-- A file that is deleted, and one that takes its name.
use Rattle.std.proofs.Common.{◌≡◌, ℕ, ◌≤◌, true, false, Bool, List, [], ◌∷◌, Err, sym, ◌∙◌, ap, arith}
use Rattle.f11_dev.specs.Disk.{Disk}
use Rattle.f11_dev.specs.Image.{Image}
use Rattle.f11_dev.specs.Went.{Went}
use Rattle.f11_dev.specs.declared.device.Device.{Ghosts}
use Rattle.f11_dev.proofs.WentLemmas.{went_more, went_weaker, went_within}
use Rattle.rt11_volume.specs.Calls.{AnswersRt, has_failed}
use Rattle.rt11_volume.specs.Entry.{protected_entry, renamed_entry}
use Rattle.rt11_volume.specs.Files.{ChangesEntry, DeletesFile, FailsToDelete, FailsToFindFile, FailsToRename, HasEntryChanged, KeepsFiles}
use Rattle.rt11_volume.specs.Files.{ProtectsFile, RenamesFile}
use Rattle.rt11_volume.specs.Laws.{HasProtected, HasRenamed}
use Rattle.rt11_volume.specs.Named.{files_named}
use Rattle.rt11_volume.specs.RtName.{IsRtName}
use Rattle.rt11_volume.specs.Store.{Area}
use Rattle.rt11_volume.specs.Verifying.Verdict.{IsSoundDisk}
use Rattle.rt11_volume.specs.declared.refusal.RtRefusal.{RtRefusal}
use Rattle.rt11_volume.specs.declared.volume.RtAccepted.{RtAccepted}
use Rattle.rt11_volume.proofs.Named.Entry.{protected-protected, renamed-renamed}
use Rattle.rt11_volume.proofs.Named.Laws.{deleted-gone}
use Rattle.rt11_squeeze.specs.Kept.{SparesBehind, volume_disk, volume_store}
use Rattle.rt11_squeeze.specs.Replacing.{FailsToRemove, FailsToTake, Removes, TakesName, naming_transfers}
use Rattle.rt11_squeeze.specs.Replacing.{removal_transfers}
use Rattle.rt11_squeeze.proofs.CallLemmas.{deleted-of, found-of, renamed-of, unfailed-of}
use Rattle.rt11_squeeze.proofs.StandLemmas.{KeepsStart, behind-then, data-behind, entry-behind, names-apart}

-- what stands while an entry is changed
pub entry-spares : (changed : List ℕ → List ℕ) (name : List ℕ) (old : Disk) (image : Image) → HasEntryChanged changed name old image
    → SparesBehind old image
entry-spares changed name old image changing s =
    let c = changing s in (entry-behind old.image image c.file.place c.file.i c.file.segment c.entry c.store_is).behind

-- and while a file is deleted
pub deletion-spares : (old : Disk) (image : Image) → KeepsFiles old image → SparesBehind old image
deletion-spares old image keeps s = data-behind old.image image (keeps s)

changes-start : (changed : List ℕ → List ℕ) (name : List ℕ) (old new : Image) → ChangesEntry changed name old new → KeepsStart old new
changes-start changed name old new c = entry-behind old new c.file.place c.file.i c.file.segment (changed c.file.entry) c.store_is

-- one after another
behind-on : (P : Image → Type 0) (old middle : Disk) → (IsSoundDisk old → IsSoundDisk middle)
    → (IsSoundDisk old → KeepsStart old.image middle.image) → ((image : Image) → P image → SparesBehind middle image)
    → (image : Image) → P image → SparesBehind old image
behind-on P old middle sound start spares image holds s =
    behind-then old.image middle.image image (start s) (spares image holds (sound s))

module _ {D : Type 0} {met : Ghosts D} (disk : D → Disk) (name : List ℕ) (old : RtAccepted D met) where
  pub change-went : (changed : List ℕ → List ℕ) (most n faults : ℕ) (new : RtAccepted D met) → most ≤ n
      → Went (HasEntryChanged changed name (volume_disk disk old)) (volume_disk disk old) (volume_disk disk new) most faults
      → Went (SparesBehind (volume_disk disk old)) (volume_disk disk old) (volume_disk disk new) n faults
  change-went changed most n faults new fewer went =
      went_within (SparesBehind (volume_disk disk old))
      (went_weaker (HasEntryChanged changed name (volume_disk disk old)) (SparesBehind (volume_disk disk old))
      (entry-spares changed name (volume_disk disk old)) went) fewer

  pub delete-went : (faults : ℕ) (new : RtAccepted D met)
      → Went (KeepsFiles (volume_disk disk old)) (volume_disk disk old) (volume_disk disk new) 64 faults
      → Went (SparesBehind (volume_disk disk old)) (volume_disk disk old) (volume_disk disk new) removal_transfers faults
  delete-went faults new went =
      went_within (SparesBehind (volume_disk disk old))
      (went_weaker (KeepsFiles (volume_disk disk old)) (SparesBehind (volume_disk disk old)) (deletion-spares (volume_disk disk old)) went)
      (omega arith)

  -- a file that isn't protected was deleted, or wasn't
  pub deletes : (faults : ℕ) (new : RtAccepted D met)
      → Went (KeepsFiles (volume_disk disk old)) (volume_disk disk old) (volume_disk disk new) 64 faults
      → (IsSoundDisk (volume_disk disk old) → DeletesFile name (volume_disk disk old).image (volume_disk disk new).image)
      → Removes name (volume_disk disk old) (volume_disk disk new)
  deletes faults new went deleted = record {
    sound = λ s. record { honest = went.honest ∙ s.honest; accepted = (deleted s).accepted };
    gone = λ s. deleted-gone name (volume_disk disk old).image (volume_disk disk new).image (deleted s);
  }

  pub fails-deleting : (e : RtRefusal) (new : RtAccepted D met) → has_failed old ≡ false → AnswersRt {T = Unit} disk (Err e) old new
      → FailsToDelete e name (volume_disk disk old) → FailsToRemove name false e (volume_disk disk old)
  fails-deleting e new fresh a why = record {
    fresh = unfailed-of {T = Unit} disk e old new a fresh;
    why = λ s is.
        deleted-of (volume_disk disk old) s name is.file is.more is.named e why is.protected_is
        (unfailed-of {T = Unit} disk e old new a fresh);
  }

  -- it wasn't unprotected
  pub fails-unprotecting : (protected : Bool) (e : RtRefusal) (new : RtAccepted D met) → has_failed old ≡ false
      → AnswersRt {T = Unit} disk (Err e) old new → FailsToFindFile e name (volume_disk disk old)
      → FailsToRemove name protected e (volume_disk disk old)
  fails-unprotecting protected e new fresh a why = record {
    fresh = unfailed-of {T = Unit} disk e old new a fresh;
    why = λ s is.
        found-of (volume_disk disk old) s name is.file is.more is.named e why (unfailed-of {T = Unit} disk e old new a fresh);
  }

  module _ (on : Bool) (middle : RtAccepted D met)
      (went : Went (HasEntryChanged (protected_entry on) name (volume_disk disk old)) (volume_disk disk old) (volume_disk disk middle) 63 0)
      (protects : IsSoundDisk (volume_disk disk old)
      → ProtectsFile on name (volume_disk disk old).image (volume_disk disk middle).image) where
    protected-sound : IsSoundDisk (volume_disk disk old) → IsSoundDisk (volume_disk disk middle)
    protected-sound s = record { honest = went.honest ∙ s.honest; accepted = (protects s).accepted }

    has-protected : IsSoundDisk (volume_disk disk old) → HasProtected on name (volume_store disk old) (volume_store disk middle)
    has-protected s = protected-protected on name (volume_disk disk old).image (volume_disk disk middle).image (protects s)

    pub remove-went : (faults : ℕ) (new : RtAccepted D met)
        → Went (KeepsFiles (volume_disk disk middle)) (volume_disk disk middle) (volume_disk disk new) 64 faults
        → Went (SparesBehind (volume_disk disk old)) (volume_disk disk old) (volume_disk disk new) removal_transfers faults
    remove-went faults new more =
        went_more (SparesBehind (volume_disk disk old)) (change-went (protected_entry on) 63 63 0 middle (omega arith) went)
        (went_weaker (KeepsFiles (volume_disk disk middle)) (SparesBehind (volume_disk disk old))
        (behind-on (KeepsFiles (volume_disk disk middle)) (volume_disk disk old) (volume_disk disk middle) protected-sound
        (λ s. changes-start (protected_entry on) name (volume_disk disk old).image (volume_disk disk middle).image (protects s))
        (deletion-spares (volume_disk disk middle))) more)

    pub removes : (faults : ℕ) (new : RtAccepted D met)
        → Went (KeepsFiles (volume_disk disk middle)) (volume_disk disk middle) (volume_disk disk new) 64 faults
        → (IsSoundDisk (volume_disk disk middle) → DeletesFile name (volume_disk disk middle).image (volume_disk disk new).image)
        → Removes name (volume_disk disk old) (volume_disk disk new)
    removes faults new more deleted = record {
      sound = λ s.
          let m = protected-sound s in record { honest = more.honest ∙ m.honest; accepted = (deleted m).accepted };
      gone = λ s.
          let p = has-protected s in
          let g = deleted-gone name (volume_disk disk middle).image (volume_disk disk new).image (deleted (protected-sound s)) in
          let same : record p.file { protected = on } ∷ p.more ≡ g.file ∷ files_named name (volume_store disk new) = sym p.is ∙ g.was in
          let rest : p.more ≡ files_named name (volume_store disk new) = cc in
          record {
            file = p.file;
            was = p.was ∙ ap (λ (l : List Area). p.file ∷ l) rest;
            others = λ other apart. g.others other apart ∙ p.others other apart;
          };
    }

    pub fails-removing : on ≡ false → (protected : Bool) (e : RtRefusal) (new : RtAccepted D met) → has_failed middle ≡ false
        → AnswersRt {T = Unit} disk (Err e) middle new → FailsToDelete e name (volume_disk disk middle)
        → FailsToRemove name protected e (volume_disk disk old)
    fails-removing off protected e new fresh a why = record {
      fresh = unfailed-of {T = Unit} disk e middle new a fresh;
      why = λ s is.
          let p = has-protected s in
          deleted-of (volume_disk disk middle) (protected-sound s) name (record p.file { protected = on }) p.more p.is e why off
          (unfailed-of {T = Unit} disk e middle new a fresh);
    }

module _ {D : Type 0} {met : Ghosts D} (disk : D → Disk) (name other : List ℕ) (old : RtAccepted D met) where
  -- it wasn't renamed
  pub fails-renaming : (e : RtRefusal) (new : RtAccepted D met) → has_failed old ≡ false → AnswersRt {T = Unit} disk (Err e) old new
      → FailsToRename e name other (volume_disk disk old) → FailsToTake name other e (volume_disk disk old)
  fails-renaming e new fresh a why = record {
    fresh = unfailed-of {T = Unit} disk e old new a fresh;
    why = λ s may.
        renamed-of (volume_disk disk old) s name may.file may.more may.named other e why may.none
        (unfailed-of {T = Unit} disk e old new a fresh);
  }

  module _ (middle : RtAccepted D met) (proper : IsRtName other)
      (went : Went (HasEntryChanged (renamed_entry other) name (volume_disk disk old)) (volume_disk disk old) (volume_disk disk middle) 126
      0)
      (renames : IsSoundDisk (volume_disk disk old)
      → RenamesFile name other (volume_disk disk old).image (volume_disk disk middle).image) where
    renamed-sound : IsSoundDisk (volume_disk disk old) → IsSoundDisk (volume_disk disk middle)
    renamed-sound s = record { honest = went.honest ∙ s.honest; accepted = (renames s).changes.accepted }

    has-renamed : IsSoundDisk (volume_disk disk old) → HasRenamed name other (volume_store disk old) (volume_store disk middle)
    has-renamed s = renamed-renamed name other (volume_disk disk old).image (volume_disk disk middle).image proper (renames s)

    -- and isn't to be protected
    pub takes : TakesName name other false (volume_disk disk old) (volume_disk disk middle)
    takes = record {
      sound = renamed-sound;
      taken = λ s.
          let r = has-renamed s in record { file = r.file; was = r.was; none = r.none; is = r.is; others = r.others };
    }

    -- or was protected
    pub take-went : (faults : ℕ) (new : RtAccepted D met)
        → Went (HasEntryChanged (protected_entry true) other (volume_disk disk middle)) (volume_disk disk middle) (volume_disk disk new) 63
        faults
        → Went (SparesBehind (volume_disk disk old)) (volume_disk disk old) (volume_disk disk new) naming_transfers faults
    take-went faults new more =
        went_more (SparesBehind (volume_disk disk old))
        (change-went disk name old (renamed_entry other) 126 126 0 middle (omega arith) went)
        (went_weaker (HasEntryChanged (protected_entry true) other (volume_disk disk middle)) (SparesBehind (volume_disk disk old))
        (behind-on (HasEntryChanged (protected_entry true) other (volume_disk disk middle)) (volume_disk disk old) (volume_disk disk middle)
        renamed-sound
        (λ s. changes-start (renamed_entry other) name (volume_disk disk old).image (volume_disk disk middle).image (renames s).changes)
        (entry-spares (protected_entry true) other (volume_disk disk middle))) more)

    pub takes-protected : (faults : ℕ) (new : RtAccepted D met)
        → Went (HasEntryChanged (protected_entry true) other (volume_disk disk middle)) (volume_disk disk middle) (volume_disk disk new) 63
        faults
        → (IsSoundDisk (volume_disk disk middle)
        → ProtectsFile true other (volume_disk disk middle).image (volume_disk disk new).image)
        → TakesName name other true (volume_disk disk old) (volume_disk disk new)
    takes-protected faults new more protects = record {
      sound = λ s. let m = renamed-sound s in record { honest = more.honest ∙ m.honest; accepted = (protects m).accepted };
      taken = λ s.
          let r = has-renamed s in
          let p = protected-protected true other (volume_disk disk middle).image (volume_disk disk new).image (protects (renamed-sound s))
          in
          let same : record r.file { name = other } ∷ [] ≡ p.file ∷ p.more = sym r.is ∙ p.was in
          let same-file : record r.file { name = other } ≡ p.file = cc in
          let same-more : [] ≡ p.more = cc in
          let apart = names-apart other name (volume_store disk old) r.file (files_named name (volume_store disk middle)) r.none r.was in
          record {
            file = r.file;
            was = r.was ∙ ap (λ (l : List Area). r.file ∷ l) (sym (p.others name apart));
            none = r.none;
            is =
                p.is ∙ ap (λ (f : Area). record f { protected = true } ∷ p.more) (sym same-file)
                ∙ ap (λ (l : List Area). record r.file { name = other; protected = true } ∷ l) (sym same-more);
            others = λ third one two. p.others third two ∙ r.others third one two;
          };
    }

    pub fails-protecting : (e : RtRefusal) (new : RtAccepted D met) → has_failed middle ≡ false
        → AnswersRt {T = Unit} disk (Err e) middle new → FailsToFindFile e other (volume_disk disk middle)
        → FailsToTake name other e (volume_disk disk old)
    fails-protecting e new fresh a why = record {
      fresh = unfailed-of {T = Unit} disk e middle new a fresh;
      why = λ s may.
          let r = has-renamed s in
          found-of (volume_disk disk middle) (renamed-sound s) other (record r.file { name = other }) [] r.is e why
          (unfailed-of {T = Unit} disk e middle new a fresh);
    }
