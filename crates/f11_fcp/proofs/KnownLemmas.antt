-- Calls on a directory that was just read are refused only where that fails the volume.
use Rattle.std.proofs.Common.{◌≡◌, ◌≢◌, ℕ, Bool, true, false, IsTrue, List, Option, Some, None, refl, sym, ◌∙◌, subst}
use Rattle.f11_dev.specs.Disk.{Disk}
use Rattle.f11_dev.specs.Image.{Image}
use Rattle.f11_dev.proofs.WentLemmas.{went_weaker}
use Rattle.f11_home.specs.Home.{HomeFields}
use Rattle.f11_store.specs.Causes.{Cause, first_of}
use Rattle.f11_store.specs.Lags.{Work, work_if}
use Rattle.f11_store.specs.Store.{Store}
use Rattle.f11_store.specs.declared.files.FileId.{FileId}
use Rattle.f11_store.specs.declared.refusals.Refusal.{Refusal}
use Rattle.f11_store.specs.declared.refusals.Refusal.TheVariants.{NoSuchFile, EndOfFile, VolumeFailed, DeviceFault, Damaged}
use Rattle.f11_files.specs.Answers.{Breaks, FailsToRead, FailsToWrite, IsRight, IsUnderWay, Meanwhile, ReadsAtMost, WritesAtMost, faults_of}
use Rattle.f11_files.specs.Answers.{is_among, is_clean, is_fatal}
use Rattle.f11_files.specs.Operations.{file_causes, length_causes}
use Rattle.f11_fcp.specs.Handles.{of_known}
use Rattle.f11_fcp.proofs.HandleLemmas.{cause-not-fatal, clean-cause}

-- what fails the volume is no other refusal
pub known-fatal : (e : Refusal) → is_fatal e ≡ true → of_known e ≡ e
known-fatal NoSuchFile h = absurd (cc)
known-fatal EndOfFile h = absurd (cc)
known-fatal _ h = refl

pub known-clean : (e : Refusal) → is_fatal (of_known e) ≡ false → is_fatal e ≡ false
known-clean NoSuchFile h = refl
known-clean EndOfFile h = refl
known-clean _ h = h

-- what leaves all leaves it where nothing failed the volume
pub known-leaves : (e : Refusal) → is_clean (of_known e) ≡ true → is_clean e ≡ true
known-leaves NoSuchFile h = refl
known-leaves EndOfFile h = refl
known-leaves _ h = h

-- where no transfer failed
pub clean-faults : (e : Refusal) → is_fatal e ≡ false → faults_of e ≡ 0
clean-faults DeviceFault h = absurd (cc)
clean-faults _ h = refl

-- that the file is gone, or a block of it
pub known-length : (s : Store) (d : FileId) (blocks : ℕ) (e : Refusal) → is_among (length_causes s d blocks) e ≡ true → of_known e ≡ Damaged
known-length s d blocks NoSuchFile h = refl
known-length s d blocks EndOfFile h = refl
known-length s d blocks _ h = absurd (cc)

pub known-file : (s : Store) (d : FileId) (e : Refusal) → is_among (file_causes s d) e ≡ true → of_known e ≡ Damaged
known-file s d NoSuchFile h = refl
known-file s d _ h = absurd (cc)

-- a refusal that fails the volume is right, whatever the causes
pub right-fatal : {failed honest : Bool} {causes : List Cause} (others : List Cause) (e : Refusal) → failed ≡ false → is_fatal e ≡ true
    → IsRight failed honest causes e → IsRight false honest others e
right-fatal others e alive fatal right = record {
  volume = λ is. sym alive ∙ right.volume is;
  among = λ cause. absurd (let no : true ≡ false = sym fatal ∙ cause-not-fatal e cause in cc);
  cause = λ _ cause. absurd (let no : true ≡ false = sym fatal ∙ cause-not-fatal e cause in cc);
  undamaged = right.undamaged;
}

-- so is damage where no honest disk has a cause
pub right-damage : (honest : Bool) (others : List Cause) → (IsTrue honest → ⊥) → IsRight false honest others Damaged
right-damage honest others never = record {
  volume = λ is. absurd (cc);
  among = λ cause. absurd (cc);
  cause = λ _ cause. absurd (cc);
  undamaged = λ sure. absurd (never sure);
}

-- it is no honest disk where a cause is answered that doesn't hold
never : {failed honest : Bool} (causes : List Cause) (e : Refusal) → failed ≡ false → (IsTrue honest → first_of causes ≡ None)
    → is_fatal e ≡ false → IsRight failed honest causes e → IsTrue honest → ⊥
never causes e alive none clean right sure =
    let other : e ≢ VolumeFailed = λ v. absurd (let no : false ≡ true = sym alive ∙ right.volume v in cc) in
    let first : first_of causes ≡ Some e = right.cause sure (clean-cause e clean other).0 in
    let no : None ≡ Some e = sym (none sure) ∙ first in cc

is-damage : {failed honest : Bool} (causes : List Cause) (e : Refusal) → failed ≡ false → (is_among causes e ≡ true → of_known e ≡ Damaged)
    → is_fatal e ≡ false → IsRight failed honest causes e → of_known e ≡ Damaged
is-damage causes e alive among clean right =
    let other : e ≢ VolumeFailed = λ v. absurd (let no : false ≡ true = sym alive ∙ right.volume v in cc) in
    among (right.among (clean-cause e clean other).0)

-- it was read, and others are the causes against a call that asks for it
pub known-fails : {failed : Bool} {n : ℕ} {old new : Disk} {others : List Cause} (causes : List Cause) (e : Refusal) → failed ≡ false
    → (is_among causes e ≡ true → of_known e ≡ Damaged) → (IsTrue old.honest → first_of causes ≡ None)
    → FailsToRead failed causes n e old new → FailsToRead false others n (of_known e) old new
known-fails {n = n} {old = old} {new = new} {others = others} causes e alive among none fails = by_fatal (is_fatal e) refl
  where
    by_fatal : (b : Bool) → is_fatal e ≡ b → FailsToRead false others n (of_known e) old new
    by_fatal true fatal =
        subst (λ (x : Refusal). FailsToRead false others n x old new) (sym (known-fatal e fatal))
        (record { right = right-fatal others e alive fatal fails.right; reads = fails.reads })
    by_fatal false clean =
        subst (λ (x : Refusal). FailsToRead false others n x old new) (sym (is-damage causes e alive among clean fails.right))
        (record {
          right = right-damage old.honest others (never causes e alive none clean fails.right);
          reads = subst (λ (k : ℕ). ReadsAtMost n old new k) (clean-faults e clean) fails.reads;
        })

-- it was written
pub known-breaks : {failed : Bool} {n : ℕ} {old new : Disk} (causes : List Cause) (e : Refusal) → failed ≡ false
    → (is_among causes e ≡ true → of_known e ≡ Damaged) → (IsTrue old.honest → first_of causes ≡ None)
    → (work : Work) (home : HomeFields) → FailsToWrite failed causes n work home e old new
    → Breaks (Meanwhile work home old) n (of_known e) old new
known-breaks {n = n} {old = old} {new = new} causes e alive among none work home fails = by_fatal (is_fatal e) refl
  where
    under-way : (image : Image) → Meanwhile (work_if (first_of causes) work) home old image → Meanwhile work home old image
    under-way image stands honest =
        subst (λ (o : Option Refusal). IsUnderWay (work_if o work) home old.image image) (none honest) (stands honest)

    writes : WritesAtMost (Meanwhile work home old) n old new (faults_of e)
    writes =
        record {
          transfers = fails.writes.transfers;
          went = went_weaker (Meanwhile (work_if (first_of causes) work) home old)
              (Meanwhile work home old) under-way fails.writes.went;
          few = fails.writes.few;
        }

    by_fatal : (b : Bool) → is_fatal e ≡ b → Breaks (Meanwhile work home old) n (of_known e) old new
    by_fatal true fatal =
        subst (λ (x : Refusal). Breaks (Meanwhile work home old) n x old new) (sym (known-fatal e fatal))
        (record { fatal = fatal; undamaged = fails.right.undamaged; writes = writes })
    by_fatal false clean =
        subst (λ (x : Refusal). Breaks (Meanwhile work home old) n x old new) (sym (is-damage causes e alive among clean fails.right))
        (record {
          fatal = refl;
          undamaged = λ honest. absurd (never causes e alive none clean fails.right honest);
          writes = subst (λ (k : ℕ). WritesAtMost (Meanwhile work home old) n old new k) (clean-faults e clean) writes;
        })
