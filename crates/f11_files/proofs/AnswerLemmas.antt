-- What is right to answer.
use Rattle.std.proofs.Common.{true, ◌≡◌, ◌≢◌, ◌≤◌, ◌+◌, ◌&&◌, ℕ, Bool, false, not, nat_lt, IsTrue, List, Some, Result, Ok, Err, sym, ap}
use Rattle.std.proofs.Common.{subst, ◌∙◌, arith}
use Rattle.std.specs.Prelude.{IsErrAnd, IfErr, OnOk}
use Rattle.f11_dev.specs.Disk.{Disk}
use Rattle.f11_dev.specs.Looked.{Looked}
use Rattle.f11_dev.proofs.LookedLemmas.{looked_more}
use Rattle.f11_store.specs.Causes.{Cause, first_of}
use Rattle.f11_store.specs.Refusal.{refusal_number}
use Rattle.f11_store.specs.declared.refusals.Refusal.{Refusal}
use Rattle.f11_store.specs.declared.refusals.Refusal.TheVariants.{VolumeFailed, DeviceFault, Damaged}
use Rattle.f11_files.specs.Answers.{FailsToRead, is_among, is_cause, is_clean, is_fatal, is_refused, IsRight, ReadsAtMost}

-- an error that is handed on
pub handed : {T E : Type 0} (P : E → Type 0) (r : Result T E) (x : E) → IsErrAnd r (λ y. y ≡ x) → P x → IfErr r P
handed P (Ok y) x is here = absurd is
handed P (Err y) x is here = subst P (sym is) here

-- what an error tells, and what it tells then
pub each-err : {T E : Type 0} {P Q : E → Type 0} (r : Result T E) → ((x : E) → P x → Q x) → IfErr r P → IfErr r Q
each-err (Ok y) more is = is
each-err (Err x) more is = more x is

-- and what holds of an answer that is none
pub each-ok : {T E P Q : Type 0} (r : Result T E) → (P → Q) → OnOk r P → OnOk r Q
each-ok (Ok y) more is = more is
each-ok (Err x) more is = is

-- a refusal that fails the volume is not a clean one
pub not-clean : {T P : Type 0} (r : Result T Refusal) (x : Refusal) → IsErrAnd r (λ y. y ≡ x) → is_fatal x ≡ true
    → is_refused is_clean r ≡ true → P
not-clean (Ok y) x is fatal clean = absurd is
not-clean (Err y) x is fatal clean =
    let no : true ≡ false = sym (subst (λ (z : Refusal). is_clean z ≡ true) is clean) ∙ ap not fatal in absurd cc

-- nor is it that of a cause
pub fatal-no-cause : (r : Refusal) → is_fatal r ≡ true → is_cause r ≡ true → ⊥
fatal-no-cause r fatal is = go (nat_lt 1 (refusal_number r)) (is_fatal r) fatal is
  where
    go : (a b : Bool) → b ≡ true → (a && not b) ≡ true → ⊥
    go true true fatal is = absurd cc
    go false b fatal is = absurd cc
    go a false fatal is = absurd cc

-- another refusal is not that one
apart : (r s : Refusal) → refusal_number r ≢ refusal_number s → r ≢ s
apart r s other same = other (ap refusal_number same)

-- that of the first cause
pub right-cause : (honest : Bool) (causes : List Cause) (r : Refusal) → refusal_number r ≢ 1 → refusal_number r ≢ 20
    → is_among causes r ≡ true → (IsTrue honest → first_of causes ≡ Some r)
    → IsRight false honest causes r
right-cause honest causes r not_failed not_damaged among first = record {
  among = λ _. among;
  volume = λ is. absurd (not_failed (ap refusal_number is));
  cause = λ sure _. first sure;
  undamaged = λ _. apart r Damaged not_damaged;
}

-- that of a transfer
pub right-fault : (honest : Bool) (causes : List Cause) → IsRight false honest causes DeviceFault
right-fault honest causes = record {
  among = λ is. absurd cc;
  volume = λ is. absurd (apart DeviceFault VolumeFailed (λ same. omega (arith, same)) is);
  cause = λ _ is. absurd cc;
  undamaged = λ _. apart DeviceFault Damaged (λ same. omega (arith, same));
}

-- that of a device which isn't honest
pub right-damaged : (honest : Bool) (causes : List Cause) → ¬ IsTrue honest → IsRight false honest causes Damaged
right-damaged honest causes never = record {
  among = λ is. absurd cc;
  volume = λ is. absurd (apart Damaged VolumeFailed (λ same. omega (arith, same)) is);
  cause = λ sure _. absurd (never sure);
  undamaged = λ sure _. never sure;
}

-- blocks were read
pub reads-looked : {old new : Disk} {most faults : ℕ} → Looked old new most faults → ReadsAtMost most old new faults
reads-looked {most = most} looked = record { reads = most; looked = looked; few = λ _. omega arith }

-- and more of them
pub reads-more : {a b c : Disk} {m n faults : ℕ} → ReadsAtMost m a b 0 → ReadsAtMost n b c faults → ReadsAtMost (m + n) a c faults
reads-more {a = a} first then = record {
  reads = first.reads + then.reads;
  looked = looked_more first.looked then.looked;
  few = λ honest. let one = first.few honest in let two = then.few (first.looked.honest ∙ honest) in omega (arith, one, two);
}

-- fewer than may be
pub reads-within : {old new : Disk} {m n faults : ℕ} → m ≤ n → ReadsAtMost m old new faults → ReadsAtMost n old new faults
reads-within fewer reads =
    record { reads = reads.reads; looked = reads.looked; few = λ honest. let here = reads.few honest in omega (arith, here, fewer) }

-- what a refusal to read says where there are other causes behind
pub fails-more : {causes others : List Cause} {most : ℕ} {r : Refusal} {old new : Disk}
    → (is_among causes r ≡ true → is_among others r ≡ true) → (first_of causes ≡ Some r → first_of others ≡ Some r)
    → FailsToRead false causes most r old new → FailsToRead false others most r old new
fails-more among more fails = record {
  right = record {
    volume = fails.right.volume;
    among = λ is. among (fails.right.among is);
    cause = λ sure is.
        more (fails.right.cause sure is);
    undamaged = fails.right.undamaged;
  };
  reads = fails.reads;
}
