-- What holds where an error is handed on, and where an answer is.
use Rattle.std.proofs.Common.{◌≡◌, ℕ, Bool, true, false, not, List, [], Result, Ok, Err, sym, ap, subst, ◌∙◌}
use Rattle.std.specs.Prelude.{IfErr, IsErrAnd, OnOk}
use Rattle.f11_dev.specs.Disk.{Disk}
use Rattle.f11_dev.specs.Image.{Image}
use Rattle.f11_dev.specs.declared.device.Device.{Ghosts}
use Rattle.f11_store.specs.declared.callers.Uic.{Uic}
use Rattle.f11_store.specs.declared.refusals.Refusal.{Refusal}
use Rattle.f11_store.specs.declared.requests.Reply.{Reply}
use Rattle.f11_store.specs.declared.requests.Request.{Request}
use Rattle.f11_files.specs.Answers.{Breaks, is_clean, is_fatal, is_refused}
use Rattle.f11_files.specs.Open.{has_failed}
use Rattle.f11_files.specs.declared.files.Files.{Files}
use Rattle.f11_fcp.specs.Accesses.{AccessTable}
use Rattle.f11_fcp.specs.Handles.{Handles, IsOpen, State, StaysOpen, state_of}
use Rattle.f11_fcp.specs.InOneRun.{InOneRun}
use Rattle.f11_fcp.proofs.OpenLemmas.{stays-open}

-- what a test says of it
pub test-handed : {T : Type 0} {b : Bool} (test : Refusal → Bool) (r : Result T Refusal) (e : Refusal) → IsErrAnd r (λ y. y ≡ e)
    → is_refused test r ≡ b → test e ≡ b
test-handed test (Ok x) e is h = absurd is
test-handed test (Err y) e is h = ap test (sym is) ∙ h

-- a request was handled
pub handles-handed : {task : ℕ} {caller : Uic} {q : Request} {old new : State} {block block' : List ℕ} (r : Result Reply Refusal)
    (e : Refusal) → IsErrAnd r (λ y. y ≡ e) → Handles task caller q (Err e) old block new block'
    → Handles task caller q r old block new block'
handles-handed (Ok x) e is h = absurd is
handles-handed {task} {caller} {q} {old} {new} {block} {block'} (Err y) e is h =
    subst (λ (x : Refusal). Handles task caller q (Err x) old block new block') (sym is) h

-- and laid no file out in one run
pub run-handed : {task : ℕ} {caller : Uic} {q : Request} {old new : State} (r : Result Reply Refusal) (e : Refusal)
    → IsErrAnd r (λ y. y ≡ e) → Handles task caller q r old [] new []
    → (Handles task caller q (Err e) old [] new [] → InOneRun task caller q (Err e) old new) → InOneRun task caller q r old new
run-handed (Ok x) e is h run = absurd is
run-handed {task} {caller} {q} {old} {new} (Err y) e is h run =
    subst (λ (x : Refusal). InOneRun task caller q (Err x) old new) (sym is)
    (run (subst (λ (x : Refusal). Handles task caller q (Err x) old [] new []) is h))

-- and all stays open
pub open-handed : {D : Type 0} {met : Ghosts D} (t : AccessTable) (old new : Files D met) (task : ℕ) (caller : Uic) (q : Request)
    (r : Result Reply Refusal) (e : Refusal) (block block' : List ℕ) → IsErrAnd r (λ y. y ≡ e) → IsOpen t old
    → Handles task caller q r (state_of t old) block (state_of t new) block' → (is_fatal e ≡ false → has_failed new ≡ false)
    → StaysOpen r t new
open-handed t old new task caller q (Ok x) e block block' is was handles alive = absurd is
open-handed t old new task caller q (Err y) e block block' is was handles alive =
    stays-open t old new task caller q (Err y) block block' was (λ _. tt) handles (λ clean. alive (ap is_fatal (sym is) ∙ clean)) tt

-- a refusal that fails the volume is none that leaves it as it was
pub fatal-alive : {T A : Type 0} (r : Result T Refusal) → OnOk r A → IfErr r (λ e. is_fatal e ≡ true) → is_refused is_fatal r ≡ false → A
fatal-alive (Ok x) done fatal clean = done
fatal-alive (Err e) done fatal clean = let no : true ≡ false = sym fatal ∙ clean in absurd cc

pub fatal-never : {T A : Type 0} (r : Result T Refusal) → IfErr r (λ e. is_fatal e ≡ true) → is_refused is_clean r ≡ true → A
fatal-never (Ok x) fatal clean = absurd cc
fatal-never (Err e) fatal clean = let no : true ≡ false = sym clean ∙ ap not fatal in absurd cc

-- such is one of a call under way
pub breaks-fatal : {T : Type 0} (P : Image → Type 0) (most : ℕ) (old new : Disk) (r : Result T Refusal)
    → IfErr r (λ e. Breaks P most e old new) → IfErr r (λ e. is_fatal e ≡ true)
breaks-fatal P most old new (Ok x) h = h
breaks-fatal P most old new (Err e) h = h.fatal
