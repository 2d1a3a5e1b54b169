-- Requests on a directory, from what opening it and looking through it answered.
use Rattle.std.proofs.Common.{◌≡◌, ◌≢◌, ℕ, ◌≤◌, Bool, true, false, IsTrue, List, [], ◌∷◌, ◌++◌, Option, Some, None, Err, refl, ◌∙◌}
use Rattle.std.proofs.Common.{subst}
use Rattle.std.proofs.Common.{if◌then◌else◌}
use Rattle.f11_store.specs.Causes.{Cause, first_of, first_refusal}
use Rattle.f11_store.specs.Cost.{cost}
use Rattle.f11_store.specs.Store.{Store}
use Rattle.f11_store.specs.declared.callers.Uic.{Uic}
use Rattle.f11_store.specs.declared.refusals.Refusal.{Refusal}
use Rattle.f11_store.specs.declared.refusals.Refusal.TheVariants.{VolumeFailed}
use Rattle.f11_store.specs.declared.requests.Request.{Request}
use Rattle.f11_files.specs.Answers.{FailsToRead, ReadsAtMost, is_among, is_cause, is_fatal}
use Rattle.f11_files.proofs.AnswerLemmas.{reads-within}
use Rattle.f11_fcp.specs.Handles.{State, store_at, own_causes, Handles}
use Rattle.f11_fcp.proofs.AccessedLemmas.{cause-clean, writes-looked}
use Rattle.f11_fcp.proofs.HandleLemmas.{handled-fatal, handled-clean, clean-cause}
use Rattle.f11_fcp.proofs.KnownLemmas.{clean-faults}

-- the first of more causes
first-step : (b : Bool) (r e : Refusal) (o more : Option Refusal) → (o ≡ Some e → more ≡ Some e) → (if b then Some r else o) ≡ Some e
    → (if b then Some r else more) ≡ Some e
first-step true r e o more step h = h
first-step false r e o more step h = step h

pub first-within : (xs ys : List Cause) (e : Refusal) → first_of xs ≡ Some e → first_of (xs ++ ys) ≡ Some e
first-within [] ys e h = absurd (cc)
first-within (c ∷ xs) ys e h = first-step c.holds c.refusal e (first_of xs) (first_of (xs ++ ys)) (first-within xs ys e) h

none-step : (b : Bool) (r : Refusal) (o more rest : Option Refusal) → (o ≡ None → more ≡ rest) → (if b then Some r else o) ≡ None
    → (if b then Some r else more) ≡ rest
none-step true r o more rest step h = absurd (cc)
none-step false r o more rest step h = step h

pub first-behind : (xs ys : List Cause) → first_of xs ≡ None → first_of (xs ++ ys) ≡ first_of ys
first-behind [] ys h = refl
first-behind (c ∷ xs) ys h = none-step c.holds c.refusal (first_of xs) (first_of (xs ++ ys)) (first_of ys) (first-behind xs ys) h

module _ (task : ℕ) (caller : Uic) (r : Request) (old : State) (opening rest : List Cause) where
  abbrev s : Store
  s = store_at old

  module _ (judged : first_refusal s task caller r ≡ first_of (opening ++ rest)) where
    -- what is judged first stands against it
    pub search-refused : {m : ℕ} (e : Refusal) (mid : State) → FailsToRead false opening m e old.disk mid.disk → m ≤ cost s task r
        → (is_among opening e ≡ true → is_among (own_causes s task caller r) e ≡ true) → mid.home ≡ old.home → mid.table ≡ old.table
        → mid.counts ≡ old.counts → Handles task caller r (Err e) old [] mid []
    search-refused {m = m} e mid fails fewer own home table counts = by_fatal (is_fatal e) refl
      where
        by_fatal : (b : Bool) → is_fatal e ≡ b → Handles task caller r (Err e) old [] mid []
        by_fatal true fatal =
            handled-fatal task caller r [] old e mid [] fatal fails.right.undamaged
            (writes-looked task caller r [] old mid.disk fails.reads fewer) home
        by_fatal false clean =
            let other : e ≢ VolumeFailed = λ v. absurd (let no : false ≡ true = fails.right.volume v in cc) in
            let cause = (clean-cause e clean other).0 in
            handled-clean task caller r [] old e mid clean other (own (fails.right.among cause))
            (λ honest. judged ∙ first-within opening rest e (fails.right.cause honest cause))
            (reads-within fewer (subst (λ (k : ℕ). ReadsAtMost m old.disk mid.disk k) (clean-faults e clean) fails.reads)) home table counts

    -- what was found stands against it
    pub search-answered : {m : ℕ} (e : Refusal) (mid : State) → is_cause e ≡ true → is_among (own_causes s task caller r) e ≡ true
        → ReadsAtMost m old.disk mid.disk 0 → m ≤ cost s task r
        → (IsTrue old.disk.honest → first_of opening ≡ None) → (IsTrue old.disk.honest → first_of rest ≡ Some e) → mid.home ≡ old.home
        → mid.table ≡ old.table → mid.counts ≡ old.counts
        → Handles task caller r (Err e) old [] mid []
    search-answered e mid cause own reads fewer none first home table counts =
        let clean = cause-clean e cause in
        handled-clean task caller r [] old e mid clean.0 clean.1 own
        (λ honest. judged ∙ first-behind opening rest (none honest) ∙ first honest) (reads-within fewer reads) home table counts

    -- what comes behind decides
    pub search-then : first_of opening ≡ None → first_refusal s task caller r ≡ first_of rest
    search-then none = judged ∙ first-behind opening rest none
