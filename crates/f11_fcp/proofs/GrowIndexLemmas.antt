-- The index file grows.
use Rattle.std.proofs.Common.{◌≡◌, ℕ, ◌+◌, ◌==◌, Bool, true, false, not, List, [], ◌∷◌, Some, Ok, Err, refl, sym, ◌∙◌, ap, subst, arith}
use Rattle.std.proofs.Common.{if◌then◌else◌, nat_lt}
use Rattle.std.proofs.lemmas.Bool.{eq-eqb, not_from_true, not_from_false}
use Rattle.f11_home.specs.Home.{HomeFields}
use Rattle.f11_store.specs.Causes.{Cause, ◌⇐◌, first_of, first_refusal}
use Rattle.f11_store.specs.Changes.{GrowsIndex}
use Rattle.f11_store.specs.Lags.{grow_work}
use Rattle.f11_store.specs.Rights.{is_of}
use Rattle.f11_store.specs.Store.{Store, index_file}
use Rattle.f11_store.specs.declared.callers.Uic.{Uic}
use Rattle.f11_store.specs.declared.protection.Class.TheVariants as class
use Rattle.f11_store.specs.declared.refusals.Refusal.{Refusal}
use Rattle.f11_store.specs.declared.refusals.Refusal.TheVariants.{BadArgument, NoPrivilege, IndexLimit}
use Rattle.f11_store.specs.declared.requests.Reply.TheVariants as reply
use Rattle.f11_store.specs.declared.requests.Request.{Request}
use Rattle.f11_store.specs.declared.requests.Request.TheVariants as request
use Rattle.f11_store.proofs.HeldLaws.{growth-held, index-grows-held}
use Rattle.f11_files.specs.Answers.{is_clean}
use Rattle.f11_files.specs.GrowingIndex.Runs.{GrowsIndexFile, IsSlotsAfter, FailsToGrow}
use Rattle.f11_files.specs.Operations.{grow_causes}
use Rattle.f11_files.specs.image_store.StoreOf.{store_of}
use Rattle.f11_fcp.specs.Accesses.{AccessTable, accesses, held_in}
use Rattle.f11_fcp.specs.Handles.{State, store_at, memory_cause, Handles}
use Rattle.f11_fcp.proofs.AccessedLemmas.{drop-false, take-true, refused-early}
use Rattle.f11_fcp.proofs.HandleLemmas.{among-part, handled-does, handled-wants, reads-none, wants-still}

module _ (task n : ℕ) (caller : Uic) (old : State) where
  abbrev r : Request
  r = request.GrowIndex n

  abbrev s : Store
  s = store_at old

  abbrev s0 : Store
  s0 = store_of old.disk.image old.home

  pub grow-zero : n ≡ 0 → Handles task caller r (Err BadArgument) old [] old []
  grow-zero is = refused-early task caller r [] old BadArgument refl refl (take-true (n == 0) _ _ (eq-eqb n 0 is))

  module _ (some : (n == 0) ≡ false) where
    pub grow-unprivileged : is_of caller caller class.System ≡ false → Handles task caller r (Err NoPrivilege) old [] old []
    grow-unprivileged other =
        refused-early task caller r [] old NoPrivilege refl refl
        (drop-false (n == 0) _ _ some ∙ take-true (not (is_of caller caller class.System)) _ _ (not_from_false _ other))

    module _ (system : is_of caller caller class.System ≡ true) where
      first : first_of (grow_causes s0 n) ≡ first_refusal s task caller r
      first = sym (drop-false (n == 0) _ _ some ∙ drop-false (not (is_of caller caller class.System)) _ _ (not_from_true _ system)
          ∙ ap (λ (cs : List Cause). if nat_lt s0.limit (s0.slots + n) then Some IndexLimit else first_of cs)
          (growth-held (accesses old.table) s0 (index_file s0) n))

      pub grown : (slots : ℕ) (new : State) → IsSlotsAfter old.home n old.disk slots → GrowsIndexFile old.home n old.disk new.disk
          → new.home ≡ old.home → new.table ≡ old.table
          → Handles task caller r (Ok (reply.Slots slots)) old [] new []
      grown slots new slots_are does home table =
          handled-does task caller r [] old (reply.Slots slots) (grow_causes s0 n) (grow_work (index_file s0).room n) old new []
          (reads-none old.disk) refl does
          (λ _. omega arith) (λ _. first) (λ _. refl) (λ honest. ap (λ (k : ℕ). reply.Slots k) (slots_are honest))
          (λ _ makes. store-then makes) (λ _. refl) home
        where
          store-then : GrowsIndex s0 n (store_of new.disk.image old.home) → GrowsIndex s n (store_at new)
          store-then makes =
              subst (λ (x : Store). GrowsIndex s n x)
              (sym (ap (λ (h : HomeFields). held_in new.table (store_of new.disk.image h)) home
              ∙ ap (λ (t : AccessTable). held_in t (store_of new.disk.image old.home)) table))
              (index-grows-held (accesses old.table) s0 (store_of new.disk.image old.home) n makes)

      pub not-grown : {failed : Bool} (e : Refusal) (new : State) → failed ≡ false → FailsToGrow failed old.home n e old.disk new.disk
          → new.home ≡ old.home → new.table ≡ old.table
          → (is_clean e ≡ true → new.counts ≡ old.counts) → Handles task caller r (Err e) old [] new []
      not-grown e new alive fails home table counts =
          handled-wants task caller r [] old e (grow_causes s0 n) (grow_work (index_file s0).room n) true old new (reads-none old.disk) refl
          refl
          (wants-still alive fails) (among-part ((BadArgument ⇐ true) ∷ (NoPrivilege ⇐ true) ∷ []) (grow_causes s0 n) memory_cause e) refl
          (λ _. omega arith) (λ _. first) (λ _. refl) (λ _. refl) home table
          counts
