-- A file goes, or is marked where it is accessed.
use Rattle.std.proofs.Common.{◌∷◌, ◌≡◌, ℕ, ◌+◌, ◌-◌, ◌<◌, ◌≤◌, ◌==◌, ◌&&◌, not, Bool, true, false, IsTrue, [], Some, None, Ok, Err, refl}
use Rattle.std.proofs.Common.{sym}
use Rattle.std.proofs.Common.{◌∙◌, ap, subst, arith, if◌then◌else◌, nat_lt}
use Rattle.std.specs.Int.{bit_at}
use Rattle.std.proofs.lemmas.Bool.{lt-ltb, le-ltb, not_from_true, not_from_false}
use Rattle.f11_home.specs.Home.{HomeFields}
use Rattle.f11_store.specs.Causes.{◌⇐◌, first_of, first_refusal, is_bad, is_missing, lacks}
use Rattle.f11_store.specs.Changes.{after_delete, with_marked_file, without_file_at, with_delete_mark}
use Rattle.f11_store.specs.Cost.{cut_cost}
use Rattle.f11_store.specs.File.{is_marked}
use Rattle.f11_store.specs.Lags.{go_work, mark_work, served_work}
use Rattle.f11_store.specs.Rights.{may}
use Rattle.f11_store.specs.Store.{Store, file_named, is_accessed}
use Rattle.f11_store.specs.declared.callers.Uic.{Uic}
use Rattle.f11_store.specs.declared.files.Attr.{Attr}
use Rattle.f11_store.specs.declared.files.FileId.{FileId}
use Rattle.f11_store.specs.declared.protection.Right.TheVariants as right
use Rattle.f11_store.specs.declared.refusals.Refusal.{Refusal}
use Rattle.f11_store.specs.declared.refusals.Refusal.TheVariants.{BadArgument, SystemFile, NoSuchFile, Marked, NoPrivilege}
use Rattle.f11_store.specs.declared.requests.Reply.TheVariants as reply
use Rattle.f11_store.specs.declared.requests.Request.{Request}
use Rattle.f11_store.specs.declared.requests.Request.TheVariants as request
use Rattle.f11_files.specs.Answers.{ReadsAtMost, FailsToRead, is_clean}
use Rattle.f11_files.specs.Removing.Delete.{Deletes, FailsToDelete}
use Rattle.f11_files.specs.Changing.Fields.{Alters, FailsToAlter}
use Rattle.f11_files.specs.Operations.{attr_of, file_causes}
use Rattle.f11_files.specs.image_store.StoreOf.{store_of}
use Rattle.f11_files.proofs.AnswerLemmas.{reads-within}
use Rattle.f11_fcp.specs.Accesses.{AccessTable, held_in, is_held_in, any_mode, with_marks}
use Rattle.f11_fcp.specs.Handles.{State, store_at, Handles}
use Rattle.f11_fcp.proofs.AccessedLemmas.{drop-false, take-true, refused-early}
use Rattle.f11_fcp.proofs.DeaccessLemmas.{accessed-same}
use Rattle.f11_fcp.proofs.HandleLemmas.{among-part, handled-clean, handled-does, handled-refused}
use Rattle.f11_fcp.proofs.MarkLemmas.{marks-leave}
use Rattle.f11_fcp.proofs.NamedLemmas.{found, marks-read, unread, same-behind}
use Rattle.f11_fcp.proofs.RequestLemmas.{still}

module _ (task : ℕ) (caller : Uic) (id : FileId) (old : State) where
  abbrev r : Request
  r = request.Delete id

  abbrev s : Store
  s = store_at old

  abbrev s0 : Store
  s0 = store_of old.disk.image old.home

  pub delete-bad : is_bad id ≡ true → Handles task caller r (Err BadArgument) old [] old []
  delete-bad bad = refused-early task caller r [] old BadArgument refl refl (take-true (is_bad id) _ _ bad)

  module _ (good : is_bad id ≡ false) where
    pub delete-system : id.number < 6 → Handles task caller r (Err SystemFile) old [] old []
    delete-system low =
        refused-early task caller r [] old SystemFile refl refl
        (drop-false (is_bad id) _ _ good ∙ take-true (nat_lt id.number 6) _ _ (lt-ltb id.number 6 low))

    module _ (late : 6 ≤ id.number) where
      judged : first_refusal s task caller r
          ≡ (if is_missing s0 id then Some NoSuchFile
          else (if is_marked (file_named s0 id) && is_accessed s id then Some Marked
          else (if lacks right.Delete caller (file_named s0 id) then Some NoPrivilege else None)))
      judged = drop-false (is_bad id) _ _ good ∙ drop-false (nat_lt id.number 6) _ _ (le-ltb id.number 6 late)

      pub delete-unread : {failed : Bool} (e : Refusal) (mid : State) → failed ≡ false
          → FailsToRead failed (file_causes s0 id) 1 e old.disk mid.disk → mid.home ≡ old.home → mid.table ≡ old.table
          → mid.counts ≡ old.counts → Handles task caller r (Err e) old [] mid []
      delete-unread e mid alive fails home table counts =
          unread task caller r old id _ e mid alive judged refl (omega arith) fails home table counts

      module _ (attr : Attr) (mid : State) (reads : ReadsAtMost 1 old.disk mid.disk 0)
          (none : IsTrue old.disk.honest → first_of (file_causes s0 id) ≡ None)
          (is : IsTrue old.disk.honest → attr ≡ attr_of (file_named s0 id)) (home : mid.home ≡ old.home) (counts : mid.counts ≡ old.counts)
          (table : mid.table ≡ old.table)
          (accessed : Bool) (accessed-is : accessed ≡ is_held_in any_mode old.table id)
        where
          pub delete-there : IsTrue old.disk.honest → is_missing s0 id ≡ false
          delete-there honest = found (is_missing s0 id) (none honest)

          held-is : is_accessed s id ≡ accessed
          held-is = sym (accessed-is ∙ accessed-same old.table s0 id)

          stands : IsTrue old.disk.honest
              → (is_marked (file_named s0 id) && is_accessed s id) ≡ ((bit_at attr.characteristics 15 == 1) && accessed)
          stands honest =
              ap (λ b. b && is_accessed s id) (marks-read s0 id attr (is honest))
              ∙ ap (λ b. (bit_at attr.characteristics 15 == 1) && b) held-is

          lacking : IsTrue old.disk.honest
              → lacks right.Delete caller (file_named s0 id) ≡ not (may caller attr.owner attr.protection right.Delete)
          lacking honest = ap (λ (a : Attr). not (may caller a.owner a.protection right.Delete)) (sym (is honest))

          pub delete-marked : ((bit_at attr.characteristics 15 == 1) && accessed) ≡ true → Handles task caller r (Err Marked) old [] mid []
          delete-marked both =
              handled-clean task caller r [] old Marked mid refl (λ v. absurd (cc)) refl
              (λ honest. judged ∙ drop-false (is_missing s0 id) _ _ (delete-there honest)
              ∙ take-true (is_marked (file_named s0 id) && is_accessed s id) _ _ (stands honest ∙ both))
              (reads-within (omega arith) reads) home table counts

          module _ (clear : ((bit_at attr.characteristics 15 == 1) && accessed) ≡ false) where
            pub delete-unprivileged : may caller attr.owner attr.protection right.Delete ≡ false
                → Handles task caller r (Err NoPrivilege) old [] mid []
            delete-unprivileged denied =
                handled-clean task caller r [] old NoPrivilege mid refl (λ v. absurd (cc)) refl
                (λ honest. judged ∙ drop-false (is_missing s0 id) _ _ (delete-there honest)
                ∙ drop-false (is_marked (file_named s0 id) && is_accessed s id) _ _ (stands honest ∙ clear)
                ∙ take-true (lacks right.Delete caller (file_named s0 id)) _ _ (lacking honest ∙ not_from_false _ denied))
                (reads-within (omega arith) reads) home table counts

            module _ (granted : may caller attr.owner attr.protection right.Delete ≡ true) (new : State) (home' : new.home ≡ mid.home) where
              abbrev sm : Store
              sm = store_of mid.disk.image mid.home

              same : sm ≡ s0
              same = same-behind old mid reads home

              none-stands : IsTrue old.disk.honest → first_refusal s task caller r ≡ None
              none-stands honest =
                  judged ∙ drop-false (is_missing s0 id) _ _ (delete-there honest)
                  ∙ drop-false (is_marked (file_named s0 id) && is_accessed s id) _ _ (stands honest ∙ clear)
                  ∙ drop-false (lacks right.Delete caller (file_named s0 id)) _ _ (lacking honest ∙ not_from_true _ granted)

              first : IsTrue old.disk.honest → first_of (file_causes sm id) ≡ first_refusal s task caller r
              first honest =
                  drop-false (is_missing sm id) _ _ (ap (λ (x : Store). is_missing x id) same ∙ delete-there honest)
                  ∙ sym (none-stands honest)

              -- nobody accesses it: it goes
              module _ (unheld : accessed ≡ false) (table' : new.table ≡ old.table) where
                work-is : go_work id.number ≡ served_work s task caller r []
                work-is = sym (drop-false (is_accessed s id) _ _ (held-is ∙ unheld))

                few : 1 + (cut_cost (file_named sm id) - 1) ≤ cut_cost (file_named s0 id)
                few = subst (λ (x : Store). 1 + (cut_cost (file_named x id) - 1) ≤ cut_cost (file_named s0 id)) (sym same) (omega arith)

                after-is : after_delete s id ≡ without_file_at s id.number
                after-is = drop-false (is_accessed s id) _ _ (held-is ∙ unheld)

                pub deleted : Deletes mid.home id mid.disk new.disk → Handles task caller r (Ok reply.Done) old [] new []
                deleted does =
                    handled-does task caller r [] old reply.Done (file_causes sm id) (go_work id.number) mid new [] reads home does
                    (λ _. few) first (λ _. work-is) (λ _. refl)
                    (λ _ makes. ap (λ (h : HomeFields). held_in new.table (store_of new.disk.image h)) home'
                    ∙ ap (λ (t : AccessTable). held_in t (store_of new.disk.image mid.home)) table'
                    ∙ ap (held_in old.table) (makes ∙ ap (λ (x : Store). without_file_at x id.number) same) ∙ sym after-is)
                    (λ _. refl) home'

                pub not-deleted : {failed : Bool} (e : Refusal) → failed ≡ false → FailsToDelete failed mid.home id e mid.disk new.disk
                    → (is_clean e ≡ true → new.counts ≡ mid.counts)
                    → Handles task caller r (Err e) old [] new []
                not-deleted e alive fails counts' =
                    handled-refused task caller r [] old e (file_causes sm id) (go_work id.number) mid new [] reads home counts
                    (still alive fails)
                    (among-part ((BadArgument ⇐ true) ∷ (SystemFile ⇐ true) ∷ []) (file_causes sm id)
                    ((Marked ⇐ true) ∷ (NoPrivilege ⇐ true) ∷ []) e)
                    (λ _. few) first (λ _. work-is)
                    home' table' counts' (λ _. refl)

                pub unheld-still : is_accessed s id ≡ false
                unheld-still = held-is ∙ unheld

              -- somebody does: it is marked
              module _ (held : accessed ≡ true) where
                mark-is : mark_work id.number ≡ served_work s task caller r []
                mark-is = sym (take-true (is_accessed s id) _ _ (held-is ∙ held))

                marked-is : after_delete s id ≡ with_marked_file s id.number
                marked-is = take-true (is_accessed s id) _ _ (held-is ∙ held)

                pub marked : new.table ≡ with_marks id old.table → Alters with_delete_mark mid.home id mid.disk new.disk
                    → Handles task caller r (Ok reply.Done) old [] new []
                marked table' does =
                    handled-does task caller r [] old reply.Done (file_causes sm id) (mark_work id.number) mid new [] reads home does
                    (λ _. omega arith) first (λ _. mark-is) (λ _. refl)
                    (λ _ makes. ap (λ (h : HomeFields). held_in new.table (store_of new.disk.image h)) home'
                    ∙ ap (λ (t : AccessTable). held_in t (store_of new.disk.image mid.home)) table'
                    ∙ ap (held_in (with_marks id old.table)) (makes ∙ ap (λ (x : Store). with_marked_file x id.number) same)
                    ∙ marks-leave id old.table (with_marked_file s0 id.number) ∙ sym marked-is)
                    (λ _. refl) home'

                pub not-marked : {failed : Bool} (e : Refusal) → failed ≡ false
                    → FailsToAlter failed with_delete_mark mid.home id e mid.disk new.disk → new.table ≡ old.table
                    → (is_clean e ≡ true → new.counts ≡ mid.counts) → Handles task caller r (Err e) old [] new []
                not-marked e alive fails table' counts' =
                    handled-refused task caller r [] old e (file_causes sm id) (mark_work id.number) mid new [] reads home counts
                    (still alive fails)
                    (among-part ((BadArgument ⇐ true) ∷ (SystemFile ⇐ true) ∷ []) (file_causes sm id)
                    ((Marked ⇐ true) ∷ (NoPrivilege ⇐ true) ∷ []) e)
                    (λ _. omega arith) first
                    (λ _. mark-is) home' table' counts' (λ _. refl)
