-- An access that is given up, and a marked file that goes with its last.
use Rattle.std.proofs.Common.{◌≡◌, ◌≢◌, ◌⊎◌, inl, inr, ℕ, ◌+◌, ◌-◌, ◌≤◌, ◌==◌, ◌&&◌, not, Bool, true, false, IsTrue, [], ◌∷◌, Option, Some}
use Rattle.std.proofs.Common.{None, Ok, Err, refl, sym, ◌∙◌, ap, subst, arith, is_none, option_map, unwrap_or, if◌then◌else◌}
use Rattle.std.proofs.lemmas.Bool.{and_left, and_right, and_from, not_from_true, not_from_false}
use Rattle.f11_dev.specs.Image.{Image}
use Rattle.f11_home.specs.Home.{HomeFields}
use Rattle.f11_store.specs.Causes.{◌⇐◌, first_refusal, is_missing, holds_none}
use Rattle.f11_store.specs.Changes.{with_access, is_due, without_file_at, after_giving_up, after_deaccess}
use Rattle.f11_store.specs.Cost.{cost, cut_cost, give_up_cost}
use Rattle.f11_store.specs.File.{File, no_file, is_marked}
use Rattle.f11_store.specs.Lags.{give_up_work, go_work, no_work, served_work}
use Rattle.f11_store.specs.Store.{Store, file_of, file_named, is_held, is_accessed}
use Rattle.f11_store.specs.declared.callers.Uic.{Uic}
use Rattle.f11_store.specs.declared.files.FileId.{FileId}
use Rattle.f11_store.specs.declared.refusals.Refusal.{Refusal}
use Rattle.f11_store.specs.declared.refusals.Refusal.TheVariants.{NoSuchAccess, NoSuchFile, VolumeFailed}
use Rattle.f11_store.specs.declared.requests.Reply.TheVariants as reply
use Rattle.f11_store.specs.declared.requests.Request.{Request}
use Rattle.f11_store.specs.declared.requests.Request.TheVariants as request
use Rattle.f11_dev.specs.Disk.{Disk}
use Rattle.f11_files.specs.Answers.{WritesAtMost, is_fatal}
use Rattle.f11_files.specs.Operations.{file_causes}
use Rattle.f11_files.specs.Removing.Delete.{Deletes, FailsToDelete}
use Rattle.f11_files.specs.image_store.StoreOf.{store_of}
use Rattle.f11_fcp.specs.Accesses.{AccessTable, Entry, access_of, with_table_entry, held_in, is_held_in, any_mode, mark_there, mark_kept}
use Rattle.f11_fcp.specs.Accesses.{HasAccessed}
use Rattle.f11_store.specs.Accesses.{mark_of}
use Rattle.f11_fcp.specs.Handles.{State, store_at, WhileServing, Handles, of_known}
use Rattle.f11_fcp.proofs.HandleLemmas.{behind, clean-cause, handled-fatal, handled-served, handled-does, reads-none, work-then}
use Rattle.f11_fcp.proofs.HandleLemmas.{writes-none}
use Rattle.f11_fcp.proofs.KnownLemmas.{known-breaks, known-fatal, known-file}
use Rattle.f11_fcp.proofs.AccessedLemmas.{among-file, drop-false, take-true, refused-early, there-marked}
use Rattle.f11_store.proofs.FateLaws.{mark-stays, held-at, fate-gone}
use Rattle.f11_fcp.proofs.OpenLemmas.{same-self}

pub accessed-same : (t : AccessTable) (s : Store) (id : FileId) → is_held_in any_mode t id ≡ is_accessed (held_in t s) id
unfolding is_held_in is_held
accessed-same t s id = refl

-- a file that is accessed is refused deletion only where the volume fails
pub deletion-fatal : {failed : Bool} (home : HomeFields) (id : FileId) (old new : Disk) (e : Refusal) → failed ≡ false
    → FailsToDelete failed home id e old new → is_fatal (of_known e) ≡ true
deletion-fatal home id old new e alive fails = by_fatal (is_fatal e) refl
  where
    by_fatal : (b : Bool) → is_fatal e ≡ b → is_fatal (of_known e) ≡ true
    by_fatal true fatal = ap is_fatal (known-fatal e fatal) ∙ fatal
    by_fatal false clean =
        let other : e ≢ VolumeFailed = λ v. absurd (let no : false ≡ true = sym alive ∙ fails.right.volume v in cc) in
        let file = among-file (is_missing (store_of old.image home) id) e (fails.right.among (clean-cause e clean other).0) in
        ap (λ (x : Refusal). is_fatal (of_known x)) file

module _ (task lun : ℕ) (caller : Uic) (old : State) where
  abbrev r : Request
  r = request.Deaccess lun

  abbrev s : Store
  s = store_at old

  abbrev s0 : Store
  s0 = store_of old.disk.image old.home

  -- the table without the access
  abbrev given : AccessTable
  given = with_table_entry old.table task lun None

  pub deaccess-none : old.table task lun ≡ None → Handles task caller r (Err NoSuchAccess) old [] old []
  deaccess-none none =
      refused-early task caller r [] old NoSuchAccess refl refl
      (take-true (holds_none s task lun) _ _ (ap (λ (o : Option Entry). is_none (option_map access_of o)) none))

  by-entry : (b : Bool) (o : Option Entry) → option_map access_of (if b then None else o) ≡ (if b then None else option_map access_of o)
  by-entry true o = refl
  by-entry false o = refl

  given-is : (x : Store) → held_in given x ≡ with_access (held_in old.table x) task lun None
  given-is x = λ i. record x { access = λ k l. by-entry ((k == task) && (l == lun)) (old.table k l) i }

  module _ (e : Entry) (held : old.table task lun ≡ Some e) (kept : IsTrue old.disk.honest → mark_of s0 e.file ≡ Some e.marked) where
    abbrev u : Store
    u = with_access s task lun None

    none-held : first_refusal s task caller r ≡ None
    none-held = drop-false (holds_none s task lun) _ _ (ap (λ (o : Option Entry). is_none (option_map access_of o)) held)

    marked-is : IsTrue old.disk.honest → is_marked (file_named s0 e.file) ≡ e.marked
    marked-is honest = by_file (file_of s0 e.file) (kept honest)
      where
        by_file : (o : Option File) → option_map is_marked o ≡ Some e.marked → is_marked (unwrap_or o no_file) ≡ e.marked
        by_file None h = absurd (cc)
        by_file (Some f) h = cc

    after-is : after_deaccess s task lun ≡ (if is_due u e.file then without_file_at u e.file.number else u)
    after-is = ap (λ (o : Option Entry). after_giving_up s task lun (option_map access_of o)) held

    work-is : served_work s task caller r [] ≡ (if is_due u e.file then go_work e.file.number else no_work)
    work-is = ap (λ (o : Option Entry). give_up_work s task lun (option_map access_of o)) held

    cost-is : cost s task r ≡ (if is_due u e.file then cut_cost (file_named s0 e.file) else 0)
    cost-is = ap (λ (o : Option Entry). give_up_cost s task lun (option_map access_of o)) held

    -- nothing goes: the file isn't marked, or somebody else accesses it
    pub deaccess-plain : (mid : State) → mid.disk ≡ old.disk → mid.home ≡ old.home → mid.table ≡ given
        → (e.marked ≡ false) ⊎ (true ≡ is_held_in any_mode given e.file)
        → Handles task caller r (Ok reply.Done) old [] mid []
    deaccess-plain mid disk home table stays =
        handled-served task caller r [] old reply.Done mid [] (λ _. none-held) (λ _. refl)
        (λ honest. ap (λ (i : Image). held_in mid.table (store_of i mid.home)) (ap (λ (d : Disk). d.image) disk)
        ∙ ap (λ (h : HomeFields). held_in mid.table (store_of old.disk.image h)) home
        ∙ ap (λ (t : AccessTable). held_in t s0) table ∙ given-is s0
        ∙ sym (after-is ∙ drop-false (is_due u e.file) _ _ (not-due honest stays)))
        (λ _. refl)
        (subst (λ (d : Disk). WritesAtMost (WhileServing task caller r [] old) (cost s task r) old.disk d 0) (sym disk)
        (writes-none (WhileServing task caller r [] old) old.disk (cost s task r))) home
      where
        not-due : IsTrue old.disk.honest → (e.marked ≡ false) ⊎ (true ≡ is_held_in any_mode given e.file) → is_due u e.file ≡ false
        not-due honest (inl unmarked) =
            and_left (is_marked (file_named s0 e.file)) (not (is_accessed u e.file)) (marked-is honest ∙ unmarked)
        not-due honest (inr other) =
            and_right (is_marked (file_named s0 e.file)) (not (is_accessed u e.file))
            (not_from_true (is_accessed u e.file)
            (ap (λ (x : Store). is_accessed x e.file) (sym (given-is s0)) ∙ sym (other ∙ accessed-same given s0 e.file)))

    module _ (marked : e.marked ≡ true) (last : false ≡ is_held_in any_mode given e.file) where
      nobody : is_accessed (held_in given s0) e.file ≡ false
      nobody = sym (last ∙ accessed-same given s0 e.file)

      due : IsTrue old.disk.honest → is_due u e.file ≡ true
      due honest = and_from (is_marked (file_named s0 e.file)) (not (is_accessed u e.file)) (marked-is honest ∙ marked)
          (not_from_false (is_accessed u e.file) (ap (λ (x : Store). is_accessed x e.file) (sym (given-is s0)) ∙ nobody))

      there : IsTrue old.disk.honest → is_missing s0 e.file ≡ false
      there honest = there-marked s0 e.file e.marked (kept honest)

      fewer : IsTrue old.disk.honest → 0 + (cut_cost (file_named s0 e.file) - 1) ≤ cost s task r
      fewer honest =
          subst (λ (n : ℕ). 0 + (cut_cost (file_named s0 e.file) - 1) ≤ n) (sym (cost-is ∙ take-true (is_due u e.file) _ _ (due honest)))
          (omega arith)

      works : IsTrue old.disk.honest → go_work e.file.number ≡ served_work s task caller r []
      works honest = sym (work-is ∙ take-true (is_due u e.file) _ _ (due honest))

      pub deaccess-deletes : (new : State) → Deletes old.home e.file old.disk new.disk → new.home ≡ old.home → new.table ≡ given
          → Handles task caller r (Ok reply.Done) old [] new []
      deaccess-deletes new does home table =
          handled-does task caller r [] old reply.Done ((NoSuchFile ⇐ is_missing s0 e.file) ∷ []) (go_work e.file.number) old new []
          (reads-none old.disk) refl does fewer
          (λ honest. drop-false (is_missing s0 e.file) _ _ (there honest) ∙ sym none-held) works (λ _. refl)
          (λ honest makes. ap (λ (h : HomeFields). held_in new.table (store_of new.disk.image h)) home
          ∙ ap (λ (t : AccessTable). held_in t (store_of new.disk.image old.home)) table ∙ ap (held_in given) makes
          ∙ ap (λ (x : Store). without_file_at x e.file.number) (given-is s0)
          ∙ sym (after-is ∙ take-true (is_due u e.file) _ _ (due honest)))
          (λ _. refl) home

      pub deaccess-fails : {failed : Bool} (new : State) (er res : Refusal) → failed ≡ false
          → FailsToDelete failed old.home e.file er old.disk new.disk → new.home ≡ old.home
          → res ≡ of_known er → Handles task caller r (Err res) old [] new []
      deaccess-fails new er res alive fails home res_is =
          let breaks = known-breaks (file_causes s0 e.file) er alive (known-file s0 e.file er)
          (λ honest. drop-false (is_missing s0 e.file) (Some NoSuchFile) None (there honest)) (go_work e.file.number) old.home fails in
          subst (λ (x : Refusal). Handles task caller r (Err x) old [] new []) (sym res_is)
          (handled-fatal task caller r [] old (of_known er) new [] breaks.fatal breaks.undamaged
          (behind task caller r [] old (go_work e.file.number) old new (reads-none old.disk) refl
          (λ honest. works honest ∙ work-then task caller r [] old none-held) breaks.writes fewer) home)

      pub deleted-kept : (t : AccessTable) (s' : Store) → s' ≡ without_file_at s0 e.file.number → t ≡ given → IsTrue old.disk.honest
          → HasAccessed old.table s0 → HasAccessed t s'
      deleted-kept t s' same is_t honest all k l low small =
          subst (λ (x : Store). mark_there x (t k l) ≡ mark_kept (t k l)) (sym same)
          (subst (λ (v : AccessTable). mark_there (without_file_at s0 e.file.number) (v k l) ≡ mark_kept (v k l)) (sym is_t)
          (by_test ((k == task) && (l == lun)) refl))
        where
          by_old : (o : Option Entry) → old.table k l ≡ o → given k l ≡ o → mark_there s0 o ≡ mark_kept o
              → mark_there (without_file_at s0 e.file.number) o ≡ mark_kept o
          by_old None is now h = refl
          by_old (Some f) is now h =
              mark-stays (held_in given s0) (without_file_at (held_in given s0) e.file.number) f.file f.marked
              (fate-gone (held_in given s0) e.file f.file.number (there honest) nobody) h
              (held-at (λ _. true) (without_file_at (held_in given s0) e.file.number) k l (access_of f) f.file low small
              (ap (option_map access_of) now) (same-self f.file) refl)

          by_test : (b : Bool) → ((k == task) && (l == lun)) ≡ b
              → mark_there (without_file_at s0 e.file.number) (if b then None else old.table k l) ≡ mark_kept
              (if b then None else old.table k l)
          by_test true is = refl
          by_test false is = by_old (old.table k l) refl (ap (λ (b : Bool). if b then None else old.table k l) is) (all k l low small)

  -- the others are to files that are there, as before
  pub given-kept : (t : AccessTable) (s' : Store) → s' ≡ s0 → t ≡ given → HasAccessed old.table s0 → HasAccessed t s'
  given-kept t s' same is_t all k l low small =
      subst (λ (x : Store). mark_there x (t k l) ≡ mark_kept (t k l)) (sym same)
      (subst (λ (v : AccessTable). mark_there s0 (v k l) ≡ mark_kept (v k l)) (sym is_t) (by_test ((k == task) && (l == lun))))
    where
      by_test : (b : Bool) → mark_there s0 (if b then None else old.table k l) ≡ mark_kept (if b then None else old.table k l)
      by_test true = refl
      by_test false = all k l low small
