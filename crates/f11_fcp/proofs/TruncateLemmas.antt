-- A file that is accessed is cut.
use Rattle.std.proofs.Common.{◌≡◌, ℕ, ◌-◌, ◌≤◌, Bool, true, false, IsTrue, List, [], ◌∷◌, Some, None, Ok, Err, refl, sym, ◌∙◌, ap, subst}
use Rattle.std.proofs.Common.{arith, if◌then◌else◌, nat_lt}
use Rattle.f11_home.specs.Home.{HomeFields}
use Rattle.f11_store.specs.Causes.{Cause, ◌⇐◌, first_of, first_refusal, is_missing, is_no_write, is_no_writer, cannot_write}
use Rattle.f11_store.specs.Changes.{Truncates}
use Rattle.f11_store.specs.Cost.{cut_cost}
use Rattle.f11_store.specs.File.{File, length_of}
use Rattle.f11_store.specs.Lags.{served_work}
use Rattle.f11_store.specs.Store.{Store, id_held, file_held, file_named}
use Rattle.f11_store.specs.declared.callers.Uic.{Uic}
use Rattle.f11_store.specs.declared.files.FileId.{FileId}
use Rattle.f11_store.specs.declared.refusals.Refusal.{Refusal}
use Rattle.f11_store.specs.declared.refusals.Refusal.TheVariants.{NoSuchAccess, NoSuchFile, EndOfFile}
use Rattle.f11_store.specs.declared.requests.Reply.TheVariants as reply
use Rattle.f11_store.specs.declared.requests.Request.{Request}
use Rattle.f11_store.specs.declared.requests.Request.TheVariants as request
use Rattle.f11_store.proofs.HeldLaws.{cut-held}
use Rattle.f11_files.specs.Answers.{is_clean}
use Rattle.f11_files.specs.Removing.Truncate.{Cuts, FailsToCut, cut_work}
use Rattle.f11_files.specs.Operations.{length_causes}
use Rattle.f11_files.specs.image_store.StoreOf.{store_of}
use Rattle.f11_fcp.specs.Accesses.{AccessTable, Entry, accesses, held_in}
use Rattle.f11_fcp.specs.Handles.{State, store_at, Handles, of_accessed}
use Rattle.f11_fcp.proofs.AccessedLemmas.{drop-false, take-true, refused-early, accessed-refused, held-id, held-file}
use Rattle.f11_fcp.proofs.AccessedLemmas.{held-writes}
use Rattle.f11_fcp.proofs.HandleLemmas.{among-part, handled-does, reads-none}
use Rattle.f11_fcp.proofs.RequestLemmas.{still}

pub truncate-none : (task lun to : ℕ) (caller : Uic) (old : State) → is_no_writer (accesses old.table task lun) ≡ true
    → Handles task caller (request.Truncate lun to) (Err NoSuchAccess) old [] old []
truncate-none task lun to caller old none =
    refused-early task caller (request.Truncate lun to) [] old NoSuchAccess refl refl
    (take-true (cannot_write (store_at old) task lun) _ _ none)

module _ (task lun : ℕ) (caller : Uic) (old : State) (e : Entry) (held : old.table task lun ≡ Some e) (writes : is_no_write e.mode ≡ false)
    (to : ℕ) (there : IsTrue old.disk.honest → is_missing (store_of old.disk.image old.home) e.file ≡ false)
  where
    abbrev r : Request
    r = request.Truncate lun to

    abbrev s : Store
    s = store_at old

    abbrev s0 : Store
    s0 = store_of old.disk.image old.home

    abbrev named : File
    named = file_named s0 e.file

    abbrev past : Bool
    past = nat_lt (length_of named) to

    abbrev rest : List Cause
    rest = (EndOfFile ⇐ past) ∷ []

    first : IsTrue old.disk.honest → first_of (length_causes s0 e.file to) ≡ first_refusal s task caller r
    first honest = drop-false (is_missing s0 e.file) (Some NoSuchFile) (first_of rest) (there honest)
        ∙ sym (drop-false (cannot_write s task lun) _ _ (held-writes task lun old e held writes)
        ∙ ap (λ (f : File). if nat_lt (length_of f) to then Some EndOfFile else None) (held-file task lun old e held))

    work-is : cut_work e.file to ≡ served_work s task caller r []
    work-is = sym (ap (λ (id : FileId). cut_work id to) (held-id task lun old e held))

    few : cut_cost named - 1 ≤ cut_cost (file_held s task lun)
    few = subst (λ (f : File). cut_cost named - 1 ≤ cut_cost f) (sym (held-file task lun old e held)) (omega arith)

    pub cut : (blocks : ℕ) (new : State) → blocks ≡ to → Cuts old.home e.file to old.disk new.disk → new.home ≡ old.home
        → new.table ≡ old.table → Handles task caller r (Ok (reply.Length blocks)) old [] new []
    cut blocks new is does home table =
        handled-does task caller r [] old (reply.Length blocks) (length_causes s0 e.file to) (cut_work e.file to) old new []
        (reads-none old.disk) refl does (λ _. omega (arith, few)) first (λ _. work-is)
        (λ _. ap (λ (k : ℕ). reply.Length k) is) (λ _ makes. store-then makes) (λ _. refl) home
      where
        store-then : Truncates s0 e.file.number to (store_of new.disk.image old.home)
            → Truncates s (id_held s task lun).number to (store_at new)
        store-then makes =
            subst (λ (id : FileId). Truncates s id.number to (store_at new)) (sym (held-id task lun old e held))
            (subst (λ (x : Store). Truncates s e.file.number to x)
            (sym (ap (λ (h : HomeFields). held_in new.table (store_of new.disk.image h)) home
            ∙ ap (λ (t : AccessTable). held_in t (store_of new.disk.image old.home)) table))
            (cut-held (accesses old.table) s0 (store_of new.disk.image old.home) e.file.number to makes))

    pub not-cut : {failed : Bool} (new : State) (er res : Refusal) → failed ≡ false
        → FailsToCut failed old.home e.file to er old.disk new.disk
        → new.home ≡ old.home → new.table ≡ old.table → (is_clean er ≡ true → new.counts ≡ old.counts) → res ≡ of_accessed er
        → Handles task caller r (Err res) old [] new []
    not-cut new er res alive fails home table counts res_is =
        subst (λ (x : Refusal). Handles task caller r (Err x) old [] new []) (sym res_is)
        (accessed-refused task caller r [] old er (is_missing s0 e.file) rest (cut_work e.file to) old new [] (reads-none old.disk) refl
        refl (still alive fails) refl (among-part ((NoSuchAccess ⇐ true) ∷ []) rest [] er) (λ _. omega (arith, few)) there first
        (λ _. work-is) home table counts (λ _. refl))
