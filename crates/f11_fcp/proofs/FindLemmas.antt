-- Find, from what opening a directory and looking through it answered.
use Rattle.std.proofs.Common.{◌≡◌, ℕ, true, false, not, IsTrue, List, [], ◌∷◌, ◌++◌, Option, Ok, Err, refl, sym, ◌∙◌, ap, subst}
use Rattle.std.proofs.lemmas.Bool.{not_from_true, not_from_false}
use Rattle.f11_store.specs.Causes.{Cause, ◌⇐◌, first_of, first_refusal, is_bad}
use Rattle.f11_store.specs.Directory.{is_entered, record_id}
use Rattle.f11_store.specs.Store.{Store, file_named}
use Rattle.f11_store.specs.declared.callers.Uic.{Uic}
use Rattle.f11_store.specs.declared.files.FileId.{FileId}
use Rattle.f11_store.specs.declared.refusals.Refusal.{Refusal}
use Rattle.f11_store.specs.declared.refusals.Refusal.TheVariants.{BadArgument, NoSuchEntry}
use Rattle.f11_store.specs.declared.requests.Reply.TheVariants as reply
use Rattle.f11_store.specs.declared.requests.Request.{Request}
use Rattle.f11_store.specs.declared.requests.Request.TheVariants as request
use Rattle.f11_entries.specs.Costs.{look_cost}
use Rattle.f11_entries.specs.Looks.{Tells}
use Rattle.f11_entries.specs.declared.spot.Looked.{Looked}
use Rattle.f11_entries.specs.declared.spot.Looked.TheVariants as looked
use Rattle.f11_entries.specs.declared.spot.Spot.{Spot}
use Rattle.f11_entries.proofs.CostLemmas.{find_fits}
use Rattle.f11_files.specs.Answers.{FailsToRead}
use Rattle.f11_files.specs.image_store.StoreOf.{store_of}
use Rattle.f11_fcp.specs.Directories.{opening_causes, Searches}
use Rattle.f11_fcp.specs.Handles.{State, store_at, Handles}
use Rattle.f11_fcp.specs.declared.purpose.Purpose.TheVariants as purpose
use Rattle.f11_fcp.specs.declared.search.Search.{Search}
use Rattle.f11_fcp.proofs.AccessedLemmas.{drop-false, take-true, refused-early, writes-looked}
use Rattle.f11_fcp.proofs.HandleLemmas.{among-part, handled-served, same-store}
use Rattle.f11_fcp.proofs.SearchLemmas.{search-refused, search-answered, search-then}

module _ (task : ℕ) (caller : Uic) (d : FileId) (name : List ℕ) (old : State) where
  abbrev r : Request
  r = request.Find d name

  abbrev s : Store
  s = store_at old

  abbrev s0 : Store
  s0 = store_of old.disk.image old.home

  abbrev opening : List Cause
  opening = opening_causes purpose.Look old.table s0 caller d

  abbrev rest : List Cause
  rest = (NoSuchEntry ⇐ not (is_entered name (file_named s0 d))) ∷ []

  pub find-bad : is_bad d ≡ true → Handles task caller r (Err BadArgument) old [] old []
  find-bad bad = refused-early task caller r [] old BadArgument refl refl (take-true (is_bad d) _ _ bad)

  module _ (good : is_bad d ≡ false) where
    judged : first_refusal s task caller r ≡ first_of (opening ++ rest)
    judged = drop-false (is_bad d) _ _ good

    pub find-refused : (e : Refusal) (mid : State)
        → FailsToRead false opening (look_cost (file_named s0 d)) e old.disk mid.disk
        → mid.home ≡ old.home → mid.table ≡ old.table → mid.counts ≡ old.counts → Handles task caller r (Err e) old [] mid []
    find-refused e mid fails home table counts =
        search-refused task caller r old opening rest judged e mid fails (find_fits s task d name)
        (among-part ((BadArgument ⇐ is_bad d) ∷ []) opening rest e) home table counts

    module _ (found : Search) (mid : State) (searches : Searches purpose.Look old.table caller d name found old.home old.disk mid.disk)
        (home : mid.home ≡ old.home) (table : mid.table ≡ old.table) where
      pub find-found : (spot : Spot) (id : FileId) → found.looked ≡ looked.Found spot id
          → Handles task caller r (Ok (reply.Found id)) old [] mid []
      find-found spot id is =
          handled-served task caller r [] old (reply.Found id) mid []
          (λ honest. let first = (tells honest).0 in search-then task caller r old opening rest judged (searches.no_cause honest)
          ∙ drop-false (not (is_entered name (file_named s0 d))) _ _ (not_from_true _ first.entered))
          (λ honest. ap (λ (i : FileId). reply.Found i) ((tells honest).2 ∙ ap record_id (sym (tells honest).0.is)))
          (λ _. same-store old mid searches.reads.looked.image home table) (λ _. refl)
          (writes-looked task caller r [] old mid.disk searches.reads (find_fits s task d name)) home
        where
          tells : IsTrue old.disk.honest → Tells name (file_named s0 d) (looked.Found spot id)
          tells honest = subst (λ (l : Looked). Tells name (file_named s0 d) l) is (searches.tells honest)

      pub find-absent : (empty : Option Spot) → found.looked ≡ looked.Absent empty → mid.counts ≡ old.counts
          → Handles task caller r (Err NoSuchEntry) old [] mid []
      find-absent empty is counts =
          search-answered task caller r old opening rest judged NoSuchEntry mid refl refl searches.reads (find_fits s task d name)
          searches.no_cause
          (λ honest. take-true (not (is_entered name (file_named s0 d))) _ _
          (not_from_false _ (subst (λ (l : Looked). Tells name (file_named s0 d) l) is (searches.tells honest)).0.entered)) home table
          counts
