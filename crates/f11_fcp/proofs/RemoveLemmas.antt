-- Remove, from what opening a directory, looking through it and clearing a record answered.
use Rattle.std.proofs.Common.{◌≡◌, ℕ, ◌+◌, ◌<◌, ◌≤◌, Bool, true, false, not, IsTrue, List, [], ◌∷◌, ◌++◌, Option, None, Ok, Err, refl, sym}
use Rattle.std.proofs.Common.{◌∙◌, ap, subst, arith}
use Rattle.std.proofs.lemmas.Bool.{not_from_true, not_from_false}
use Rattle.f11_dev.specs.Image.{Image}
use Rattle.f11_home.specs.Home.{HomeFields}
use Rattle.f11_store.specs.Causes.{Cause, ◌⇐◌, first_of, first_refusal, is_bad, is_missing}
use Rattle.f11_store.specs.Changes.{with_change}
use Rattle.f11_store.specs.Cost.{cost, header_count}
use Rattle.f11_store.specs.Directory.{empty_record, is_entered}
use Rattle.f11_store.specs.Store.{Store, file_named}
use Rattle.f11_store.specs.declared.callers.Uic.{Uic}
use Rattle.f11_store.specs.declared.files.FileId.{FileId}
use Rattle.f11_store.specs.declared.files.Mode.TheVariants as mode
use Rattle.f11_store.specs.declared.refusals.Refusal.{Refusal}
use Rattle.f11_store.specs.declared.refusals.Refusal.TheVariants.{BadArgument, NoSuchEntry}
use Rattle.f11_store.specs.declared.requests.Reply.TheVariants as reply
use Rattle.f11_store.specs.declared.requests.Request.{Request}
use Rattle.f11_store.specs.declared.requests.Request.TheVariants as request
use Rattle.f11_entries.specs.Costs.{look_cost}
use Rattle.f11_entries.specs.Looks.{Tells}
use Rattle.f11_entries.specs.Writing.{RemovingByWrite}
use Rattle.f11_entries.specs.declared.spot.Looked.{Looked}
use Rattle.f11_entries.specs.declared.spot.Looked.TheVariants as looked
use Rattle.f11_entries.specs.declared.spot.Spot.{Spot}
use Rattle.f11_entries.proofs.CostLemmas.{remove_fits}
use Rattle.f11_entries.proofs.WritingLemmas.{removing_is_one_write}
use Rattle.f11_files.specs.Answers.{FailsToRead, Meanwhile}
use Rattle.f11_files.specs.image_store.StoreOf.{store_of}
use Rattle.f11_fcp.specs.Accesses.{AccessTable, held_in}
use Rattle.f11_fcp.specs.Directories.{opening_causes, Searches}
use Rattle.f11_fcp.specs.Entries.{HoldsSpot, put_at, put_work, ReplacesEntry, BreaksReplacing}
use Rattle.f11_fcp.specs.Handles.{State, store_at, Handles, WhileServing}
use Rattle.f11_fcp.specs.declared.purpose.Purpose.TheVariants as purpose
use Rattle.f11_fcp.specs.declared.search.Search.{Search}
use Rattle.f11_fcp.proofs.AccessLemmas.{barred-same}
use Rattle.f11_fcp.proofs.AccessedLemmas.{drop-false, take-true, refused-early}
use Rattle.f11_fcp.proofs.DirectoryLemmas.{opened-there, opening_barred}
use Rattle.f11_fcp.proofs.HandleLemmas.{among-part, behind-by, handled-fatal, handled-served, under-way-by}
use Rattle.f11_fcp.proofs.NamedLemmas.{same-behind}
use Rattle.f11_fcp.proofs.SearchLemmas.{search-refused, search-answered, search-then}

module _ (task : ℕ) (caller : Uic) (d : FileId) (name : List ℕ) (old : State) where
  abbrev r : Request
  r = request.Remove d name

  abbrev s : Store
  s = store_at old

  abbrev s0 : Store
  s0 = store_of old.disk.image old.home

  abbrev opening : List Cause
  opening = opening_causes purpose.Change old.table s0 caller d

  abbrev rest : List Cause
  rest = (NoSuchEntry ⇐ not (is_entered name (file_named s0 d))) ∷ []

  pub remove-bad : is_bad d ≡ true → Handles task caller r (Err BadArgument) old [] old []
  remove-bad bad = refused-early task caller r [] old BadArgument refl refl (take-true (is_bad d) _ _ bad)

  module _ (good : is_bad d ≡ false) where
    judged : first_refusal s task caller r ≡ first_of (opening ++ rest)
    judged =
        drop-false (is_bad d) _ _ good
        ∙ ap (λ (b : Bool). first_of (opening_barred b old.table s0 caller d ++ rest)) (sym (barred-same mode.Write old.table s0 d))

    fits : look_cost (file_named s0 d) ≤ cost s task r
    fits = let all = remove_fits s task d name in omega (arith, all)

    pub remove-refused : (e : Refusal) (mid : State)
        → FailsToRead false opening (look_cost (file_named s0 d)) e old.disk mid.disk
        → mid.home ≡ old.home → mid.table ≡ old.table → mid.counts ≡ old.counts → Handles task caller r (Err e) old [] mid []
    remove-refused e mid fails home table counts =
        search-refused task caller r old opening rest judged e mid fails fits
        (among-part ((BadArgument ⇐ is_bad d) ∷ []) opening rest e) home table counts

    module _ (found : Search) (mid : State) (searches : Searches purpose.Change old.table caller d name found old.home old.disk mid.disk)
        (home : mid.home ≡ old.home) where
      pub remove-absent : (empty : Option Spot) → found.looked ≡ looked.Absent empty → mid.table ≡ old.table → mid.counts ≡ old.counts
          → Handles task caller r (Err NoSuchEntry) old [] mid []
      remove-absent empty is table counts =
          search-answered task caller r old opening rest judged NoSuchEntry mid refl refl searches.reads fits searches.no_cause
          (λ honest. take-true (not (is_entered name (file_named s0 d))) _ _
          (not_from_false _ (subst (λ (l : Looked). Tells name (file_named s0 d) l) is (searches.tells honest)).0.entered)) home table
          counts

      module _ (spot : Spot) (id : FileId) (is : found.looked ≡ looked.Found spot id) where
        abbrev sm : Store
        sm = store_of mid.disk.image mid.home

        same : sm ≡ s0
        same = same-behind old mid searches.reads home

        sure : IsTrue old.disk.honest → IsTrue mid.disk.honest
        sure honest = searches.reads.looked.honest ∙ honest

        tells : IsTrue old.disk.honest → Tells name (file_named s0 d) (looked.Found spot id)
        tells honest = subst (λ (l : Looked). Tells name (file_named s0 d) l) is (searches.tells honest)

        there : IsTrue old.disk.honest → is_missing s0 d ≡ false
        there honest = opened-there purpose.Change old.table s0 caller d searches.own (searches.no_cause honest)

        pub remove-holds : IsTrue mid.disk.honest → HoldsSpot sm d spot
        remove-holds now =
            let honest = sym searches.reads.looked.honest ∙ now in
            subst (λ (x : Store). HoldsSpot x d spot) (sym same) (record { there = there honest; in_hand = (tells honest).1 })

        none : IsTrue old.disk.honest → first_refusal s task caller r ≡ None
        none honest = let first = (tells honest).0 in
            search-then task caller r old opening rest judged (searches.no_cause honest)
            ∙ drop-false (not (is_entered name (file_named s0 d))) _ _ (not_from_true _ first.entered)

        by : IsTrue old.disk.honest → spot.place < 32 → RemovingByWrite s task caller d name spot.number spot.place spot.block []
        by honest below =
            removing_is_one_write s task caller d name spot.number spot.place spot.block [] (none honest) (there honest) below
            (tells honest).1 (tells honest).0.index

        module _ (below : spot.place < 32) where
          weaker : (image : Image) → Meanwhile (put_work d spot empty_record) mid.home mid.disk image
              → WhileServing task caller r [] old image
          weaker =
              under-way-by task caller r [] old (put_work d spot empty_record) mid searches.reads.looked.image searches.reads.looked.honest
              home (λ honest t lags. (by honest below).putting t lags)

          enough : IsTrue old.disk.honest → look_cost (file_named s0 d) + (header_count (file_named sm d) + 1) ≤ cost s task r
          enough honest =
              subst (λ (x : Store). look_cost (file_named s0 d) + (header_count (file_named x d) + 1) ≤ cost s task r) (sym same)
              (remove_fits s task d name)

          pub removed : (new : State) → ReplacesEntry mid.home d spot empty_record mid.disk new.disk → new.home ≡ mid.home
              → new.table ≡ old.table → Handles task caller r (Ok reply.Done) old [] new []
          removed new does home' table' =
              handled-served task caller r [] old reply.Done new [] none (λ _. refl)
              (λ honest. ap (λ (h : HomeFields). held_in new.table (store_of new.disk.image h)) home'
              ∙ ap (λ (t : AccessTable). held_in t (store_of new.disk.image mid.home)) table'
              ∙ ap (held_in old.table)
              (does.makes (sure honest) ∙ ap (λ (x : Store). with_change x d.number (put_at spot empty_record)) same)
              ∙ (by honest below).removes)
              (λ _. refl) (behind-by task caller r [] old (Meanwhile (put_work d spot empty_record) mid.home mid.disk) mid new
              searches.reads weaker does.writes enough) (home' ∙ home)

          pub not-removed : (e : Refusal) (new : State) → BreaksReplacing mid.home d spot empty_record e mid.disk new.disk
              → new.home ≡ mid.home → Handles task caller r (Err e) old [] new []
          not-removed e new breaks home' =
              handled-fatal task caller r [] old e new [] breaks.fatal (λ honest. breaks.undamaged (sure honest))
              (behind-by task caller r [] old (Meanwhile (put_work d spot empty_record) mid.home mid.disk) mid new searches.reads weaker
              breaks.writes enough) (home' ∙ home)
