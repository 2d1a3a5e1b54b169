-- Enter, from what opening a directory, looking through it and putting a record answered.
use Rattle.std.proofs.Common.{◌≡◌, ℕ, ◌+◌, ◌≤◌, ◌||◌, Bool, true, false, IsTrue, List, [], ◌∷◌, ◌++◌, Option, Some, None, Result, Ok, Err}
use Rattle.std.proofs.Common.{refl, sym, ◌∙◌, ap, subst, arith, map}
use Rattle.f11_dev.specs.declared.device.Device.{Ghosts}
use Rattle.f11_home.specs.Home.{HomeFields}
use Rattle.f11_store.specs.Causes.{causes_of, Cause, ◌⇐◌, first_of, first_refusal, extend_causes, extend_causes_if, is_bad}
use Rattle.f11_store.specs.Changes.{Enters, EntersAt, EntersAtEnd}
use Rattle.f11_store.specs.Cost.{cost, growth_cost, header_count}
use Rattle.f11_store.specs.Directory.{index_of_empty, entry_count, is_entered, needs_block, record_bytes}
use Rattle.f11_store.specs.Headroom.{headers_to_enter}
use Rattle.f11_store.specs.Lags.{served_work}
use Rattle.f11_store.specs.Step.{may_want_memory, Step}
use Rattle.f11_store.specs.Store.{Store, Access, file_named}
use Rattle.f11_store.specs.Accesses.{with_accesses}
use Rattle.f11_store.specs.declared.callers.Uic.{Uic}
use Rattle.f11_store.specs.declared.files.FileId.{FileId}
use Rattle.f11_store.specs.declared.files.Mode.TheVariants as mode
use Rattle.f11_store.specs.declared.refusals.Refusal.{Refusal}
use Rattle.f11_store.specs.declared.refusals.Refusal.TheVariants.{BadArgument, DuplicateName}
use Rattle.f11_store.specs.declared.refusals.Refusal.TheVariants.{NoMemory}
use Rattle.f11_store.specs.declared.requests.Reply.{Reply}
use Rattle.f11_store.specs.declared.requests.Reply.TheVariants as reply
use Rattle.f11_store.specs.declared.requests.Request.{Request}
use Rattle.f11_store.specs.declared.requests.Request.TheVariants as request
use Rattle.f11_store.proofs.FateLaws.{Fate, fate-none}
use Rattle.f11_store.proofs.HeldLaws.{extend-causes-held, lengthens-held}
use Rattle.f11_entries.specs.Costs.{look_cost, entry_cost}
use Rattle.f11_entries.specs.Looks.{Tells, IsLastBlock}
use Rattle.f11_entries.specs.declared.spot.Looked.{Looked}
use Rattle.f11_entries.specs.declared.spot.Looked.TheVariants as looked
use Rattle.f11_entries.specs.declared.spot.Spot.{Spot}
use Rattle.f11_entries.proofs.CostLemmas.{enter_fits}
use Rattle.f11_entries.proofs.FateLemmas.{fate-enter}
use Rattle.f11_files.specs.Answers.{FailsToRead, is_fatal, is_clean, is_refused}
use Rattle.f11_files.specs.Open.{disk_in, has_failed, home_in}
use Rattle.f11_files.specs.image_store.StoreOf.{store_of}
use Rattle.f11_files.specs.declared.files.Files.{Files}
use Rattle.f11_fcp.specs.Accesses.{AccessTable, accesses, held_in}
use Rattle.f11_fcp.specs.Directories.{opening_causes, Searches}
use Rattle.f11_fcp.specs.Entries.{cause_if, entry_causes, entry_wants, entry_work, HasEmpty, PutsEntry, FailsToPut}
use Rattle.f11_fcp.specs.Handles.{State, state_of, store_at, memory_cause, Handles, IsOpen, StaysOpen}
use Rattle.f11_fcp.specs.declared.purpose.Purpose.TheVariants as purpose
use Rattle.f11_fcp.specs.declared.search.Search.{Search}
use Rattle.f11_fcp.proofs.AccessLemmas.{barred-same}
use Rattle.f11_fcp.proofs.AccessedLemmas.{drop-false, take-true, refused-early}
use Rattle.f11_fcp.proofs.DirectoryLemmas.{opened-there, opening_barred}
use Rattle.f11_fcp.proofs.HandleLemmas.{among-part, handled-does, handled-wants}
use Rattle.f11_fcp.proofs.NamedLemmas.{same-behind}
use Rattle.f11_fcp.specs.Windows.{HasWindows}
use Rattle.std.specs.Prelude.{OnOk}
use Rattle.f11_fcp.proofs.OpenLemmas.{windows-after, kept-by-step}
use Rattle.f11_fcp.proofs.SlotsLemmas.{enter-work-held, gets-held, slots-cost-held}
use Rattle.f11_fcp.proofs.SearchLemmas.{search-refused, search-answered, search-then}

-- a record is entered, with any accesses beside
module _ (a : ℕ → ℕ → Option Access) where
  end-held : (b : Bool) (s t : Store) (d : FileId) (i : ℕ) (r : List ℕ) → EntersAtEnd b s d i r t
      → EntersAtEnd b (with_accesses a s) d i r (with_accesses a t)
  end-held false s t d i r h = ap (with_accesses a) h
  end-held true s t d i r (grown, grows, h) = (with_accesses a grown, lengthens-held a s grown d 1 grows, ap (with_accesses a) h)

  at-held : (o : Option ℕ) (s t : Store) (d : FileId) (r : List ℕ) → EntersAt o s d r t
      → EntersAt o (with_accesses a s) d r (with_accesses a t)
  at-held (Some i) s t d r h = ap (with_accesses a) h
  at-held None s t d r h = end-held (needs_block (file_named s d)) s t d (entry_count (file_named s d)) r h

  enters-held : (s t : Store) (d : FileId) (r : List ℕ) → Enters s d r t → Enters (with_accesses a s) d r (with_accesses a t)
  enters-held s t d r h = at-held (index_of_empty (file_named s d)) s t d r h

module _ (task : ℕ) (caller : Uic) (d : FileId) (name : List ℕ) (id : FileId) (old : State) where
  abbrev r : Request
  r = request.Enter d name id

  abbrev s : Store
  s = store_at old

  abbrev s0 : Store
  s0 = store_of old.disk.image old.home

  abbrev opening : List Cause
  opening = opening_causes purpose.Change old.table s0 caller d

  abbrev rest : List Cause
  rest = (DuplicateName ⇐ is_entered name (file_named s0 d)) ∷ extend_causes_if (needs_block (file_named s0 d)) s (file_named s0 d) 1

  pub enter-bad : is_bad d ≡ true → Handles task caller r (Err BadArgument) old [] old []
  enter-bad bad =
      refused-early task caller r [] old BadArgument refl refl
      (take-true (is_bad d || is_bad id) _ _ (ap (λ (b : Bool). b || is_bad id) bad))

  pub enter-bad-file : is_bad d ≡ false → is_bad id ≡ true → Handles task caller r (Err BadArgument) old [] old []
  enter-bad-file good bad =
      refused-early task caller r [] old BadArgument refl refl
      (take-true (is_bad d || is_bad id) _ _ (ap (λ (b : Bool). b || is_bad id) good ∙ bad))

  module _ (good : is_bad d ≡ false) (good' : is_bad id ≡ false) where
    judged : first_refusal s task caller r ≡ first_of (opening ++ rest)
    judged =
        drop-false (is_bad d || is_bad id) _ _ (ap (λ (b : Bool). b || is_bad id) good ∙ good')
        ∙ ap (λ (b : Bool). first_of (opening_barred b old.table s0 caller d ++ rest)) (sym (barred-same mode.Write old.table s0 d))

    fits : look_cost (file_named s0 d) ≤ cost s task r
    fits = let all = enter_fits s task d id name in omega (arith, all)

    pub enter-refused : (e : Refusal) (mid : State)
        → FailsToRead false opening (look_cost (file_named s0 d)) e old.disk mid.disk
        → mid.home ≡ old.home → mid.table ≡ old.table → mid.counts ≡ old.counts → Handles task caller r (Err e) old [] mid []
    enter-refused e mid fails home table counts =
        search-refused task caller r old opening rest judged e mid fails fits
        (among-part ((BadArgument ⇐ (is_bad d || is_bad id)) ∷ []) opening (rest ++ (extend_causes s (file_named s d) 1 ++ memory_cause)) e)
        home table counts

    module _ (found : Search) (mid : State) (searches : Searches purpose.Change old.table caller d name found old.home old.disk mid.disk)
        (home : mid.home ≡ old.home) (counts : mid.counts ≡ old.counts) where
      pub enter-found : (spot : Spot) (other : FileId) → found.looked ≡ looked.Found spot other → mid.table ≡ old.table
          → Handles task caller r (Err DuplicateName) old [] mid []
      enter-found spot other is table =
          search-answered task caller r old opening rest judged DuplicateName mid refl refl searches.reads fits searches.no_cause
          (λ honest. take-true (is_entered name (file_named s0 d)) _ _
          (subst (λ (l : Looked). Tells name (file_named s0 d) l) is (searches.tells honest)).0.entered) home table counts

      module _ (empty : Option Spot) (is : found.looked ≡ looked.Absent empty) where
        abbrev sm : Store
        sm = store_of mid.disk.image mid.home

        same : sm ≡ s0
        same = same-behind old mid searches.reads home

        tells : IsTrue old.disk.honest → Tells name (file_named s0 d) (looked.Absent empty)
        tells honest = subst (λ (l : Looked). Tells name (file_named s0 d) l) is (searches.tells honest)

        pub enter-known : IsTrue mid.disk.honest → HasEmpty empty found sm d
        enter-known now =
            let honest = sym searches.reads.looked.honest ∙ now in
            subst (λ (x : Store). HasEmpty empty found x d) (sym same)
            (record {
              end = record {
                there = opened-there purpose.Change old.table s0 caller d searches.own (searches.no_cause honest);
                attr_is = ap (λ a. a.attr) (searches.attr_is honest);
                length_is = searches.length_is honest;
                count_is = searches.count_is honest;
                last_is = subst (λ (l : Looked). IsLastBlock (file_named s0 d) l found.last) is (searches.last_is honest);
              };
              first = (tells honest).0.empty_is;
              in_hand = (tells honest).1;
            })

        -- then only want of room stands against it
        first : IsTrue old.disk.honest → first_of (entry_causes sm d) ≡ first_refusal s task caller r
        first honest =
            ap (λ (x : Store). first_of (entry_causes x d)) same ∙ by_need (needs_block (file_named s0 d)) refl
            ∙ sym (drop-false (is_entered name (file_named s0 d)) (Some DuplicateName)
            (first_of (extend_causes_if (needs_block (file_named s0 d)) s (file_named s0 d) 1)) (tells honest).0.entered)
            ∙ sym (search-then task caller r old opening rest judged (searches.no_cause honest))
          where
            by_need : (b : Bool) → needs_block (file_named s0 d) ≡ b
                → first_of (map (cause_if b) (extend_causes s0 (file_named s0 d) 1)) ≡ first_of (extend_causes_if b s (file_named s0 d) 1)
            by_need true needs = ap first_of (sym (extend-causes-held (accesses old.table) s0 (file_named s0 d) 1))
            by_need false needs = refl

        enough : IsTrue old.disk.honest → look_cost (file_named s0 d) + entry_cost sm (file_named sm d) ≤ cost s task r
        enough honest =
            subst (λ (x : Store). look_cost (file_named s0 d) + entry_cost x (file_named x d) ≤ cost s task r) (sym same)
            (subst (λ (k : ℕ). look_cost (file_named s0 d) + (k + (growth_cost s0 (file_named s0 d) 1 + header_count (file_named s0 d) + 4))
            ≤ cost s task r)
            (slots-cost-held (accesses old.table) s0 (headers_to_enter (file_named s0 d))) (enter_fits s task d id name))

        work-is : IsTrue old.disk.honest → entry_work sm d (record_bytes id name) ≡ served_work s task caller r []
        work-is honest =
            ap (λ (x : Store). entry_work x d (record_bytes id name)) same
            ∙ sym (enter-work-held (accesses old.table) (index_of_empty (file_named s0 d)) s0 d (record_bytes id name))

        wants-is : IsTrue old.disk.honest → entry_wants sm d ≡ may_want_memory s task r
        wants-is honest =
            ap (λ (x : Store). entry_wants x d) same ∙ sym (gets-held (accesses old.table) s0 (headers_to_enter (file_named s0 d)))

        module _ (new : State) (home' : new.home ≡ mid.home) (table' : new.table ≡ old.table) where
          pub entered : PutsEntry mid.home d (record_bytes id name) mid.disk new.disk → Handles task caller r (Ok reply.Done) old [] new []
          entered does =
              handled-does task caller r [] old reply.Done (entry_causes sm d) (entry_work sm d (record_bytes id name)) mid new []
              searches.reads home does enough first work-is (λ _. refl)
              (λ _ makes.
              subst (λ (x : Store). Enters s d (record_bytes id name) x)
              (sym (ap (λ (h : HomeFields). held_in new.table (store_of new.disk.image h)) home'
              ∙ ap (λ (t : AccessTable). held_in t (store_of new.disk.image mid.home)) table'))
              (enters-held (accesses old.table) s0 (store_of new.disk.image mid.home) d (record_bytes id name)
              (subst (λ (x : Store). Enters x d (record_bytes id name) (store_of new.disk.image mid.home)) same makes)))
              (λ _. refl) home'

          pub not-entered : (e : Refusal) → FailsToPut mid.home d (record_bytes id name) e mid.disk new.disk
              → (is_clean e ≡ true → new.counts ≡ mid.counts) → Handles task caller r (Err e) old [] new []
          not-entered e fails counts' =
              handled-wants task caller r [] old e (entry_causes sm d) (entry_work sm d (record_bytes id name)) (entry_wants sm d) mid new
              searches.reads home counts fails
              (among-part (causes_of s task caller r) (extend_causes s (file_named s d) 1) memory_cause e)
              (among-part (causes_of s task caller r) (extend_causes s (file_named s d) 1 ++ memory_cause) [] NoMemory refl) enough first
              work-is wants-is home' table' counts'

-- what a step of Enter makes of each file
entered-fate : (s : Store) (task : ℕ) (caller : Uic) (d : FileId) (name : List ℕ) (id : FileId) (result : Result Reply Refusal) (s' : Store)
    → Step s task caller (request.Enter d name id) [] result s' [] → (n : ℕ) → Fate s s' n
entered-fate s task caller d name id (Ok reply) s' h n = fate-enter s s' d n (record_bytes id name) h.changes
entered-fate s task caller d name id (Err e) s' h n = fate-none s s' n h.store_stays

-- so all stays open
pub stays-open-entered : {D : Type 0} {met : Ghosts D} (t : AccessTable) (old new : Files D met) (task : ℕ) (caller : Uic) (d : FileId)
    (name : List ℕ) (id : FileId) (result : Result Reply Refusal) → IsOpen t old
    → Handles task caller (request.Enter d name id) result (state_of t old) [] (state_of t new) []
    → (is_refused is_fatal result ≡ false → has_failed new ≡ false)
    → OnOk result (HasWindows t new) → StaysOpen result t new
stays-open-entered t old new task caller d name id result is handles alive windows clean = record {
  alive = alive clean;
  windows = windows-after t old new task caller (request.Enter d name id) result [] [] is handles clean windows;
  kept = λ honest.
      let was : IsTrue (disk_in old).honest = sym handles.writes.went.honest ∙ honest in
      kept-by-step t (store_of (disk_in old).image (home_in old)) (store_of (disk_in new).image (home_in new))
      (entered-fate (store_at (state_of t old)) task caller d name id result (store_at (state_of t new)) (handles.step was clean))
      (is.kept was);
}
