-- A task gives up what it holds, a lun after another.
use Rattle.std.proofs.Common.{◌≡◌, ℕ, ◌+◌, ◌<◌, ◌≤◌, ◌==◌, true, false, IsTrue, [], Option, Some, None, Result, Ok, Err, refl, sym, ◌∙◌, ap}
use Rattle.std.proofs.Common.{subst, arith, is_none, option_map}
use Rattle.f11_dev.specs.Image.{Image}
use Rattle.f11_dev.proofs.WentLemmas.{went_more, went_weaker}
use Rattle.f11_home.specs.Home.{HomeFields}
use Rattle.f11_files.specs.volume.Sound.{HasSoundVolume}
use Rattle.f11_store.specs.Causes.{first_refusal, holds_none}
use Rattle.f11_store.specs.Changes.{after_deaccess, after_giving_up}
use Rattle.f11_store.specs.Cost.{deaccess_cost}
use Rattle.f11_store.specs.Lags.{Work, LagsBy, deaccess_work, work_if}
use Rattle.f11_store.specs.Refusal.{refusal_number}
use Rattle.f11_store.specs.Release.{released, released_cost}
use Rattle.f11_store.specs.Store.{Store}
use Rattle.f11_store.specs.declared.callers.Uic.{Uic}
use Rattle.f11_store.specs.declared.refusals.Refusal.{Refusal}
use Rattle.f11_store.specs.declared.requests.Reply.{Reply}
use Rattle.f11_store.specs.declared.requests.Reply.TheVariants as reply
use Rattle.f11_store.specs.declared.requests.Request.TheVariants as request
use Rattle.f11_store.proofs.ReleaseLaws.{release_lags, release_goes_on, release_cost_goes_on, release_fits}
use Rattle.f11_files.specs.Answers.{WritesAtMost, is_fatal}
use Rattle.f11_files.specs.image_store.StoreOf.{store_of}
use Rattle.f11_files.proofs.WriteLemmas.{writes-within}
use Rattle.f11_fcp.specs.Accesses.{Entry, access_of}
use Rattle.f11_fcp.specs.Handles.{State, store_at, WhileServing, faults_in, Handles}
use Rattle.f11_fcp.proofs.AccessedLemmas.{drop-false}
use Rattle.f11_fcp.proofs.HandleLemmas.{handled-fatal, handled-served, writes-none}

-- the first luns of a task, so many, were given up
pub record Released (task : ℕ) (caller : Uic) (old now : State) (k : ℕ) : Type 0 where
  pub store : IsTrue old.disk.honest → store_at now ≡ released (store_at old) task k
  pub writes : WritesAtMost (WhileServing task caller request.Release [] old) (released_cost (store_at old) task k) old.disk now.disk 0
  pub home : now.home ≡ old.home

module _ (task : ℕ) (caller : Uic) (old : State) where
  abbrev s : Store
  s = store_at old

  abbrev P : Image → Type 0
  P = WhileServing task caller request.Release [] old

  pub released-none : Released task caller old old 0
  released-none = record { store = λ _. refl; writes = writes-none P old.disk (released_cost s task 0); home = refl }

  module _ (now : State) (k : ℕ) (low : k < 4) (so : Released task caller old now k) where
    -- what the task holds by the lun, in the store so far
    holds : IsTrue old.disk.honest → (released s task k).access task k ≡ option_map access_of (now.table task k)
    holds honest = ap (λ (x : Store). x.access task k) (sym (so.store honest))

    -- the lun holds nothing
    pub released-skips : now.table task k ≡ None → Released task caller old now (k + 1)
    released-skips none = record {
      store = λ honest.
          so.store honest
          ∙ sym (release_goes_on s task k ∙ ap (after_giving_up (released s task k) task k)
          (holds honest ∙ ap (λ (o : Option Entry). option_map access_of o) none));
      writes = writes-within (let more = release_cost_goes_on s task k in omega (arith, more)) so.writes;
      home = so.home;
    }

    module _ (e : Entry) (held : now.table task k ≡ Some e) (next : State) where
      none-held : first_refusal (store_at now) task caller (request.Deaccess k) ≡ None
      none-held = drop-false (holds_none (store_at now) task k) _ _ (ap (λ (o : Option Entry). is_none (option_map access_of o)) held)

      -- an image that stands meanwhile lags the store before all luns
      under-way : (image : Image) → WhileServing task caller (request.Deaccess k) [] now image → P image
      under-way image stands honest =
          let u = stands (so.writes.went.honest ∙ honest) in
          let t : Store = store_of image old.home in
          record {
            sound = subst (λ (h : HomeFields). HasSoundVolume image h) so.home u.sound;
            lags = release_lags t s task caller [] k low
                (subst (λ (x : Store). LagsBy (deaccess_work x task k) t x) (so.store honest)
                (subst (λ (w : Work). LagsBy w t (store_at now)) (ap (λ o. work_if o (deaccess_work (store_at now) task k)) none-held)
                (subst (λ (h : HomeFields).
                LagsBy (work_if (first_refusal (store_at now) task caller (request.Deaccess k)) (deaccess_work (store_at now) task k))
                (store_of image h) (store_at now)) so.home u.lags)));
          }

      writes-more : (result : Result Reply Refusal) → Handles task caller (request.Deaccess k) result now [] next []
          → WritesAtMost P (released_cost s task (k + 1)) old.disk next.disk (faults_in result)
      writes-more result handles = record {
        transfers = so.writes.transfers + handles.writes.transfers;
        went = went_more P so.writes.went
            (went_weaker (WhileServing task caller (request.Deaccess k) [] now) P under-way handles.writes.went);
        few = λ honest.
            let one = so.writes.few honest in
            let two : handles.writes.transfers ≤ deaccess_cost (released s task k) task k =
            subst (λ (x : Store). handles.writes.transfers ≤ deaccess_cost x task k) (so.store honest)
            (handles.writes.few (so.writes.went.honest ∙ honest)) in
            let more = release_cost_goes_on s task k in
            omega (arith, one, two, more);
      }

      -- it was given up
      pub released-more : (a : Reply) → Handles task caller (request.Deaccess k) (Ok a) now [] next []
          → Released task caller old next (k + 1)
      released-more a handles = record {
        store = λ honest.
            (handles.step (so.writes.went.honest ∙ honest) refl).changes ∙ ap (λ (x : Store). after_deaccess x task k) (so.store honest)
            ∙ sym (release_goes_on s task k);
        writes = writes-more (Ok a) handles;
        home = handles.home ∙ so.home;
      }

      -- or the volume failed
      pub released-fails : (er : Refusal) → is_fatal er ≡ true → Handles task caller (request.Deaccess k) (Err er) now [] next []
          → Handles task caller request.Release (Err er) old [] next []
      released-fails er fatal handles =
          handled-fatal task caller request.Release [] old er next [] fatal
          (λ honest is. absurd (let no : true ≡ false = ap (λ (x : Refusal). refusal_number x == 20) (sym is)
          ∙ handles.undamaged (so.writes.went.honest ∙ honest) in cc))
          (writes-within (release_fits s task (k + 1) (omega (arith, low))) (writes-more (Err er) handles)) (handles.home ∙ so.home)

  -- all were given up
  pub released-all : (now : State) → Released task caller old now 4 → Handles task caller request.Release (Ok reply.Done) old [] now []
  released-all now so =
      handled-served task caller request.Release [] old reply.Done now [] (λ _. refl) (λ _. refl) so.store (λ _. refl)
      (writes-within (release_fits s task 4 (omega arith)) so.writes) so.home
