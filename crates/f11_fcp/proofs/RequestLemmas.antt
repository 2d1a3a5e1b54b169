-- Each request, from what the call on files answered.
use Rattle.std.proofs.Common.{◌≡◌, ℕ, ◌+◌, ◌≤◌, Bool, true, false, IsTrue, List, [], Ok, Err, refl, sym, ◌∙◌, ap, subst, arith}
use Rattle.f11_store.specs.Causes.{Cause, create_causes, first_of, first_refusal}
use Rattle.f11_store.specs.Changes.{MakesFile}
use Rattle.f11_store.specs.Cost.{cost, slots_cost}
use Rattle.f11_dev.specs.Disk.{Disk}
use Rattle.f11_home.specs.Home.{HomeFields}
use Rattle.f11_store.specs.Headroom.{slots_first}
use Rattle.f11_store.specs.Lags.{Work, make_work, served_work}
use Rattle.f11_store.specs.Step.{gets_slots}
use Rattle.f11_store.specs.Store.{Store, free_headers}
use Rattle.f11_store.specs.declared.callers.Uic.{Uic}
use Rattle.f11_store.specs.declared.files.FileId.{FileId}
use Rattle.f11_store.specs.declared.refusals.Refusal.{Refusal}
use Rattle.f11_store.specs.declared.requests.Reply.TheVariants as reply
use Rattle.f11_store.specs.declared.requests.Request.TheVariants as request
use Rattle.f11_files.specs.Answers.{is_clean, FailsToWrite}
use Rattle.f11_files.specs.Create.{Creates, FailsToCreate}
use Rattle.f11_files.specs.Operations.{IsSpaceOf}
use Rattle.f11_files.proofs.Overall.{creates-is}
use Rattle.f11_files.specs.image_store.StoreOf.{store_of}
use Rattle.f11_fcp.specs.Accesses.{AccessTable, held_in, accesses}
use Rattle.f11_fcp.specs.Handles.{State, store_at, memory_cause, WhileServing, Handles}
use Rattle.f11_store.proofs.HeldLaws.{create-causes-held, free-held, make-work-held, makes-held}
use Rattle.f11_fcp.proofs.HandleLemmas.{among-part, handled-served, handled-does, handled-wants, reads-none, wants-still, writes-none}
use Rattle.f11_fcp.proofs.SlotsLemmas.{gets-held, next-held, slots-cost-held}

-- a call on files that hadn't failed
pub still : {failed : Bool} {causes : List Cause} {n : ℕ} {work : Work} {home : HomeFields} {e : Refusal} {old new : Disk} → failed ≡ false
    → FailsToWrite failed causes n work home e old new
    → FailsToWrite false causes n work home e old new
still {causes = causes} {n = n} {work = work} {home = home} {e = e} {old = old} {new = new} alive fails =
    subst (λ (b : Bool). FailsToWrite b causes n work home e old new) alive fails

-- Space
pub space-told : (task : ℕ) (caller : Uic) (old : State) (free headers slots : ℕ)
    → (IsTrue old.disk.honest → IsSpaceOf (store_of old.disk.image old.home) free headers slots)
    → Handles task caller request.Space (Ok (reply.Space free headers slots)) old [] old []
space-told task caller old free headers slots is =
    handled-served task caller request.Space [] old (reply.Space free headers slots) old [] (λ _. refl)
    (λ honest. let k = is honest in
    ap (λ (x : ℕ). reply.Space x headers slots) k.blocks_are
    ∙ ap (λ (x : ℕ). reply.Space (store_of old.disk.image old.home).free x slots)
    (k.headers_are ∙ sym (free-held (accesses old.table) (store_of old.disk.image old.home)))
    ∙ ap (λ (x : ℕ). reply.Space (store_of old.disk.image old.home).free (free_headers (store_at old)) x) k.slots_are)
    (λ _. refl) (λ _. refl) (writes-none (WhileServing task caller request.Space [] old) old.disk 0) refl

-- Create
module _ (task : ℕ) (caller : Uic) (word : ℕ) (ident attr : List ℕ) where
  create-first : (t : AccessTable) (s : Store)
      → first_of (create_causes s) ≡ first_refusal (held_in t s) task caller (request.Create word ident attr)
  create-first t s = ap first_of (sym (create-causes-held (accesses t) s))

  create-work : (t : AccessTable) (s : Store)
      → make_work s caller word ident attr ≡ served_work (held_in t s) task caller (request.Create word ident attr) []
  create-work t s = sym (make-work-held (accesses t) s caller word ident attr)

  create-fits : (t : AccessTable) (s : Store) → 0 + (slots_cost s 1 + 3) ≤ cost (held_in t s) task (request.Create word ident attr)
  create-fits t s = let same = slots-cost-held (accesses t) s 1 in omega (arith, same)

  pub created : (old new : State) (id : FileId) → Creates old.home caller word ident attr id old.disk new.disk → new.home ≡ old.home
      → new.table ≡ old.table
      → Handles task caller (request.Create word ident attr) (Ok (reply.Created id)) old [] new []
  created old new id creates home table =
      let s0 = store_of old.disk.image old.home in
      let overall = creates-is old.home caller word ident attr id old.disk new.disk creates in
      handled-does task caller (request.Create word ident attr) [] old (reply.Created id) (create_causes s0)
      (make_work s0 caller word ident attr) old new []
      (reads-none old.disk) refl overall.does (λ _. create-fits old.table s0) (λ _. create-first old.table s0)
      (λ _. create-work old.table s0)
      (λ honest. ap (λ (i : FileId). reply.Created i) (overall.id honest ∙ sym (next-held (accesses old.table) s0)))
      (λ honest makes.
      subst (λ (x : Store). MakesFile (store_at old) caller word ident attr x)
      (sym (ap (λ (h : HomeFields). held_in new.table (store_of new.disk.image h)) home
      ∙ ap (λ (t : AccessTable). held_in t (store_of new.disk.image old.home)) table))
      (makes-held (accesses old.table) s0 (store_of new.disk.image old.home) caller word ident attr makes))
      (λ _. refl) home

  pub not-created : (failed : Bool) → failed ≡ false → (old new : State) (e : Refusal)
      → FailsToCreate failed old.home caller word ident attr e old.disk new.disk → new.home ≡ old.home → new.table ≡ old.table
      → (is_clean e ≡ true → new.counts ≡ old.counts) → Handles task caller (request.Create word ident attr) (Err e) old [] new []
  not-created failed alive old new e fails home table counts =
      let s0 = store_of old.disk.image old.home in
      handled-wants task caller (request.Create word ident attr) [] old e (create_causes s0) (make_work s0 caller word ident attr)
      (gets_slots (slots_first s0 1)) old new
      (reads-none old.disk) refl refl (wants-still alive fails) (among-part [] (create_causes s0) memory_cause e) refl
      (λ _. create-fits old.table s0)
      (λ _. create-first old.table s0) (λ _. create-work old.table s0)
      (λ _. sym (gets-held (accesses old.table) s0 1)) home table counts
