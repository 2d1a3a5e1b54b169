-- What each request makes of the files: none that somebody accesses goes, and none gets another mark but by its deletion.
use Rattle.std.proofs.Common.{◌≡◌, ℕ, ◌==◌, Bool, true, false, List, Some, None, Result, Ok, Err, refl, sym, ◌∙◌, ◌≤◌, ap, subst}
use Rattle.std.proofs.Common.{if◌then◌else◌}
use Rattle.std.proofs.lemmas.Bool.{eqb-true}
use Rattle.std.specs.Int.{bit_at}
use Rattle.f11_store.specs.declared.callers.Uic.{Uic}
use Rattle.f11_store.specs.declared.files.FileId.{FileId}
use Rattle.f11_store.specs.declared.files.Change.{Change}
use Rattle.f11_store.specs.declared.files.Change.TheVariants as change
use Rattle.f11_store.specs.declared.refusals.Refusal.{Refusal}
use Rattle.f11_store.specs.declared.requests.Request.{Request}
use Rattle.f11_store.specs.declared.requests.Request.TheVariants as request
use Rattle.f11_store.specs.File.{File}
use Rattle.f11_store.specs.Store.{Store, least_free, free_headers, id_held, is_accessed}
use Rattle.f11_store.specs.Causes.{first_refusal, is_missing}
use Rattle.f11_store.specs.Changes.{Changes, GetsSlots, MakesFile, with_block, with_replacement, after_delete, without_file_at}
use Rattle.f11_store.specs.Changes.{with_marked_file}
use Rattle.f11_store.proofs.FileLaws.{least_free_is_free, IsFreeSlot}
use Rattle.f11_store.specs.Headroom.{slots_first}
use Rattle.f11_store.specs.SlotsFirst.{IsReady}
use Rattle.f11_store.proofs.SlotsFirst.{gained-is-ready}
use Rattle.f11_store.specs.Step.{Step}
use Rattle.f11_store.specs.declared.requests.Reply.{Reply}
use Rattle.f11_store.specs.Accesses.{FreeIsEmpty}
use Rattle.f11_store.proofs.FateLaws.{Fate, Keeps, kept, changed, fate-after, fate-grows-index, gained-keeps, stays, new, fate-none}
use Rattle.f11_store.proofs.FateLaws.{fate-change, fate-grows, fate-cut, fate-gone, fate-given-up, fate-laid}

-- a file that is made
fate-made : (s : Store) (slot n : ℕ) (f : File) (s' : Store) → s.file slot ≡ None → s'.file n ≡ (if n == slot then Some f else s.file n)
    → Fate s s' n
fate-made s slot n f s' empty is = by_test (n == slot) refl is
  where
    by_test : (b : Bool) → (n == slot) ≡ b → s'.file n ≡ (if b then Some f else s.file n) → Fate s s' n
    by_test true e h = new (ap s.file (eqb-true n slot e) ∙ empty)
    by_test false e h = stays h

pub replacement-sequence : (c : Change) (f : File) → (with_replacement c f).sequence ≡ f.sequence
replacement-sequence (change.Attr a) f = refl
replacement-sequence (change.Ident i) f = refl
replacement-sequence (change.Protect p) f = refl

replacement-characteristics : (c : Change) (f : File) → (with_replacement c f).characteristics ≡ f.characteristics
replacement-characteristics (change.Attr a) f = refl
replacement-characteristics (change.Ident i) f = refl
replacement-characteristics (change.Protect p) f = refl

-- what is known of the requests that are looked at here
abbrev pub Simple : Store → Request → Type 0
Simple s (request.Delete id) = (is_missing s id ≡ false) × (is_accessed s id ≡ false)
Simple s request.Release = ⊥
Simple s (request.Enter d name id) = ⊥
Simple s _ = Unit {0}

-- it is so once the index file grew
empty-stays : (s t : Store) (n : ℕ) → IsReady s n t → ((m : ℕ) → Keeps s t m) → FreeIsEmpty s → FreeIsEmpty t
empty-stays s t n ready keeps empty m free = by_kept (keeps m)
  where
    unused : s.in_use m ≡ false
    unused = sym (ap (λ (used : ℕ → Bool). used m) ready.in_use) ∙ free

    by_kept : Keeps s t m → t.file m ≡ None
    by_kept (kept e) = e ∙ empty m unused
    by_kept (changed f g was now alike marked) = absurd (let no : Some f ≡ None = sym was ∙ empty m unused in cc)

-- what is known of a store in which a file is to be made
pub record MayBeMade (s t : Store) : Type 0 where
  pub keeps : (m : ℕ) → Keeps s t m
  pub empty : FreeIsEmpty t
  pub free : IsFreeSlot t (least_free t)

pub may-be-made : (s t : Store) → GetsSlots (slots_first s 1) s t → 1 ≤ free_headers t → FreeIsEmpty s → MayBeMade s t
may-be-made s t gains enough empty = record {
  keeps = λ m. gained-keeps s t _ m gains;
  empty = empty-stays s t _ (gained-is-ready s t 1 gains) (λ m. gained-keeps s t _ m gains) empty;
  free = least_free_is_free t enough;
}

pub fate-create : (s s' : Store) (caller : Uic) (word : ℕ) (ident attr : List ℕ) (n : ℕ) → FreeIsEmpty s
    → MakesFile s caller word ident attr s' → Fate s s' n
fate-create s s' caller word ident attr n empty h =
    let may = may-be-made s h.ready h.gains h.enough empty in
    fate-after s h.ready s' n (may.keeps n)
    (fate-made h.ready (least_free h.ready) n _ s' (may.empty (least_free h.ready) may.free.unused) (ap (λ (x : Store). x.file n) h.makes))

pub fate-delete : (s s' : Store) (id : FileId) (n : ℕ) → is_missing s id ≡ false → is_accessed s id ≡ false → s' ≡ after_delete s id
    → Fate s s' n
fate-delete s s' id n there nobody is =
    subst (λ (x : Store). Fate s x n) (sym (is ∙ ap (λ b. if b then with_marked_file s id.number else without_file_at s id.number) nobody))
    (fate-gone s id n there nobody)

-- where a file is made, no file is in a slot that isn't in use
abbrev pub IsEmptyFor : Store → Request → Type 0
IsEmptyFor s (request.Create word ident attr) = FreeIsEmpty s
IsEmptyFor s _ = Unit {0}

-- a request that is served, but for those of which more is said
pub fate-served : (s : Store) (task : ℕ) (caller : Uic) (r : Request) (block : List ℕ) (s' : Store) (n : ℕ) → IsEmptyFor s r
    → Changes s task caller r block s' → Simple s r → Fate s s' n
fate-served s task caller (request.Create word ident attr) block s' n empty h k = fate-create s s' caller word ident attr n empty h
fate-served s task caller (request.Extend lun q) block s' n empty h k =
    fate-after s h.ready s' n (gained-keeps s h.ready _ n h.gains) (fate-grows h.ready s' (id_held s task lun).number q n _ h.makes)
fate-served s task caller (request.Contiguous lun q) block s' n empty h k = fate-laid s s' (id_held s task lun).number q n h
fate-served s task caller (request.Truncate lun to) block s' n empty h k = fate-cut s s' (id_held s task lun).number to n h
fate-served s task caller (request.Delete id) block s' n empty h k = fate-delete s s' id n k.0 k.1 h
fate-served s task caller (request.GrowIndex q) block s' n empty h k = fate-grows-index s s' q n h
fate-served s task caller (request.Access id m lun) block s' n empty h k = stays (ap (λ (x : Store). x.file n) h)
fate-served s task caller (request.Deaccess lun) block s' n empty h k =
    subst (λ (x : Store). Fate s x n) (sym h) (fate-given-up s task lun n (s.access task lun))
fate-served s task caller request.Release block s' n empty h k = absurd k
fate-served s task caller (request.ReadBlock lun vbn) block s' n empty h k = fate-none s s' n h
fate-served s task caller (request.WriteBlock lun vbn) block s' n empty h k =
    fate-change s s' (id_held s task lun).number n (with_block vbn block) (λ f. refl) (λ f. refl) h
fate-served s task caller (request.Find d name) block s' n empty h k = fate-none s s' n h
fate-served s task caller (request.Enter d name id) block s' n empty h k = absurd k
fate-served s task caller (request.Remove d name) block s' n empty h k = fate-change s s' d.number n _ (λ f. refl) (λ f. refl) h
fate-served s task caller (request.ReadAttr id) block s' n empty h k = fate-none s s' n h
fate-served s task caller (request.WriteAttr id c) block s' n empty h k =
    fate-change s s' id.number n (with_replacement c) (replacement-sequence c)
    (λ f. ap (λ c. bit_at c 15 == 1) (replacement-characteristics c f)) h
fate-served s task caller request.Space block s' n empty h k = fate-none s s' n h

-- and so much is asked of a request that is served alone
abbrev pub SimpleIf : Result Reply Refusal → Store → Request → Type 0
SimpleIf (Ok a) s r = Simple s r
SimpleIf (Err e) s r = Unit {0}

-- a step
pub fate-step : (s : Store) (task : ℕ) (caller : Uic) (r : Request) (block : List ℕ) (result : Result Reply Refusal) (s' : Store)
    (block' : List ℕ) → FreeIsEmpty s → SimpleIf result s r
    → Step s task caller r block result s' block' → (n : ℕ) → Fate s s' n
fate-step s task caller r block (Ok a) s' block' empty simple h n =
    fate-served s task caller r block s' n (at r h.no_cause) h.changes simple
  where
    at : (r : Request) → first_refusal s task caller r ≡ None → IsEmptyFor s r
    at (request.Create word ident attr) none = empty
    at _ none = tt
fate-step s task caller r block (Err e) s' block' empty simple h n = fate-none s s' n h.store_stays
