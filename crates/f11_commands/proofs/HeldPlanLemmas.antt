-- What tasks hold stays where a directory is made.
use Rattle.std.proofs.Common.{◌≡◌, ◌∙◌, inl, inr, ℕ, Bool, true, false, if◌then◌else◌, List, Result, Ok, Err, refl, ap}
use Rattle.f11_store.specs.Changes.{Changes, with_marked_file, without_file_at}
use Rattle.f11_store.specs.Directory.{index_of_empty, record_bytes}
use Rattle.f11_store.specs.Ident.{ident_with}
use Rattle.f11_store.specs.Step.{Step}
use Rattle.f11_store.specs.Store.{Store, file_named, is_accessed}
use Rattle.f11_store.specs.declared.callers.Uic.{Uic}
use Rattle.f11_store.specs.declared.files.FileId.{FileId}
use Rattle.f11_store.specs.declared.refusals.Refusal.{Refusal}
use Rattle.f11_store.specs.declared.refusals.Refusal.TheVariants as refusal
use Rattle.f11_store.specs.declared.requests.Reply.{Reply}
use Rattle.f11_store.specs.declared.requests.Request.{Request}
use Rattle.f11_store.specs.declared.requests.Request.TheVariants as request
use Rattle.f11_store.proofs.SlotsFirst.{gained-is-ready}
use Rattle.f11_making.specs.Asking.{Fails, Who, plain}
use Rattle.f11_making.specs.FilesPlan.{AnswerOf, Asks, AsksFile, Carried, Question, done, for_user}
use Rattle.f11_making.specs.FilesPlan.{names, names_file, names_for, one, or_undone}
use Rattle.f11_making.specs.Plan.{gives}
use Rattle.f11_making.specs.Plans.{enters, is_absent, makes_directory, makes_empty, on_absent, directory_attributes}
use Rattle.f11_making.specs.Telling.{AddsUp, IsTidy, bare, is_whole}
use Rattle.f11_making.proofs.GainedLemmas.{enters-from}
use Rattle.f11_making.proofs.PlanLemmas.{clean-if, clean-one, clean-then, goes-adds}
use Rattle.f11_making.proofs.PlansLemmas.{absent-ends, tidy-entering}
use Rattle.f11_commands.specs.Stopping.{IsUnheld}

-- what tasks hold is as it was
abbrev Keeps : Result (Unit {0}) Refusal → Store → Store → Type 0
Keeps r s t = (task lun : ℕ) → t.access task lun ≡ s.access task lun

-- a request that accesses nothing, and gives nothing up
abbrev IsApart : Request → Type 0
IsApart (request.Create protection ident attr) = Unit {0}
IsApart (request.Find dir name) = Unit {0}
IsApart (request.Enter dir name id) = Unit {0}
IsApart (request.WriteAttr id x) = Unit {0}
IsApart (request.Delete id) = Unit {0}
IsApart _ = ⊥

abbrev AsksApart : Question → Type 0
AsksApart (done r) = IsApart r
AsksApart (names r) = IsApart r
AsksApart (names_for user r) = IsApart r
AsksApart _ = ⊥

deleted-keeps : (s : Store) (k : ℕ) (b : Bool) (task lun : ℕ)
    → (if b then with_marked_file s k else without_file_at s k).access task lun ≡ s.access task lun
deleted-keeps s k true task lun = refl
deleted-keeps s k false task lun = refl

changes-keep : (r : Request) (s t : Store) (task : ℕ) (caller : Uic) (lent : List ℕ) → IsApart r → Changes s task caller r lent t
    → Keeps (Ok tt) s t
changes-keep (request.Create protection ident attr) s t task caller lent is c k l =
    let ready = gained-is-ready s c.ready 1 c.gains in
    ap (λ (x : Store). x.access k l) c.makes ∙ ap (λ a. a k l) ready.access
changes-keep (request.Find dir name) s t task caller lent is c k l = ap (λ (x : Store). x.access k l) c
changes-keep (request.Enter d name g) s t task caller lent is c k l =
    let from = enters-from (index_of_empty (file_named s d)) s t d (record_bytes g name) c in
    ap (λ a. a k l) (from.access ∙ from.is-ready.access)
changes-keep (request.WriteAttr g x) s t task caller lent is c k l = ap (λ (x : Store). x.access k l) c
changes-keep (request.Delete g) s t task caller lent is c k l =
    ap (λ (x : Store). x.access k l) c ∙ deleted-keeps s g.number (is_accessed s g) k l
changes-keep _ s t task caller lent is c k l = absurd is

step-keeps : (r : Request) (task : ℕ) (caller : Uic) (lent given : List ℕ) (result : Result Reply Refusal) (s t : Store) → IsApart r
    → Step s task caller r lent result t given → Keeps (Ok tt) s t
step-keeps r task caller lent given (Err e) s t is h k l = ap (λ (x : Store). x.access k l) h.store_stays
step-keeps r task caller lent given (Ok a) s t is h k l = changes-keep r s t task caller lent is h.changes k l

module _ (who : Who) where
  fails-keep : (by : Who) (r : Request) (is_right : Reply → Bool) (e : Refusal) (s t : Store) → IsApart r
      → Fails plain by is_right r e s t → Keeps (Ok tt) s t
  fails-keep by r is_right e s t is (inl h) = step-keeps r by.task by.caller h.0 h.1 (Err e) s t is h.2
  fails-keep by r is_right e s t is (inr h) = step-keeps r by.task by.caller h.3.0 h.3.1 (Ok h.0) s t is h.3.2

  file-keeps : (by : Who) (r : Request) (a : Result FileId Refusal) (s t : Store) → IsApart r → AsksFile plain by r a s t
      → Keeps (Ok tt) s t
  file-keeps by r (Ok id) s t is h = step-keeps r by.task by.caller h.2.0 h.2.1 (Ok h.0) s t is h.2.2
  file-keeps by r (Err e) s t is h = fails-keep by r (names_file r) e s t is h

  single-keeps : (q : Question) (a : Result (AnswerOf q) Refusal) (s t : Store) → AsksApart q → Asks plain who q a s t → Keeps (bare a) s t
  single-keeps (done r) (Ok x) s t is h = step-keeps r who.task who.caller h.0 h.2 (Ok h.1) s t is h.3
  single-keeps (done r) (Err e) s t is h = step-keeps r who.task who.caller h.0 h.1 (Err e) s t is h.2
  single-keeps (names r) a s t is h = file-keeps who r a s t is h
  single-keeps (names_for user r) a s t is h = file-keeps (for_user user who) r a s t is h
  single-keeps _ a s t is h = absurd is

  adds-keep : AddsUp plain who AsksApart Keeps
  adds-keep = record {
    none = λ s k l. refl;
    then-so = λ r s t u h g k l. g k l ∙ h k l;
    whole = λ e s t calm h. h;
    refused = λ e s t calm h. h;
    single = single-keeps;
  }

tidy-makes : (owner : Uic) (dir : FileId) (name : List ℕ) (protection : ℕ) (attr : List ℕ)
    → IsTidy AsksApart (makes_empty owner dir name protection attr)
tidy-makes owner dir name protection attr =
    clean-if AsksApart (one (names_for owner (request.Create 0 (ident_with name) attr))) (λ id.
    or_undone (request.Delete id) (enters dir name protection id))
    (clean-one AsksApart (names_for owner (request.Create 0 (ident_with name) attr)) tt) (λ id.
    tidy-entering AsksApart dir name protection id tt (λ x. tt) tt)

-- the look for a name that isn't to be there is tidy, too
tidy-directory : (owner : Uic) (master : FileId) (name : List ℕ) (protection : ℕ)
    → IsTidy AsksApart (makes_directory owner master name protection)
tidy-directory owner master name protection =
    let p = makes_empty owner master name protection directory_attributes in
    clean-then AsksApart (one (names (request.Find master name))) (on_absent p) (clean-one AsksApart (names (request.Find master name)) tt)
    (absent-ends p) by
  where
    by : (a : Result FileId Refusal) → is_whole a ≡ true
        → IsTidy AsksApart (on_absent (makes_empty owner master name protection directory_attributes) a)
    by (Ok id) calm = refl
    by (Err e) calm = rest (is_absent e)
      where
        rest : (b : Bool)
            → IsTidy AsksApart (if b then makes_empty owner master name protection directory_attributes else gives (Err e))
        rest true = tidy-makes owner master name protection directory_attributes
        rest false = calm

-- where nobody held an access before, nobody does behind it
pub directory-unheld : (who : Who) (owner : Uic) (master : FileId) (name : List ℕ) (protection : ℕ) (r : Result (Unit {0}) Refusal)
    (s t : Store) → Carried plain who (makes_directory owner master name protection) r s t → IsUnheld s → IsUnheld t
directory-unheld who owner master name protection r s t h unheld =
    by r (goes-adds plain who AsksApart Keeps (adds-keep who) (makes_directory owner master name protection) r s t
    (tidy-directory owner master name protection) h)
  where
    by : (r : Result (Unit {0}) Refusal) → Keeps (bare r) s t → IsUnheld t
    by r keeps task lun = keeps task lun ∙ unheld task lun
