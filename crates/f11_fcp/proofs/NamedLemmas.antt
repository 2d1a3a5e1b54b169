-- Requests that name a file: its header is read, and tells what stands against them.
use Rattle.std.proofs.Common.{◌≡◌, ◌≢◌, ℕ, ◌≤◌, ◌==◌, Bool, true, false, [], ◌∷◌, Option, Some, None, Err, refl, sym, ◌∙◌, ap, subst}
use Rattle.std.proofs.Common.{if◌then◌else◌}
use Rattle.std.specs.Int.{bit_at}
use Rattle.f11_home.specs.Home.{HomeFields}
use Rattle.f11_dev.specs.Image.{Image}
use Rattle.f11_store.specs.Causes.{◌⇐◌, first_of, first_refusal, is_missing}
use Rattle.f11_store.specs.Cost.{cost}
use Rattle.f11_store.specs.File.{is_marked}
use Rattle.f11_store.specs.Store.{Store, file_named}
use Rattle.f11_store.specs.declared.callers.Uic.{Uic}
use Rattle.f11_store.specs.declared.files.Attr.{Attr}
use Rattle.f11_store.specs.declared.files.FileId.{FileId}
use Rattle.f11_store.specs.declared.refusals.Refusal.{Refusal}
use Rattle.f11_store.specs.declared.refusals.Refusal.TheVariants.{NoSuchFile, VolumeFailed}
use Rattle.f11_store.specs.declared.requests.Request.{Request}
use Rattle.f11_files.specs.Answers.{ReadsAtMost, FailsToRead, is_among, is_fatal, faults_of}
use Rattle.f11_files.specs.Operations.{attr_of, file_causes}
use Rattle.f11_files.specs.image_store.StoreOf.{store_of}
use Rattle.f11_files.proofs.AnswerLemmas.{reads-within}
use Rattle.f11_fcp.specs.Handles.{State, store_at, own_causes, Handles}
use Rattle.f11_fcp.proofs.HandleLemmas.{clean-cause, handled-clean, handled-fatal}
use Rattle.f11_fcp.proofs.AccessedLemmas.{take-true, among-file, writes-looked}

-- the first cause is that there is no such file
pub missing-first : (b : Bool) → first_of ((NoSuchFile ⇐ b) ∷ []) ≡ Some NoSuchFile → b ≡ true
missing-first true h = refl
missing-first false h = absurd (cc)

-- where none is, there is one
pub found : (b : Bool) → first_of ((NoSuchFile ⇐ b) ∷ []) ≡ None → b ≡ false
found true h = absurd (cc)
found false h = refl

-- whether a file is marked stands in what was read
pub marks-read : (s : Store) (id : FileId) (attr : Attr) → attr ≡ attr_of (file_named s id)
    → is_marked (file_named s id) ≡ (bit_at attr.characteristics 15 == 1)
marks-read s id attr is = ap (λ (a : Attr). bit_at a.characteristics 15 == 1) (sym is)

module _ (task : ℕ) (caller : Uic) (r : Request) (old : State) (id : FileId) where
  abbrev s : Store
  s = store_at old

  abbrev s0 : Store
  s0 = store_of old.disk.image old.home

  -- the header wasn't read
  pub unread : {failed : Bool} (rest : Option Refusal) (e : Refusal) (mid : State) → failed ≡ false
      → first_refusal s task caller r ≡ (if is_missing s0 id then Some NoSuchFile else rest)
      → is_among (own_causes s task caller r) NoSuchFile ≡ true → 1 ≤ cost s task r
      → FailsToRead failed (file_causes s0 id) 1 e old.disk mid.disk
      → mid.home ≡ old.home → mid.table ≡ old.table → mid.counts ≡ old.counts → Handles task caller r (Err e) old [] mid []
  unread rest e mid alive judged own least fails home table counts = by_fatal (is_fatal e) refl
    where
      by_fatal : (b : Bool) → is_fatal e ≡ b → Handles task caller r (Err e) old [] mid []
      by_fatal true fatal =
          handled-fatal task caller r [] old e mid [] fatal fails.right.undamaged
          (writes-looked task caller r [] old mid.disk fails.reads least) home
      by_fatal false clean =
          let other : e ≢ VolumeFailed = λ v. absurd (let no : false ≡ true = sym alive ∙ fails.right.volume v in cc) in
          let cause = (clean-cause e clean other).0 in
          let file = among-file (is_missing s0 id) e (fails.right.among cause) in
          handled-clean task caller r [] old e mid clean other
          (subst (λ (x : Refusal). is_among (own_causes s task caller r) x ≡ true) (sym file) own)
          (λ honest. judged ∙ take-true (is_missing s0 id) _ _
          (missing-first (is_missing s0 id)
          (subst (λ (x : Refusal). first_of (file_causes s0 id) ≡ Some x) file (fails.right.cause honest cause)))
          ∙ ap (λ (x : Refusal). Some x) (sym file))
          (reads-within least (subst (λ (x : Refusal). ReadsAtMost 1 old.disk mid.disk (faults_of x)) file fails.reads)) home table counts

-- a store after a look is the one before it
pub same-behind : (old mid : State) {m : ℕ} → ReadsAtMost m old.disk mid.disk 0 → mid.home ≡ old.home
    → store_of mid.disk.image mid.home ≡ store_of old.disk.image old.home
same-behind old mid reads home =
    ap (λ (i : Image). store_of i mid.home) reads.looked.image ∙ ap (λ (h : HomeFields). store_of old.disk.image h) home
