-- What a file's header says is read, and changed.
use Rattle.std.proofs.Common.{◌∷◌, ◌≡◌, ℕ, ◌<◌, ◌≤◌, ◌==◌, Bool, true, false, IsTrue, [], Some, None, Ok, Err, refl, sym, ◌∙◌, ap, arith}
use Rattle.std.proofs.Common.{if◌then◌else◌, nat_lt}
use Rattle.std.specs.Int.{bit_at}
use Rattle.std.proofs.lemmas.Bool.{lt-ltb, le-ltb}
use Rattle.f11_home.specs.Home.{HomeFields}
use Rattle.f11_store.specs.Causes.{◌⇐◌, first_of, first_refusal, is_bad, is_missing, lacks_change}
use Rattle.f11_store.specs.Changes.{with_change, with_replacement}
use Rattle.f11_store.specs.File.{File, is_marked}
use Rattle.f11_store.specs.Lags.{one_part, file_changes}
use Rattle.f11_store.specs.Store.{Store, file_named}
use Rattle.f11_store.specs.declared.callers.Uic.{Uic}
use Rattle.f11_store.specs.declared.files.Attr.{Attr}
use Rattle.f11_store.specs.declared.files.Change.{Change}
use Rattle.f11_store.specs.declared.files.Change.TheVariants as change
use Rattle.f11_store.specs.declared.files.FileId.{FileId}
use Rattle.f11_store.specs.declared.refusals.Refusal.{Refusal}
use Rattle.f11_store.specs.declared.refusals.Refusal.TheVariants.{BadArgument, SystemFile, NoSuchFile, Marked, NoPrivilege}
use Rattle.f11_store.specs.declared.requests.Reply.TheVariants as reply
use Rattle.f11_store.specs.declared.requests.Request.{Request}
use Rattle.f11_store.specs.declared.requests.Request.TheVariants as request
use Rattle.f11_files.specs.Answers.{ReadsAtMost, FailsToRead, is_clean}
use Rattle.f11_files.specs.Changing.Fields.{Alters, FailsToAlter}
use Rattle.f11_files.specs.Operations.{attr_of, file_causes}
use Rattle.f11_files.specs.image_store.StoreOf.{store_of}
use Rattle.f11_files.proofs.AnswerLemmas.{reads-within}
use Rattle.f11_fcp.specs.Accesses.{AccessTable, held_in}
use Rattle.f11_fcp.specs.Handles.{State, store_at, Handles}
use Rattle.f11_fcp.specs.Rights.{lacks_change_by}
use Rattle.f11_fcp.proofs.AccessedLemmas.{drop-false, take-true, refused-early, writes-looked}
use Rattle.f11_fcp.proofs.HandleLemmas.{among-part, handled-clean, handled-served, handled-does, handled-refused, same-store}
use Rattle.f11_fcp.proofs.NamedLemmas.{found, marks-read, unread, same-behind}
use Rattle.f11_fcp.proofs.RequestLemmas.{still}

lacks-same : (c : Change) (caller : Uic) (f : File) → lacks_change_by c caller f.owner f.protection ≡ lacks_change c caller f
lacks-same (change.Attr a) caller f = refl
lacks-same (change.Ident i) caller f = refl
lacks-same (change.Protect p) caller f = refl

-- ReadAttr
module _ (task : ℕ) (caller : Uic) (id : FileId) (old : State) where
  abbrev s : Store
  s = store_at old

  abbrev s0 : Store
  s0 = store_of old.disk.image old.home

  pub attr-bad : is_bad id ≡ true → Handles task caller (request.ReadAttr id) (Err BadArgument) old [] old []
  attr-bad bad = refused-early task caller (request.ReadAttr id) [] old BadArgument refl refl (take-true (is_bad id) _ _ bad)

  module _ (good : is_bad id ≡ false) where
    told-judged : first_refusal s task caller (request.ReadAttr id) ≡ (if is_missing s0 id then Some NoSuchFile else None)
    told-judged = drop-false (is_bad id) _ _ good

    pub attr-unread : {failed : Bool} (e : Refusal) (mid : State) → failed ≡ false
        → FailsToRead failed (file_causes s0 id) 1 e old.disk mid.disk → mid.home ≡ old.home → mid.table ≡ old.table
        → mid.counts ≡ old.counts → Handles task caller (request.ReadAttr id) (Err e) old [] mid []
    attr-unread e mid alive fails home table counts =
        unread task caller (request.ReadAttr id) old id None e mid alive told-judged refl (omega arith) fails home table counts

    pub attr-told : (attr : Attr) (mid : State) → ReadsAtMost 1 old.disk mid.disk 0
        → (IsTrue old.disk.honest → first_of (file_causes s0 id) ≡ None)
        → (IsTrue old.disk.honest → attr ≡ attr_of (file_named s0 id)) → mid.home ≡ old.home → mid.table ≡ old.table
        → Handles task caller (request.ReadAttr id) (Ok (reply.Attr attr)) old [] mid []
    attr-told attr mid reads none is home table =
        handled-served task caller (request.ReadAttr id) [] old (reply.Attr attr) mid []
        (λ honest. told-judged ∙ drop-false (is_missing s0 id) _ _ (found (is_missing s0 id) (none honest)))
        (λ honest. ap (λ (a : Attr). reply.Attr a) (is honest))
        (λ _. same-store old mid reads.looked.image home table) (λ _. refl)
        (writes-looked task caller (request.ReadAttr id) [] old mid.disk reads (omega arith)) home

-- WriteAttr
module _ (task : ℕ) (caller : Uic) (id : FileId) (c : Change) (old : State) where
  abbrev r : Request
  r = request.WriteAttr id c

  abbrev u : Store
  u = store_at old

  abbrev u0 : Store
  u0 = store_of old.disk.image old.home

  pub change-bad : is_bad id ≡ true → Handles task caller r (Err BadArgument) old [] old []
  change-bad bad = refused-early task caller r [] old BadArgument refl refl (take-true (is_bad id) _ _ bad)

  module _ (good : is_bad id ≡ false) where
    pub change-system : id.number < 4 → Handles task caller r (Err SystemFile) old [] old []
    change-system low =
        refused-early task caller r [] old SystemFile refl refl
        (drop-false (is_bad id) _ _ good ∙ take-true (nat_lt id.number 4) _ _ (lt-ltb id.number 4 low))

    module _ (late : 4 ≤ id.number) where
      judged : first_refusal u task caller r
          ≡ (if is_missing u0 id then Some NoSuchFile
          else (if is_marked (file_named u0 id) then Some Marked
          else (if lacks_change c caller (file_named u0 id) then Some NoPrivilege else None)))
      judged = drop-false (is_bad id) _ _ good ∙ drop-false (nat_lt id.number 4) _ _ (le-ltb id.number 4 late)

      pub change-unread : {failed : Bool} (e : Refusal) (mid : State) → failed ≡ false
          → FailsToRead failed (file_causes u0 id) 1 e old.disk mid.disk → mid.home ≡ old.home → mid.table ≡ old.table
          → mid.counts ≡ old.counts → Handles task caller r (Err e) old [] mid []
      change-unread e mid alive fails home table counts =
          unread task caller r old id _ e mid alive judged refl (omega arith) fails home table counts

      module _ (attr : Attr) (mid : State) (reads : ReadsAtMost 1 old.disk mid.disk 0)
          (none : IsTrue old.disk.honest → first_of (file_causes u0 id) ≡ None)
          (is : IsTrue old.disk.honest → attr ≡ attr_of (file_named u0 id)) (home : mid.home ≡ old.home) (counts : mid.counts ≡ old.counts)
          (table : mid.table ≡ old.table)
        where
          there : IsTrue old.disk.honest → is_missing u0 id ≡ false
          there honest = found (is_missing u0 id) (none honest)

          marks : IsTrue old.disk.honest → is_marked (file_named u0 id) ≡ (bit_at attr.characteristics 15 == 1)
          marks honest = marks-read u0 id attr (is honest)

          lacking : IsTrue old.disk.honest → lacks_change c caller (file_named u0 id) ≡ lacks_change_by c caller attr.owner attr.protection
          lacking honest =
              sym (lacks-same c caller (file_named u0 id))
              ∙ ap (λ (a : Attr). lacks_change_by c caller a.owner a.protection) (sym (is honest))

          pub change-marked : (bit_at attr.characteristics 15 == 1) ≡ true → Handles task caller r (Err Marked) old [] mid []
          change-marked marked =
              handled-clean task caller r [] old Marked mid refl (λ v. absurd (cc)) refl
              (λ honest. judged ∙ drop-false (is_missing u0 id) _ _ (there honest) ∙ take-true (is_marked (file_named u0 id)) _ _
              (marks honest ∙ marked)) (reads-within (omega arith) reads) home table counts

          module _ (unmarked : (bit_at attr.characteristics 15 == 1) ≡ false) where
            pub change-unprivileged : lacks_change_by c caller attr.owner attr.protection ≡ true
                → Handles task caller r (Err NoPrivilege) old [] mid []
            change-unprivileged lacks =
                handled-clean task caller r [] old NoPrivilege mid refl (λ v. absurd (cc)) refl
                (λ honest. judged ∙ drop-false (is_missing u0 id) _ _ (there honest) ∙ drop-false (is_marked (file_named u0 id)) _ _
                (marks honest ∙ unmarked)
                ∙ take-true (lacks_change c caller (file_named u0 id)) _ _ (lacking honest ∙ lacks)) (reads-within (omega arith) reads) home
                table counts

            module _ (granted : lacks_change_by c caller attr.owner attr.protection ≡ false) (new : State) (home' : new.home ≡ mid.home)
                (table' : new.table ≡ old.table) where
              abbrev um : Store
              um = store_of mid.disk.image mid.home

              same : um ≡ u0
              same = same-behind old mid reads home

              none-stands : IsTrue old.disk.honest → first_refusal u task caller r ≡ None
              none-stands honest =
                  judged ∙ drop-false (is_missing u0 id) _ _ (there honest)
                  ∙ drop-false (is_marked (file_named u0 id)) _ _ (marks honest ∙ unmarked)
                  ∙ drop-false (lacks_change c caller (file_named u0 id)) _ _ (lacking honest ∙ granted)

              first : IsTrue old.disk.honest → first_of (file_causes um id) ≡ first_refusal u task caller r
              first honest =
                  drop-false (is_missing um id) _ _ (ap (λ (x : Store). is_missing x id) same ∙ there honest) ∙ sym (none-stands honest)

              pub changed : Alters (with_replacement c) mid.home id mid.disk new.disk → Handles task caller r (Ok reply.Done) old [] new []
              changed does =
                  handled-does task caller r [] old reply.Done (file_causes um id)
                  (one_part id.number (file_changes id.number (with_replacement c))) mid new [] reads home does
                  (λ _. omega arith) first (λ _. refl) (λ _. refl)
                  (λ _ makes. ap (λ (h : HomeFields). held_in new.table (store_of new.disk.image h)) home'
                  ∙ ap (λ (t : AccessTable). held_in t (store_of new.disk.image mid.home)) table'
                  ∙ ap (held_in old.table) (makes ∙ ap (λ (x : Store). with_change x id.number (with_replacement c)) same))
                  (λ _. refl) home'

              pub not-changed : {failed : Bool} (e : Refusal) → failed ≡ false
                  → FailsToAlter failed (with_replacement c) mid.home id e mid.disk new.disk → (is_clean e ≡ true → new.counts ≡ mid.counts)
                  → Handles task caller r (Err e) old [] new []
              not-changed e alive fails counts' =
                  handled-refused task caller r [] old e (file_causes um id)
                  (one_part id.number (file_changes id.number (with_replacement c))) mid new [] reads home counts
                  (still alive fails)
                  (among-part ((BadArgument ⇐ true) ∷ (SystemFile ⇐ true) ∷ []) (file_causes um id)
                  ((Marked ⇐ true) ∷ (NoPrivilege ⇐ true) ∷ []) e)
                  (λ _. omega arith) first (λ _. refl) home' table' counts'
                  (λ _. refl)
