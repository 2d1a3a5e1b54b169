-- An access that is taken.
use Rattle.std.proofs.Common.{◌≡◌, ℕ, ◌<◌, ◌≤◌, ◌==◌, ◌&&◌, Bool, true, false, IsTrue, [], Option, Some, None, Ok, Err, refl, sym, ◌∙◌, ap}
use Rattle.std.proofs.Common.{subst, arith, is_none, is_some, option_map, unwrap_or, if◌then◌else◌, nat_lt}
use Rattle.std.specs.Int.{bit_at}
use Rattle.std.proofs.lemmas.Bool.{lt-ltb, le-ltb}
use Rattle.f11_dev.specs.Image.{Image}
use Rattle.f11_home.specs.Home.{HomeFields}
use Rattle.f11_store.specs.Causes.{first_of, first_refusal, is_bad, is_missing, lacks_for}
use Rattle.f11_store.specs.Changes.{with_access}
use Rattle.f11_store.specs.File.{File, no_file, is_marked}
use Rattle.f11_store.specs.Store.{Store, file_of, file_named, is_held, bars}
use Rattle.f11_chain.specs.declared.windows.Window.{Window}
use Rattle.f11_store.specs.declared.callers.Uic.{Uic}
use Rattle.f11_store.specs.declared.files.Attr.{Attr}
use Rattle.f11_store.specs.declared.files.FileId.{FileId}
use Rattle.f11_store.specs.declared.files.Mode.{Mode}
use Rattle.f11_store.specs.declared.files.Mode.TheVariants as mode
use Rattle.f11_store.specs.declared.refusals.Refusal.{Refusal}
use Rattle.f11_store.specs.declared.refusals.Refusal.TheVariants.{BadArgument, LunInUse, SystemFile, NoSuchFile, Marked, NoPrivilege}
use Rattle.f11_store.specs.declared.refusals.Refusal.TheVariants.{Conflict}
use Rattle.f11_store.specs.declared.requests.Reply.TheVariants as reply
use Rattle.f11_store.specs.declared.requests.Request.{Request}
use Rattle.f11_store.specs.declared.requests.Request.TheVariants as request
use Rattle.f11_files.specs.Answers.{ReadsAtMost, FailsToRead}
use Rattle.f11_files.specs.Operations.{attr_of, file_causes}
use Rattle.f11_files.specs.image_store.StoreOf.{store_of}
use Rattle.f11_fcp.specs.Accesses.{AccessTable, Entry, access_of, with_table_entry, held_in, is_held_in, mark_there, mark_kept, HasAccessed}
use Rattle.f11_fcp.specs.Handles.{State, store_at, Handles}
use Rattle.f11_fcp.specs.Rights.{lacks_by}
use Rattle.f11_fcp.proofs.HandleLemmas.{handled-clean, handled-served}
use Rattle.f11_fcp.proofs.AccessedLemmas.{drop-false, take-true, refused-early, writes-looked}
use Rattle.f11_fcp.proofs.NamedLemmas.{found, marks-read, unread}

-- who holds an access to the file is told by the table
pub barred-same : (m : Mode) (t : AccessTable) (s : Store) (id : FileId) → is_held_in (bars m) t id ≡ is_held (bars m) (held_in t s) id
unfolding is_held_in is_held
barred-same m t s id = refl

lacks-same : (m : Mode) (caller : Uic) (f : File) → lacks_by m caller f.owner f.protection ≡ lacks_for m caller f
lacks-same mode.Read caller f = refl
lacks-same mode.Locked caller f = refl
lacks-same mode.Write caller f = refl

module _ (task lun : ℕ) (caller : Uic) (id : FileId) (m : Mode) (old : State) where
  abbrev r : Request
  r = request.Access id m lun

  abbrev s : Store
  s = store_at old

  abbrev s0 : Store
  s0 = store_of old.disk.image old.home

  pub access-bad : is_bad id ≡ true → Handles task caller r (Err BadArgument) old [] old []
  access-bad bad = refused-early task caller r [] old BadArgument refl refl (take-true (is_bad id) _ _ bad)

  module _ (good : is_bad id ≡ false) where
    pub access-in-use : (e : Entry) → old.table task lun ≡ Some e → Handles task caller r (Err LunInUse) old [] old []
    access-in-use e held =
        refused-early task caller r [] old LunInUse refl refl
        (drop-false (is_bad id) _ _ good ∙ take-true (is_some (s.access task lun)) _ _
        (ap (λ (o : Option Entry). is_some (option_map access_of o)) held))

    module _ (free : old.table task lun ≡ None) where
      unused : is_some (s.access task lun) ≡ false
      unused = ap (λ (o : Option Entry). is_some (option_map access_of o)) free

      pub access-system : id.number < 4 → Handles task caller r (Err SystemFile) old [] old []
      access-system low =
          refused-early task caller r [] old SystemFile refl refl
          (drop-false (is_bad id) _ _ good ∙ drop-false (is_some (s.access task lun)) _ _ unused
          ∙ take-true (nat_lt id.number 4) _ _ (lt-ltb id.number 4 low))

      module _ (late : 4 ≤ id.number) where
        -- the causes that a header is read for
        judged : first_refusal s task caller r
            ≡ (if is_missing s0 id then Some NoSuchFile
            else (if is_marked (file_named s0 id) then Some Marked
            else (if lacks_for m caller (file_named s0 id) then Some NoPrivilege
            else (if is_held (bars m) s id then Some Conflict else None))))
        judged =
            drop-false (is_bad id) _ _ good ∙ drop-false (is_some (s.access task lun)) _ _ unused
            ∙ drop-false (nat_lt id.number 4) _ _ (le-ltb id.number 4 late)

        pub access-unread : {failed : Bool} (e : Refusal) (mid : State) → failed ≡ false
            → FailsToRead failed (file_causes s0 id) 1 e old.disk mid.disk → mid.home ≡ old.home → mid.table ≡ old.table
            → mid.counts ≡ old.counts → Handles task caller r (Err e) old [] mid []
        access-unread e mid alive fails home table counts =
            unread task caller r old id _ e mid alive judged refl (omega arith) fails home table counts

        module _ (attr : Attr) (mid : State) (reads : ReadsAtMost 1 old.disk mid.disk 0)
            (none : IsTrue old.disk.honest → first_of (file_causes s0 id) ≡ None)
            (is : IsTrue old.disk.honest → attr ≡ attr_of (file_named s0 id)) (home : mid.home ≡ old.home)
            (counts : mid.counts ≡ old.counts)
          where
            there : IsTrue old.disk.honest → is_missing s0 id ≡ false
            there honest = found (is_missing s0 id) (none honest)

            marks : IsTrue old.disk.honest → is_marked (file_named s0 id) ≡ (bit_at attr.characteristics 15 == 1)
            marks honest = marks-read s0 id attr (is honest)

            lacking : IsTrue old.disk.honest → lacks_for m caller (file_named s0 id) ≡ lacks_by m caller attr.owner attr.protection
            lacking honest =
                sym (lacks-same m caller (file_named s0 id)) ∙ ap (λ (a : Attr). lacks_by m caller a.owner a.protection) (sym (is honest))

            pub access-marked : mid.table ≡ old.table → (bit_at attr.characteristics 15 == 1) ≡ true
                → Handles task caller r (Err Marked) old [] mid []
            access-marked table marked =
                handled-clean task caller r [] old Marked mid refl (λ v. absurd (cc)) refl
                (λ honest. judged ∙ drop-false (is_missing s0 id) _ _ (there honest) ∙ take-true (is_marked (file_named s0 id)) _ _
                (marks honest ∙ marked)) reads home table counts

            module _ (unmarked : (bit_at attr.characteristics 15 == 1) ≡ false) where
              pub access-unprivileged : mid.table ≡ old.table → lacks_by m caller attr.owner attr.protection ≡ true
                  → Handles task caller r (Err NoPrivilege) old [] mid []
              access-unprivileged table lacks =
                  handled-clean task caller r [] old NoPrivilege mid refl (λ v. absurd (cc)) refl
                  (λ honest. judged ∙ drop-false (is_missing s0 id) _ _ (there honest) ∙ drop-false (is_marked (file_named s0 id)) _ _
                  (marks honest ∙ unmarked)
                  ∙ take-true (lacks_for m caller (file_named s0 id)) _ _ (lacking honest ∙ lacks)) reads home table counts

              module _ (granted : lacks_by m caller attr.owner attr.protection ≡ false) where
                last : IsTrue old.disk.honest → first_refusal s task caller r ≡ (if is_held (bars m) s id then Some Conflict else None)
                last honest =
                    judged ∙ drop-false (is_missing s0 id) _ _ (there honest)
                    ∙ drop-false (is_marked (file_named s0 id)) _ _ (marks honest ∙ unmarked)
                    ∙ drop-false (lacks_for m caller (file_named s0 id)) _ _ (lacking honest ∙ granted)

                pub access-barred : mid.table ≡ old.table → true ≡ is_held_in (bars m) old.table id
                    → Handles task caller r (Err Conflict) old [] mid []
                access-barred table barred =
                    handled-clean task caller r [] old Conflict mid refl (λ v. absurd (cc)) refl
                    (λ honest. last honest ∙ take-true (is_held (bars m) s id) _ _ (sym (barred ∙ barred-same m old.table s0 id))) reads
                    home table counts

                pub access-taken : (w : Window)
                    → mid.table ≡ with_table_entry old.table task lun (Some (record { file = id; mode = m; marked = false; window = w }))
                    → false ≡ is_held_in (bars m) old.table id
                    → Handles task caller r (Ok reply.Done) old [] mid []
                access-taken w table clear =
                    handled-served task caller r [] old reply.Done mid []
                    (λ honest. last honest ∙ drop-false (is_held (bars m) s id) _ _ (sym (clear ∙ barred-same m old.table s0 id)))
                    (λ _. refl)
                    (λ honest. ap (λ (i : Image). held_in mid.table (store_of i mid.home)) reads.looked.image
                    ∙ ap (λ (h : HomeFields). held_in mid.table (store_of old.disk.image h)) home
                    ∙ ap (λ (t : AccessTable). held_in t s0) table
                    ∙ entered) (λ _. refl) (writes-looked task caller r [] old mid.disk reads (omega arith)) home
                  where
                    by_test : (b : Bool) (o : Option Entry)
                        → option_map access_of (if b then Some (record { file = id; mode = m; marked = false; window = w }) else o)
                        ≡ (if b then Some (record { file = id; mode = m }) else option_map access_of o)
                    by_test true o = refl
                    by_test false o = refl

                    entered : held_in (with_table_entry old.table task lun
                        (Some (record { file = id; mode = m; marked = false; window = w })))
                        s0 ≡ with_access s task lun (Some (record { file = id; mode = m }))
                    entered = λ i. record s0 { access = λ k l. by_test ((k == task) && (l == lun)) (old.table k l) i }

                pub access-kept : (t : AccessTable) (s' : Store) → s' ≡ s0 → (w : Window)
                    → t ≡ with_table_entry old.table task lun (Some (record { file = id; mode = m; marked = false; window = w }))
                    → IsTrue old.disk.honest → HasAccessed old.table s0
                    → HasAccessed t s'
                access-kept t s' same w is_t honest kept k l low small =
                    subst (λ (x : Store). mark_there x (t k l) ≡ mark_kept (t k l)) (sym same)
                    (subst (λ (u : AccessTable). mark_there s0 (u k l) ≡ mark_kept (u k l)) (sym is_t)
                    (by_test ((k == task) && (l == lun))))
                  where
                    seen : (o : Option File) → is_none o ≡ false → is_marked (unwrap_or o no_file) ≡ false
                        → option_map is_marked o ≡ Some false
                    seen None h f = absurd (cc)
                    seen (Some f) h g = ap (λ b. Some b) g

                    by_test : (b : Bool) → mark_there s0
                        (if b then Some (record { file = id; mode = m; marked = false; window = w }) else old.table k l)
                        ≡ mark_kept (if b then Some (record { file = id; mode = m; marked = false; window = w }) else old.table k l)
                    by_test true = seen (file_of s0 id) (there honest) (marks honest ∙ unmarked)
                    by_test false = kept k l low small
