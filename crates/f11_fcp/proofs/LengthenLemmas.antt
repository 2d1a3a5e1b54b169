-- A file that is accessed gets more blocks, at its end or in one run: what is judged first, and each request behind that.
use Rattle.std.proofs.Common.{◌≡◌, ◌≢◌, ◌⊎◌, inl, inr, ℕ, ◌+◌, ◌-◌, ◌≤◌, ◌==◌, Bool, true, false, not, IsTrue, List, [], ◌∷◌, ◌++◌, Some}
use Rattle.std.proofs.Common.{None, Ok, Err, refl, sym, ◌∙◌, ap, subst, arith, if◌then◌else◌}
use Rattle.std.proofs.lemmas.Bool.{eq-eqb, ne_eqb}
use Rattle.f11_dev.specs.Disk.{Disk}
use Rattle.f11_home.specs.Home.{HomeFields}
use Rattle.f11_store.specs.Causes.{Cause, ◌⇐◌, causes_of, first_of, first_refusal, extend_causes, contiguous_causes, is_missing}
use Rattle.f11_store.specs.Causes.{is_no_write}
use Rattle.f11_store.specs.Causes.{is_no_writer, cannot_write}
use Rattle.f11_store.specs.Changes.{LaysOut, Lengthens}
use Rattle.f11_store.specs.Cost.{cost, contiguous_cost, lengthen_cost}
use Rattle.f11_store.specs.File.{File, length_of, need}
use Rattle.f11_store.specs.Headroom.{slots_first}
use Rattle.f11_store.specs.Lags.{contiguous_work, lengthen_work, served_work}
use Rattle.f11_store.specs.Rights.{may}
use Rattle.f11_store.specs.Step.{gets_slots, may_want_memory}
use Rattle.f11_store.specs.Store.{Store, id_held, file_held, file_named}
use Rattle.f11_store.specs.declared.callers.Uic.{Uic}
use Rattle.f11_store.specs.declared.files.Attr.{Attr}
use Rattle.f11_store.specs.declared.files.FileId.{FileId}
use Rattle.f11_store.specs.declared.protection.Right.TheVariants as right
use Rattle.f11_store.specs.declared.refusals.Refusal.{Refusal}
use Rattle.f11_store.specs.declared.refusals.Refusal.TheVariants.{BadArgument, NoSuchAccess, NoSuchFile, NoPrivilege}
use Rattle.f11_store.specs.declared.refusals.Refusal.TheVariants.{NoRun, NoMemory}
use Rattle.f11_store.specs.declared.requests.Reply.{Reply}
use Rattle.f11_store.specs.declared.requests.Reply.TheVariants as reply
use Rattle.f11_store.specs.declared.requests.Request.{Request}
use Rattle.f11_store.specs.declared.requests.Request.TheVariants as request
use Rattle.f11_store.proofs.HeldLaws.{contiguous-causes-held, extend-causes-held, laid-out-held, lengthen-work-held, lengthens-held}
use Rattle.f11_files.specs.Answers.{FailsToRead, IsRight, is_among, is_cause, is_clean, is_fatal}
use Rattle.f11_files.specs.Calls.{ReadsAttr}
use Rattle.f11_files.specs.Extending.Runs.{headers_for, IsLengthAfter, ExtendsFile, FailsToExtend}
use Rattle.f11_files.specs.LayingOut.Whole.{FailsToLayOut, LaysOutFile}
use Rattle.f11_files.specs.Operations as operation
use Rattle.f11_files.specs.Operations.{file_causes}
use Rattle.f11_files.specs.image_store.StoreOf.{store_of}
use Rattle.f11_files.proofs.Overall.{extends-is}
use Rattle.f11_fcp.specs.Accesses.{AccessTable, Entry, accesses, held_in}
use Rattle.f11_fcp.specs.Handles.{State, store_at, memory_cause, own_causes, run_cause, Handles, of_accessed, of_known}
use Rattle.f11_fcp.specs.InOneRun.{InOneRun}
use Rattle.f11_fcp.specs.Lengthening.{lengthening_causes, MayLengthen}
use Rattle.f11_fcp.proofs.AccessedLemmas.{accessed-refused, drop-false, fails-clean, fails-early, held-file, held-id}
use Rattle.f11_fcp.proofs.AccessedLemmas.{held-writes}
use Rattle.f11_fcp.proofs.AccessedLemmas.{take-true}
use Rattle.f11_fcp.proofs.HandleLemmas.{among-part, handled-does, handled-lacking, handled-wanting, memory-cases, run-cases, wants-still}
use Rattle.f11_fcp.proofs.HandleLemmas.{without-memory}
use Rattle.f11_fcp.proofs.InOneRunLemmas.{lies-in-run, refused-lacking, refused-otherwise}
use Rattle.f11_fcp.proofs.KnownLemmas.{known-fails, known-file}
use Rattle.f11_fcp.proofs.NamedLemmas.{same-behind}
use Rattle.f11_fcp.proofs.SearchLemmas.{first-behind, search-refused}
use Rattle.f11_fcp.proofs.SlotsLemmas.{gets-held, lengthen-cost-held}

-- the lack of a run is itself
accessed-lacks : (e : Refusal) → of_accessed e ≡ NoRun → e ≡ NoRun
accessed-lacks NoRun is = refl
accessed-lacks _ is = absurd (cc)

module _ (task lun n : ℕ) (caller : Uic) (old : State) where
  abbrev s : Store
  s = store_at old

  abbrev s0 : Store
  s0 = store_of old.disk.image old.home

  abbrev extend : Request
  extend = request.Extend lun n

  abbrev lay : Request
  lay = request.Contiguous lun n

  abbrev judging : List Cause
  judging = lengthening_causes s task caller lun n

  pub lengthen-zero : n ≡ 0 → FailsToRead false judging 1 BadArgument old.disk old.disk
  lengthen-zero is = fails-early BadArgument refl refl (λ _. take-true (n == 0) _ _ (eq-eqb n 0 is))

  -- what is judged first stands against a request
  pub lengthen-refused : (r : Request) (more own : List Cause) (mid : State) (e : Refusal) → causes_of s task caller r ≡ judging ++ more
      → own_causes s task caller r ≡ judging ++ own → 1 ≤ cost s task r → FailsToRead false judging 1 e old.disk mid.disk
      → mid.home ≡ old.home → mid.table ≡ old.table → mid.counts ≡ old.counts → Handles task caller r (Err e) old [] mid []
  lengthen-refused r more own mid e causes owns least fails =
      search-refused task caller r old judging more (ap first_of causes) e mid fails least
      (λ h. ap (λ (cs : List Cause). is_among cs e) owns ∙ among-part [] judging own e h)

  -- and that is no lack of a run
  pub run-refused : {m : ℕ} {mid : State} (e : Refusal) → FailsToRead false judging m e old.disk mid.disk
      → Handles task caller lay (Err e) old [] mid [] → InOneRun task caller lay (Err e) old mid
  run-refused {mid = mid} e fails =
      refused-otherwise task caller lun n old mid e [] []
      (λ is. absurd (let own : is_among judging NoRun ≡ true = subst (λ (x : Refusal). is_among judging x ≡ true) is
      (fails.right.among (ap is_cause is)) in let no : false ≡ true = own in cc))

  module _ (some : n ≢ 0) where
    pub lengthen-none : is_no_writer (accesses old.table task lun) ≡ true → FailsToRead false judging 1 NoSuchAccess old.disk old.disk
    lengthen-none none =
        fails-early NoSuchAccess refl refl
        (λ _. drop-false (n == 0) _ _ (ne_eqb n 0 some) ∙ take-true (cannot_write s task lun) _ _ none)

    module _ (e : Entry) (held : old.table task lun ≡ Some e) (writes : is_no_write e.mode ≡ false)
        (there : IsTrue old.disk.honest → is_missing s0 e.file ≡ false) where
      pub lengthen-unread : {failed : Bool} {new : Disk} (er res : Refusal) → failed ≡ false
          → FailsToRead failed (file_causes s0 e.file) 1 er old.disk new → res ≡ of_known er → FailsToRead false judging 1 res old.disk new
      lengthen-unread {new = new} er res alive fails is =
          subst (λ (x : Refusal). FailsToRead false judging 1 x old.disk new) (sym is)
          (known-fails (file_causes s0 e.file) er alive (known-file s0 e.file er)
          (λ honest. drop-false (is_missing s0 e.file) (Some NoSuchFile) None (there honest)) fails)

      module _ (attr : Attr) (new : Disk) (read : ReadsAttr old.home e.file attr old.disk new) where
        right-alone : (b : Bool) → may caller attr.owner attr.protection right.Extend ≡ b → IsTrue old.disk.honest
            → first_of judging ≡ (if not b then Some NoPrivilege else None)
        right-alone b is honest =
            drop-false (n == 0) _ _ (ne_eqb n 0 some) ∙ drop-false (cannot_write s task lun) _ _ (held-writes task lun old e held writes)
            ∙ ap (λ (x : Bool). if not x then Some NoPrivilege else None)
            (ap (λ (f : File). may caller f.owner f.protection right.Extend) (held-file task lun old e held)
            ∙ ap (λ (a : Attr). may caller a.owner a.protection right.Extend) (sym (read.attr_is honest)) ∙ is)

        pub lengthen-denied : may caller attr.owner attr.protection right.Extend ≡ false
            → FailsToRead false judging 1 NoPrivilege old.disk new
        lengthen-denied denied = fails-clean NoPrivilege refl refl (right-alone false denied) read.reads

        pub lengthen-granted : may caller attr.owner attr.protection right.Extend ≡ true → 4 ≤ e.file.number → e.file.volume ≡ 0
            → MayLengthen task caller lun n e.file old new
        lengthen-granted granted own here = record {
          no_cause = right-alone true granted;
          held = held-id task lun old e held;
          there = there;
          own = record { number = own; volume = here };
          some = omega (arith, some);
          reads = read.reads;
        }

  module _ (f : FileId) (mid new : State) (g : MayLengthen task caller lun n f old mid.disk) (home : mid.home ≡ old.home)
      (home' : new.home ≡ mid.home) (table : new.table ≡ old.table) where
    abbrev sm : Store
    sm = store_of mid.disk.image mid.home

    same : sm ≡ s0
    same = same-behind old mid g.reads home

    file-is : file_held s task lun ≡ file_named s0 f
    file-is = ap (λ (id : FileId). file_named s0 id) g.held

    there-then : IsTrue old.disk.honest → is_missing sm f ≡ false
    there-then honest = ap (λ (x : Store). is_missing x f) same ∙ g.there honest

    -- the first refusal is of the causes behind
    first-then : (r : Request) (more : Store → List Cause) → causes_of s task caller r ≡ judging ++ more s0 → IsTrue old.disk.honest
        → first_of ((NoSuchFile ⇐ is_missing sm f) ∷ more sm) ≡ first_refusal s task caller r
    first-then r more is honest =
        drop-false (is_missing sm f) (Some NoSuchFile) (first_of (more sm)) (there-then honest)
        ∙ ap (λ (x : Store). first_of (more x)) same ∙ sym (ap first_of is ∙ first-behind judging (more s0) (g.no_cause honest))

    -- a change of the store is one with what tasks hold
    moved : (R : FileId → Store → Store → Type 0) → ((x : Store) → R f s0 x → R f s (held_in old.table x))
        → R f sm (store_of new.disk.image mid.home) → R (id_held s task lun) s (store_at new)
    moved R holds makes =
        subst (λ (id : FileId). R id s (store_at new)) (sym g.held) (subst (λ (x : Store). R f s x)
        (sym (ap (λ (h : HomeFields). held_in new.table (store_of new.disk.image h)) home'
        ∙ ap (λ (t : AccessTable). held_in t (store_of new.disk.image mid.home)) table))
        (holds (store_of new.disk.image mid.home) (subst (λ (x : Store). R f x (store_of new.disk.image mid.home)) same makes)))

    -- Extend
    extend-first : IsTrue old.disk.honest → first_of (operation.extend_causes sm f n) ≡ first_refusal s task caller extend
    extend-first =
        first-then extend (λ x. extend_causes x (file_named x f) n) (ap (λ (cs : List Cause). judging ++ cs)
        (ap (λ (h : File). extend_causes s h n) file-is ∙ extend-causes-held (accesses old.table) s0 (file_named s0 f) n))

    extend-work : lengthen_work sm f n ≡ served_work s task caller extend []
    extend-work =
        ap (λ (x : Store). lengthen_work x f n) same ∙ sym (lengthen-work-held (accesses old.table) s0 f n)
        ∙ sym (ap (λ (id : FileId). lengthen_work s id n) g.held)

    extend-few : 1 + (lengthen_cost sm (file_named sm f) n - 1) ≤ cost s task extend
    extend-few =
        subst (λ (x : Store). 1 + (lengthen_cost x (file_named x f) n - 1) ≤ lengthen_cost s (file_held s task lun) n) (sym same)
        (subst (λ (h : File). 1 + (lengthen_cost s0 (file_named s0 f) n - 1) ≤ lengthen_cost s h n) (sym file-is)
        (let held = lengthen-cost-held (accesses old.table) s0 (file_named s0 f) n in omega (arith, held, least)))
      where
        least : 1 ≤ lengthen_cost s0 (file_named s0 f) n
        least = omega arith

    pub extended : (blocks : ℕ) → IsLengthAfter mid.home f n mid.disk blocks → ExtendsFile mid.home f n mid.disk new.disk
        → Handles task caller extend (Ok (reply.Length blocks)) old [] new []
    extended blocks length_is extends =
        let own = g.own.number in
        handled-does task caller extend [] old (reply.Length blocks)
        (operation.extend_causes sm f n) (lengthen_work sm f n) mid new [] g.reads home
        (extends-is mid.home f n mid.disk new.disk (ne_eqb f.number 1 (λ is. absurd (omega (arith, own, is)))) extends) (λ _. extend-few)
        extend-first (λ _. extend-work) (λ honest. ap (λ (k : ℕ). reply.Length k)
        (length_is (g.reads.looked.honest ∙ honest) ∙ ap (λ (x : Store). length_of (file_named x f) + n) same
        ∙ sym (ap (λ (h : File). length_of h + n) file-is)))
        (λ _. moved (λ id x t. Lengthens x id n t) (λ x. lengthens-held (accesses old.table) s0 x f n)) (λ _. refl) home'

    -- Contiguous
    lay-first : IsTrue old.disk.honest → first_of (operation.contiguous_causes sm f n) ≡ first_refusal s task caller lay
    lay-first =
        first-then lay (λ x. contiguous_causes x (file_named x f) n) (ap (λ (cs : List Cause). judging ++ cs)
        (ap (λ (h : File). contiguous_causes s h n) file-is ∙ contiguous-causes-held (accesses old.table) s0 (file_named s0 f) n))

    lay-work : contiguous_work f.number (file_named sm f).room n ≡ served_work s task caller lay []
    lay-work =
        ap (λ (x : Store). contiguous_work f.number (file_named x f).room n) same
        ∙ sym (ap (λ (id : FileId). contiguous_work id.number (file_named s0 id).room n) g.held)

    lay-few : 1 + (contiguous_cost sm (file_named sm f) n - 1) ≤ cost s task lay
    lay-few =
        subst (λ (x : Store). 1 + (contiguous_cost x (file_named x f) n - 1) ≤ contiguous_cost s (file_held s task lun) n) (sym same)
        (subst (λ (h : File). 1 + (contiguous_cost s0 (file_named s0 f) n - 1) ≤ contiguous_cost s h n) (sym file-is) (omega arith))

    pub laid : (blocks : ℕ) → blocks ≡ n → LaysOutFile mid.home f n mid.disk new.disk
        → Handles task caller lay (Ok (reply.Length blocks)) old [] new []
    laid blocks length_is does =
        handled-does task caller lay [] old (reply.Length blocks) (operation.contiguous_causes sm f n)
        (contiguous_work f.number (file_named sm f).room n) mid new [] g.reads home does (λ _. lay-few)
        lay-first (λ _. lay-work) (λ _. ap (λ (k : ℕ). reply.Length k) length_is)
        (λ _. moved (λ id x t. LaysOut x id.number n t) (λ x. laid-out-held (accesses old.table) s0 x f.number n)) (λ _. refl) home'

    -- the blocks lie in the first run
    pub laid-in-run : (a : Reply) → LaysOutFile mid.home f n mid.disk new.disk → InOneRun task caller lay (Ok a) old new
    laid-in-run a does =
        lies-in-run task caller lun n old new mid g.reads.looked.image home a f.number (ap (λ (id : FileId). id.number) (sym g.held))
        (λ honest. (does.allots (g.reads.looked.honest ∙ honest)).allots)

    -- a call that was refused
    module _ (e res : Refusal) (is : res ≡ of_accessed e) (counts : mid.counts ≡ old.counts)
        (counts' : is_clean e ≡ true → new.counts ≡ mid.counts) where
      abbrev Refused : Request → Refusal → Type 0
      Refused r x = Handles task caller r (Err x) old [] new []

      -- no cause stands against it where no run is found
      lay-none : {failed : Bool} → FailsToLayOut failed mid.home f n e mid.disk new.disk → e ≡ NoRun → IsTrue old.disk.honest
          → first_refusal s task caller lay ≡ None
      lay-none fails lacking honest =
          sym (lay-first honest) ∙ ((fails.no_run lacking).1 (g.reads.looked.honest ∙ honest)).0

      pub not-extended : {failed : Bool} → failed ≡ false → FailsToExtend failed mid.home f n e mid.disk new.disk → Refused extend res
      not-extended alive fails = subst (Refused extend) (sym is) (by_case (memory-cases e))
        where
          wants : gets_slots (slots_first sm (headers_for mid.home f n mid.disk)) ≡ may_want_memory s task extend
          wants =
              ap (λ (x : Store). gets_slots (slots_first x (need (file_named x f).room n))) same
              ∙ sym (gets-held (accesses old.table) s0 (need (file_named s0 f).room n))
              ∙ sym (ap (λ (h : File). gets_slots (slots_first s (need h.room n))) file-is)

          by_case : (e ≡ NoMemory) ⊎ (e ≢ NoMemory) → Refused extend (of_accessed e)
          by_case (inl wanting) =
              subst (Refused extend) (wanting ∙ sym (ap of_accessed wanting)) (handled-wanting task caller extend [] old e
              (operation.extend_causes sm f n) (lengthen_work sm f n)
              (gets_slots (slots_first sm (headers_for mid.home f n mid.disk))) mid new wanting g.reads home counts
              (wants-still alive fails) refl (λ _. extend-few) extend-first (λ _. wants) home' table
              counts')
          by_case (inr other) =
              accessed-refused task caller extend [] old e (is_missing sm f) (extend_causes sm (file_named sm f) n)
              (lengthen_work sm f n) mid new [] g.reads home counts (without-memory other (wants-still alive fails)) refl
              (among-part judging (extend_causes sm (file_named sm f) n) memory_cause e) (λ _. extend-few) there-then extend-first
              (λ _. extend-work) home'
              table
              counts' (λ _. refl)

      pub not-laid : {failed : Bool} → failed ≡ false → FailsToLayOut failed mid.home f n e mid.disk new.disk → Refused lay res
      not-laid alive fails = subst (Refused lay) (sym is) (by_case (run-cases e))
        where
          by_case : (e ≡ NoRun) ⊎ (e ≢ NoRun) → Refused lay (of_accessed e)
          by_case (inl lacking) =
              subst (Refused lay) (lacking ∙ sym (ap of_accessed lacking))
              (handled-lacking task caller lay [] old e mid new lacking g.reads home counts
              (fails.unchanged (ap is_fatal lacking)) refl refl refl (λ _. lay-few) (lay-none fails lacking) home' table counts')
          by_case (inr other) =
              accessed-refused task caller lay [] old e (is_missing sm f) (contiguous_causes sm (file_named sm f) n)
              (contiguous_work f.number (file_named sm f).room n) mid new [] g.reads home counts
              (record {
                right = subst (λ (b : Bool). IsRight b mid.disk.honest (operation.contiguous_causes sm f n) e) alive (fails.right other);
                writes = fails.writes;
                unchanged = fails.unchanged;
              })
              refl (among-part judging (contiguous_causes sm (file_named sm f) n) run_cause e) (λ _. lay-few) there-then lay-first
              (λ _. lay-work) home' table
              counts' (λ _. refl)

      pub not-in-run : {failed : Bool} → FailsToLayOut failed mid.home f n e mid.disk new.disk
          → Refused lay res → InOneRun task caller lay (Err res) old new
      not-in-run fails handles = by_case (run-cases e)
        where
          by_case : (e ≡ NoRun) ⊎ (e ≢ NoRun) → InOneRun task caller lay (Err res) old new
          by_case (inr other) = refused-otherwise task caller lun n old new res [] [] (λ no. other (accessed-lacks e (sym is ∙ no))) handles
          by_case (inl lacking) =
              subst (λ (x : Refusal). InOneRun task caller lay (Err x) old new) (sym (is ∙ ap of_accessed lacking))
              (refused-lacking task caller lun n old new mid g.reads.looked.image home (lay-none fails lacking)
              (λ honest. ((fails.no_run lacking).1 (g.reads.looked.honest ∙ honest)).1))
