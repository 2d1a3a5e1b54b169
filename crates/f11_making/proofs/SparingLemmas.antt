-- What is done to one file by its name leaves all others as they were.
use Rattle.std.proofs.Common.{◌≡◌, ◌⊎◌, inl, inr, ◌==◌, ◌&&◌, ℕ, Bool, true, false, if◌then◌else◌, List, take, Option, Some, None}
use Rattle.std.proofs.Common.{option_map}
use Rattle.std.proofs.Common.{Result, Ok, Err, unwrap_or, refl, sym, ap, ◌∙◌, subst}
use Rattle.f11_runs.proofs.AccessLemmas.{true-false}
use Rattle.f11_store.specs.Causes.{is_no_writer}
use Rattle.f11_store.specs.Changes.{Changes, after_giving_up, file_created, is_due, with_access, with_change, with_delete_mark, with_entry}
use Rattle.f11_store.specs.Changes.{with_first_blocks, with_marked_file, with_replacement, without_file_at}
use Rattle.f11_store.specs.Directory.{empty_record, index_of_empty, index_of_name, record_bytes}
use Rattle.f11_store.specs.File.{File}
use Rattle.f11_store.specs.Ident.{ident_with}
use Rattle.f11_store.specs.Step.{Step}
use Rattle.f11_store.specs.Store.{Access, Store, file_named, id_held, id_in, is_accessed, least_free}
use Rattle.f11_store.specs.declared.callers.Uic.{Uic}
use Rattle.f11_store.specs.declared.files.Attr.{Attr}
use Rattle.f11_store.specs.declared.files.Change.{Change}
use Rattle.f11_store.specs.declared.files.Change.TheVariants as change
use Rattle.f11_store.specs.declared.files.FileId.{FileId}
use Rattle.f11_store.specs.declared.files.Mode.TheVariants as mode
use Rattle.f11_store.specs.declared.refusals.Refusal.{Refusal}
use Rattle.f11_store.specs.declared.refusals.Refusal.TheVariants as refusal
use Rattle.f11_store.specs.declared.requests.Reply.{Reply}
use Rattle.f11_store.specs.declared.requests.Reply.TheVariants as reply
use Rattle.f11_store.specs.declared.requests.Request.{Request}
use Rattle.f11_store.specs.declared.requests.Request.TheVariants as request
use Rattle.f11_making.specs.Actions.{within}
use Rattle.f11_store.proofs.FileLaws.{least_free_is_free, new_slot_was_free}
use Rattle.f11_store.proofs.SlotsFirst.{gained-is-ready}
use Rattle.f11_store.proofs.StoreLemmas.{none_first, other_number, same_number}
use Rattle.f11_making.specs.Asking.{Fails, Grants, Who, plain, told}
use Rattle.f11_making.specs.FilesPlan.{AnswerOf, Asks, AsksFile, Carried, FilesPlan, Question, counts, describes, done, file_in, for_user}
use Rattle.f11_making.specs.FilesPlan.{if_granted, names, names_file, names_for, on_ok, one, or_undone, reads, tells_attributes, writes}
use Rattle.f11_making.specs.Plans.{cuts_held, cuts_if, deletes, directory_attributes, enters, finds_other, is_absent, is_own, judged_by}
use Rattle.f11_making.specs.Plans.{makes_empty, may_move, moves, moves_if, not_own, on_absent, protects, removes, removes_but, renames}
use Rattle.f11_making.specs.Plans.{sets, states_end}
use Rattle.f11_making.specs.Plans.{is_lower, judges_kept, purges_by, purges_if, truncates}
use Rattle.f11_making.specs.Plan.{and_then, gives}
use Rattle.f11_making.specs.Sparing.{ActionsSpareOthers, Finds, Is, IsNot, Spares, may_change}
use Rattle.f11_making.specs.Telling.{AddsUp, IsTidy, bare}
use Rattle.f11_making.specs.declared.action.Action.TheVariants as action
use Rattle.f11_making.proofs.GainedLemmas.{enters-from}
use Rattle.f11_making.proofs.PlanLemmas.{clean-one, goes-adds}
use Rattle.f11_making.proofs.PlansLemmas.{tidy-cutting, tidy-entering, tidy-removal, tidy-renaming}

-- what a look finds its reply tells
pub found-is : (dir : FileId) (name : List ℕ) (a : Reply) (id : FileId) → file_in (request.Find dir name) a ≡ Some id → a ≡ reply.Found id
found-is dir name (reply.Found i) id is = let same : i ≡ id = cc in ap reply.Found same
found-is dir name _ id is = absurd (cc)

-- a file other than the index file
module _ (n : ℕ) (late : (n == 1) ≡ false) where
  changed-off : (s : Store) (k : ℕ) (f : File → File) → (n == k) ≡ false → (with_change s k f).file n ≡ s.file n
  changed-off s k f apart = ap (λ b. if b then option_map f (s.file k) else s.file n) apart

  deleted-off : (s : Store) (k : ℕ) (b : Bool) → (n == k) ≡ false
      → (if b then with_marked_file s k else without_file_at s k).file n ≡ s.file n
  deleted-off s k true apart = changed-off s k with_delete_mark apart
  deleted-off s k false apart = ap (λ b. if b then None else s.file n) apart

  -- a request leaves it that may not change it
  request-spares : (r : Request) (task : ℕ) (caller : Uic) (lent given : List ℕ) (result : Result Reply Refusal) (s t : Store)
      → may_change r n ≡ false → Step s task caller r lent result t given → t.file n ≡ s.file n
  request-spares r task caller lent given (Err e) s t is h = ap (λ (x : Store). x.file n) h.store_stays
  request-spares r task caller lent given (Ok a) s t is h = by r is h.changes
    where
      by : (r : Request) → may_change r n ≡ false → Changes s task caller r lent t → t.file n ≡ s.file n
      by (request.Find d name) is c = ap (λ (x : Store). x.file n) c
      by (request.ReadAttr id) is c = ap (λ (x : Store). x.file n) c
      by (request.Enter d name g) is c =
          let from = enters-from (index_of_empty (file_named s d)) s t d (record_bytes g name) c in
          from.others n is ∙ from.is-ready.others n late
      by (request.Remove d name) is c =
          ap (λ (x : Store). x.file n) c
          ∙ changed-off s d.number (with_entry (unwrap_or (index_of_name name (file_named s d)) 0) empty_record) is
      by (request.Delete g) is c = ap (λ (x : Store). x.file n) c ∙ deleted-off s g.number (is_accessed s g) is
      by (request.WriteAttr g x) is c = ap (λ (x : Store). x.file n) c ∙ changed-off s g.number (with_replacement x) is
      by _ is c = absurd (true-false is)

  -- and a plan all of which asks for nothing else
  module _ (who : Who) where
    abbrev Stays : Result (Unit {0}) Refusal → Store → Store → Type 0
    Stays r s t = t.file n ≡ s.file n

    fails-spares : (by : Who) (r : Request) (is_right : Reply → Bool) (e : Refusal) (s t : Store) → may_change r n ≡ false
        → Fails plain by is_right r e s t → t.file n ≡ s.file n
    fails-spares by r is_right e s t is (inl h) = request-spares r by.task by.caller h.0 h.1 (Err e) s t is h.2
    fails-spares by r is_right e s t is (inr h) = request-spares r by.task by.caller h.3.0 h.3.1 (Ok h.0) s t is h.3.2

    file-spares : (by : Who) (r : Request) (a : Result FileId Refusal) (s t : Store) → may_change r n ≡ false → AsksFile plain by r a s t
        → t.file n ≡ s.file n
    file-spares by r (Ok id) s t is h = request-spares r by.task by.caller h.2.0 h.2.1 (Ok h.0) s t is h.2.2
    file-spares by r (Err e) s t is h = fails-spares by r (names_file r) e s t is h

    single-spares : (q : Question) (a : Result (AnswerOf q) Refusal) (s t : Store) → Spares n q → Asks plain who q a s t
        → Stays (bare a) s t
    single-spares (done r) (Ok x) s t is h = request-spares r who.task who.caller h.0 h.2 (Ok h.1) s t is h.3
    single-spares (done r) (Err e) s t is h = request-spares r who.task who.caller h.0 h.1 (Err e) s t is h.2
    single-spares (names r) a s t is h = file-spares who r a s t is h
    single-spares (names_for user r) a s t is h = file-spares (for_user user who) r a s t is h
    single-spares (describes id) (Ok x) s t is h =
        request-spares (request.ReadAttr id) who.task who.caller h.2.0 h.2.1 (Ok h.0) s t refl h.2.2
    single-spares (describes id) (Err e) s t is h = fails-spares who (request.ReadAttr id) tells_attributes e s t refl h
    single-spares (counts lun) (Ok blocks) s t is h = ap (λ (x : Store). x.file n) h.2
    single-spares (counts lun) (Err e) s t is h = ap (λ (x : Store). x.file n) h.2
    single-spares (reads lun vbn) a s t is h = absurd is
    single-spares (writes lun vbn block) a s t is h = absurd is

    adds-spares : AddsUp plain who (Spares n) Stays
    adds-spares = record {
      none = λ s. refl;
      then-so = λ r s t u h k. k ∙ h;
      whole = λ e s t calm h. h;
      refused = λ e s t calm h. h;
      single = single-spares;
    }

    plan-spares : {T : Type 0} (p : FilesPlan (Result T Refusal)) (r : Result T Refusal) (s t : Store) → IsTidy (Spares n) p
        → Carried plain who p r s t → t.file n ≡ s.file n
    plan-spares {T} p r s t tidy h = by r (goes-adds plain who (Spares n) Stays adds-spares p r s t tidy h)
      where
        by : (r : Result T Refusal) → Stays (bare r) s t → t.file n ≡ s.file n
        by (Ok x) h = h
        by (Err e) h = h

    -- a look for a name changes nothing, and what follows is done to what it finds
    found-spares : (dir : FileId) (name : List ℕ) (on : FileId → FilesPlan (Result (Unit {0}) Refusal)) (r : Result (Unit {0}) Refusal)
        (s t : Store) → ((id : FileId) → Finds who dir name s id → Carried plain who (on id) r s t → t.file n ≡ s.file n)
        → Carried plain who (if_granted (one (names (request.Find dir name))) on) r s t → t.file n ≡ s.file n
    found-spares dir name on r s t behind (Ok id, u, (a, found, (lent, given, step)), rest) =
        let same : u ≡ s = step.changes in
        let here = subst (λ x. Step s who.task who.caller (request.Find dir name) lent (Ok a) x given) same step in
        behind id
        (subst (λ x. Grants plain who (told (request.Find dir name) x) s s) (found-is dir name a id found) (lent, given, here))
        (subst (λ x. Carried plain who (on id) r x t) same rest)
    found-spares dir name on r s t behind (Err e, u, asked, ended) =
        ap (λ (x : Store). x.file n) ended.1 ∙ single-spares (names (request.Find dir name)) (Err e) s u refl asked

    -- a look at attributes changes nothing
    described-spares : (id : FileId) (on : Attr → FilesPlan (Result (Unit {0}) Refusal)) (r : Result (Unit {0}) Refusal) (s t : Store)
        → ((x : Attr) → Carried plain who (on x) r s t → t.file n ≡ s.file n)
        → Carried plain who (if_granted (one (describes id)) on) r s t → t.file n ≡ s.file n
    described-spares id on r s t behind (Ok x, u, (a, tells, (lent, given, step)), rest) =
        let same : u ≡ s = step.changes in behind x (subst (λ v. Carried plain who (on x) r v t) same rest)
    described-spares id on r s t behind (Err e, u, asked, ended) =
        ap (λ (x : Store). x.file n) ended.1 ∙ single-spares (describes id) (Err e) s u tt asked

    -- so where it isn't the volume's own
    other-spares : (dir : FileId) (name : List ℕ) (on : FileId → FilesPlan (Result (Unit {0}) Refusal)) (r : Result (Unit {0}) Refusal)
        (s t : Store) → ((id : FileId) → Finds who dir name s id → Carried plain who (on id) r s t → t.file n ≡ s.file n)
        → Carried plain who (if_granted (finds_other dir name) on) r s t → t.file n ≡ s.file n
    other-spares dir name on r s t behind (a, u, asked, rest) =
        found-spares dir name (λ id. on_ok on (not_own (Ok id))) r s t own (a, u, asked, same a rest)
      where
        own : (id : FileId) → Finds who dir name s id → Carried plain who (on_ok on (not_own (Ok id))) r s t → t.file n ≡ s.file n
        own id finds h = by (is_own id) h
          where
            volume : (b : Bool) → Carried plain who (on_ok on (if b then Ok id else Err refusal.BadArgument)) r s t → t.file n ≡ s.file n
            volume true more = behind id finds more
            volume false ended = ap (λ (x : Store). x.file n) ended.1

            by : (b : Bool) → Carried plain who (on_ok on (judged_by b id)) r s t → t.file n ≡ s.file n
            by true ended = ap (λ (x : Store). x.file n) ended.1
            by false more = volume (id.volume == 0) more

        same : (a : Result FileId Refusal) → Carried plain who (on_ok on (not_own a)) r u t
            → Carried plain who (on_ok (λ id. on_ok on (not_own (Ok id))) a) r u t
        same (Ok id) h = h
        same (Err e) h = h

-- a name becomes another, where it may
moved-spares : (n : ℕ) (late : (n == 1) ≡ false) (who : Who) (b : Bool) (dir : FileId) (old : List ℕ) (to : FileId) (new : List ℕ)
    (id : FileId) (ident : List ℕ) (r : Result (Unit {0}) Refusal) (s t : Store)
    → ((x : Change) → Spares n (done (request.WriteAttr id x))) → (n == to.number) ≡ false → (n == dir.number) ≡ false
    → Carried plain who (moves_if b dir old to new id ident) r s t → t.file n ≡ s.file n
moved-spares n late who false dir old to new id ident r s t write enter remove h = ap (λ (x : Store). x.file n) h.1
moved-spares n late who true dir old to new id ident r s t write enter remove h =
    plan-spares n late who (moves dir old to new id ident) r s t
    (tidy-renaming (Spares n) dir old to new id ident write enter enter remove) h

-- a file that is accessed by the lun of who asks loses blocks, and no other file is another
module _ (n : ℕ) (late : (n == 1) ≡ false) (who : Who) (lun : ℕ) (id : FileId) (apart : (n == id.number) ≡ false) where
  -- by it no other file is accessed
  abbrev IsIts : Option Access → Type 0
  IsIts None = Unit {0}
  IsIts (Some a) = a.file ≡ id

  abbrev Holds : Store → Type 0
  Holds s = IsIts (s.access who.task lun)

  abbrev Cuts : Result (Unit {0}) Refusal → Store → Store → Type 0
  Cuts r s t = Holds s → (t.file n ≡ s.file n) × Holds t

  -- what is asked then
  abbrev IsCut : Question → Type 0
  IsCut (done (request.Truncate l to)) = l ≡ lun
  IsCut (done (request.Deaccess l)) = l ≡ lun
  IsCut (done (request.WriteAttr i x)) = i ≡ id
  IsCut (counts l) = Unit {0}
  IsCut _ = ⊥

  stays : (s t : Store) → t ≡ s → Holds s → (t.file n ≡ s.file n) × Holds t
  stays s t same holds = (ap (λ (x : Store). x.file n) same, subst Holds (sym same) holds)

  -- where an access to write isn't wanting there is one, to that file
  held-is : (o : Option Access) → IsIts o → is_no_writer o ≡ false → id_in o ≡ id
  held-is None holds is = absurd (true-false is)
  held-is (Some a) holds is = holds

  truncate-stays : (to : ℕ) (lent given : List ℕ) (a : Reply) (s t : Store)
      → Step s who.task who.caller (request.Truncate lun to) lent (Ok a) t given → Cuts (Ok tt) s t
  truncate-stays to lent given a s t h holds =
      let c = h.changes in
      let its : id_held s who.task lun ≡ id = held-is (s.access who.task lun) holds (none_first _ _ _ h.no_cause) in
      let cut : File = record (with_first_blocks to c.before) { held = take c.headers c.before.held; pointers = c.pointers; room = c.room }
      in (
        ap (λ (x : Store). x.file n) c.store_is
            ∙ ap (λ b. if b then Some cut else s.file n) (subst (λ (i : FileId). (n == i.number) ≡ false) (sym its) apart),
        subst Holds (sym c.store_is) holds,
      )

  -- what is given up holds nothing then
  given-up : (s : Store) → (with_access s who.task lun None).access who.task lun ≡ None
  given-up s = λ i. if same_number who.task i && same_number lun i then None else s.access who.task lun

  deaccess-stays : (lent given : List ℕ) (a : Reply) (s t : Store)
      → Step s who.task who.caller (request.Deaccess lun) lent (Ok a) t given → Cuts (Ok tt) s t
  deaccess-stays lent given a s t h holds =
      subst (λ (x : Store). (x.file n ≡ s.file n) × Holds x) (sym h.changes) (by (s.access who.task lun) holds)
    where
      u : Store
      u = with_access s who.task lun None

      due : (k : ℕ) (b : Bool) → (n == k) ≡ false
          → ((if b then without_file_at u k else u).file n ≡ s.file n) × Holds (if b then without_file_at u k else u)
      due k true off = (ap (λ b. if b then None else s.file n) off, subst IsIts (sym (given-up s)) tt)
      due k false off = (refl, subst IsIts (sym (given-up s)) tt)

      by : (o : Option Access) → IsIts o
          → ((after_giving_up s who.task lun o).file n ≡ s.file n) × Holds (after_giving_up s who.task lun o)
      by None is = (refl, holds)
      by (Some x) is = due x.file.number (is_due u x.file) (subst (λ (i : FileId). (n == i.number) ≡ false) (sym is) apart)

  attributes-stay : (x : Change) (lent given : List ℕ) (a : Reply) (s t : Store)
      → Step s who.task who.caller (request.WriteAttr id x) lent (Ok a) t given → Cuts (Ok tt) s t
  attributes-stay x lent given a s t h holds = (
    ap (λ (v : Store). v.file n) h.changes ∙ changed-off n late s id.number (with_replacement x) apart,
    subst Holds (sym h.changes) holds,
  )

  step-stays : (r : Request) (lent given : List ℕ) (a : Reply) (s t : Store) → IsCut (done r)
      → Step s who.task who.caller r lent (Ok a) t given → Cuts (Ok tt) s t
  step-stays (request.Truncate l to) lent given a s t is h =
      truncate-stays to lent given a s t
      (subst (λ l. Step s who.task who.caller (request.Truncate l to) lent (Ok a) t given) is h)
  step-stays (request.Deaccess l) lent given a s t is h =
      deaccess-stays lent given a s t (subst (λ l. Step s who.task who.caller (request.Deaccess l) lent (Ok a) t given) is h)
  step-stays (request.WriteAttr i x) lent given a s t is h =
      attributes-stay x lent given a s t
      (subst (λ (j : FileId). Step s who.task who.caller (request.WriteAttr j x) lent (Ok a) t given) is h)
  step-stays _ lent given a s t is h = absurd is

  single-stays : (q : Question) (a : Result (AnswerOf q) Refusal) (s t : Store) → IsCut q → Asks plain who q a s t → Cuts (bare a) s t
  single-stays (done r) (Ok x) s t is h = step-stays r h.0 h.2 h.1 s t is h.3
  single-stays (done r) (Err e) s t is h = stays s t h.2.store_stays
  single-stays (counts l) (Ok blocks) s t is h = stays s t h.2
  single-stays (counts l) (Err e) s t is h = stays s t h.2
  single-stays _ a s t is h = absurd is

  cut-spares : (attr : List ℕ) (r : Result (Unit {0}) Refusal) (s t : Store) → Holds s → Carried plain who (cuts_held lun id attr) r s t
      → t.file n ≡ s.file n
  cut-spares attr r s t holds h =
      (goes-adds plain who IsCut Cuts (record {
        none = λ s holds. (refl, holds);
        then-so = λ r u v w h k holds. let first = h holds in let rest = k first.1 in (rest.0 ∙ first.0, rest.1);
        whole = λ e s t calm h. h;
        refused = λ e s t calm h. h;
        single = single-stays;
      }) (cuts_held lun id attr) r s t (tidy-cutting IsCut lun id attr tt (λ blocks. refl) (λ x. refl) refl) h holds).0

  -- and so of one that is accessed first
  accessed-cut-spares : (b : Bool) (attr : List ℕ) (r : Result (Unit {0}) Refusal) (s t : Store)
      → Carried plain who (cuts_if b lun id attr) r s t → t.file n ≡ s.file n
  accessed-cut-spares false attr r s t h = ap (λ (x : Store). x.file n) h.1
  accessed-cut-spares true attr r s t (Ok x, u, (lent, a, given, step), rest) =
      cut-spares attr r u t (subst Holds (sym step.changes) (subst IsIts (sym held) refl)) rest
      ∙ ap (λ (v : Store). v.file n) step.changes
    where
      held : (with_access s who.task lun (Some (record { file = id; mode = mode.Write }))).access who.task lun
          ≡ Some (record { file = id; mode = mode.Write })
      held = λ i.
          if same_number who.task i && same_number lun i then Some (record { file = id; mode = mode.Write })
          else s.access who.task lun
  accessed-cut-spares true attr r s t (Err e, u, (lent, given, step), ended) =
      ap (λ (x : Store). x.file n) ended.1 ∙ ap (λ (x : Store). x.file n) step.store_stays

-- an empty file is made, in a slot that was free
module _ (n : ℕ) (late : (n == 1) ≡ false) (who : Who) where
  made-spares : (owner : Uic) (master : FileId) (name : List ℕ) (protection : ℕ) (attr : List ℕ) (r : Result (Unit {0}) Refusal)
      (s t : Store)
      → (n == master.number) ≡ false → s.in_use n ≡ true → Carried plain who (makes_empty owner master name protection attr) r s t
      → t.file n ≡ s.file n
  made-spares owner master name protection attr r s t off used (Ok id, u, (a, named, (lent, given, step)), rest) =
      let is : a ≡ reply.Created id = created-is a named in
      let new = new_slot_was_free s who.task owner 0 (ident_with name) attr lent id u given
      (subst (λ (x : Reply). Step s who.task owner (request.Create 0 (ident_with name) attr) lent (Ok x) u given) is step) in
      let apart : (n == id.number) ≡ false = other id.number new.2 in
      let made = step.changes in
      let ready = gained-is-ready s made.ready 1 made.gains in
      let free = least_free_is_free made.ready made.enough in
      let unused : s.in_use (least_free made.ready) ≡ false =
      sym (ap (λ (used : ℕ → Bool). used (least_free made.ready)) ready.in_use) ∙ free.unused in
      let f : File = file_created made.ready (least_free made.ready) owner 0 (ident_with name) attr in
      plan-spares n late who (or_undone (request.Delete id) (enters master name protection id)) r u t
      (tidy-entering (Spares n) master name protection id off (λ x. apart) apart) rest
      ∙ ap (λ (x : Store). x.file n) made.makes
      ∙ ap (λ b. if b then Some f else made.ready.file n) (other (least_free made.ready) unused) ∙ ready.others n late
    where
      created-is : (a : Reply) → file_in (request.Create 0 (ident_with name) attr) a ≡ Some id → a ≡ reply.Created id
      created-is (reply.Created i) is = let same : i ≡ id = cc in ap reply.Created same
      created-is _ is = absurd (cc)

      other : (k : ℕ) → s.in_use k ≡ false → (n == k) ≡ false
      other k free = other_number n k (λ same. true-false (sym used ∙ ap s.in_use same ∙ free))
  made-spares owner master name protection attr r s t off used (Err e, u, inl (lent, given, step), ended) =
      ap (λ (x : Store). x.file n) ended.1 ∙ ap (λ (x : Store). x.file n) step.store_stays
  made-spares owner master name protection attr r s t off used (Err e, u, inr (a, wrong, is, (lent, given, step)), ended) =
      absurd (true-false (sym (ap (names_file (request.Create 0 (ident_with name) attr)) step.reply_is) ∙ wrong))

-- a look for a name that isn't to be there changes nothing
absent-spares : (n : ℕ) (late : (n == 1) ≡ false) (who : Who) (dir : FileId) (name : List ℕ) (p : FilesPlan (Result (Unit {0}) Refusal))
    (r : Result (Unit {0}) Refusal) (s t : Store) → ((u : Store) → u ≡ s → Carried plain who p r u t → t.file n ≡ s.file n)
    → Carried plain who (and_then (one (names (request.Find dir name))) (on_absent p)) r s t → t.file n ≡ s.file n
absent-spares n late who dir name p r s t behind (Ok id, u, (a, found, (lent, given, step)), ended) =
    ap (λ (x : Store). x.file n) ended.1 ∙ ap (λ (x : Store). x.file n) step.changes
absent-spares n late who dir name p r s t behind (Err e, u, asked, rest) = by (is_absent e) rest
  where
    same : AsksFile plain who (request.Find dir name) (Err e) s u → u ≡ s
    same (inl h) = h.2.store_stays
    same (inr h) = h.3.2.changes

    by : (b : Bool) → Carried plain who (if b then p else gives (Err e)) r u t → t.file n ≡ s.file n
    by true h = behind u (same asked) h
    by false h = ap (λ (x : Store). x.file n) h.1 ∙ ap (λ (x : Store). x.file n) (same asked)

-- a lower version is purged, whose file or that of the highest this isn't
purged-spares : (n : ℕ) (late : (n == 1) ≡ false) (who : Who) (b : Bool) (dir : FileId) (name highest : List ℕ)
    (r : Result (Unit {0}) Refusal) (s t : Store) → (n == dir.number) ≡ false → (IsNot n who dir name s) ⊎ (Is n who dir highest s)
    → Carried plain who (purges_if b dir name highest) r s t → t.file n ≡ s.file n
purged-spares n late who false dir name highest r s t apart off h = ap (λ (x : Store). x.file n) h.1
purged-spares n late who true dir name highest r s t apart off h =
    found-spares n late who dir highest (λ kept. if_granted (one (describes kept)) (λ of. purges_by (judges_kept of) kept dir name)) r s t
    (λ kept at more.
    described-spares n late who kept (λ of. purges_by (judges_kept of) kept dir name) r s t
    (λ of rest. kept-by kept at (judges_kept of) rest) more) h
  where
    other : (kept : FileId) → Finds who dir highest s kept → (id : FileId) → Finds who dir name s id
        → (id.number == kept.number) ≡ false → (n == id.number) ≡ false
    other kept at id found is = from off
      where
        from : (IsNot n who dir name s) ⊎ (Is n who dir highest s) → (n == id.number) ≡ false
        from (inl not) = not id found
        from (inr its) = other_number n id.number (λ same. true-false
            (sym (ap (λ k. k == kept.number) (sym same) ∙ its kept at) ∙ is))

    by : (kept : FileId) → Finds who dir highest s kept → (id : FileId) → Finds who dir name s id → (b : Bool)
        → (id.number == kept.number) ≡ b → Carried plain who (removes_but b dir name id) r s t → t.file n ≡ s.file n
    by kept at id found true is goes =
        plan-spares n late who (one (done (request.Remove dir name))) r s t
        (clean-one (Spares n) (done (request.Remove dir name)) apart) goes
    by kept at id found false is goes =
        plan-spares n late who (removes dir name id) r s t
        (tidy-removal (Spares n) dir name id apart apart (other kept at id found is)) goes

    kept-by : (kept : FileId) → Finds who dir highest s kept → (a : Result (Unit {0}) Refusal)
        → Carried plain who (purges_by a kept dir name) r s t → t.file n ≡ s.file n
    kept-by kept at (Ok x) rest =
        other-spares n late who dir name (λ id. removes_but (id.number == kept.number) dir name id) r s t
        (λ id found goes. by kept at id found (id.number == kept.number) refl goes) rest
    kept-by kept at (Err e) ended = ap (λ (x : Store). x.file n) ended.1

-- what an action asks once its directories and its file are found
pub actions-spare-others : ActionsSpareOthers
actions-spare-others who lun master (action.Delete directory name) r s t n h late off =
    found-spares n late who master directory (λ dir. deletes dir name) r s t (λ dir at within.
    other-spares n late who dir name (λ id. removes dir name id) r s t (λ id found more.
    plan-spares n late who (removes dir name id) r s t
    (tidy-removal (Spares n) dir name id (off.0 dir at) (off.0 dir at) (off.1 dir at id found)) more) within) h
actions-spare-others who lun master (action.Purge directory name highest) r s t n h late off =
    found-spares n late who master directory (λ dir. purges_if (is_lower name highest) dir name highest) r s t (λ dir at more.
    purged-spares n late who (is_lower name highest) dir name highest r s t (off.0 dir at) (off.1 dir at) more) h
actions-spare-others who lun master (action.Rename directory name to new) r s t n h late off =
    found-spares n late who master directory (λ dir. within master to (λ into. renames dir name into new)) r s t (λ dir at rest.
    found-spares n late who master to (λ into. renames dir name into new) r s t (λ into there within.
    other-spares n late who dir name (λ id. if_granted (one (describes id)) (λ was.
    moves_if (may_move into new id was.ident) dir name into new id was.ident)) r s t
    (λ id found more.
    described-spares n late who id (λ was. moves_if (may_move into new id was.ident) dir name into new id was.ident) r s t (λ was goes.
    moved-spares n late who (may_move into new id was.ident) dir name into new id was.ident r s t (λ x. off.2 dir at id found)
    (off.1 into there) (off.0 dir at) goes)
    more) within) rest) h
actions-spare-others who lun master (action.Protect directory name protection) r s t n h late off =
    found-spares n late who master directory (λ dir. protects dir name protection) r s t (λ dir at within.
    other-spares n late who dir name (λ id. sets id protection) r s t (λ id found more.
    plan-spares n late who (sets id protection) r s t (clean-one (Spares n) (done (request.WriteAttr id (change.Protect protection)))
    (off dir at id found)) more) within) h
actions-spare-others who lun master (action.Truncate directory name) r s t n h late off =
    found-spares n late who master directory (λ dir. truncates lun dir name) r s t (λ dir at within.
    other-spares n late who dir name (λ id. if_granted (one (describes id)) (λ of. cuts_if (states_end of) lun id of.attr)) r s t
    (λ id found more.
    described-spares n late who id (λ of. cuts_if (states_end of) lun id of.attr) r s t (λ of goes.
    accessed-cut-spares n late who lun id (off dir at id found) (states_end of) of.attr r s t goes) more) within) h
actions-spare-others who lun master (action.MakeDirectory name owner protection) r s t n h late off =
    absent-spares n late who master name (makes_empty owner master name protection directory_attributes) r s t
    (λ u same more. made-spares n late who owner master name protection directory_attributes r u t off.0
    (ap (λ (x : Store). x.in_use n) same ∙ off.1) more ∙ ap (λ (x : Store). x.file n) same) h
