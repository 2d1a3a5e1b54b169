-- Each plan is tidy.
use Rattle.std.proofs.Common.{◌≡◌, ◌==◌, ◌∙◌, Bool, true, false, if◌then◌else◌, refl, sym, ap, subst, ℕ, List, Result, Ok, Err}
use Rattle.std.specs.Int.{bit_at}
use Rattle.f11_store.specs.Ident.{ident_with}
use Rattle.f11_store.specs.declared.callers.Uic.{Uic}
use Rattle.f11_store.specs.declared.files.Attr.{Attr}
use Rattle.f11_store.specs.declared.files.Change.{Change}
use Rattle.f11_store.specs.declared.files.Change.TheVariants as change
use Rattle.f11_store.specs.declared.files.FileId.{FileId}
use Rattle.f11_store.specs.declared.files.Mode.TheVariants as mode
use Rattle.f11_store.specs.declared.requests.Request.TheVariants as request
use Rattle.f11_making.specs.Carrying.{IsFitting}
use Rattle.f11_making.specs.Actions.{plan_of, within}
use Rattle.f11_making.specs.Plans.{blocks_to_end, cuts_held, cuts_if, deletes, directory_attributes, enters, finds_other, is_absent}
use Rattle.f11_making.specs.Plans.{is_gone, is_lower, is_own, judged_by, keeps, makes_empty, may_move, moves, moves_if, not_own, on_absent}
use Rattle.f11_making.specs.Plans.{protects}
use Rattle.f11_making.specs.Plans.{judges_kept, purges_by, purges_if, removes, removes_but, renames, retitles, sets, shortens, states_end}
use Rattle.f11_making.specs.Plans.{truncates, unless_gone}
use Rattle.f11_making.specs.Plans.{with_blocks, with_name}
use Rattle.f11_making.specs.Plan.{and_then, gives}
use Rattle.f11_making.specs.FilesPlan.{FilesPlan, Question, counts, describes, done, if_granted, names, names_for, one, or_undone, undoing}
use Rattle.f11_making.specs.FilesPlan.{undoing_if}
use Rattle.f11_making.specs.declared.action.Action.{Action}
use Rattle.f11_making.specs.declared.action.Action.TheVariants as action
use Rattle.f11_fcp.specs.files.Answers.{is_fatal}
use Rattle.f11_store.specs.declared.refusals.Refusal.{Refusal}
use Rattle.f11_store.specs.declared.refusals.Refusal.TheVariants as refusal
use Rattle.f11_store.specs.declared.requests.Request.{Request}
use Rattle.f11_making.specs.Telling.{IsTidy, is_whole}
use Rattle.f11_making.proofs.PlanLemmas.{clean-if, clean-one, clean-then, clean-undone, not-not, worse-calm}

module _ (P : Question → Type 0) where
  pub tidy-removal : (dir : FileId) (name : List ℕ) (id : FileId) → P (done (request.Remove dir name))
      → P (done (request.Enter dir name id))
      → P (done (request.Delete id)) → IsTidy P (removes dir name id)
  tidy-removal dir name id remove enter delete =
      clean-if P (one (done (request.Remove dir name)))
      (λ x. and_then (one (done (request.Delete id))) (unless_gone (request.Enter dir name id)))
      (clean-one P (done (request.Remove dir name)) remove)
      (λ x. clean-then P (one (done (request.Delete id))) (unless_gone (request.Enter dir name id))
      (clean-one P (done (request.Delete id)) delete) ends by)
    where
      r : Request
      r = request.Enter dir name id

      gone-calm : (e : Refusal) → is_fatal e ≡ true → is_gone e ≡ false
      gone-calm refusal.NoSuchFile fatal = absurd (let never : false ≡ true = fatal in cc)
      gone-calm _ fatal = refl

      ends : (e : Refusal) → is_fatal e ≡ true → unless_gone r (Err e) ≡ gives (Err e)
      ends e fatal =
          ap (λ b. if b then gives (Ok (tt {0})) else undoing {T = Unit {0}} r e) (gone-calm e fatal)
          ∙ ap (λ b. undoing_if {T = Unit {0}} b r e) fatal

      undone : (e : Refusal) → is_fatal e ≡ false → IsTidy P (undoing {T = Unit {0}} r e)
      undone e calm =
          subst (λ b. IsTidy P (undoing_if {T = Unit {0}} b r e)) (sym calm) (worse-calm P r e {T = Unit {0}} enter calm)

      by : (a : Result (Unit {0}) Refusal) → is_whole a ≡ true → IsTidy P (unless_gone r a)
      by (Ok x) calm = refl
      by (Err e) calm = rest (is_gone e)
        where
          rest : (b : Bool) → IsTidy P (if b then gives (Ok (tt {0})) else undoing {T = Unit {0}} r e)
          rest true = refl
          rest false = undone e (not-not (is_fatal e) calm)

  pub tidy-renaming : (dir : FileId) (old : List ℕ) (to : FileId) (new : List ℕ) (id : FileId) (ident : List ℕ)
      → ((x : Change) → P (done (request.WriteAttr id x))) → P (done (request.Enter to new id)) → P (done (request.Remove to new))
      → P (done (request.Remove dir old)) → IsTidy P (moves dir old to new id ident)
  tidy-renaming dir old to new id ident write enter back remove =
      let named = change.Ident (with_name new ident) in
      let was = change.Ident ident in
      clean-if P (one (done (request.Enter to new id))) (λ x. or_undone (request.Remove to new) (retitles dir old new id ident))
      (clean-one P (done (request.Enter to new id)) enter)
      (λ x. clean-undone P (request.Remove to new) (retitles dir old new id ident) back
      (clean-if P (one (done (request.WriteAttr id named)))
      (λ y. or_undone (request.WriteAttr id was) (one (done (request.Remove dir old))))
      (clean-one P (done (request.WriteAttr id named)) (write named))
      (λ y. clean-undone P (request.WriteAttr id was) (one (done (request.Remove dir old))) (write was)
      (clean-one P (done (request.Remove dir old)) remove))))

  pub tidy-keeping : (lun : ℕ) (id : FileId) (attr : List ℕ) (blocks : ℕ) → P (done (request.Truncate lun blocks))
      → ((x : Change) → P (done (request.WriteAttr id x))) → IsTidy P (keeps lun id attr blocks)
  tidy-keeping lun id attr blocks truncate write =
      let stated = change.Attr (with_blocks attr blocks) in
      clean-if P (one (done (request.Truncate lun blocks))) (λ x. one (done (request.WriteAttr id stated)))
      (clean-one P (done (request.Truncate lun blocks)) truncate) (λ x. clean-one P (done (request.WriteAttr id stated)) (write stated))

  pub tidy-cutting : (lun : ℕ) (id : FileId) (attr : List ℕ) → P (counts lun) → ((blocks : ℕ) → P (done (request.Truncate lun blocks)))
      → ((x : Change) → P (done (request.WriteAttr id x))) → P (done (request.Deaccess lun)) → IsTidy P (cuts_held lun id attr)
  tidy-cutting lun id attr count truncate write give =
      clean-if P (or_undone (request.Deaccess lun) (shortens lun id attr)) (λ y. one (done (request.Deaccess lun)))
      (clean-undone P (request.Deaccess lun) (shortens lun id attr) give
      (clean-if P (one (counts lun)) (λ blocks. keeps lun id attr (blocks_to_end attr blocks)) (clean-one P (counts lun) count)
      (λ blocks. tidy-keeping lun id attr (blocks_to_end attr blocks) (truncate (blocks_to_end attr blocks)) write)))
      (λ y. clean-one P (done (request.Deaccess lun)) give)

  pub tidy-entering : (dir : FileId) (name : List ℕ) (protection : ℕ) (id : FileId) → P (done (request.Enter dir name id))
      → ((x : Change) → P (done (request.WriteAttr id x))) → P (done (request.Delete id))
      → IsTidy P (or_undone (request.Delete id) (enters dir name protection id))
  tidy-entering dir name protection id enter write delete =
      clean-undone P (request.Delete id) (enters dir name protection id) delete
      (clean-if P (one (done (request.Enter dir name id))) (λ x. sets id protection)
      (clean-one P (done (request.Enter dir name id)) enter)
      (λ x. clean-one P (done (request.WriteAttr id (change.Protect protection))) (write (change.Protect protection))))

-- a look for a name, and then this
behind-find : (dir : FileId) (name : List ℕ) (on : FileId → FilesPlan (Result (Unit {0}) Refusal))
    → ((id : FileId) → IsTidy IsFitting (on id)) → IsTidy IsFitting (if_granted (one (names (request.Find dir name))) on)
behind-find dir name on tidy =
    clean-if IsFitting (one (names (request.Find dir name))) on (clean-one IsFitting (names (request.Find dir name)) refl) tidy

-- so where the file isn't the volume's own
behind-other : (dir : FileId) (name : List ℕ) (on : FileId → FilesPlan (Result (Unit {0}) Refusal))
    → ((id : FileId) → IsTidy IsFitting (on id)) → IsTidy IsFitting (if_granted (finds_other dir name) on)
behind-other dir name on tidy =
    clean-if IsFitting (finds_other dir name) on
    (clean-then IsFitting (one (names (request.Find dir name))) (λ found. gives (not_own found))
    (clean-one IsFitting (names (request.Find dir name)) refl) (λ e fatal. refl) by) tidy
  where
    one-volume : (id : FileId) (b : Bool) → is_whole {T = FileId} (if b then Ok id else Err refusal.BadArgument) ≡ true
    one-volume id true = refl
    one-volume id false = refl

    one-other : (id : FileId) (b : Bool) → is_whole (judged_by b id) ≡ true
    one-other id true = refl
    one-other id false = one-volume id (id.volume == 0)

    by : (a : Result FileId Refusal) → is_whole a ≡ true → is_whole (not_own a) ≡ true
    by (Ok id) calm = one-other id (is_own id)
    by (Err e) calm = calm

-- a look at a file's attributes, and then this
behind-attributes : (id : FileId) (on : Attr → FilesPlan (Result (Unit {0}) Refusal)) → ((x : Attr) → IsTidy IsFitting (on x))
    → IsTidy IsFitting (if_granted (one (describes id)) on)
behind-attributes id on tidy = clean-if IsFitting (one (describes id)) on (clean-one IsFitting (describes id) tt) tidy

clean-deletes : (dir : FileId) (name : List ℕ) → IsTidy IsFitting (deletes dir name)
clean-deletes dir name = behind-other dir name (λ id. removes dir name id) (λ id. tidy-removal IsFitting dir name id tt tt tt)

clean-purges : (b : Bool) (dir : FileId) (name highest : List ℕ) → IsTidy IsFitting (purges_if b dir name highest)
clean-purges false dir name highest = refl
clean-purges true dir name highest =
    behind-find dir highest (λ kept. if_granted (one (describes kept)) (λ of. purges_by (judges_kept of) kept dir name)) (λ kept.
    behind-attributes kept (λ of. purges_by (judges_kept of) kept dir name) (λ of.
    kept-as (bit_at of.characteristics 15 == 1) (bit_at of.characteristics 6 == 1) kept))
  where
    by : (b : Bool) (id : FileId) → IsTidy IsFitting (removes_but b dir name id)
    by true id = clean-one IsFitting (done (request.Remove dir name)) tt
    by false id = tidy-removal IsFitting dir name id tt tt tt

    kept-as : (marked opened : Bool) (kept : FileId)
        → IsTidy IsFitting (purges_by (if marked then Err refusal.Marked else if opened then Err refusal.BadArgument else Ok tt) kept dir
        name)
    kept-as true opened kept = refl
    kept-as false true kept = refl
    kept-as false false kept =
        behind-other dir name (λ id. removes_but (id.number == kept.number) dir name id) (λ id. by (id.number == kept.number) id)

clean-moves : (b : Bool) (dir : FileId) (old : List ℕ) (to : FileId) (new : List ℕ) (id : FileId) (ident : List ℕ)
    → IsTidy IsFitting (moves_if b dir old to new id ident)
clean-moves false dir old to new id ident = refl
clean-moves true dir old to new id ident = tidy-renaming IsFitting dir old to new id ident (λ x. tt) tt tt tt

clean-renames : (dir : FileId) (old : List ℕ) (to : FileId) (new : List ℕ) → IsTidy IsFitting (renames dir old to new)
clean-renames dir old to new =
    behind-other dir old
    (λ id. if_granted (one (describes id)) (λ was. moves_if (may_move to new id was.ident) dir old to new id was.ident)) (λ id.
    behind-attributes id (λ was. moves_if (may_move to new id was.ident) dir old to new id was.ident) (λ was.
    clean-moves (may_move to new id was.ident) dir old to new id was.ident))

clean-protects : (dir : FileId) (name : List ℕ) (protection : ℕ) → IsTidy IsFitting (protects dir name protection)
clean-protects dir name protection =
    behind-other dir name (λ id. sets id protection)
    (λ id. clean-one IsFitting (done (request.WriteAttr id (change.Protect protection))) tt)

clean-cuts : (b : Bool) (lun : ℕ) (id : FileId) (attr : List ℕ) → IsTidy IsFitting (cuts_if b lun id attr)
clean-cuts false lun id attr = refl
clean-cuts true lun id attr =
    clean-if IsFitting (one (done (request.Access id mode.Write lun))) (λ x. cuts_held lun id attr)
    (clean-one IsFitting (done (request.Access id mode.Write lun)) tt)
    (λ x. tidy-cutting IsFitting lun id attr tt (λ blocks. tt) (λ x. tt) tt)

clean-truncates : (lun : ℕ) (dir : FileId) (name : List ℕ) → IsTidy IsFitting (truncates lun dir name)
clean-truncates lun dir name =
    behind-other dir name (λ id. if_granted (one (describes id)) (λ of. cuts_if (states_end of) lun id of.attr)) (λ id.
    behind-attributes id (λ of. cuts_if (states_end of) lun id of.attr) (λ of. clean-cuts (states_end of) lun id of.attr))

pub clean-makes : (owner : Uic) (dir : FileId) (name : List ℕ) (protection : ℕ) (attr : List ℕ)
    → IsTidy IsFitting (makes_empty owner dir name protection attr)
clean-makes owner dir name protection attr =
    clean-if IsFitting (one (names_for owner (request.Create 0 (ident_with name) attr))) (λ id.
    or_undone (request.Delete id) (enters dir name protection id))
    (clean-one IsFitting (names_for owner (request.Create 0 (ident_with name) attr)) refl) (λ id.
    tidy-entering IsFitting dir name protection id tt (λ x. tt) tt)

-- a look for a name that isn't to be there, and then this
pub absent-ends : (p : FilesPlan (Result (Unit {0}) Refusal)) (e : Refusal) → is_fatal e ≡ true → on_absent p (Err e) ≡ gives (Err e)
absent-ends p e fatal = ap (λ b. if b then p else gives (Err e)) (by e fatal)
  where
    by : (e : Refusal) → is_fatal e ≡ true → is_absent e ≡ false
    by refusal.NoSuchEntry fatal = absurd (let never : false ≡ true = fatal in cc)
    by _ fatal = refl

clean-absent : (dir : FileId) (name : List ℕ) (p : FilesPlan (Result (Unit {0}) Refusal)) → IsTidy IsFitting p
    → IsTidy IsFitting (and_then (one (names (request.Find dir name))) (on_absent p))
clean-absent dir name p tidy =
    clean-then IsFitting (one (names (request.Find dir name))) (on_absent p) (clean-one IsFitting (names (request.Find dir name)) refl)
    (absent-ends p) by
  where
    by : (a : Result FileId Refusal) → is_whole a ≡ true → IsTidy IsFitting (on_absent p a)
    by (Ok id) calm = refl
    by (Err e) calm = rest (is_absent e)
      where
        rest : (b : Bool) → IsTidy IsFitting (if b then p else gives (Err e))
        rest true = tidy
        rest false = calm

pub clean-action : (lun : ℕ) (master : FileId) (a : Action) → IsTidy IsFitting (plan_of lun master a)
clean-action lun master (action.Delete directory name) =
    behind-find master directory (λ dir. deletes dir name) (λ dir. clean-deletes dir name)
clean-action lun master (action.Purge directory name highest) =
    behind-find master directory (λ dir. purges_if (is_lower name highest) dir name highest) (λ dir.
    clean-purges (is_lower name highest) dir name highest)
clean-action lun master (action.Rename directory name to new) =
    behind-find master directory (λ dir. within master to (λ into. renames dir name into new)) (λ dir.
    behind-find master to (λ into. renames dir name into new) (λ into. clean-renames dir name into new))
clean-action lun master (action.Protect directory name protection) =
    behind-find master directory (λ dir. protects dir name protection) (λ dir. clean-protects dir name protection)
clean-action lun master (action.Truncate directory name) =
    behind-find master directory (λ dir. truncates lun dir name) (λ dir. clean-truncates lun dir name)
clean-action lun master (action.MakeDirectory name owner protection) =
    clean-absent master name (makes_empty owner master name protection directory_attributes)
    (clean-makes owner master name protection directory_attributes)
