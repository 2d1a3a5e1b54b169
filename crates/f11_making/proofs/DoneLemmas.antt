-- What an action that was done makes of the plain store.
use Rattle.std.proofs.Common.{◌≡◌, ◌⊎◌, inl, inr, ◌==◌, ◌&&◌, ℕ, Bool, true, false, if◌then◌else◌, List, take, Option, Some, None}
use Rattle.std.proofs.Common.{option_and_then}
use Rattle.std.proofs.Common.{is_none, is_some, nat_lt, not, option_map, unwrap_or, Result, Ok, Err, refl, sym, ap, ◌∙◌, subst}
use Rattle.f11_runs.proofs.AccessLemmas.{true-false}
use Rattle.f11_store.specs.Causes.{first_refusal, is_bad, is_missing, lacks}
use Rattle.f11_store.specs.Changes.{after_giving_up, is_due, with_access, with_change, with_first_blocks, with_replacement}
use Rattle.f11_store.specs.Changes.{Truncates, after_delete, with_slots_first, without_file_at}
use Rattle.f11_store.specs.File.{File, is_marked, length_of, no_file}
use Rattle.f11_store.specs.Ident.{ident_with}
use Rattle.f11_store.specs.Step.{MayRefuse, Step, attributes_of, next_id}
use Rattle.f11_store.specs.Store.{Access, Store, file_held, file_named, id_in, is_accessed, of_sequence}
use Rattle.f11_store.specs.declared.protection.Right.TheVariants as right
use Rattle.f11_store.specs.declared.callers.Uic.{Uic}
use Rattle.f11_store.specs.declared.files.Attr.{Attr}
use Rattle.f11_store.specs.declared.files.Change.TheVariants as change
use Rattle.f11_store.specs.declared.files.FileId.{FileId}
use Rattle.f11_store.specs.declared.files.Mode.TheVariants as mode
use Rattle.f11_store.specs.declared.refusals.Refusal.{Refusal}
use Rattle.f11_store.specs.declared.refusals.Refusal.TheVariants as refusal
use Rattle.f11_store.specs.declared.requests.Reply.{Reply}
use Rattle.f11_store.specs.declared.requests.Request.{Request}
use Rattle.f11_store.specs.declared.requests.Request.TheVariants as request
use Rattle.f11_store.proofs.StoreLemmas.{none_first, none_rest, same_number}
use Rattle.f11_fcp.specs.files.Answers.{is_fatal}
use Rattle.f11_making.specs.Actions.{within}
use Rattle.f11_making.specs.Asking.{Grants, Who, plain, told}
use Rattle.f11_making.specs.Done.{DoneIsDone, IsDeleted, IsNamed, IsPurged, IsRenamed, IsTruncated, MakesDirectory, PurgesName}
use Rattle.f11_making.specs.FilesPlan.{AsksFile, Carried, FilesPlan, attributes_in, describes, done, file_in, if_granted, names, on_err}
use Rattle.f11_making.specs.FilesPlan.{on_ok, one}
use Rattle.f11_making.specs.FilesPlan.{or_undone, undoing, undoing_if, worse}
use Rattle.f11_making.specs.Plan.{and_then, gives}
use Rattle.f11_making.specs.Plans.{blocks_to_end, cuts_held, cuts_if, directory_attributes, enters, finds_other, is_absent, is_own}
use Rattle.f11_making.specs.Plans.{is_lower, judged_by, makes_empty, may_move, moves, moves_if, not_own, on_absent, judges_kept, purges_by}
use Rattle.f11_making.specs.Plans.{purges_if, removes}
use Rattle.f11_making.specs.Plans.{removes_but, renames, retitles, sets}
use Rattle.f11_making.specs.Plans.{shortens, states_end, unless_gone, with_blocks, with_name}
use Rattle.f11_making.specs.Sparing.{Finds}
use Rattle.f11_making.proofs.PlanLemmas.{goes-parts}
use Rattle.f11_making.proofs.SparingLemmas.{found-is}
use Rattle.f11_making.specs.declared.action.Action.TheVariants as action

-- a file that isn't missing is there, with the sequence number that it is named by
there : (o : Option File) (q : ℕ) → is_none (option_and_then (of_sequence q) o) ≡ false
    → (f : File) × (o ≡ Some f) × ((f.sequence == q) ≡ true)
there None q is = absurd (true-false is)
there (Some f) q is = by (f.sequence == q) refl is
  where
    by : (b : Bool) → (f.sequence == q) ≡ b → is_none (if b then Some f else None) ≡ false
        → (g : File) × (Some f ≡ Some g) × ((g.sequence == q) ≡ true)
    by true e h = (f, refl, e)
    by false e h = absurd (true-false h)

-- a cause of access that is the fifth of the list, where none holds
fifth-none : (a b c d e : Bool) (rest : Option Refusal)
    → (if a then Some refusal.BadArgument else if b then Some refusal.LunInUse else if c then Some refusal.SystemFile
    else if d then Some refusal.NoSuchFile else if e then Some refusal.Marked else rest) ≡ None → e ≡ false
fifth-none true b c d e rest h = absurd (cc)
fifth-none false true c d e rest h = absurd (cc)
fifth-none false false true d e rest h = absurd (cc)
fifth-none false false false true e rest h = absurd (cc)
fifth-none false false false false true rest h = absurd (cc)
fifth-none false false false false false rest h = refl

-- and is the one that is named
named : (s : Store) (id : FileId) (f : File) → s.file id.number ≡ Some f → (f.sequence == id.sequence) ≡ true → file_named s id ≡ f
named s id f is same =
    ap (λ (o : Option File). unwrap_or (option_and_then (of_sequence id.sequence) o) no_file) is
    ∙ ap (λ b. unwrap_or (if b then Some f else None) no_file) same

module _ (who : Who) (s t : Store) where
  -- what was done looked first, and found
  found-then : (dir : FileId) (name : List ℕ) (on : FileId → FilesPlan (Result (Unit {0}) Refusal))
      → Carried plain who (if_granted (one (names (request.Find dir name))) on) (Ok tt) s t
      → (id : FileId) × (Finds who dir name s id) × Carried plain who (on id) (Ok tt) s t
  found-then dir name on (Ok id, u, (a, found, (lent, given, step)), rest) =
      let same : u ≡ s = step.changes in
      let here = subst (λ x. Step s who.task who.caller (request.Find dir name) lent (Ok a) x given) same step in (
        id,
        subst (λ x. Grants plain who (told (request.Find dir name) x) s s) (found-is dir name a id found) (lent, given, here),
        subst (λ x. Carried plain who (on id) (Ok tt) x t) same rest,
      )
  found-then dir name on (Err e, u, asked, ended) = absurd (let never : Ok tt ≡ Err e = ended.0 in cc)

  other-then : (dir : FileId) (name : List ℕ) (on : FileId → FilesPlan (Result (Unit {0}) Refusal))
      → Carried plain who (if_granted (finds_other dir name) on) (Ok tt) s t
      → (id : FileId) × (Finds who dir name s id) × Carried plain who (on id) (Ok tt) s t
  other-then dir name on (a, u, asked, rest) =
      let f = found-then dir name (λ id. on_ok on (not_own (Ok id))) (a, u, asked, same a rest) in (f.0, f.1, by f.0 (is_own f.0) f.2)
    where
      same : (a : Result FileId Refusal) → Carried plain who (on_ok on (not_own a)) (Ok tt) u t
          → Carried plain who (on_ok (λ id. on_ok on (not_own (Ok id))) a) (Ok tt) u t
      same (Ok id) h = h
      same (Err e) h = h

      volume : (id : FileId) (b : Bool) → Carried plain who (on_ok on (if b then Ok id else Err refusal.BadArgument)) (Ok tt) s t
          → Carried plain who (on id) (Ok tt) s t
      volume id true h = h
      volume id false h = absurd (let never : Ok tt ≡ Err refusal.BadArgument = h.0 in cc)

      by : (id : FileId) (b : Bool) → Carried plain who (on_ok on (judged_by b id)) (Ok tt) s t → Carried plain who (on id) (Ok tt) s t
      by id true h = absurd (let never : Ok tt ≡ Err refusal.SystemFile = h.0 in cc)
      by id false h = volume id (id.volume == 0) h

  -- and asked for its attributes, which are those of a file that is there
  described-then : (id : FileId) (on : Attr → FilesPlan (Result (Unit {0}) Refusal))
      → Carried plain who (if_granted (one (describes id)) on) (Ok tt) s t
      → (f : File) × (s.file id.number ≡ Some f) × ((f.sequence == id.sequence) ≡ true)
      × Carried plain who (on (attributes_of f)) (Ok tt) s t
  described-then id on (Ok x, u, (a, tells, (lent, given, step)), rest) =
      let same : u ≡ s = step.changes in
      let f = there (s.file id.number) id.sequence (none_first _ _ _ (none_rest _ _ _ step.no_cause)) in
      let of : file_named s id ≡ f.0 = named s id f.0 f.1 f.2 in
      let is : Some (attributes_of (file_named s id)) ≡ Some x = sym (ap attributes_in step.reply_is) ∙ tells in
      let alike : attributes_of (file_named s id) ≡ x = cc in (
        f.0,
        f.1,
        f.2,
        subst (λ (y : Attr). Carried plain who (on y) (Ok tt) s t) (sym alike ∙ ap attributes_of of)
            (subst (λ v. Carried plain who (on x) (Ok tt) v t) same rest),
      )
  described-then id on (Err e, u, asked, ended) = absurd (let never : Ok tt ≡ Err e = ended.0 in cc)

-- a plan that was granted
module _ (who : Who) where
  granted-then : {T : Type 0} (p : FilesPlan (Result T Refusal)) (on : T → FilesPlan (Result (Unit {0}) Refusal)) (s t : Store)
      → Carried plain who (if_granted p on) (Ok tt) s t
      → (x : T) × (u : Store) × (Carried plain who p (Ok x) s u) × Carried plain who (on x) (Ok tt) u t
  granted-then {T} p on s t h = let g = goes-parts plain who p (on_ok on) (Ok tt) s t h in by g.0 g.1 g.2 g.3
    where
      by : (r : Result T Refusal) (u : Store) → Carried plain who p r s u → Carried plain who (on_ok on r) (Ok tt) u t
          → (x : T) × (w : Store) × (Carried plain who p (Ok x) s w) × Carried plain who (on x) (Ok tt) w t
      by (Ok x) u first rest = (x, u, first, rest)
      by (Err e) u first rest = absurd (let never : Ok tt ≡ Err e = rest.0 in cc)

  -- nothing of it was undone
  done-then : (r : Request) (p : FilesPlan (Result (Unit {0}) Refusal)) (s t : Store) → Carried plain who (or_undone r p) (Ok tt) s t
      → Carried plain who p (Ok tt) s t
  done-then r p s t h = let g = goes-parts plain who p (on_err r) (Ok tt) s t h in by g.0 g.1 g.2 g.3
    where
      not-undone : (e : Refusal) (w v : Store) → Carried plain who (undoing {T = Unit {0}} r e) (Ok tt) w v → ⊥
      not-undone e w v = fatal (is_fatal e)
        where
          fatal : (b : Bool) → Carried plain who (undoing_if {T = Unit {0}} b r e) (Ok tt) w v → ⊥
          fatal true h = (let never : Ok tt ≡ Err e = h.0 in cc)
          fatal false h = (let never : Ok tt ≡ Err (worse e h.0) = h.3.0 in cc)

      by : (a : Result (Unit {0}) Refusal) (u : Store) → Carried plain who p a s u → Carried plain who (on_err r a) (Ok tt) u t
          → Carried plain who p (Ok tt) s t
      by (Ok x) u first rest = subst (λ y. Carried plain who p (Ok tt) s y) (sym rest.1) first
      by (Err e) u first rest = absurd (not-undone e u t rest)

  -- a request that was done
  one-done : (r : Request) (x : Unit {0}) (s t : Store) → Carried plain who (one (done r)) (Ok x) s t
      → (lent : List ℕ) × (given : List ℕ) × (a : Reply) × Step s who.task who.caller r lent (Ok a) t given
  one-done r x s t (Ok y, u, (lent, a, given, step), ends) =
      (lent, given, a, subst (λ w. Step s who.task who.caller r lent (Ok a) w given) (sym ends.1) step)
  one-done r x s t (Err e, u, d, ends) = absurd (let never : Ok x ≡ Err e = ends.0 in cc)

-- what was done to a file that is accessed
module _ (who : Who) (lun : ℕ) (id : FileId) (f : File) (same : (f.sequence == id.sequence) ≡ true) where
  abbrev k : ℕ
  k = id.number

  abbrev its : Access
  its = record { file = id; mode = mode.Write }

  -- it is there, and accessed by this lun
  record Held (u : Store) (g : File) : Type 0 where
    pub file : u.file k ≡ Some g
    pub access : u.access who.task lun ≡ Some its

  held-file : (u : Store) → Held u f → file_held u who.task lun ≡ f
  held-file u h =
      ap (λ (o : Option Access). file_named u (id_in o)) h.access ∙ named u id f h.file same

  accessed : (s : Store) → s.file k ≡ Some f → Held (with_access s who.task lun (Some its)) f
  accessed s is = record {
    file = is;
    access = λ i. if same_number who.task i && same_number lun i then Some its else s.access who.task lun;
  }

  abbrev cut : ℕ → ℕ → ℕ → ℕ → File
  cut to headers pointers room = record (with_first_blocks to f) { held = take headers f.held; pointers = pointers; room = room }

  truncated : (u v : Store) (to : ℕ) (lent given : List ℕ) (a : Reply) → Held u f
      → Step u who.task who.caller (request.Truncate lun to) lent (Ok a) v given
      → (headers : ℕ) × (pointers : ℕ) × (room : ℕ) × Held v (cut to headers pointers room)
  truncated u v to lent given a h step =
      let c : Truncates u k to v =
      subst (λ (o : Option Access). Truncates u (id_in o).number to v) h.access step.changes in
      let before : c.before ≡ f = (let o : Some c.before ≡ Some f = sym c.was ∙ h.file in cc) in (
        c.headers,
        c.pointers,
        c.room,
        subst (λ (x : File). Held v
            (record (with_first_blocks to x) { held = take c.headers x.held; pointers = c.pointers; room = c.room }))
            before (subst (λ (x : Store). Held x (record (with_first_blocks to c.before) {
              held = take c.headers c.before.held;
              pointers = c.pointers;
              room = c.room;
            })) (sym c.store_is) (record {
              file = ap (λ b. if b then Some (record (with_first_blocks to c.before) {
                held = take c.headers c.before.held;
                pointers = c.pointers;
                room = c.room;
              }) else u.file k) (same_number k);
              access = h.access;
            })),
      )

  stated : (u v : Store) (g : File) (x : List ℕ) (lent given : List ℕ) (a : Reply) → Held u g
      → Step u who.task who.caller (request.WriteAttr id (change.Attr x)) lent (Ok a) v given → Held v (record g { attr = x })
  stated u v g x lent given a h step =
      subst (λ (w : Store). Held w (record g { attr = x })) (sym step.changes) (record {
        file = ap (λ b. if b then option_map (with_replacement (change.Attr x)) (u.file k) else u.file k) (same_number k)
            ∙ ap (option_map (with_replacement (change.Attr x))) h.file;
        access = h.access;
      })

  given-up : (u v : Store) (g : File) (lent given : List ℕ) (a : Reply) → Held u g → (g.sequence == id.sequence) ≡ true
      → is_marked g ≡ false → Step u who.task who.caller (request.Deaccess lun) lent (Ok a) v given → v.file k ≡ Some g
  given-up u v g lent given a h seq unmarked step =
      ap (λ (x : Store). x.file k) (step.changes ∙ ap (after_giving_up u who.task lun) h.access)
      ∙ by (is_due w id)
      (ap (λ (x : File). is_marked x && not (is_accessed w id)) (named w id g h.file seq)
      ∙ ap (λ b. b && not (is_accessed w id)) unmarked)
    where
      w : Store
      w = with_access u who.task lun None

      by : (b : Bool) → b ≡ false → (if b then without_file_at w k else w).file k ≡ Some g
      by true is = absurd (true-false is)
      by false is = h.file

  -- that is all that is asked of it
  held-then : (u t : Store) → Held u f → is_marked f ≡ false → Carried plain who (cuts_held lun id f.attr) (Ok tt) u t
      → (g : File) × (t.file k ≡ Some g) × IsTruncated f g
  held-then u t h unmarked goes =
      let p = granted-then who (or_undone (request.Deaccess lun) (shortens lun id f.attr)) (λ x. one (done (request.Deaccess lun))) u t goes
      in
      let n = kept p.1 (done-then who (request.Deaccess lun) (shortens lun id f.attr) u p.1 p.2) in
      let give = one-done who (request.Deaccess lun) tt p.1 t p.3 in
      (n.0, given-up p.1 t n.0 give.0 give.1 give.2 n.1 n.2 n.3 give.3, n.4)
    where
      kept : (v : Store) → Carried plain who (shortens lun id f.attr) (Ok tt) u v
          → (g : File) × (Held v g) × ((g.sequence == id.sequence) ≡ true) × (is_marked g ≡ false) × IsTruncated f g
      kept v (Ok n, u2, measured, rest) =
          let to = blocks_to_end f.attr n in
          let many : n ≡ length_of f = measured.1 ∙ ap length_of (held-file u h) in
          let a = granted-then who (one (done (request.Truncate lun to)))
          (λ x. one (done (request.WriteAttr id (change.Attr (with_blocks f.attr to))))) u2 v rest in
          let cuts = one-done who (request.Truncate lun to) a.0 u2 a.1 a.2 in
          let states = one-done who (request.WriteAttr id (change.Attr (with_blocks f.attr to))) tt a.1 v a.3 in
          let c = truncated u a.1 to cuts.0 cuts.1 cuts.2 h
          (subst (λ x. Step x who.task who.caller (request.Truncate lun to) cuts.0 (Ok cuts.2) a.1 cuts.1) measured.2 cuts.3) in (
            record (cut to c.0 c.1 c.2) { attr = with_blocks f.attr to },
            stated a.1 v (cut to c.0 c.1 c.2) (with_blocks f.attr to) states.0 states.1 states.2 c.3 states.3,
            same,
            unmarked,
            record {
              blocks = ap (λ m. take (blocks_to_end f.attr m) f.blocks) many;
              attr = ap (λ m. with_blocks f.attr (blocks_to_end f.attr m)) many;
              owner = refl;
              protection = refl;
              ident = refl;
            },
          )
      kept v (Err e, u2, d, ends) = absurd (let never : Ok tt ≡ Err e = ends.0 in cc)

  cut-then : (b : Bool) (s t : Store) → s.file k ≡ Some f → Carried plain who (cuts_if b lun id f.attr) (Ok tt) s t
      → (g : File) × (t.file k ≡ Some g) × IsTruncated f g
  cut-then false s t is h = absurd (let never : Ok tt ≡ Err refusal.BadArgument = h.0 in cc)
  cut-then true s t is (Ok x, u, (lent, a, given, step), rest) =
      held-then u t (subst (λ w. Held w f) (sym step.changes) (accessed s is))
      (ap is_marked (sym (named s id f is same))
      ∙ fifth-none (is_bad id) (is_some (s.access who.task lun)) (nat_lt id.number 4) (is_missing s id) (is_marked (file_named s id)) _
      step.no_cause) rest
  cut-then true s t is (Err e, u, d, ends) = absurd (let never : Ok tt ≡ Err e = ends.0 in cc)

-- what was done to a file by its name
module _ (who : Who) where
  -- a file that isn't there isn't deleted
  gone-is : (a b c d e : Bool)
      → MayRefuse (if a then Some refusal.BadArgument else if b then Some refusal.SystemFile else if c then Some refusal.NoSuchFile
      else if d then Some refusal.Marked else if e then Some refusal.NoPrivilege else None) false false refusal.NoSuchFile → c ≡ true
  gone-is true b c d e h = absurd (cc)
  gone-is false true c d e h = absurd (cc)
  gone-is false false true d e h = refl
  gone-is false false false true e h = absurd (cc)
  gone-is false false false false true h = absurd (cc)
  gone-is false false false false false h = absurd h

  deleted-then : (dir : FileId) (name : List ℕ) (id : FileId) (s t : Store) → Carried plain who (removes dir name id) (Ok tt) s t
      → IsDeleted dir name id s t
  deleted-then dir name id s t h =
      let g = granted-then who (one (done (request.Remove dir name)))
      (λ x. and_then (one (done (request.Delete id))) (unless_gone (request.Enter dir name id))) s t h in
      let first = one-done who (request.Remove dir name) g.0 s g.1 g.2 in
      let rest = goes-parts plain who (one (done (request.Delete id))) (unless_gone (request.Enter dir name id)) (Ok tt) g.1 t g.3 in
      subst (λ u. (t ≡ after_delete u id) ⊎ ((is_missing u id ≡ true) × (t ≡ u))) first.3.changes (by g.1 rest.0 rest.1 rest.2 rest.3)
    where
      back : Request
      back = request.Enter dir name id

      by : (u : Store) (r : Result (Unit {0}) Refusal) (w : Store) → Carried plain who (one (done (request.Delete id))) r u w
          → Carried plain who (unless_gone back r) (Ok tt) w t → (t ≡ after_delete u id) ⊎ ((is_missing u id ≡ true) × (t ≡ u))
      by u (Ok x) w first rest = inl (rest.1 ∙ (one-done who (request.Delete id) x u w first).3.changes)
      by u (Err e) w (Ok y, v, g, ends) rest = absurd (let never : Err e ≡ Ok y = ends.0 in cc)
      by u (Err refusal.NoSuchFile) w (Err e, v, (lent, given, step), ends) rest =
          let is : e ≡ refusal.NoSuchFile = (let same : Err refusal.NoSuchFile ≡ Err e = ends.0 in cc) in
          inr (
            gone-is (is_bad id) (nat_lt id.number 6) (is_missing u id) (is_marked (file_named u id) && is_accessed u id)
                (lacks right.Delete who.caller (file_named u id))
                (subst (λ x. MayRefuse (first_refusal u who.task who.caller (request.Delete id)) false false x) is step.may_refuse),
            rest.1 ∙ ends.1 ∙ step.store_stays,
          )
      by u (Err e) w first rest = absurd (undone (is_fatal e) rest)
        where
          undone : (b : Bool) → Carried plain who (undoing_if {T = Unit {0}} b back e) (Ok tt) w t → ⊥
          undone true h = (let never : Ok tt ≡ Err e = h.0 in cc)
          undone false h = (let never : Ok tt ≡ Err (worse e h.0) = h.3.0 in cc)

  -- a lower version was purged
  but-then : (b : Bool) (dir : FileId) (name : List ℕ) (id kept : FileId) (s t : Store) → (id.number == kept.number) ≡ b
      → Carried plain who (removes_but b dir name id) (Ok tt) s t → IsPurged dir name id kept s t
  but-then true dir name id kept s t is h = inl (is, (one-done who (request.Remove dir name) tt s t h).3.changes)
  but-then false dir name id kept s t is h = inr (is, deleted-then dir name id s t h)

  there-is : (s : Store) (id : FileId) (f : File) → s.file id.number ≡ Some f → (f.sequence == id.sequence) ≡ true
      → is_missing s id ≡ false
  there-is s id f is same =
      ap (λ (o : Option File). is_none (option_and_then (of_sequence id.sequence) o)) is
      ∙ ap (λ b. is_none (if b then Some f else None)) same

  good-then : (r : Result (Unit {0}) Refusal) (kept dir : FileId) (name : List ℕ) (s t : Store)
      → Carried plain who (purges_by r kept dir name) (Ok tt) s t
      → (r ≡ Ok tt)
      × Carried plain who (if_granted (finds_other dir name) (λ id. removes_but (id.number == kept.number) dir name id)) (Ok tt) s t
  good-then (Ok x) kept dir name s t h = (refl, h)
  good-then (Err e) kept dir name s t h = absurd (let never : Ok tt ≡ Err e = h.0 in cc)

  purged-then : (b : Bool) (dir : FileId) (name highest : List ℕ) (s t : Store) → is_lower name highest ≡ b
      → Carried plain who (purges_if b dir name highest) (Ok tt) s t
      → (id : FileId) × (Finds who dir name s id) × PurgesName who dir name highest id s t
  purged-then false dir name highest s t lower h = absurd (let never : Ok tt ≡ Err refusal.BadArgument = h.0 in cc)
  purged-then true dir name highest s t lower h =
      let k = found-then who s t dir highest
      (λ kept. if_granted (one (describes kept)) (λ of. purges_by (judges_kept of) kept dir name)) h in
      let d = described-then who s t k.0 (λ of. purges_by (judges_kept of) k.0 dir name) k.2 in
      let g = good-then (judges_kept (attributes_of d.0)) k.0 dir name s t d.3 in
      let o = other-then who s t dir name (λ id. removes_but (id.number == k.0.number) dir name id) g.1 in (
        o.0,
        o.1,
        record {
          lower = lower;
          kept = k.0;
          kept_is = k.1;
          there = there-is s k.0 d.0 d.1 d.2;
          good = ap (λ (f : File). judges_kept (attributes_of f)) (named s k.0 d.0 d.1 d.2) ∙ g.0;
          purged = but-then (o.0.number == k.0.number) dir name o.0 k.0 s t refl o.2;
        },
      )

  renamed-then : (dir : FileId) (old : List ℕ) (to : FileId) (new : List ℕ) (id : FileId) (f : File) (s t : Store) → file_named s id ≡ f
      → Carried plain who (moves dir old to new id (attributes_of f).ident) (Ok tt) s t → IsRenamed dir old to new id s t
  renamed-then dir old to new id f s t of h =
      let named = request.WriteAttr id (change.Ident (with_name new f.ident)) in
      let a = granted-then who (one (done (request.Enter to new id)))
      (λ x. or_undone (request.Remove to new) (retitles dir old new id f.ident)) s t h in
      let enter = one-done who (request.Enter to new id) a.0 s a.1 a.2 in
      let b = granted-then who (one (done named))
      (λ x. or_undone (request.WriteAttr id (change.Ident f.ident)) (one (done (request.Remove dir old))))
      a.1 t (done-then who (request.Remove to new) (retitles dir old new id f.ident) a.1 t a.3) in
      let title = one-done who named b.0 a.1 b.1 b.2 in
      let remove = one-done who (request.Remove dir old) tt b.1 t
      (done-then who (request.WriteAttr id (change.Ident f.ident)) (one (done (request.Remove dir old))) b.1 t b.3) in
      record {
        entered = a.1;
        enters = enter.3.changes;
        titled = b.1;
        titles = title.3.changes
            ∙ ap (λ (g : File). with_change a.1 id.number (with_replacement (change.Ident (with_name new g.ident)))) (sym of);
        removes = remove.3.changes;
      }

  made-then : (owner : Uic) (master : FileId) (name : List ℕ) (protection : ℕ) (s t : Store)
      → Carried plain who (makes_empty owner master name protection directory_attributes) (Ok tt) s t
      → MakesDirectory master name owner protection s t
  made-then owner master name protection s t (Ok id, u, (a, tells, (lent, given, step)), rest) =
      let b = granted-then who (one (done (request.Enter master name id))) (λ x. sets id protection) u t
      (done-then who (request.Delete id) (enters master name protection id) u t rest) in
      let enter = one-done who (request.Enter master name id) b.0 u b.1 b.2 in
      let protect = one-done who (request.WriteAttr id (change.Protect protection)) tt b.1 t b.3 in
      record {
        id = id;
        created = u;
        id_is = id-is (sym (ap (file_in (request.Create 0 (ident_with name) directory_attributes)) step.reply_is) ∙ tells);
        creates = step.changes;
        entered = b.1;
        enters = enter.3.changes;
        protects = protect.3.changes;
      }
    where
      id-is : Some (next_id (with_slots_first s 1)) ≡ Some id → id ≡ next_id (with_slots_first s 1)
      id-is same = cc
  made-then owner master name protection s t (Err e, u, asked, ends) = absurd (let never : Ok tt ≡ Err e = ends.0 in cc)

  -- the file of a name, and what was done to it
  named-then : (master : FileId) (directory name : List ℕ) (on : FileId → FileId → FilesPlan (Result (Unit {0}) Refusal)) (s t : Store)
      → Carried plain who (within master directory (λ dir. if_granted (finds_other dir name) (on dir))) (Ok tt) s t
      → (f : IsNamed who master directory name s) × Carried plain who (on f.dir f.id) (Ok tt) s t
  named-then master directory name on s t h =
      let d = found-then who s t master directory (λ dir. if_granted (finds_other dir name) (on dir)) h in
      let o = other-then who s t d.0 name (on d.0) d.2 in
      (record { dir = d.0; id = o.0; directory_is = d.1; file_is = o.1 }, o.2)

-- a name became another, which it might
moved-then : (who : Who) (b : Bool) (dir : FileId) (old : List ℕ) (to : FileId) (new : List ℕ) (id : FileId) (ident : List ℕ) (s t : Store)
    → Carried plain who (moves_if b dir old to new id ident) (Ok tt) s t → Carried plain who (moves dir old to new id ident) (Ok tt) s t
moved-then who true dir old to new id ident s t h = h
moved-then who false dir old to new id ident s t h = absurd (let never : Ok tt ≡ Err refusal.BadArgument = h.0 in cc)

-- a name was looked for, and wasn't there
absent-then : (who : Who) (dir : FileId) (name : List ℕ) (p : FilesPlan (Result (Unit {0}) Refusal)) (s t : Store) {R : Store → Type 0}
    → ((u : Store) → u ≡ s → R u → R s) → ((u : Store) → Carried plain who p (Ok tt) u t → R u)
    → Carried plain who (and_then (one (names (request.Find dir name))) (on_absent p)) (Ok tt) s t → R s
absent-then who dir name p s t {R} back then-so (Ok id, u, asked, ended) =
    absurd (let never : Ok tt ≡ Err refusal.DuplicateName = ended.0 in cc)
absent-then who dir name p s t {R} back then-so (Err e, u, asked, rest) = by (is_absent e) rest
  where
    same : AsksFile plain who (request.Find dir name) (Err e) s u → u ≡ s
    same (inl h) = h.2.store_stays
    same (inr h) = h.3.2.changes

    by : (b : Bool) → Carried plain who (if b then p else gives (Err e)) (Ok tt) u t → R s
    by true h = back u (same asked) (then-so u h)
    by false h = absurd (let never : Ok tt ≡ Err e = h.0 in cc)

pub done-is-done : DoneIsDone
done-is-done who lun master (action.Delete directory name) s t h =
    let f = named-then who master directory name (λ dir id. removes dir name id) s t h in
    (f.0, deleted-then who f.0.dir name f.0.id s t f.1)
done-is-done who lun master (action.Purge directory name highest) s t h =
    let d = found-then who s t master directory (λ dir. purges_if (is_lower name highest) dir name highest) h in
    let p = purged-then who (is_lower name highest) d.0 name highest s t refl d.2 in
    (record { dir = d.0; id = p.0; directory_is = d.1; file_is = p.1 }, p.2)
done-is-done who lun master (action.Rename directory name to new) s t h =
    let d = found-then who s t master directory (λ dir. within master to (λ into. renames dir name into new)) h in
    let i = found-then who s t master to (λ into. renames d.0 name into new) d.2 in
    let o = other-then who s t d.0 name
    (λ id. if_granted (one (describes id)) (λ was. moves_if (may_move i.0 new id was.ident) d.0 name i.0 new id was.ident)) i.2 in
    let x = described-then who s t o.0 (λ was. moves_if (may_move i.0 new o.0 was.ident) d.0 name i.0 new o.0 was.ident) o.2 in (
      record { dir = d.0; id = o.0; directory_is = d.1; file_is = o.1 },
      i.0,
      i.1,
      renamed-then who d.0 name i.0 new o.0 x.0 s t (named s o.0 x.0 x.1 x.2)
          (moved-then who (may_move i.0 new o.0 x.0.ident) d.0 name i.0 new o.0 x.0.ident s t x.3),
    )
done-is-done who lun master (action.Protect directory name protection) s t h =
    let f = named-then who master directory name (λ dir id. sets id protection) s t h in
    let r = one-done who (request.WriteAttr f.0.id (change.Protect protection)) tt s t f.1 in (f.0, r.3.changes)
done-is-done who lun master (action.Truncate directory name) s t h =
    let f = named-then who master directory name
    (λ dir id. if_granted (one (describes id)) (λ of. cuts_if (states_end of) lun id of.attr)) s t h in
    let x = described-then who s t f.0.id (λ of. cuts_if (states_end of) lun f.0.id of.attr) f.1 in
    let g = cut-then who lun f.0.id x.0 x.2 (states_end (attributes_of x.0)) s t x.1 x.3 in
    (f.0, record { before = x.0; behind = g.0; was = x.1; is = g.1; truncated = g.2 })
done-is-done who lun master (action.MakeDirectory name owner protection) s t h =
    absent-then who master name (makes_empty owner master name protection directory_attributes) s t
    (λ u same. subst (λ (x : Store). MakesDirectory master name owner protection x t) same)
    (λ u more. made-then who owner master name protection u t more) h
