-- Courses of which a device fault or Damaged is the end.
use Rattle.std.proofs.Common.{◌≡◌, ℕ, suc, zero, ◌==◌, not, Bool, true, false, if◌then◌else◌, List, Result, Ok, Err}
use Rattle.std.proofs.Common.{Option, Some, None, refl, sym, ap, ◌∙◌, subst}
use Rattle.f11_store.specs.declared.files.Change.TheVariants as change
use Rattle.f11_store.specs.declared.files.FileId.{FileId}
use Rattle.f11_store.specs.declared.files.Mode.TheVariants as mode
use Rattle.f11_store.specs.declared.refusals.Refusal.{Refusal}
use Rattle.f11_store.specs.declared.requests.Request.{Request}
use Rattle.f11_store.specs.declared.requests.Request.TheVariants as request
use Rattle.f11_making.specs.files.Answers.{is_fatal}
use Rattle.f11_making.specs.Carrying.{IsFitting}
use Rattle.f11_making.specs.FilesPlan.{AnswerOf, Question, done, names_for, writes}
use Rattle.f11_making.specs.Plan.{and_then, asking, gives}
use Rattle.f11_making.specs.Telling.{is_whole as is_whole_answer}
use Rattle.f11_making.proofs.PlanLemmas.{not-not}
use Rattle.f11_copying.specs.Copies.{allocates, copies, enters, fills, fills_and_finishes, fills_if, finishes, on_block, pours}
use Rattle.f11_copying.specs.Copies.{without_end}
use Rattle.f11_copying.specs.Courses.{Course, as_copy, ask, if_granted, is_lethal, next_block, of_files, on_err, on_ok, on_other}
use Rattle.f11_copying.specs.Courses.{or_else, or_if, or_undone, undoing_if, worse}
use Rattle.f11_copying.specs.Telling.{IsTidy, is_whole}
use Rattle.f11_copying.specs.declared.fault.CopyFault.{CopyFault}
use Rattle.f11_copying.specs.declared.fault.CopyFault.TheVariants.{Files}
use Rattle.f11_copying.specs.declared.file.FileToMake.{FileToMake}

module _ (P : Question → Type 0) where
  pub tidy-ask : (q : Question) → P q → IsTidy P (ask q)
  tidy-ask q is = (is, (λ e fatal. refl), by)
    where
      by : (a : Result (AnswerOf q) Refusal) → is_whole_answer a ≡ true → is_whole (as_copy a) ≡ true
      by (Ok x) calm = refl
      by (Err e) calm = calm

  pub tidy-then : {T U : Type 0} (p : Course (Result T CopyFault)) (on : Result T CopyFault → Course (Result U CopyFault)) → IsTidy P p
      → ((e : CopyFault) → is_lethal e ≡ true → on (Err e) ≡ gives (Err e))
      → ((a : Result T CopyFault) → is_whole a ≡ true → IsTidy P (on a)) → IsTidy P (and_then p on)
  tidy-then (gives x) on tidy ends more = more x tidy
  tidy-then (asking (of_files q) go) on tidy ends more = (
    tidy.0,
    (λ e fatal. ap (λ p. and_then p on) (tidy.1 e fatal) ∙ ends (Files e) fatal),
    (λ a calm. tidy-then (go a) on (tidy.2 a calm) ends more),
  )
  tidy-then (asking next_block go) on tidy ends more = λ a. tidy-then (go a) on (tidy a) ends more

  pub tidy-if : {T U : Type 0} (p : Course (Result T CopyFault)) (on : T → Course (Result U CopyFault)) → IsTidy P p
      → ((x : T) → IsTidy P (on x)) → IsTidy P (if_granted p on)
  tidy-if {T} {U} p on tidy more = tidy-then p (on_ok on) tidy (λ e lethal. refl) by
    where
      by : (a : Result T CopyFault) → is_whole a ≡ true → IsTidy P (on_ok on a)
      by (Ok x) whole = more x
      by (Err e) whole = whole

  tidy-undoing : (T : Type 0) (r : Request) (e : CopyFault) → P (done r) → is_lethal e ≡ false → IsTidy P (undoing_if {T = T} false r e)
  tidy-undoing T r e is calm = (is, (λ f fatal. ap (λ b. gives (Err (if b then Files f else e))) fatal), by)
    where
      by : (a : Result (Unit {0}) Refusal) → is_whole_answer a ≡ true → not (is_lethal (worse e a)) ≡ true
      by (Ok x) k = ap not calm
      by (Err f) k = ap (λ b. not (is_lethal (if b then Files f else e))) (not-not (is_fatal f) k) ∙ ap not calm

  pub tidy-undone : {T : Type 0} (r : Request) (p : Course (Result T CopyFault)) → P (done r) → IsTidy P p → IsTidy P (or_undone r p)
  tidy-undone {T} r p is tidy = tidy-then p (on_err r) tidy (λ e lethal. ap (λ b. undoing_if {T = T} b r e) lethal) by
    where
      by : (a : Result T CopyFault) → is_whole a ≡ true → IsTidy P (on_err r a)
      by (Ok x) whole = refl
      by (Err e) whole =
          subst (λ b. IsTidy P (undoing_if {T = T} b r e)) (sym (not-not (is_lethal e) whole))
          (tidy-undoing T r e is (not-not (is_lethal e) whole))

  pub tidy-else : {T : Type 0} (p other : Course (Result T CopyFault)) → IsTidy P p → IsTidy P other → IsTidy P (or_else p other)
  tidy-else {T} p other tidy more = tidy-then p (on_other other) tidy (λ e lethal. ap (λ b. or_if b e other) lethal) by
    where
      by : (a : Result T CopyFault) → is_whole a ≡ true → IsTidy P (on_other other a)
      by (Ok x) whole = refl
      by (Err e) whole = subst (λ b. IsTidy P (or_if b e other)) (sym (not-not (is_lethal e) whole)) more

tidy-pours : (lun before n : ℕ) → IsTidy IsFitting (pours lun before n)
tidy-pours lun before zero = refl
tidy-pours lun before (suc n) = more (tidy-pours lun (suc before) n)
  where
    more : IsTidy IsFitting (pours lun (suc before) n) → (a : Option (List ℕ))
        → IsTidy IsFitting (on_block lun before (pours lun (suc before) n) a)
    more rest None = refl
    more rest (Some block) =
        tidy-if IsFitting (ask (writes lun (suc before) block)) (λ x. pours lun (suc before) n)
        (tidy-ask IsFitting (writes lun (suc before) block) tt) (λ x. rest)

tidy-done : (r : Request) → IsTidy IsFitting (ask (done r))
tidy-done r = tidy-ask IsFitting (done r) tt

tidy-allocates : (in_one_run : Bool) (lun n : ℕ) → IsTidy IsFitting (allocates in_one_run lun n)
tidy-allocates true lun n =
    tidy-else IsFitting (ask (done (request.Contiguous lun n))) (ask (done (request.Extend lun n))) (tidy-done (request.Contiguous lun n))
    (tidy-done (request.Extend lun n))
tidy-allocates false lun n = tidy-done (request.Extend lun n)

tidy-fills : (in_one_run : Bool) (lun n : ℕ) → IsTidy IsFitting (fills in_one_run lun n)
tidy-fills in_one_run lun n =
    tidy-if IsFitting (allocates in_one_run lun n) (λ x. if_granted (pours lun 0 n) (λ y. ask (done (request.Deaccess lun))))
    (tidy-allocates in_one_run lun n) (λ x.
    tidy-if IsFitting (pours lun 0 n) (λ y. ask (done (request.Deaccess lun))) (tidy-pours lun 0 n)
    (λ y. tidy-done (request.Deaccess lun)))

tidy-fills-if : (empty in_one_run : Bool) (lun n : ℕ) (id : FileId) → IsTidy IsFitting (fills_if empty in_one_run lun n id)
tidy-fills-if true in_one_run lun n id = refl
tidy-fills-if false in_one_run lun n id =
    tidy-if IsFitting (ask (done (request.Access id mode.Write lun))) (λ x. or_undone (request.Deaccess lun) (fills in_one_run lun n))
    (tidy-done (request.Access id mode.Write lun))
    (λ x. tidy-undone IsFitting (request.Deaccess lun) (fills in_one_run lun n) tt (tidy-fills in_one_run lun n))

tidy-enters : (file : FileToMake) (dir : FileId) (name : List ℕ) (id : FileId) → IsTidy IsFitting (enters file dir name id)
tidy-enters file dir name id =
    tidy-if IsFitting (ask (done (request.Enter dir name id)))
    (λ x. or_undone (request.Remove dir name) (ask (done (request.WriteAttr id (change.Protect file.protection)))))
    (tidy-done (request.Enter dir name id)) (λ x.
    tidy-undone IsFitting (request.Remove dir name) (ask (done (request.WriteAttr id (change.Protect file.protection)))) tt
    (tidy-done (request.WriteAttr id (change.Protect file.protection))))

tidy-finishes : (file : FileToMake) (dir : FileId) (name : List ℕ) (id : FileId) → IsTidy IsFitting (finishes file dir name id)
tidy-finishes file dir name id =
    tidy-if IsFitting (ask (done (request.WriteAttr id (change.Attr file.attr)))) (λ x. enters file dir name id)
    (tidy-done (request.WriteAttr id (change.Attr file.attr))) (λ x. tidy-enters file dir name id)

tidy-fills-and-finishes : (file : FileToMake) (lun : ℕ) (dir : FileId) (name : List ℕ) (id : FileId)
    → IsTidy IsFitting (fills_and_finishes file lun dir name id)
tidy-fills-and-finishes file lun dir name id =
    tidy-if IsFitting (fills_if (file.blocks == 0) file.in_one_run lun file.blocks id) (λ x. finishes file dir name id)
    (tidy-fills-if (file.blocks == 0) file.in_one_run lun file.blocks id) (λ x. tidy-finishes file dir name id)

-- the making of a file is such a course
pub tidy-copies : (file : FileToMake) (lun : ℕ) (dir : FileId) (name : List ℕ) → IsTidy IsFitting (copies file lun dir name)
tidy-copies file lun dir name =
    tidy-if IsFitting (ask (names_for file.owner (request.Create 0 file.ident (without_end file.attr))))
    (λ id. if_granted (or_undone (request.Delete id) (fills_and_finishes file lun dir name id)) (λ x. gives (Ok id)))
    (tidy-ask IsFitting (names_for file.owner (request.Create 0 file.ident (without_end file.attr))) refl) (λ id.
    tidy-if IsFitting (or_undone (request.Delete id) (fills_and_finishes file lun dir name id)) (λ x. gives (Ok id))
    (tidy-undone IsFitting (request.Delete id) (fills_and_finishes file lun dir name id) tt
    (tidy-fills-and-finishes file lun dir name id)) (λ x. refl))
