-- Laws of courses: parts of them, one thing asked, and blocks one after another.
use Rattle.std.proofs.Common.{◌≡◌, ℕ, suc, true, false, List, Result, Ok, Err, Some, None}
use Rattle.std.proofs.Common.{refl, sym, ap, subst, ◌∙◌}
use Rattle.std.specs.Prelude.{IsErrAnd}
use Rattle.f11_store.specs.declared.refusals.Refusal.{Refusal}
use Rattle.f11_store.specs.declared.requests.Request.{Request}
use Rattle.f11_making.specs.Asking.{Denies, FilesService, Grants, Who}
use Rattle.f11_making.specs.Asking.{writes as writes_block}
use Rattle.f11_making.specs.FilesPlan.{AnswerOf, Carried, Question, done, one}
use Rattle.f11_making.specs.Plan.{and_then, asking, gives}
use Rattle.f11_copying.specs.Copies.{pours}
use Rattle.f11_copying.specs.Courses.{Both, Course, Giving, Runs, as_copy, ask, both, if_granted, is_lethal, on_err, on_ok, on_other}
use Rattle.f11_copying.specs.Courses.{or_else, or_if, or_undone, undoing, undoing_if, worse}
use Rattle.f11_copying.specs.declared.fault.CopyFault.{CopyFault}
use Rattle.f11_copying.specs.declared.fault.CopyFault.TheVariants.{Files, Unread}

-- whatever a course gives from here, the first one gives from the start
abbrev pub RunsBack : {V H T : Type 0} → FilesService V → Giving H → Who → Course T → Both V H → Course T → Both V H → Type 0
RunsBack {V} {H} {T} S K who p v q w = (y : T) (u : Both V H) → Runs S K who q y w u → Runs S K who p y v u

module _ {V H : Type 0} (S : FilesService V) (K : Giving H) (who : Who) where
  pub runs-then : {T U : Type 0} (p : Course T) (on : T → Course U) (x : T) (y : U) (v w u : Both V H) → Runs S K who p x v w
      → Runs S K who (on x) y w u → Runs S K who (and_then p on) y v u
  runs-then (gives z) on x y v w u h k =
      subst (λ s. Runs S K who (on z) y s u) h.1 (subst (λ t. Runs S K who (on t) y w u) h.0 k)
  runs-then (asking q more) on x y v w u h k = (h.0, h.1, h.2, runs-then (more h.0) on x y h.1 w u h.3 k)

  -- something asked of the volume alone
  pub runs-one : (q : Question) (a : Result (AnswerOf q) Refusal) (v w : V) (h : H) → Carried S who (one q) a v w
      → Runs S K who (ask q) (as_copy a) (both v h) (both w h)
  runs-one q a v w h g = (g.0, both g.1 h, (g.2, refl), (ap as_copy g.3.0, ap (λ x. both x h) g.3.1))

  -- one block more
  pub pour-more : (lun before n : ℕ) (block : List ℕ) (p : Course (Result (Unit {0}) CopyFault)) (s : Both V H) (v w : V) (h k : H)
      → RunsBack S K who p s (pours lun before (suc n)) (both v h) → K h (Some block) k
      → Grants S who (writes_block lun (suc before) block) v w → RunsBack S K who p s (pours lun (suc before) n) (both w k)
  pour-more lun before n block p s v w h k back took wrote y u rest =
      back y u (Some block, both v k, (took, refl), (Ok tt, both w k, (wrote, refl), rest))

  pub pour-unread : (lun before n : ℕ) (p : Course (Result (Unit {0}) CopyFault)) (s : Both V H) (v : V) (h k : H)
      → RunsBack S K who p s (pours lun before (suc n)) (both v h) → K h None k → Runs S K who p (Err Unread) s (both v k)
  pour-unread lun before n p s v h k back took = back (Err Unread) (both v k) (None, both v k, (took, refl), (refl, refl))

  pub pour-refused : (lun before n : ℕ) (block : List ℕ) (e : Refusal) (p : Course (Result (Unit {0}) CopyFault)) (s : Both V H)
      (v w : V) (h k : H) → RunsBack S K who p s (pours lun before (suc n)) (both v h) → K h (Some block) k
      → Denies S who (writes_block lun (suc before) block) e v w → Runs S K who p (Err (Files e)) s (both w k)
  pour-refused lun before n block e p s v w h k back took denied =
      back (Err (Files e)) (both w k) (Some block, both v k, (took, refl), (Err e, both w k, (denied, refl), (refl, refl)))

  -- the same as code counts: the next place, and how many are left
  pub pour-on : (lun before next left rest : ℕ) (block : List ℕ) (p : Course (Result (Unit {0}) CopyFault)) (s : Both V H) (v w : V)
      (h k : H) → next ≡ suc before → left ≡ suc rest → RunsBack S K who p s (pours lun before left) (both v h) → K h (Some block) k
      → Grants S who (writes_block lun next block) v w → RunsBack S K who p s (pours lun next rest) (both w k)
  pour-on lun before next left rest block p s v w h k is few back took wrote =
      subst (λ m. RunsBack S K who p s (pours lun m rest) (both w k)) (sym is)
      (pour-more lun before rest block p s v w h k (subst (λ m. RunsBack S K who p s (pours lun before m) (both v h)) few back) took
      (subst (λ m. Grants S who (writes_block lun m block) v w) is wrote))

  pub pour-none : (lun before left rest : ℕ) (p : Course (Result (Unit {0}) CopyFault)) (s : Both V H) (v : V) (h k : H) → left ≡ suc rest
      → RunsBack S K who p s (pours lun before left) (both v h) → K h None k → Runs S K who p (Err Unread) s (both v k)
  pour-none lun before left rest p s v h k few back took =
      pour-unread lun before rest p s v h k (subst (λ m. RunsBack S K who p s (pours lun before m) (both v h)) few back) took

  pub pour-off : (lun before next left rest : ℕ) (block : List ℕ) (e : Refusal) (p : Course (Result (Unit {0}) CopyFault)) (s : Both V H)
      (v w : V) (h k : H) → next ≡ suc before → left ≡ suc rest → RunsBack S K who p s (pours lun before left) (both v h)
      → K h (Some block) k → Denies S who (writes_block lun next block) e v w → Runs S K who p (Err (Files e)) s (both w k)
  pour-off lun before next left rest block e p s v w h k is few back took denied =
      pour-refused lun before rest block e p s v w h k (subst (λ m. RunsBack S K who p s (pours lun before m) (both v h)) few back) took
      (subst (λ m. Denies S who (writes_block lun m block) e v w) is denied)

  pub pour-ends : (lun before left : ℕ) (p : Course (Result (Unit {0}) CopyFault)) (s t : Both V H) → left ≡ 0
      → RunsBack S K who p s (pours lun before left) t → Runs S K who p (Ok tt) s t
  pour-ends lun before left p s t none back =
      subst (λ m. RunsBack S K who p s (pours lun before m) t) none back (Ok tt) t (refl, refl)

  -- a part was granted, and what follows went on; or it was refused
  pub ok-on : {T U : Type 0} (p : Course (Result T CopyFault)) (on : T → Course (Result U CopyFault)) (x : T) (y : Result U CopyFault)
      (v w u : Both V H) → Runs S K who p (Ok x) v w → Runs S K who (on x) y w u → Runs S K who (if_granted p on) y v u
  ok-on p on x y v w u h k = runs-then p (on_ok on) (Ok x) y v w u h k

  pub err-on : {T U : Type 0} (p : Course (Result T CopyFault)) (on : T → Course (Result U CopyFault)) (e : CopyFault) (v w : Both V H)
      → Runs S K who p (Err e) v w → Runs S K who (if_granted p on) (Err e) v w
  err-on p on e v w h = runs-then p (on_ok on) (Err e) (Err e) v w w h (refl, refl)

  -- where the first part is refused nothing follows
  pub refused-first : {T U : Type 0} (p : Course (Result T CopyFault)) (on : T → Course (Result U CopyFault)) (r : Result U CopyFault)
      (e : CopyFault) (v w : Both V H) → Runs S K who p (Err e) v w → IsErrAnd r (λ x. x ≡ e) → Runs S K who (if_granted p on) r v w
  refused-first p on (Ok y) e v w h is = absurd is
  refused-first p on (Err y) e v w h is =
      subst (λ x. Runs S K who (if_granted p on) (Err x) v w) (sym is) (runs-then p (on_ok on) (Err e) (Err e) v w w h (refl, refl))

  pub ok-undone : {T : Type 0} (r : Request) (p : Course (Result T CopyFault)) (x : T) (v w : Both V H) → Runs S K who p (Ok x) v w
      → Runs S K who (or_undone r p) (Ok x) v w
  ok-undone r p x v w h = runs-then p (on_err r) (Ok x) (Ok x) v w w h (refl, refl)

  pub err-undone : {T : Type 0} (r : Request) (p : Course (Result T CopyFault)) (e : CopyFault) (y : Result T CopyFault) (v w u : Both V H)
      → Runs S K who p (Err e) v w → Runs S K who (undoing {T = T} r e) y w u → Runs S K who (or_undone r p) y v u
  err-undone r p e y v w u h k = runs-then p (on_err r) (Err e) y v w u h k

  pub undoing-none : (T : Type 0) (r : Request) (e : CopyFault) (v : Both V H) → is_lethal e ≡ true
      → Runs S K who (undoing {T = T} r e) (Err e) v v
  undoing-none T r e v lethal = subst (λ b. Runs S K who (undoing_if {T = T} b r e) (Err e) v v) (sym lethal) (refl, refl)

  pub undoing-asked : (T : Type 0) (r : Request) (e f : CopyFault) (a : Result (Unit {0}) Refusal) (v w : V) (h : H) → is_lethal e ≡ false
      → Carried S who (one (done r)) a v w → f ≡ worse e a → Runs S K who (undoing {T = T} r e) (Err f) (both v h) (both w h)
  undoing-asked T r e f a v w h calm g is =
      subst (λ b. Runs S K who (undoing_if {T = T} b r e) (Err f) (both v h) (both w h)) (sym calm)
      (g.0, both g.1 h, (g.2, refl), (ap Err (is ∙ ap (worse e) g.3.0), ap (λ x. both x h) g.3.1))

  -- something else was asked, or not
  pub ok-else : {T : Type 0} (p other : Course (Result T CopyFault)) (x : T) (v w : Both V H) → Runs S K who p (Ok x) v w
      → Runs S K who (or_else p other) (Ok x) v w
  ok-else p other x v w h = runs-then p (on_other other) (Ok x) (Ok x) v w w h (refl, refl)

  pub lethal-else : {T : Type 0} (p other : Course (Result T CopyFault)) (e : CopyFault) (v w : Both V H) → is_lethal e ≡ true
      → Runs S K who p (Err e) v w → Runs S K who (or_else p other) (Err e) v w
  lethal-else p other e v w lethal h =
      runs-then p (on_other other) (Err e) (Err e) v w w h
      (subst (λ b. Runs S K who (or_if b e other) (Err e) w w) (sym lethal) (refl, refl))

  pub err-else : {T : Type 0} (p other : Course (Result T CopyFault)) (e : CopyFault) (y : Result T CopyFault) (v w u : Both V H)
      → is_lethal e ≡ false → Runs S K who p (Err e) v w → Runs S K who other y w u → Runs S K who (or_else p other) y v u
  err-else p other e y v w u calm h k =
      runs-then p (on_other other) (Err e) y v w u h (subst (λ b. Runs S K who (or_if b e other) y w u) (sym calm) k)
