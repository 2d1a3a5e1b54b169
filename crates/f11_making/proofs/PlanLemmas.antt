-- Laws of plans: parts of them, and the volume seen as the plain store.
use Rattle.std.proofs.Common.{◌≡◌, inl, inr, not, Bool, true, false, if◌then◌else◌, Result, Ok, Err, refl, sym, ap, ◌∙◌, subst}
use Rattle.std.specs.Prelude.{IsErrAnd}
use Rattle.f11_store.specs.Store.{Store}
use Rattle.f11_store.specs.declared.files.FileId.{FileId}
use Rattle.f11_store.specs.declared.refusals.Refusal.{Refusal}
use Rattle.f11_store.specs.declared.requests.Reply.{Reply}
use Rattle.f11_store.specs.declared.requests.Request.{Request}
use Rattle.f11_store.specs.declared.requests.Request.TheVariants as request
use Rattle.f11_runs.proofs.AccessLemmas.{true-false}
use Rattle.f11_fcp.specs.files.Answers.{is_fatal}
use Rattle.f11_making.specs.Asking.{Denies, Fails, FilesService, Grants, Who, asks, plain, told}
use Rattle.f11_making.specs.Asking.{counts as counts_blocks, reads as reads_block, writes as writes_block}
use Rattle.f11_making.specs.Seen.{IsSeenPlain}
use Rattle.f11_making.specs.FilesPlan.{AnswerOf, Asks, AsksFile, Carried, FilesPlan, Question, counts, describes, done, for_user}
use Rattle.f11_making.specs.FilesPlan.{if_granted}
use Rattle.f11_making.specs.FilesPlan.{names, names_file, names_for, on_err, on_ok, one, or_undone, reads, tells_attributes, undoing}
use Rattle.f11_making.specs.FilesPlan.{undoing_if, worse, writes}
use Rattle.f11_making.specs.Plan.{and_then, asking, gives}
use Rattle.f11_making.specs.Telling.{AddsUp, IsTidy, bare, is_whole}

module _ {V : Type 0} (S : FilesService V) (who : Who) where
  pub goes-then : {T U : Type 0} (p : FilesPlan T) (on : T → FilesPlan U) (x : T) (y : U) (v w u : V) → Carried S who p x v w
      → Carried S who (on x) y w u
      → Carried S who (and_then p on) y v u
  goes-then (gives z) on x y v w u h k =
      subst (λ s. Carried S who (on z) y s u) h.1 (subst (λ t. Carried S who (on t) y w u) h.0 k)
  goes-then (asking q more) on x y v w u h k = (h.0, h.1, h.2, goes-then (more h.0) on x y h.1 w u h.3 k)

  pub goes-parts : {T U : Type 0} (p : FilesPlan T) (on : T → FilesPlan U) (y : U) (v u : V) → Carried S who (and_then p on) y v u
      → (x : T) × (w : V) × (Carried S who p x v w) × (Carried S who (on x) y w u)
  goes-parts (gives z) on y v u h = (z, v, (refl, refl), h)
  goes-parts (asking q more) on y v u h =
      let rest = goes-parts (more h.0) on y h.1 u h.3 in (rest.0, rest.1, (h.0, h.1, h.2, rest.2), rest.3)

  -- where the first part is refused nothing follows
  pub refused-first : {T U : Type 0} (p : FilesPlan (Result T Refusal)) (on : T → FilesPlan (Result U Refusal)) (r : Result U Refusal)
      (e : Refusal) (v w : V) → Carried S who p (Err e) v w → IsErrAnd r (λ x. x ≡ e) → Carried S who (if_granted p on) r v w
  refused-first p on (Ok y) e v w h is = absurd is
  refused-first p on (Err y) e v w h is =
      subst (λ x. Carried S who (if_granted p on) (Err x) v w) (sym is)
      (goes-then p (on_ok on) (Err e) (Err e) v w w h (refl, refl))

  -- what undoes something was granted, or refused
  pub undone-granted : (T : Type 0) (r : Request) (e : Refusal) (v w : V) → is_fatal e ≡ false → Grants S who (asks r) v w
      → Carried S who (undoing {T = T} r e) (Err e) v w
  undone-granted T r e v w calm g =
      subst (λ b. Carried S who (undoing_if {T = T} b r e) (Err e) v w) (sym calm) (Ok tt, w, g, (refl, refl))

  pub undone-denied : (T : Type 0) (r : Request) (e f : Refusal) (v w : V) → is_fatal e ≡ false → Denies S who (asks r) f v w
      → Carried S who (undoing {T = T} r e) (Err (if is_fatal f then f else e)) v w
  undone-denied T r e f v w calm d =
      subst (λ b. Carried S who (undoing_if {T = T} b r e) (Err (if is_fatal f then f else e)) v w) (sym calm) (Err f, w, d, (refl, refl))

  pub undone-none : (T : Type 0) (r : Request) (e : Refusal) (v : V) → is_fatal e ≡ true → Carried S who (undoing {T = T} r e) (Err e) v v
  undone-none T r e v fatal = subst (λ b. Carried S who (undoing_if {T = T} b r e) (Err e) v v) (sym fatal) (refl, refl)

pub not-not : (b : Bool) → not b ≡ true → b ≡ false
not-not true h = absurd (true-false (sym h))
not-not false h = refl

-- where a plan's answer is no device fault or Damaged, none of its answers is
pub calm-answer : {V T : Type 0} (S : FilesService V) (who : Who) (q : Question)
    (on : Result (AnswerOf q) Refusal → FilesPlan (Result T Refusal))
    (a : Result (AnswerOf q) Refusal) (r : Result T Refusal) (v w : V) → ((e : Refusal) → is_fatal e ≡ true → on (Err e) ≡ gives (Err e))
    → Carried S who (on a) r v w → is_whole r ≡ true → is_whole a ≡ true
calm-answer S who q on (Ok x) r v w ends h calm = refl
calm-answer {V} {T} S who q on (Err e) r v w ends h calm = by (is_fatal e) refl
  where
    by : (b : Bool) → is_fatal e ≡ b → not b ≡ true
    by false is = refl
    by true is =
        let k = subst (λ p. Carried S who p r v w) (ends e is) h in
        absurd (true-false (sym calm ∙ ap (λ (x : Result T Refusal). is_whole x) k.0 ∙ ap not is))

module _ {V : Type 0} (S : FilesService V) (view : V → Store) (is_sound : V → Bool) (seen : IsSeenPlain S view is_sound) (who : Who) where
  fails-seen : (by : Who) (is_right : Reply → Bool) (r : Request) (e : Refusal) (v w : V) → Fails S by is_right r e v w → is_sound v ≡ true
      → is_fatal e ≡ false → Fails plain by is_right r e (view v) (view w) × (is_sound w ≡ true)
  fails-seen by is_right r e v w (inl h) sound calm = let d = seen.denied by (asks r) e v w h sound calm in (inl d.0, d.1)
  fails-seen by is_right r e v w (inr h) sound calm =
      let g = seen.granted by (told r h.0) v w h.3 sound in (inr (h.0, h.1, h.2, g.0), g.1)

  file-seen : (by : Who) (r : Request) (a : Result FileId Refusal) (v w : V) → AsksFile S by r a v w → is_sound v ≡ true
      → is_whole a ≡ true → AsksFile plain by r a (view v) (view w) × (is_sound w ≡ true)
  file-seen by r (Ok id) v w h sound calm = let g = seen.granted by (told r h.0) v w h.2 sound in ((h.0, h.1, g.0), g.1)
  file-seen by r (Err e) v w h sound calm = fails-seen by (names_file r) r e v w h sound (not-not (is_fatal e) calm)

  pub asks-seen : (q : Question) (a : Result (AnswerOf q) Refusal) (v w : V) → Asks S who q a v w → is_sound v ≡ true → is_whole a ≡ true
      → Asks plain who q a (view v) (view w) × (is_sound w ≡ true)
  asks-seen (done r) (Ok x) v w h sound calm = seen.granted who (asks r) v w h sound
  asks-seen (done r) (Err e) v w h sound calm = seen.denied who (asks r) e v w h sound (not-not (is_fatal e) calm)
  asks-seen (names r) a v w h sound calm = file-seen who r a v w h sound calm
  asks-seen (names_for user r) a v w h sound calm = file-seen (for_user user who) r a v w h sound calm
  asks-seen (describes id) (Ok x) v w h sound calm =
      let g = seen.granted who (told (request.ReadAttr id) h.0) v w h.2 sound in ((h.0, h.1, g.0), g.1)
  asks-seen (describes id) (Err e) v w h sound calm =
      fails-seen who tells_attributes (request.ReadAttr id) e v w h sound (not-not (is_fatal e) calm)
  asks-seen (counts lun) (Ok blocks) v w h sound calm = seen.granted who (counts_blocks lun blocks) v w h sound
  asks-seen (counts lun) (Err e) v w h sound calm =
      seen.denied who (counts_blocks lun 0) e v w h sound (not-not (is_fatal e) calm)
  asks-seen (reads lun vbn) (Ok block) v w h sound calm = seen.granted who (reads_block lun vbn block) v w h sound
  asks-seen (reads lun vbn) (Err e) v w h sound calm =
      let d = seen.denied who (reads_block lun vbn h.0) e v w h.1 sound (not-not (is_fatal e) calm) in ((h.0, d.0), d.1)
  asks-seen (writes lun vbn block) (Ok x) v w h sound calm = seen.granted who (writes_block lun vbn block) v w h sound
  asks-seen (writes lun vbn block) (Err e) v w h sound calm =
      seen.denied who (writes_block lun vbn block) e v w h sound (not-not (is_fatal e) calm)

  -- what goes on a sound volume goes on the plain store, and it stays sound, unless a device fault or Damaged is the answer
  pub goes-seen : {T : Type 0} (P : Question → Type 0) (p : FilesPlan (Result T Refusal)) (r : Result T Refusal) (v w : V) → IsTidy P p
      → Carried S who p r v w → is_sound v ≡ true → is_whole r ≡ true → Carried plain who p r (view v) (view w) × (is_sound w ≡ true)
  goes-seen P (gives x) r v w clean h sound calm = ((h.0, ap view h.1), subst (λ x. is_sound x ≡ true) (sym h.1) sound)
  goes-seen P (asking q on) r v w clean h sound calm =
      let calm-one = calm-answer S who q on h.0 r h.1 w clean.1 h.3 calm in
      let here = asks-seen q h.0 v h.1 h.2 sound calm-one in
      let rest = goes-seen P (on h.0) r h.1 w (clean.2 h.0 calm-one) h.3 here.1 calm in
      ((h.0, view h.1, here.0, rest.0), rest.1)

-- what is told of each answer is told of the plan's
module _ {V : Type 0} (S : FilesService V) (who : Who) (P : Question → Type 0) (R : Result (Unit {0}) Refusal → V → V → Type 0)
    (adds : AddsUp S who P R) where
  as-calm : {T : Type 0} (a : Result T Refusal) (v w : V) → is_whole a ≡ true → R (bare a) v w → R (Ok tt) v w
  as-calm (Ok x) v w calm h = h
  as-calm (Err e) v w calm h = adds.whole e v w (not-not (is_fatal e) calm) h

  of-calm : {T : Type 0} (a : Result T Refusal) (v w : V) → is_whole a ≡ true → R (Ok tt) v w → R (bare a) v w
  of-calm (Ok x) v w calm h = h
  of-calm (Err e) v w calm h = adds.refused e v w (not-not (is_fatal e) calm) h

  step : {T : Type 0} (q : Question) (on : Result (AnswerOf q) Refusal → FilesPlan (Result T Refusal)) (a : Result (AnswerOf q) Refusal)
      (r : Result T Refusal) (u v w : V) → ((e : Refusal) → is_fatal e ≡ true → on (Err e) ≡ gives (Err e)) → R (bare a) u v
      → Carried S who (on a) r v w → (is_whole a ≡ true → R (bare r) v w) → R (bare r) u w
  step q on (Ok x) r u v w ends h g rest = adds.then-so (bare r) u v w h (rest refl)
  step {T} q on (Err e) r u v w ends h g rest = by (is_fatal e) refl
    where
      by : (b : Bool) → is_fatal e ≡ b → R (bare r) u w
      by false is = adds.then-so (bare r) u v w (adds.whole e u v is h) (rest (ap not is))
      by true is =
          let k = subst (λ p. Carried S who p r v w) (ends e is) g in
          subst (λ (x : Result T Refusal). R (bare x) u w) (sym k.0) (subst (λ x. R (Err e) u x) (sym k.1) h)

  pub goes-adds : {T : Type 0} (p : FilesPlan (Result T Refusal)) (r : Result T Refusal) (v w : V) → IsTidy P p → Carried S who p r v w
      → R (bare r) v w
  goes-adds {T} (gives x) r v w clean h =
      subst (λ (x : Result T Refusal). R (bare x) v w) (sym h.0)
      (subst (λ u. R (bare x) v u) (sym h.1) (of-calm x v v clean (adds.none v)))
  goes-adds (asking q on) r v w clean h =
      step q on h.0 r v h.1 w clean.1 (adds.single q h.0 v h.1 clean.0 h.2) h.3
      (λ calm. goes-adds (on h.0) r h.1 w (clean.2 h.0 calm) h.3)

-- plans that are clean
module _ (P : Question → Type 0) where
  pub clean-one : (q : Question) → P q → IsTidy P (one q)
  clean-one q is = (is, (λ e fatal. refl), (λ a calm. calm))

  pub clean-then : {T U : Type 0} (p : FilesPlan (Result T Refusal)) (on : Result T Refusal → FilesPlan (Result U Refusal)) → IsTidy P p
      → ((e : Refusal) → is_fatal e ≡ true → on (Err e) ≡ gives (Err e)) → ((a : Result T Refusal) → is_whole a ≡ true → IsTidy P (on a))
      → IsTidy P (and_then p on)
  clean-then (gives x) on clean ends then-so = then-so x clean
  clean-then (asking q more) on clean ends then-so = (
    clean.0,
    (λ e fatal. ap (λ p. and_then p on) (clean.1 e fatal) ∙ ends e fatal),
    (λ a calm. clean-then (more a) on (clean.2 a calm) ends then-so),
  )

  pub clean-if : {T U : Type 0} (p : FilesPlan (Result T Refusal)) (on : T → FilesPlan (Result U Refusal)) → IsTidy P p
      → ((x : T) → IsTidy P (on x)) → IsTidy P (if_granted p on)
  clean-if {T} {U} p on clean then-so = clean-then p (on_ok on) clean (λ e fatal. refl) by
    where
      by : (a : Result T Refusal) → is_whole a ≡ true → IsTidy P (on_ok on a)
      by (Ok x) calm = then-so x
      by (Err e) calm = calm

  pub worse-calm : (r : Request) (e : Refusal) {T : Type 0} → P (done r) → is_fatal e ≡ false → IsTidy P (undoing_if {T = T} false r e)
  worse-calm r e {T} is calm = (is, (λ f fatal. ap (λ b. gives (Err (if b then f else e))) fatal), by)
    where
      by : (a : Result (Unit {0}) Refusal) → is_whole a ≡ true → not (is_fatal (worse e a)) ≡ true
      by (Ok x) k = ap not calm
      by (Err f) k = ap (λ b. not (is_fatal (if b then f else e))) (not-not (is_fatal f) k) ∙ ap not calm

  pub clean-undone : {T : Type 0} (r : Request) (p : FilesPlan (Result T Refusal)) → P (done r) → IsTidy P p → IsTidy P (or_undone r p)
  clean-undone {T} r p is clean = clean-then p (on_err r) clean (λ e fatal. ap (λ b. undoing_if {T = T} b r e) fatal) by
    where
      by : (a : Result T Refusal) → is_whole a ≡ true → IsTidy P (on_err r a)
      by (Ok x) calm = refl
      by (Err e) calm =
          subst (λ b. IsTidy P (undoing_if {T = T} b r e)) (sym (not-not (is_fatal e) calm))
          (worse-calm r e {T = T} is (not-not (is_fatal e) calm))
