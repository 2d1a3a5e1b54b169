-- The parts of a course that went well.
use Rattle.std.proofs.Common.{◌≡◌, ◌⊎◌, inl, inr, Bool, true, false, Result, Ok, Err}
use Rattle.std.proofs.Common.{refl, sym, subst}
use Rattle.f11_store.specs.declared.refusals.Refusal.{Refusal}
use Rattle.f11_store.specs.declared.requests.Request.{Request}
use Rattle.f11_making.specs.Asking.{FilesService, Who}
use Rattle.f11_making.specs.FilesPlan.{AnswerOf, Asks, Question}
use Rattle.f11_making.specs.Plan.{and_then, asking, gives}
use Rattle.f11_copying.specs.Courses.{Both, Course, Giving, Runs, as_copy, ask, if_granted, is_lethal, on_err, on_ok, on_other}
use Rattle.f11_copying.specs.Courses.{or_else, or_if, or_undone, undoing_if}
use Rattle.f11_copying.specs.declared.fault.CopyFault.{CopyFault}
use Rattle.f11_copying.specs.declared.fault.CopyFault.TheVariants.{Files}

pub ok-not-err : {T : Type 0} (x : T) (e : CopyFault) → Ok x ≡ Err e → ⊥
ok-not-err x e h = cc

-- the first part of a course and what followed
pub record Parts {V H T U : Type 0} (S : FilesService V) (K : Giving H) (who : Who) (p : Course T) (on : T → Course U) (y : U)
    (v u : Both V H) : Type 0
  where
    pub x : T
    pub w : Both V H
    pub first : Runs S K who p x v w
    pub rest : Runs S K who (on x) y w u

module _ {V H : Type 0} (S : FilesService V) (K : Giving H) (who : Who) where
  pub runs-parts : {T U : Type 0} (p : Course T) (on : T → Course U) (y : U) (v u : Both V H) → Runs S K who (and_then p on) y v u
      → Parts S K who p on y v u
  runs-parts (gives z) on y v u h = record { x = z; w = v; first = (refl, refl); rest = h }
  runs-parts (asking q more) on y v u h =
      let rest = runs-parts (more h.0) on y h.1 u h.3 in
      record { x = rest.x; w = rest.w; first = (h.0, h.1, h.2, rest.first); rest = rest.rest }

  -- what was granted, and then went well, went well in both parts
  pub record Granted-both {T U : Type 0} (p : Course (Result T CopyFault)) (on : T → Course (Result U CopyFault)) (y : U)
      (v u : Both V H) : Type 0
    where
      pub x : T
      pub w : Both V H
      pub first : Runs S K who p (Ok x) v w
      pub rest : Runs S K who (on x) (Ok y) w u

  pub ok-parts : {T U : Type 0} (p : Course (Result T CopyFault)) (on : T → Course (Result U CopyFault)) (y : U) (v u : Both V H)
      → Runs S K who (if_granted p on) (Ok y) v u → Granted-both p on y v u
  ok-parts {T} {U} p on y v u h = let k = runs-parts p (on_ok on) (Ok y) v u h in by k.x k.w k.first k.rest
    where
      by : (a : Result T CopyFault) (w : Both V H) → Runs S K who p a v w → Runs S K who (on_ok on a) (Ok y) w u
          → Granted-both p on y v u
      by (Ok x) w first rest = record { x = x; w = w; first = first; rest = rest }
      by (Err e) w first rest = absurd (ok-not-err y e rest.0)

  -- what undoes something wasn't asked
  pub undone-parts : {T : Type 0} (r : Request) (p : Course (Result T CopyFault)) (y : T) (v u : Both V H)
      → Runs S K who (or_undone r p) (Ok y) v u → Runs S K who p (Ok y) v u
  undone-parts {T} r p y v u h = let k = runs-parts p (on_err r) (Ok y) v u h in by k.x k.w k.first k.rest
    where
      undoing-errs : (b : Bool) (e : CopyFault) (w : Both V H) → Runs S K who (undoing_if {T = T} b r e) (Ok y) w u → ⊥
      undoing-errs true e w g = ok-not-err y e g.0
      undoing-errs false e w g = ok-not-err y _ g.3.0

      by : (a : Result T CopyFault) (w : Both V H) → Runs S K who p a v w → Runs S K who (on_err r a) (Ok y) w u
          → Runs S K who p (Ok y) v u
      by (Ok x) w first rest =
          subst (λ a. Runs S K who p a v u) (sym rest.0) (subst (λ t. Runs S K who p (Ok x) v t) (sym rest.1) first)
      by (Err e) w first rest = absurd (undoing-errs (is_lethal e) e w rest)

  -- the first was granted, or the other, behind the first
  pub record Other {T : Type 0} (p other : Course (Result T CopyFault)) (y : T) (v u : Both V H) : Type 0 where
    pub e : CopyFault
    pub w : Both V H
    pub first : Runs S K who p (Err e) v w
    pub rest : Runs S K who other (Ok y) w u

  pub else-parts : {T : Type 0} (p other : Course (Result T CopyFault)) (y : T) (v u : Both V H)
      → Runs S K who (or_else p other) (Ok y) v u → Runs S K who p (Ok y) v u ⊎ Other p other y v u
  else-parts {T} p other y v u h = let k = runs-parts p (on_other other) (Ok y) v u h in by k.x k.w k.first k.rest
    where
      asked : (b : Bool) (e : CopyFault) (w : Both V H) → Runs S K who (or_if b e other) (Ok y) w u → Runs S K who other (Ok y) w u
      asked true e w g = absurd (ok-not-err y e g.0)
      asked false e w g = g

      by : (a : Result T CopyFault) (w : Both V H) → Runs S K who p a v w → Runs S K who (on_other other a) (Ok y) w u
          → Runs S K who p (Ok y) v u ⊎ Other p other y v u
      by (Ok x) w first rest =
          inl (subst (λ a. Runs S K who p a v u) (sym rest.0) (subst (λ t. Runs S K who p (Ok x) v t) (sym rest.1) first))
      by (Err e) w first rest = inr (record { e = e; w = w; first = first; rest = asked (is_lethal e) e w rest })

  -- one thing was asked of the volume, and the source is the same
  pub record Asked-one (q : Question) (x : AnswerOf q) (v u : Both V H) : Type 0 where
    pub asked : Asks S who q (Ok x) v.volume u.volume
    pub same : u.source ≡ v.source

  pub ask-parts : (q : Question) (x : AnswerOf q) (v u : Both V H) → Runs S K who (ask q) (Ok x) v u → Asked-one q x v u
  ask-parts q x v u h = by h.0 h.1 h.2 h.3
    where
      by : (a : Result (AnswerOf q) Refusal) (w : Both V H) → (Asks S who q a v.volume w.volume) × (w.source ≡ v.source)
          → (Ok x ≡ as_copy a) × (u ≡ w) → Asked-one q x v u
      by (Ok y) w asked (is, same) =
          subst (λ t. Asked-one q x v t) (sym same)
          (subst (λ z. Asked-one q z v w) (sym (inside (Ok y) is refl)) (record { asked = asked.0; same = asked.1 }))
        where
          inside : (b : Result (AnswerOf q) CopyFault) → Ok x ≡ b → b ≡ Ok y → x ≡ y
          inside b one other = cc
      by (Err e) w asked (is, same) = absurd (ok-not-err x (Files e) is)
