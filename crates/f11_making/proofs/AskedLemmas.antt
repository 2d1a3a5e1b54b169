-- A volume of which things are asked one after another: its home block stays, and where its disk is honest it fails by a failed transfer
-- alone.
use Rattle.std.proofs.Common.{◌≡◌, ◌≢◌, ◌⊎◌, inl, inr, ◌<◌, ◌≤◌, ◌+◌, ◌||◌, if◌then◌else◌, Bool, true, false, IsTrue, List, [], ◌∷◌}
use Rattle.std.proofs.Common.{Err, refl, sym, ap, subst, ◌∙◌, arith}
use Rattle.f11_dev.specs.declared.device.Device.{Ghosts}
use Rattle.f11_fcp.specs.Handles.{is_damage}
use Rattle.f11_fcp.specs.Lists.{ServesCall, failures_of}
use Rattle.f11_fcp.specs.Serving.{is_spent, state_in}
use Rattle.f11_fcp.specs.declared.volume.Volume.{Volume}
use Rattle.f11_fcp.specs.files.Answers.{is_fatal, is_fault, is_refused}
use Rattle.f11_making.specs.Fares.{Fares}
use Rattle.f11_making.proofs.VolumeLemmas.{denied-fared, granted-fared}
use Rattle.f11_making.specs.Asking.{Asking, Denies, Grants, Tried, Who, asks, counts, reads, told, writes}
use Rattle.f11_making.specs.Volume.{of_volume}
use Rattle.f11_store.specs.Run.{Answer, Call}
use Rattle.f11_store.specs.declared.refusals.Refusal.{Refusal}
use Rattle.f11_store.specs.declared.refusals.Refusal.TheVariants.{Damaged, DeviceFault}

-- a refusal that fails a volume, and isn't Damaged, is that of a transfer
pub fault-of : (e : Refusal) → is_fatal e ≡ true → (e ≡ Damaged → ⊥) → is_fault e ≡ true
fault-of DeviceFault fatal un = refl
fault-of Damaged fatal un = absurd (un refl)
fault-of _ fatal un = absurd (let never : false ≡ true = fatal in cc)

undamaged-of : (e : Refusal) → is_damage e ≡ false → e ≡ Damaged → ⊥
undamaged-of Damaged un is = let never : true ≡ false = un in cc
undamaged-of _ un is = cc

by-bool : {A : Type 0} (b : Bool) → (b ≡ true → A) → (b ≡ false → A) → A
by-bool true f g = f refl
by-bool false f g = g refl

pub never : {A : Type 0} {b : Bool} → b ≡ true → b ≡ false → A
never {b = true} h k = absurd (cc)
never {b = false} h k = absurd (cc)

module _ {D : Type 0} {met : Ghosts D} where
  pub tried-home : (who : Who) (xs : List Asking) (v w : Volume D met) → Tried of_volume who xs v w → (state_in w).home ≡ (state_in v).home
  tried-home who [] v w h = ap (λ (u : Volume D met). (state_in u).home) h
  tried-home who (x ∷ xs) v w h = tried-home who xs h.0 w h.2 ∙ one h.1
    where
      one : (Grants of_volume who x v h.0) ⊎ ((e : Refusal) × Denies of_volume who x e v h.0) → (state_in h.0).home ≡ (state_in v).home
      one (inl g) = (granted-fared who x v h.0 g).home
      one (inr d) = (denied-fared who x d.0 v h.0 d.1).home

  -- no honest disk is damaged
  serves-undamaged : (v w : Volume D met) (c : Call) (a : Answer) (e : Refusal) → a.result ≡ Err e → is_spent v ≡ false
      → IsTrue (state_in v).disk.honest → ServesCall v c a w → e ≢ Damaged
  serves-undamaged v w c a e is alive honest h =
      undamaged-of e (sym (ap (λ r. is_refused is_damage r) is) ∙ (h.serving.handled alive).undamaged honest)

  pub denied-undamaged : (who : Who) (x : Asking) (e : Refusal) (v w : Volume D met) → is_spent v ≡ false → IsTrue (state_in v).disk.honest
      → Denies of_volume who x e v w → e ≢ Damaged
  denied-undamaged who (asks r) e v w alive honest h = serves-undamaged v w _ _ e refl alive honest h.2
  denied-undamaged who (told r a) e v w alive honest h = serves-undamaged v w _ _ e refl alive honest h.2
  denied-undamaged who (reads lun vbn block) e v w alive honest h = serves-undamaged v w _ _ e refl alive honest h.2
  denied-undamaged who (writes lun vbn block) e v w alive honest h = serves-undamaged v w _ _ e refl alive honest h.1
  denied-undamaged who (counts lun blocks) e v w alive honest h = ((h.0.measures alive).outcome.right).undamaged honest

  -- transfers that failed stay so many at least
  tried-more : (who : Who) (xs : List Asking) (v w : Volume D met) → Tried of_volume who xs v w → failures_of v ≤ failures_of w
  tried-more who [] v w h = let same = ap (λ (u : Volume D met). failures_of u) h in omega (arith, same)
  tried-more who (x ∷ xs) v w h = let rest = tried-more who xs h.0 w h.2 in let first = one h.1 in omega (arith, rest, first)
    where
      one : (Grants of_volume who x v h.0) ⊎ ((e : Refusal) × Denies of_volume who x e v h.0) → failures_of v ≤ failures_of h.0
      one (inl g) = let f = (granted-fared who x v h.0 g).failures in omega (arith, f)
      one (inr d) = let f = (denied-fared who x d.0 v h.0 d.1).failures in omega (arith, f)

  -- a volume of an honest disk that fails meanwhile has met a failed transfer
  pub tried-breaks : (who : Who) (xs : List Asking) (v w : Volume D met) → Tried of_volume who xs v w → IsTrue (state_in v).disk.honest
      → is_spent v ≡ false → is_spent w ≡ true → failures_of v < failures_of w
  tried-breaks who [] v w h honest alive dead = never (sym (ap (λ (u : Volume D met). is_spent u) h) ∙ dead) alive
  tried-breaks who (x ∷ xs) v w h honest alive dead =
      one (λ honest' alive'. tried-breaks who xs h.0 w h.2 honest' alive' dead) (tried-more who xs h.0 w h.2) h.1
    where
      Rest : Type 0
      Rest = IsTrue (state_in h.0).disk.honest → is_spent h.0 ≡ false → failures_of h.0 < failures_of w

      behind : Rest → (f : Bool) → Fares f false v h.0 → failures_of v < failures_of w
      behind rest f fared =
          let more = rest (fared.honest ∙ honest) (fared.next ∙ ap (λ b. b || false) alive) in
          let same = fared.failures in
          omega (arith, more, same)

      broken : failures_of h.0 ≤ failures_of w → (e : Refusal) → Denies of_volume who x e v h.0 → is_fatal e ≡ true
          → failures_of v < failures_of w
      broken later e denies fatal =
          let fault = fault-of e fatal (denied-undamaged who x e v h.0 alive honest denies) in
          let more = (denied-fared who x e v h.0 denies).failures ∙ ap (λ b. failures_of v + (if b then 1 else 0)) fault in
          omega (arith, more, later)

      clean : Rest → (e : Refusal) → Denies of_volume who x e v h.0 → is_fatal e ≡ false → failures_of v < failures_of w
      clean rest e denies not-fatal =
          behind rest (is_fault e) (subst (λ b. Fares (is_fault e) b v h.0) not-fatal (denied-fared who x e v h.0 denies))

      one : Rest → failures_of h.0 ≤ failures_of w → (Grants of_volume who x v h.0) ⊎ ((e : Refusal) × Denies of_volume who x e v h.0)
          → failures_of v < failures_of w
      one rest later (inl g) = behind rest false (granted-fared who x v h.0 g)
      one rest later (inr d) = by-bool (is_fatal d.0) (broken later d.0 d.1) (clean rest d.0 d.1)
