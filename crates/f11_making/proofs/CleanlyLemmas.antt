-- What is asked without a device fault or Damaged, put together.
use Rattle.std.proofs.Common.{◌≡◌, inl, inr, false, List, [], ◌∷◌, ◌++◌, refl, sym, subst}
use Rattle.f11_store.specs.declared.refusals.Refusal.{Refusal}
use Rattle.f11_fcp.specs.files.Answers.{is_fatal}
use Rattle.f11_making.specs.Asking.{Asking, Denies, FilesService, Granted, Grants, Who}
use Rattle.f11_making.specs.Cleanly.{Cleanly, TriedCleanly}

module _ {V : Type 0} (S : FilesService V) (who : Who) where
  pub cleanly-none : (v : V) → Cleanly S who v v
  cleanly-none v = record { asked = []; tried = refl }

  pub tried-then : (xs ys : List Asking) (u v w : V) → TriedCleanly S who xs u v → TriedCleanly S who ys v w
      → TriedCleanly S who (xs ++ ys) u w
  tried-then [] ys u v w h k = subst (λ x. TriedCleanly S who ys x w) h k
  tried-then (x ∷ xs) ys u v w h k = (h.0, h.1, tried-then xs ys h.0 v w h.2 k)

  pub cleanly-then : (u v w : V) → Cleanly S who u v → Cleanly S who v w → Cleanly S who u w
  cleanly-then u v w h k = record { asked = h.asked ++ k.asked; tried = tried-then h.asked k.asked u v w h.tried k.tried }

  pub cleanly-one : (x : Asking) (v w : V) → Grants S who x v w → Cleanly S who v w
  cleanly-one x v w h = record { asked = x ∷ []; tried = (w, inl h, refl) }

  pub cleanly-denied : (x : Asking) (e : Refusal) (v w : V) → is_fatal e ≡ false → Denies S who x e v w → Cleanly S who v w
  cleanly-denied x e v w clean h = record { asked = x ∷ []; tried = (w, inr (e, clean, h), refl) }

  pub cleanly-all : (xs : List Asking) (v w : V) → Granted S who xs v w → Cleanly S who v w
  cleanly-all [] v w h = subst (λ x. Cleanly S who v x) (sym h) (cleanly-none v)
  cleanly-all (x ∷ xs) v w h = cleanly-then v h.0 w (cleanly-one x v h.0 h.1) (cleanly-all xs h.0 w h.2)
