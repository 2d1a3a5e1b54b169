-- Lists of what is asked, put together.
use Rattle.std.proofs.Common.{◌≡◌, ◌⊎◌, inl, inr, ℕ, suc, ◌+◌, List, [], ◌∷◌, ◌++◌, length, refl, sym, ap, subst, arith}
use Rattle.f11_store.specs.declared.refusals.Refusal.{Refusal}
use Rattle.f11_store.specs.declared.requests.Reply.{Reply}
use Rattle.f11_store.specs.declared.requests.Request.{Request}
use Rattle.f11_making.specs.Asking.{Asking, BreaksOffAsking, Denies, Granted, Grants, FilesService, Who, reads, reads_of, writes, writes_of}
use Rattle.f11_making.specs.Asking.{asks, told}

module _ {V : Type 0} (S : FilesService V) (who : Who) where
  pub granted-append : (xs ys : List Asking) (v w u : V) → Granted S who xs v w → Granted S who ys w u → Granted S who (xs ++ ys) v u
  granted-append [] ys v w u h k = subst (λ x. Granted S who ys x u) h k
  granted-append (x ∷ xs) ys v w u h k = (h.0, h.1, granted-append xs ys h.0 w u h.2 k)

  pub granted-parts : (xs ys : List Asking) (v u : V) → Granted S who (xs ++ ys) v u
      → (w : V) × (Granted S who xs v w) × (Granted S who ys w u)
  granted-parts [] ys v u h = (v, refl, h)
  granted-parts (x ∷ xs) ys v u h = let rest = granted-parts xs ys h.0 u h.2 in (rest.0, (h.0, h.1, rest.1), rest.2)

  pub granted-one : (xs : List Asking) (x : Asking) (v w u : V) → Granted S who xs v w → Grants S who x w u
      → Granted S who (xs ++ x ∷ []) v u
  granted-one xs x v w u h k = granted-append xs (x ∷ []) v w u h (u, k, refl)

  pub breaks-behind : (xs ys : List Asking) (e : Refusal) (v w u : V) → Granted S who xs v w → BreaksOffAsking S who ys e w u
      → BreaksOffAsking S who (xs ++ ys) e v u
  breaks-behind [] ys e v w u h k = subst (λ x. BreaksOffAsking S who ys e x u) h k
  breaks-behind (x ∷ xs) ys e v w u h k = inr (h.0, h.1, breaks-behind xs ys e h.0 w u h.2 k)

  pub breaks-last : (xs : List Asking) (x : Asking) (e : Refusal) (v w u : V) → Granted S who xs v w → Denies S who x e w u
      → BreaksOffAsking S who (xs ++ x ∷ []) e v u
  breaks-last xs x e v w u h k = breaks-behind xs (x ∷ []) e v w u h (inl k)

  pub breaks-before : (xs ys : List Asking) (e : Refusal) (v u : V) → BreaksOffAsking S who xs e v u
      → BreaksOffAsking S who (xs ++ ys) e v u
  breaks-before [] ys e v u h = absurd h
  breaks-before (x ∷ xs) ys e v u (inl h) = inl h
  breaks-before (x ∷ xs) ys e v u (inr h) = inr (h.0, h.1, breaks-before xs ys e h.0 u h.2)

  pub breaks-parts : (xs ys : List Asking) (e : Refusal) (v u : V) → BreaksOffAsking S who (xs ++ ys) e v u →
      (BreaksOffAsking S who xs e v u) ⊎ ((w : V) × (Granted S who xs v w) × (BreaksOffAsking S who ys e w u))
  breaks-parts [] ys e v u h = inr (v, refl, h)
  breaks-parts (x ∷ xs) ys e v u (inl h) = inl (inl h)
  breaks-parts (x ∷ xs) ys e v u (inr h) = by (breaks-parts xs ys e h.0 u h.2)
    where
      by : ((BreaksOffAsking S who xs e h.0 u) ⊎ ((w : V) × (Granted S who xs h.0 w) × (BreaksOffAsking S who ys e w u))) →
          (BreaksOffAsking S who (x ∷ xs) e v u) ⊎ ((w : V) × (Granted S who (x ∷ xs) v w) × (BreaksOffAsking S who ys e w u))
      by (inl k) = inl (inr (h.0, h.1, k))
      by (inr k) = inr (k.0, (h.0, h.1, k.1), k.2)

-- blocks one after another are those of the front and those behind them
pub reads-append : (lun before : ℕ) (xs ys : List (List ℕ))
    → reads_of lun before (xs ++ ys) ≡ reads_of lun before xs ++ reads_of lun (before + length xs) ys
reads-append lun before [] ys = ap (λ n. reads_of lun n ys) (omega arith)
reads-append lun before (x ∷ xs) ys =
    ap (λ (l : List Asking). reads lun (suc before) x ∷ l)
    (subst (λ n. reads_of lun (suc before) (xs ++ ys) ≡ reads_of lun (suc before) xs ++ reads_of lun n ys) (omega arith)
    (reads-append lun (suc before) xs ys))

pub writes-append : (lun before : ℕ) (xs ys : List (List ℕ))
    → writes_of lun before (xs ++ ys) ≡ writes_of lun before xs ++ writes_of lun (before + length xs) ys
writes-append lun before [] ys = ap (λ n. writes_of lun n ys) (omega arith)
writes-append lun before (x ∷ xs) ys =
    ap (λ (l : List Asking). writes lun (suc before) x ∷ l)
    (subst (λ n. writes_of lun (suc before) (xs ++ ys) ≡ writes_of lun (suc before) xs ++ writes_of lun n ys) (omega arith)
    (writes-append lun (suc before) xs ys))

module _ {V : Type 0} (S : FilesService V) (who : Who) (lun : ℕ) where
  -- one more is read
  pub reads-more : (xs : List (List ℕ)) (x : List ℕ) (k : ℕ) (v w u : V) → length xs ≡ k → Granted S who (reads_of lun 0 xs) v w →
      Grants S who (reads lun (k + 1) x) w u → Granted S who (reads_of lun 0 (xs ++ x ∷ [])) v u
  reads-more xs x k v w u is h one =
      subst (λ (l : List Asking). Granted S who l v u) (sym (reads-append lun 0 xs (x ∷ [])))
      (granted-one S who (reads_of lun 0 xs) (reads lun (suc (0 + length xs)) x) v w u h
      (subst (λ n. Grants S who (reads lun n x) w u) (omega (arith, is)) one))

  pub reads-denied : (xs : List (List ℕ)) (x : List ℕ) (k : ℕ) (e : Refusal) (v w u : V) → length xs ≡ k
      → Granted S who (reads_of lun 0 xs) v w →
      Denies S who (reads lun (k + 1) x) e w u → BreaksOffAsking S who (reads_of lun 0 (xs ++ x ∷ [])) e v u
  reads-denied xs x k e v w u is h one =
      subst (λ (l : List Asking). BreaksOffAsking S who l e v u) (sym (reads-append lun 0 xs (x ∷ [])))
      (breaks-last S who (reads_of lun 0 xs) (reads lun (suc (0 + length xs)) x) e v w u h
      (subst (λ n. Denies S who (reads lun n x) e w u) (omega (arith, is)) one))

-- a request that has this reply is granted
pub granted-told : {V : Type 0} (S : FilesService V) (who : Who) (r : Request) (a : Reply) (v w : V) → Grants S who (told r a) v w
    → Grants S who (asks r) v w
granted-told S who r a v w h = (h.0, a, h.1, h.2)
