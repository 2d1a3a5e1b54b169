-- What the files are of which some first parts of a work are done, where each of its parts leaves a file such.
use Rattle.std.proofs.Common.{◌≡◌, ℕ, zero, suc, ◌==◌, Bool, true, false, if◌then◌else◌, List, [], ◌∷◌, ◌++◌, take, Option, Some, None}
use Rattle.std.proofs.Common.{option_map, refl, sym, subst}
use Rattle.std.specs.Prelude.{replicate}
use Rattle.std.proofs.lemmas.Bool.{eqb-true}
use Rattle.f11_store.specs.File.{File}
use Rattle.f11_store.specs.Lags.{AreLike, IsLike, LagsBy, Part, Work, after_slots, extend_parts, file_appears, file_changes, file_goes}
use Rattle.f11_store.specs.Lags.{grow_parts, slot_appears, with_no_mark, with_part, with_parts, with_zero_block, work_if}
use Rattle.f11_store.specs.Store.{Store}
use Rattle.f11_store.specs.declared.refusals.Refusal.{Refusal}

-- a file, if there is one, is such
abbrev pub Has : (File → Type 0) → Option File → Type 0
Has P None = Unit {0}
Has P (Some f) = P f

-- a part leaves the file in a slot such
abbrev pub Leaves : (File → Type 0) → ℕ → Part → Type 0
Leaves P k (file_changes j change) = (k == j) ≡ true → (f : File) → P f → P (change f)
Leaves P k (file_appears j f) = P f
Leaves P k (file_goes j) = Unit {0}
Leaves P k slot_appears = Unit {0}

-- so does each of these
abbrev pub AllLeave : (File → Type 0) → ℕ → List Part → Type 0
AllLeave P k [] = Unit {0}
AllLeave P k (p ∷ ps) = Leaves P k p × AllLeave P k ps

module _ (P : File → Type 0) (k : ℕ) where
  change-leaves : (o : Option File) (change : File → File) → ((f : File) → P f → P (change f)) → Has P o → Has P (option_map change o)
  change-leaves None change h is = tt
  change-leaves (Some f) change h is = h f is

  part-leaves : (t : Store) (p : Part) → Leaves P k p → Has P (t.file k) → Has P ((with_part t p).file k)
  part-leaves t (file_changes j change) h is = by (k == j) refl
    where
      by : (b : Bool) → (k == j) ≡ b → Has P (if k == j then option_map change (t.file j) else t.file k)
      by true at =
          subst (λ b. Has P (if b then option_map change (t.file j) else t.file k)) (sym at)
          (change-leaves (t.file j) change (h at) (subst (λ n. Has P (t.file n)) (eqb-true k j at) is))
      by false at = subst (λ b. Has P (if b then option_map change (t.file j) else t.file k)) (sym at) is
  part-leaves t (file_appears j f) h is = by (k == j)
    where
      by : (b : Bool) → Has P (if b then Some f else t.file k)
      by true = h
      by false = is
  part-leaves t (file_goes j) h is = by (k == j)
    where
      by : (b : Bool) → Has P (if b then None else t.file k)
      by true = tt
      by false = is
  part-leaves t slot_appears h is = is

  parts-leave : (ps : List Part) (t : Store) → AllLeave P k ps → Has P (t.file k) → Has P ((with_parts t ps).file k)
  parts-leave [] t h is = is
  parts-leave (p ∷ ps) t h is = parts-leave ps (with_part t p) h.1 (part-leaves t p h.0 is)

  first-leave : (n : ℕ) (ps : List Part) → AllLeave P k ps → AllLeave P k (take n ps)
  first-leave zero ps h = tt
  first-leave (suc n) [] h = tt
  first-leave (suc n) (p ∷ ps) h = (h.0, first-leave n ps h.1)

  pub both-leave : (ps qs : List Part) → AllLeave P k ps → AllLeave P k qs → AllLeave P k (ps ++ qs)
  both-leave [] qs h j = j
  both-leave (p ∷ ps) qs h j = (h.0, both-leave ps qs h.1 j)

  same-leave : (n : ℕ) (p : Part) → Leaves P k p → AllLeave P k (replicate n p)
  same-leave zero p h = tt
  same-leave (suc n) p h = (h, same-leave n p h)

  like-has : ((f g : File) → IsLike f g → P g → P f) → (o p : Option File) → AreLike o p → Has P p → Has P o
  like-has alike None None l h = tt
  like-has alike (Some f) (Some g) l h = alike f g l h
  like-has alike None (Some g) l h = absurd l
  like-has alike (Some f) None l h = absurd l

  -- what lags by it has such a file, too
  pub lag-leaves : ((f g : File) → IsLike f g → P g → P f) → (w : Work) (t s : Store) → LagsBy w t s → AllLeave P k w.parts
      → Has P (s.file k) → Has P (t.file k)
  lag-leaves alike w t s l h is =
      like-has alike (t.file k) ((with_parts s (take l.done w.parts)).file k) (l.files k)
      (parts-leave (take l.done w.parts) s (first-leave l.done w.parts h) is)

  -- work that isn't done where there is a cause against it
  pub work-leaves : (o : Option Refusal) (w : Work) → AllLeave P k w.parts → AllLeave P k (work_if o w).parts
  work-leaves None w h = h
  work-leaves (Some e) w h = tt

  -- a file that grows
  pub extension-leaves : (j n : ℕ) → ((f : File) → P f → P (with_no_mark f))
      → ((k == j) ≡ true → (f : File) → P f → P (with_zero_block f)) → AllLeave P k (extend_parts j n)
  unfolding extend_parts
  extension-leaves j n mark grown = ((λ at. mark), same-leave n (file_changes j with_zero_block) grown)

  -- and slots that come first
  pub slots-leave : (c : ℕ) (s : Store) (w : Work) → ((f : File) → P f → P (with_no_mark f)) → AllLeave P k w.parts
      → AllLeave P k (after_slots c s w).parts
  unfolding grow_parts
  slots-leave zero s w mark h = h
  slots-leave (suc c) s w mark h = both-leave (grow_parts (suc c)) w.parts ((λ at. mark), same-leave (suc c) slot_appears tt) h
