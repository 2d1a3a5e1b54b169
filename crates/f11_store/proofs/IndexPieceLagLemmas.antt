-- What stands while the index file of the plain store grows piece by piece lags the store before.
use Rattle.std.proofs.Common.{◌≡◌, ◌≢◌, ℕ, ◌+◌, ◌-◌, ◌≤◌, ◌==◌, ◌⊎◌, inl, inr, Bool, true, false, [], Option, Some, take, replicate}
use Rattle.std.proofs.Common.{unwrap_or, refl, sym, ◌∙◌, ap, subst, arith, if◌then◌else◌}
use Rattle.std.proofs.lemmas.Bool.Decides.{eqb_tells}
use Rattle.std.proofs.lemmas.List.{append-nil, take-replicate}
use Rattle.f11_store.proofs.Frees.{same_limits, same_limits_then}
use Rattle.f11_store.proofs.Growth.{alike, slots_one_by_one}
use Rattle.f11_store.proofs.LagLaws.{last_after_growth}
use Rattle.f11_store.specs.Changes.{is_in, next_sequence, with_change, with_more_slots, MayGrow}
use Rattle.f11_store.specs.File.{File, need, no_file}
use Rattle.f11_store.specs.Lags.{grow_parts, grow_work, slot_appears, with_no_mark, with_parts, AreLike, LagsBy}
use Rattle.f11_store.specs.Store.{Store, free_headers, free_slots, index_file}
use Rattle.f11_store.specs.Pieces.{longer_file, piece_work, with_longer_file, GrowsIf, TakesSome}
use Rattle.f11_store.proofs.PieceLagLemmas.{cleared-work, once}
use Rattle.f11_store.proofs.PieceLemmas.{headers-longer, needs-add}
use Rattle.f11_store.proofs.TakenSlotLemmas.{more-headers}

-- the parts by which some of the slots come are the first ones
first-slots : (n a : ℕ) → a ≤ n → take a (replicate n slot_appears) ≡ replicate a slot_appears
first-slots n a few = take-replicate a n slot_appears few

-- a slot in use or not, which had x and has v, has what y is or what comes next
abbrev GivenOnce : Bool → ℕ → ℕ → ℕ → Type 0
GivenOnce used v x y = (v ≡ x) ⊎ ((used ≡ false) × (v ≡ next_sequence x)) → (v ≡ y) ⊎ (v ≡ next_sequence y)

given-new : (used : Bool) (v : ℕ) → GivenOnce used v 0 0
given-new used v (inl e) = inl e
given-new used v (inr (free, e)) = inr e

-- the index file got longer, and then some was taken for more
module _ (s : Store) (n most a p b q : ℕ) (f : File) (added pointers room : ℕ) (may : MayGrow f p added pointers room) (few : a + b ≤ n)
    (fewer : p + q ≤ most) where
  abbrev grown : Store
  grown = with_longer_file s 1 f a [] added pointers room

  abbrev after : Store
  after = with_more_slots grown a

  parts : with_parts s (take a (replicate n slot_appears)) ≡ record s { slots = s.slots + a }
  parts = ap (with_parts s) (first-slots n a (omega (arith, few))) ∙ slots_one_by_one a s

  after-alike : s.file 1 ≡ Some f → (m : ℕ) → AreLike (after.file m) (s.file m)
  after-alike was m = by_number (eqb_tells m 1)
    where
      longer : AreLike (Some (longer_file s f [] added pointers room)) (Some f)
      longer =
          record {
            sequence = refl;
            owner = refl;
            protection = refl;
            characteristics = refl;
            ident = refl;
            attr = refl;
            blocks = append-nil f.blocks;
          }

      by_number : ((m == 1) ≡ true) × (m ≡ 1) ⊎ ((m == 1) ≡ false) × (m ≢ 1) → AreLike (after.file m) (s.file m)
      by_number (inl w) =
          rw w.0 (subst (λ (o : Option File). AreLike (Some (longer_file s f [] added pointers room)) o) (sym (ap s.file w.1 ∙ was)) longer)
      by_number (inr w) = rw w.0 (alike (s.file m))

  after-lags : (u : Store) → s.file 1 ≡ Some f → TakesSome b (need room q) after u → LagsBy (piece_work true 1 f.room n most) u s
  after-lags u was takes =
      let need_less : added + need room q ≤ need f.room most = needs-add f most p q added pointers room may fewer in
      let left : free_headers grown ≡ free_headers s - added = headers-longer s 1 a f [] added pointers room in
      record {
        done = a;
        files = λ m.
            subst (λ (o : Option File). AreLike o ((with_parts s (take a (replicate n slot_appears))).file m)) (sym (takes.files m))
            (subst (λ (x : Store). AreLike (after.file m) (x.file m)) (sym parts) (after-alike was m));
        slots = takes.slots ∙ sym (ap (λ (x : Store). x.slots) parts);
        others = λ m out. takes.files m
            ∙ ap (λ (here : Bool). if here then Some (longer_file s f [] added pointers room) else s.file m) out;
        free_blocks = omega (arith, takes.free, few);
        headers = omega (arith, takes.slots_free, need_less, left, more-headers grown a);
        last = λ m h held.
            last_after_growth (GivenOnce (grown.in_use m) (u.last m)) s.slots a m (grown.last m) (s.last m) (omega (arith, h, takes.slots))
            (once (is_in (take added (free_slots s)) m) (s.in_use m) (s.last m) (u.last m)) (given-new (grown.in_use m) (u.last m))
            (takes.last m);
        no_header = λ e m h.
            takes.no_header (omega (arith, need_less, e)) m
            ∙ last_after_growth (λ x y. x ≡ y) s.slots a m (grown.last m) (s.last m) (omega (arith, h, takes.slots))
            (ap (λ (i : ℕ). if is_in (take i (free_slots s)) m then next_sequence (s.last m) else s.last m) {x = added} {y = 0}
            (omega (arith, need_less, e))) refl;
        limits = same_limits_then s after u (same_limits refl refl refl) takes.limits;
      }

pub taken-index-lags :
    (s t u : Store) (n most a p b q : ℕ) → GrowsIf true s 1 a p t → a + b ≤ n → p + q ≤ most → TakesSome b (need (index_file t).room q) t u
    →
    LagsBy (piece_work true 1 (index_file s).room n most) u s
taken-index-lags s t u n most a p b q e few fewer takes =
    let same : f ≡ index_file s = sym (ap (λ (o : Option File). unwrap_or o no_file) e.grows.was) in
    let is : t ≡ with_more_slots (with_longer_file s 1 f a [] e.grows.added e.grows.pointers e.grows.room) a =
    e.store_is ∙ ap (λ (x : Store). with_more_slots x a) e.grows.store_is in
    subst (λ (g : File). LagsBy (piece_work true 1 g.room n most) u s) same
    (after-lags s n most a p b q f e.grows.added e.grows.pointers e.grows.room e.grows.may_grow few fewer u e.grows.was
    (subst (λ (x : Store). TakesSome b (need (index_file x).room q) x u) is takes))
  where
    f : File
    f = e.grows.before

pub cleared-grow-lags : (s t : Store) (room n : ℕ) → LagsBy (piece_work true 1 room n n) t (with_change s 1 with_no_mark)
    → LagsBy (grow_work room n) t s
unfolding grow_parts
cleared-grow-lags s t room n lags = cleared-work s t 1 (replicate n slot_appears) n (need room n) lags
