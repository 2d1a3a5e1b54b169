-- Links, and the headers of files.
use Rattle.std.proofs.Common.{◌≡◌, ◌≢◌, ◌≤◌, ◌<◌, ◌+◌, ◌-◌, ◌⊎◌, ◌↔◌, ◌&&◌, ◌||◌, inl, inr, ℕ, ap, sym, ◌∙◌, subst, arith, true, false}
use Rattle.std.proofs.Common.{cond, not, List, [], ◌∷◌, ◌++◌, length, get_or, eqb}
use Rattle.std.proofs.lemmas.Bool.{cases_lt, cases_eq, cases_order, cases_Bool, not_from_true, not_from_false, eq-eqb, eqb-true, ne_eqb}
use Rattle.std.proofs.lemmas.Bool.{and_parts, and_from, or_cases, or_left, or_right, leb-true, le-leb}
use Rattle.std.proofs.lemmas.List.{get_or_append_left, length-append, get_or_past}
use Rattle.std.proofs.Math.Seq.{get_or-append_seam}
use Rattle.f11_map.specs.HeaderBlock.{segment_number, link_of}
use Rattle.f11_index.specs.Table.{Table, IsLive, IsFile, IsNext, IsHeaderOf, first, next}
use Rattle.f11_store.specs.declared.files.FileId.{FileId}
use Rattle.f11_vfy.specs.declared.survey.bits.Bits.{Bits}
use Rattle.f11_vfy.specs.declared.chains.Chains.{Chains}
use Rattle.f11_vfy.specs.declared.survey.slot.Slot.{Slot}
use Rattle.f11_vfy.specs.declared.survey.slot.State.TheVariants.{Live}
use Rattle.f11_vfy.specs.Surveying.Bits.{has}
use Rattle.f11_vfy.specs.Chain.{IsFit, KeepsTable, NextsTo, IsClosed, points_at, IsLinkedTwice, ShowsChains}
use Rattle.f11_vfy.specs.Surveying.Count.{within, sum_to, Shows}
use Rattle.f11_vfy.specs.Surveying.Slot.{KeepsSlot, KeepsValidHeader}
use Rattle.f11_index.specs.Headers.{IsInFile}
use Rattle.f11_vfy.proofs.Surveying.Slots.{live-from, live-to}
use Rattle.f11_vfy.proofs.Surveying.Sums.{sum_to-more, two_terms, pair_of_terms, Pair}
use Rattle.f11_vfy.proofs.Surveying.Tally.{within-in, within-below, within-above}

-- a header kept is the next of another that links to its number
abbrev pub Follows : Slot → Slot → Type 0
Follows from to = (to.state ≡ Live) × (from.link.sequence ≡ to.sequence) × (to.segment ≡ from.segment + 1)

-- what is kept of slot k + 1
module _ (v : Table) (slots : List Slot) (is : KeepsTable v slots) (k : ℕ) (within' : k < length slots) (d : Slot) where
  from : Slot
  from = get_or slots k d

  kept : KeepsSlot v (k + 1) (get_or slots k d)
  kept = is.keeps.each k d (omega (arith, is.keeps.count))

  -- and of the header that it links to
  kept_at : (m : ℕ) → 1 ≤ m → m ≤ length slots → KeepsSlot v m (get_or slots (m - 1) d)
  kept_at m low high =
      subst (λ z. KeepsSlot v z (get_or slots (m - 1) d)) (omega arith) (is.keeps.each (m - 1) d (omega (arith, is.keeps.count)))

  pub is_next : (get_or slots k d).state ≡ Live → (get_or slots k d).link.number ≢ 0 → (get_or slots k d).link.number ≤ length slots
      → Follows (get_or slots k d) (get_or slots ((get_or slots k d).link.number - 1) d) → IsNext v (k + 1) (get_or slots k d).link.number
  unfolding from
  is_next alive some high follows =
      let there : KeepsSlot v from.link.number (get_or slots (from.link.number - 1) d) = kept_at from.link.number (omega (arith, some)) high
      in
      let one : KeepsValidHeader (v.header (k + 1)) from = kept.header alive in
      let other : KeepsValidHeader (v.header from.link.number) (get_or slots (from.link.number - 1) d) = there.header follows.0 in
      let link : from.link ≡ link_of (v.header (k + 1)) = one.link in
      record {
        from = live-from v (k + 1) from.state kept.state alive;
        to = live-from v from.link.number _ there.state follows.0;
        number = ap (λ (i : FileId). i.number) (sym link);
        sequence = ap (λ (i : FileId). i.sequence) (sym link) ∙ follows.1 ∙ other.sequence;
        segment = sym other.segment ∙ follows.2 ∙ ap (λ (s : ℕ). s + 1) one.segment;
      }

  pub next_is : (m : ℕ) → IsNext v (k + 1) m
      → ((get_or slots k d).state ≡ Live) × ((get_or slots k d).link.number ≡ m) × (1 ≤ m) × (m ≤ length slots)
  next_is m n =
      let alive : (get_or slots k d).state ≡ Live = live-to v (k + 1) _ kept.state n.from in
      let one : KeepsValidHeader (v.header (k + 1)) (get_or slots k d) = kept.header alive in
      let high : m ≤ v.slots = is.fit.high m n.to.in_use in
      (alive, ap (λ (i : FileId). i.number) one.link ∙ n.number, is.fit.low m n.to.in_use, omega (arith, is.keeps.count, high))

  pub first_is : ((get_or slots k d).state ≡ Live) × ((get_or slots k d).segment ≡ 0) → IsFile v (k + 1)
  first_is e = record { live = live-from v (k + 1) _ kept.state e.0; first = sym (kept.header e.0).segment ∙ e.1 }

  pub is_first : IsFile v (k + 1) → ((get_or slots k d).state ≡ Live) × ((get_or slots k d).segment ≡ 0)
  is_first x =
      let alive : (get_or slots k d).state ≡ Live = live-to v (k + 1) _ kept.state x.live in
      (alive, (kept.header alive).segment ∙ x.first)

-- a header of a file is live
pub held_live : (v : Table) (f n : ℕ) → IsHeaderOf v f n → IsLive v n
held_live v f n (first x) = x.live
held_live v f n (next y x) = x.to

held_high : (v : Table) (n : ℕ) → IsFit v → IsInFile v n → n ≤ v.slots
held_high v n fit h = fit.high n (held_live v h.file n h.of).in_use

-- a walk over a file's headers: those before n are marked
pub record Walks (v : Table) (held : Bits) (n step : ℕ) : Type 0 where
  pub sound : (k : ℕ) → has held k ≡ true → IsInFile v k
  pub next : (k m : ℕ) → has held k ≡ true → IsNext v k m → (has held m ≡ true) ⊎ (m ≡ n)
  pub here : n ≢ 0 → IsInFile v n
  pub depth : n ≢ 0 → segment_number (v.header n) ≡ step

-- n was put into the set
inserted : (held after : Bits) (n : ℕ) → ((j : ℕ) → has after j ≡ (has held j || eqb j n)) → (j : ℕ) → has after j ≡ true
    → (has held j ≡ true) ⊎ (j ≡ n)
inserted held after n b j e = go (or_cases (has held j) (eqb j n) (sym (b j) ∙ e))
  where
    go : (has held j ≡ true) ⊎ (eqb j n ≡ true) → (has held j ≡ true) ⊎ (j ≡ n)
    go (inl x) = inl x
    go (inr x) = inr (eqb-true j n x)

pub stays : (held after : Bits) (n : ℕ) → ((j : ℕ) → has after j ≡ (has held j || eqb j n)) → (j : ℕ) → has held j ≡ true
    → has after j ≡ true
stays held after n b j e = b j ∙ or_left _ _ e

pub comes : (held after : Bits) (n : ℕ) → ((j : ℕ) → has after j ≡ (has held j || eqb j n)) → (j : ℕ) → j ≡ n → has after j ≡ true
comes held after n b j e = b j ∙ or_right _ _ (eq-eqb j n e)

pub walk_on : (v : Table) (nexts : List ℕ) (held after : Bits) (n step : ℕ) → IsFit v → NextsTo v nexts v.slots → n ≢ 0
    → ((j : ℕ) → has after j ≡ (has held j || eqb j n)) → Walks v held n step → Walks v after (get_or nexts (n - 1) 0) (step + 1)
walk_on v nexts held after n step fit is some b w = record {
  sound = λ k e. sound_at k (inserted held after n b k e);
  next = λ k m e x. next_at k m x (inserted held after n b k e);
  here = λ ne. record { file = (w.here some).file; of = next (w.here some).of (goes ne) };
  depth = λ ne. (goes ne).segment ∙ ap (λ z. z + 1) (w.depth some);
}
  where
    low : 1 ≤ n
    low = omega (arith, some)

    back : n - 1 + 1 ≡ n
    back = omega (arith, low)

    high : n - 1 < v.slots
    high = omega (arith, held_high v n fit (w.here some), low)

    goes : get_or nexts (n - 1) 0 ≢ 0 → IsNext v n (get_or nexts (n - 1) 0)
    goes ne = subst (λ z. IsNext v z (get_or nexts (n - 1) 0)) back (is.some (n - 1) high ne)

    sound_at : (k : ℕ) → (has held k ≡ true) ⊎ (k ≡ n) → IsInFile v k
    sound_at k (inl x) = w.sound k x
    sound_at k (inr x) = subst (IsInFile v) (sym x) (w.here some)

    next_at : (k m : ℕ) → IsNext v k m → (has held k ≡ true) ⊎ (k ≡ n) → (has after m ≡ true) ⊎ (m ≡ get_or nexts (n - 1) 0)
    next_at k m x (inl y) = old (w.next k m y x)
      where
        old : (has held m ≡ true) ⊎ (m ≡ n) → (has after m ≡ true) ⊎ (m ≡ get_or nexts (n - 1) 0)
        old (inl z) = inl (stays held after n b m z)
        old (inr z) = inl (comes held after n b m z)
    next_at k m x (inr y) = inr (sym (is.all (n - 1) m high (subst (λ z. IsNext v z m) (y ∙ sym back) x)))

-- the end of a walk
pub walked : (v : Table) (held : Bits) (n step : ℕ) → IsFit v → (n ≡ 0) ⊎ (has held n ≡ true) → Walks v held n step → IsClosed v held
walked v held n step fit e w = record { sound = w.sound; next = λ k m t x. go m x e (w.next k m t x) }
  where
    go : {k : ℕ} (m : ℕ) → IsNext v k m → (n ≡ 0) ⊎ (has held n ≡ true) → (has held m ≡ true) ⊎ (m ≡ n) → has held m ≡ true
    go m x e (inl y) = y
    go m x (inl z) (inr y) = let low : 1 ≤ m = fit.low m x.to.in_use in absurd (omega arith)
    go m x (inr z) (inr y) = ap (has held) y ∙ z

pub walk_begins : (v : Table) (held : Bits) (f : ℕ) → IsFile v f → IsClosed v held → Walks v held f 0
walk_begins v held f x c =
    record {
      sound = c.sound;
      next = λ k m e n. inl (c.next k m e n);
      here = λ ne. record { file = f; of = first x };
      depth = λ ne. x.first;
    }

-- one more pushed
pub pushed : (xs : List ℕ) (y i : ℕ)
    → ((i < length xs) × (get_or (xs ++ y ∷ []) i 0 ≡ get_or xs i 0))
    ⊎ (((i ≡ length xs) × (get_or (xs ++ y ∷ []) i 0 ≡ y)) ⊎ (get_or (xs ++ y ∷ []) i 0 ≡ 0))
pushed xs y i = go (cases_lt i (length xs)) (cases_eq i (length xs))
  where
    go : (i < length xs) ⊎ (length xs ≤ i) → (i ≡ length xs) ⊎ (i ≢ length xs)
        → ((i < length xs) × (get_or (xs ++ y ∷ []) i 0 ≡ get_or xs i 0))
        ⊎ (((i ≡ length xs) × (get_or (xs ++ y ∷ []) i 0 ≡ y)) ⊎ (get_or (xs ++ y ∷ []) i 0 ≡ 0))
    go (inl x) e = inl (x, get_or_append_left xs (y ∷ []) 0 i x)
    go (inr x) (inl e) = inr (inl (e, ap (λ z. get_or (xs ++ y ∷ []) z 0) e ∙ get_or-append_seam xs y [] 0))
    go (inr x) (inr e) = inr (inr (get_or_past (xs ++ y ∷ []) i 0 (omega (arith, e, length-append xs (y ∷ [])))))

pub range_push : (xs : List ℕ) (y n : ℕ) → y ≤ n → ((i : ℕ) → get_or xs i 0 ≤ n) → (i : ℕ) → get_or (xs ++ y ∷ []) i 0 ≤ n
range_push xs y n h all i = go (pushed xs y i)
  where
    go : ((i < length xs) × (get_or (xs ++ y ∷ []) i 0 ≡ get_or xs i 0))
        ⊎ (((i ≡ length xs) × (get_or (xs ++ y ∷ []) i 0 ≡ y)) ⊎ (get_or (xs ++ y ∷ []) i 0 ≡ 0)) → get_or (xs ++ y ∷ []) i 0 ≤ n
    go (inl x) = omega (arith, x.1, all i)
    go (inr (inl x)) = omega (arith, x.1)
    go (inr (inr x)) = omega (arith, x)

pub nexts_push : (v : Table) (xs : List ℕ) (y k : ℕ) → length xs ≡ k → (y ≢ 0 → IsNext v (k + 1) y) → ((m : ℕ) → IsNext v (k + 1) m → y ≡ m)
    → NextsTo v xs k → NextsTo v (xs ++ y ∷ []) (k + 1)
nexts_push v xs y k len some all s = record {
  some = λ i h. go_some i h (cases_lt i k);
  all = λ i m h x. go_all i m h x (cases_lt i k);
}
  where
    early : (i : ℕ) → i < k → get_or (xs ++ y ∷ []) i 0 ≡ get_or xs i 0
    early i h = get_or_append_left xs (y ∷ []) 0 i (omega (arith, len))

    last : (i : ℕ) → i ≡ k → get_or (xs ++ y ∷ []) i 0 ≡ y
    last i e = ap (λ z. get_or (xs ++ y ∷ []) z 0) (e ∙ sym len) ∙ get_or-append_seam xs y [] 0

    go_some : (i : ℕ) → i < k + 1 → (i < k) ⊎ (k ≤ i) → get_or (xs ++ y ∷ []) i 0 ≢ 0 → IsNext v (i + 1) (get_or (xs ++ y ∷ []) i 0)
    go_some i h (inl x) ne = subst (λ z. IsNext v (i + 1) z) (sym (early i x)) (s.some i x (λ e. ne (early i x ∙ e)))
    go_some i h (inr x) ne =
        let e : i ≡ k = omega arith in
        subst (λ z. IsNext v (i + 1) z) (sym (last i e)) (subst (λ z. IsNext v (z + 1) y) (sym e) (some (λ f. ne (last i e ∙ f))))

    go_all : (i m : ℕ) → i < k + 1 → IsNext v (i + 1) m → (i < k) ⊎ (k ≤ i) → get_or (xs ++ y ∷ []) i 0 ≡ m
    go_all i m h n (inl x) = early i x ∙ s.all i m x n
    go_all i m h n (inr x) = let e : i ≡ k = omega arith in last i e ∙ all m (subst (λ z. IsNext v (z + 1) m) e n)

-- the marked headers are those of files
pub held_marked : (v : Table) (held : Bits) → IsClosed v held → ((f : ℕ) → IsFile v f → has held f ≡ true) → (f n : ℕ) → IsHeaderOf v f n
    → has held n ≡ true
held_marked v held c firsts f n (first x) = firsts f x
held_marked v held c firsts f n (next {n = k} y x) = c.next k n (held_marked v held c firsts f k y) x

-- what a header's link counts for
pub points_yes : (held : Bits) (nexts : List ℕ) (k m : ℕ) → (has held (k + 1) && not (eqb (get_or nexts k 0) 0)) ≡ true
    → points_at held nexts k m ≡ within (get_or nexts k 0) (get_or nexts k 0 + 1) m
unfolding points_at
points_yes held nexts k m e = ap (λ b. cond b (within (get_or nexts k 0) (get_or nexts k 0 + 1) m) 0) e

pub points_no : (held : Bits) (nexts : List ℕ) (k m : ℕ) → (has held (k + 1) && not (eqb (get_or nexts k 0) 0)) ≡ false
    → points_at held nexts k m ≡ 0
unfolding points_at
points_no held nexts k m e = ap (λ b. cond b (within (get_or nexts k 0) (get_or nexts k 0 + 1) m) 0) e

pub counted_yes : (held : Bits) (nexts : List ℕ) (k : ℕ) → (has held (k + 1) && not (eqb (get_or nexts k 0) 0)) ≡ true → (m : ℕ)
    → sum_to (λ i. points_at held nexts i m) k + within (get_or nexts k 0) (get_or nexts k 0 + 1) m ≡ sum_to (λ i. points_at held nexts i m)
    (k + 1)
counted_yes held nexts k e m = omega (arith, sum_to-more (λ i. points_at held nexts i m) k, points_yes held nexts k m e)

pub counted_no : (held : Bits) (nexts : List ℕ) (k : ℕ) → (has held (k + 1) && not (eqb (get_or nexts k 0) 0)) ≡ false → (m : ℕ)
    → sum_to (λ i. points_at held nexts i m) k ≡ sum_to (λ i. points_at held nexts i m) (k + 1)
counted_no held nexts k e m = omega (arith, sum_to-more (λ i. points_at held nexts i m) k, points_no held nexts k m e)

points : (held : Bits) (nexts : List ℕ) (k m : ℕ)
    → (points_at held nexts k m ≡ 0)
    ⊎ ((has held (k + 1) ≡ true) × (get_or nexts k 0 ≢ 0) × (m ≡ get_or nexts k 0) × (points_at held nexts k m ≡ 1))
points held nexts k m = go (cases_Bool (has held (k + 1) && not (eqb (get_or nexts k 0) 0)))
  where
    x : ℕ
    x = get_or nexts k 0

    go : ((has held (k + 1) && not (eqb (get_or nexts k 0) 0)) ≡ true) ⊎ ((has held (k + 1) && not (eqb (get_or nexts k 0) 0)) ≡ false)
        → (points_at held nexts k m ≡ 0)
        ⊎ ((has held (k + 1) ≡ true) × (get_or nexts k 0 ≢ 0) × (m ≡ get_or nexts k 0) × (points_at held nexts k m ≡ 1))
    go (inr e) = inl (points_no held nexts k m e)
    go (inl e) = at (cases_lt m (get_or nexts k 0)) (cases_lt m (get_or nexts k 0 + 1))
      where
        both : (has held (k + 1) ≡ true) × (not (eqb (get_or nexts k 0) 0) ≡ true)
        both = and_parts _ _ e

        at : (m < get_or nexts k 0) ⊎ (get_or nexts k 0 ≤ m) → (m < get_or nexts k 0 + 1) ⊎ (get_or nexts k 0 + 1 ≤ m)
            → (points_at held nexts k m ≡ 0)
            ⊎ ((has held (k + 1) ≡ true) × (get_or nexts k 0 ≢ 0) × (m ≡ get_or nexts k 0) × (points_at held nexts k m ≡ 1))
        at (inl l) y = inl (points_yes held nexts k m e ∙ within-below _ _ m l)
        at (inr l) (inl y) =
            inr (
              both.0,
              λ z. let t : eqb (get_or nexts k 0) 0 ≡ true = eq-eqb _ _ z in let u : not (eqb (get_or nexts k 0) 0) ≡ false =
                  not_from_true _ t in let w : true ≡ false = sym both.1 ∙ u in cc,
              omega arith,
              points_yes held nexts k m e
                  ∙ within-in _ _ m l y,
            )
        at (inr l) (inr y) = inl (points_yes held nexts k m e ∙ within-above _ _ m y)

module _ (v : Table) (fit : IsFit v) (held : Bits) (nexts : List ℕ) (len : length nexts ≡ v.slots) (is : NextsTo v nexts v.slots)
    (exact : (n : ℕ) → has held n ≡ true ↔ IsInFile v n) where
  pointed : (k m : ℕ) → k < v.slots → 1 ≤ points_at held nexts k m → IsInFile v (k + 1) × IsNext v (k + 1) m
  pointed k m l h = go (points held nexts k m)
    where
      go : (points_at held nexts k m ≡ 0)
          ⊎ ((has held (k + 1) ≡ true) × (get_or nexts k 0 ≢ 0) × (m ≡ get_or nexts k 0) × (points_at held nexts k m ≡ 1))
          → IsInFile v (k + 1) × IsNext v (k + 1) m
      go (inl e) = absurd (omega arith)
      go (inr x) = ((exact (k + 1)).0 x.0, subst (λ z. IsNext v (k + 1) z) (sym x.2) (is.some k l x.1))

  points_one : (n m : ℕ) → IsInFile v n → IsNext v n m → (1 ≤ n) × (n - 1 < v.slots) × (points_at held nexts (n - 1) m ≡ 1)
  points_one n m h x = (
    low,
    high,
    points_yes held nexts (n - 1) m test
        ∙ (ap (λ z. within z (z + 1) m) there ∙ within-in m (m + 1) m (omega arith) (omega arith)),
  )
    where
      low : 1 ≤ n
      low = fit.low n x.from.in_use

      up : n ≤ v.slots
      up = fit.high n x.from.in_use

      high : n - 1 < v.slots
      high = omega (arith, low, up)

      back : n - 1 + 1 ≡ n
      back = omega (arith, low)

      there : get_or nexts (n - 1) 0 ≡ m
      there = is.all (n - 1) m high (subst (λ z. IsNext v z m) (sym back) x)

      some : get_or nexts (n - 1) 0 ≢ 0
      some e = let l : 1 ≤ m = fit.low m x.to.in_use in omega (arith, there)

      test : (has held (n - 1 + 1) && not (eqb (get_or nexts (n - 1) 0) 0)) ≡ true
      test = and_from _ _ (ap (has held) back ∙ (exact n).1 h) (not_from_false _ (ne_eqb _ _ some))

  pub two_links : (m : ℕ) → 2 ≤ sum_to (λ k. points_at held nexts k m) v.slots → IsLinkedTwice v m
  two_links m h = go (pair_of_terms (λ k. points_at held nexts k m) v.slots h)
    where
      go : ((k : ℕ) × (k < v.slots) × (2 ≤ points_at held nexts k m)) ⊎ Pair (λ k. points_at held nexts k m) v.slots → IsLinkedTwice v m
      go (inl x) = absurd (most (points held nexts x.0 m))
        where
          most : (points_at held nexts x.0 m ≡ 0)
              ⊎ ((has held (x.0 + 1) ≡ true) × (get_or nexts x.0 0 ≢ 0) × (m ≡ get_or nexts x.0 0) × (points_at held nexts x.0 m ≡ 1)) → ⊥
          most (inl e) = omega (arith, x.2)
          most (inr e) = omega (arith, x.2, e.3)
      go (inr p) =
          let a : IsInFile v (p.low + 1) × IsNext v (p.low + 1) m = pointed p.low m (omega arith) p.at_low in
          let b : IsInFile v (p.high + 1) × IsNext v (p.high + 1) m = pointed p.high m p.inside p.at_high in
          record {
            one = p.low + 1;
            other = p.high + 1;
            apart = λ e. omega (arith, e);
            one_in_file = a.0;
            other_in_file = b.0;
            next_of_one = a.1;
            next_of_other = b.1;
          }

  pub links_two : (m n k : ℕ) → n ≢ k → IsInFile v n → IsInFile v k → IsNext v n m → IsNext v k m
      → 2 ≤ sum_to (λ i. points_at held nexts i m) v.slots
  links_two m n k apart hn hk xn xk = go (cases_order n k)
    where
      a : (1 ≤ n) × (n - 1 < v.slots) × (points_at held nexts (n - 1) m ≡ 1)
      a = points_one n m hn xn

      b : (1 ≤ k) × (k - 1 < v.slots) × (points_at held nexts (k - 1) m ≡ 1)
      b = points_one k m hk xk

      go : (n ≡ k) ⊎ ((n < k) ⊎ (k < n)) → 2 ≤ sum_to (λ i. points_at held nexts i m) v.slots
      go (inl e) = absurd (apart e)
      go (inr (inl x)) =
          omega (arith, two_terms (λ i. points_at held nexts i m) v.slots (n - 1) (k - 1) (omega (arith, a.0, b.0)) b.1, a.2, b.2)
      go (inr (inr x)) =
          omega (arith, two_terms (λ i. points_at held nexts i m) v.slots (k - 1) (n - 1) (omega (arith, a.0, b.0)) a.1, a.2, b.2)

-- all that is known of a table's files
pub shows-chains : (v : Table) (c : Chains) → IsFit v → length c.nexts.items ≡ v.slots → NextsTo v c.nexts.items v.slots
    → ((n : ℕ) → has c.in_file n ≡ true ↔ IsInFile v n)
    → Shows c.linked (λ m. sum_to (λ k. points_at c.in_file c.nexts.items k m) v.slots) → ShowsChains v c
shows-chains v c fit len to exact shows = record {
  nexts = to;
  in_file = exact;
  twice = λ m. (
    λ h. two_links v fit c.in_file c.nexts.items len to exact m (leb-true 2 _ (sym (shows.twice m) ∙ h)),
    λ q. shows.twice m ∙ le-leb 2 _
        (links_two v fit c.in_file c.nexts.items len to exact m q.one q.other q.apart q.one_in_file q.other_in_file q.next_of_one
        q.next_of_other),
  );
}
