-- Runs of lost blocks, by a test.
use Rattle.std.proofs.Common.{◌≡◌, ◌≤◌, ◌<◌, ◌+◌, ◌-◌, ◌*◌, ◌⊎◌, ◌↔◌, ◌&&◌, ◌||◌, inl, inr, ℕ, zero, suc, refl, ap, sym, subst, ◌∙◌, arith}
use Rattle.std.proofs.Common.{Bool, true, false, cond, not, ltb, List, add-one}
use Rattle.std.proofs.lemmas.Bool.{cases_lt, and_parts, and_from, not-true, not_from_false, false_from_ne_true, ltb-true, lt-ltb, leb-true}
use Rattle.std.proofs.lemmas.Bool.{le-leb, both_ways, cond-true, cond-false}
use Rattle.f11_findings.specs.Finding.{finding}
use Rattle.f11_findings.specs.declared.finding.Finding.{Finding}
use Rattle.f11_vfy.specs.Surveying.Bits.{has, limit_of}
use Rattle.f11_findings.specs.Found.{Finds, FoundAmong}
use Rattle.f11_vfy.specs.Chain.{IsFit}
use Rattle.f11_vfy.specs.Surveying.Count.{Shows, times_named}
use Rattle.f11_volume.specs.Notes.{IsLost, IsLostRun}
use Rattle.f11_vfy.specs.Scanning.Reading.{ShowsFree}
use Rattle.f11_vfy.specs.Scanning.Scans.{is_lost, ends_lost, start_of}
use Rattle.f11_volume.specs.Volume.{Volume}
use Rattle.f11_vfy.specs.declared.survey.bits.Bits.{Bits}
use Rattle.f11_vfy.specs.declared.survey.tally.Tally.{Tally}
use Rattle.f11_findings.proofs.FoundLemmas.{finds-none}
use Rattle.f11_vfy.proofs.Surveying.Cells.{named-some, some-named}

-- where a run begins: the next number's, and at a gap
pub start-next : (p : ℕ → Bool) (k : ℕ) → start_of p (k + 1) ≡ cond (p k) (start_of p k) (k + 1)
unfolding start_of
start-next p k = ap (start_of p) (add-one k) ∙ ap (λ z. cond (p k) (start_of p k) z) (sym (add-one k))

pub start-stays : (p : ℕ → Bool) (k s : ℕ) → p k ≡ true → s ≡ start_of p k → s ≡ start_of p (k + 1)
start-stays p k s here is = is ∙ sym (cond-true (p k) _ _ here) ∙ sym (start-next p k)

pub start-moves : (p : ℕ → Bool) (k : ℕ) → p k ≡ false → k + 1 ≡ start_of p (k + 1)
start-moves p k gap = sym (cond-false (p k) _ _ gap) ∙ sym (start-next p k)

-- what the test means
pub lost-means : (v : Volume) (t : Tally) (free : Bits) → IsFit v.table → Shows t (times_named v.table v.table.slots) → ShowsFree v free
    → (k : ℕ) → is_lost t.once free k ≡ true ↔ IsLost v k
unfolding is_lost
lost-means v t free fit shows space k = (λ e. there (and_parts _ _ e), back)
  where
    there : (ltb k (limit_of free) ≡ true) × ((not (has t.once k) && not (has free k)) ≡ true) → IsLost v k
    there e =
        let rest = and_parts (not (has t.once k)) (not (has free k)) e.1 in
        let below : k < limit_of free = ltb-true k (limit_of free) e.0 in
        record {
          inside = omega (arith, below, space.limit);
          used = sym (space.each k) ∙ not-true (has free k) rest.1;
          unnamed = λ named. both_ways (has t.once k) (not-true (has t.once k) rest.0)
              (shows.once k ∙ le-leb 1 _ (some-named v.table fit k named));
        }

    back : IsLost v k → (ltb k (limit_of free) && (not (has t.once k) && not (has free k))) ≡ true
    back lost = and_from _ _ (lt-ltb k (limit_of free) (omega (arith, lost.inside, space.limit))) (and_from _ _
        (not_from_false _ (false_from_ne_true _ (λ is. lost.unnamed (named-some v.table fit k (leb-true 1 _ (sym (shows.once k) ∙ is))))))
        (not_from_false _ (space.each k ∙ lost.used)))

-- a block that is free or named isn't lost
pub known-not_lost : (named free : Bits) (k : ℕ) → (has named k || has free k) ≡ true → is_lost named free k ≡ false
unfolding is_lost
known-not_lost named free k some = go (has named k) (has free k) some (ltb k (limit_of free))
  where
    go : (a b : Bool) → (a || b) ≡ true → (c : Bool) → (c && (not a && not b)) ≡ false
    go a b is false = refl
    go true b is true = refl
    go false true is true = refl
    go false false is true = sym is

-- none of the blocks from one on is lost, so no run ends there
pub no-runs : (named free : Bits) (i end : ℕ) (old : List Finding) → ((k : ℕ) → 64 * i ≤ k → k < end → is_lost named free k ≡ false)
    → Finds (FoundAmong (λ k. (64 * i ≤ k) × (ends_lost named free k ≡ true)) (λ k. finding 1 (start_of (is_lost named free) k) k) end) old
    old
no-runs named free i end old none =
    finds-none _ old (λ code a b f. both_ways (is_lost named free f.number) (none f.number f.holds.0 f.below) (and_parts _ _ f.holds.1).0)

-- behind a block that isn't lost a run may begin
pub starts-behind : (lost : ℕ → Bool) (end : ℕ) → 0 < end → lost (end - 1) ≡ false → end ≡ start_of lost end
starts-behind lost end some none =
    let is : end - 1 + 1 ≡ end = omega (arith, some) in
    subst (λ (n : ℕ). n ≡ start_of lost n) is (start-moves lost (end - 1) none)

module _ (v : Volume) (lost : ℕ → Bool) (means : (k : ℕ) → lost k ≡ true ↔ IsLost v k) where
  -- a run begins at or before the number
  start-low : (k : ℕ) → start_of lost k ≤ k
  unfolding start_of
  start-low zero = omega arith
  start-low (suc k) = go (lost k) (start-low k)
    where
      go : (b : Bool) → start_of lost k ≤ k → cond b (start_of lost k) (suc k) ≤ suc k
      go true h = omega arith
      go false h = omega arith

  -- from there up to the number the test holds
  start-holds : (k j : ℕ) → start_of lost k ≤ j → j < k → lost j ≡ true
  unfolding start_of
  start-holds zero j l h = absurd (omega arith)
  start-holds (suc k) j l h = go (lost k) refl l (start-holds k j)
    where
      go : (b : Bool) → lost k ≡ b → cond b (start_of lost k) (suc k) ≤ j → (start_of lost k ≤ j → j < k → lost j ≡ true) → lost j ≡ true
      go true e m r = here (cases_lt j k)
        where
          here : (j < k) ⊎ (k ≤ j) → lost j ≡ true
          here (inl x) = r m x
          here (inr x) = ap lost (omega arith) ∙ e
      go false e m r = absurd (omega arith)

  -- before it the test fails
  start-fails : (k j : ℕ) → j + 1 ≡ start_of lost k → lost j ≡ false
  unfolding start_of
  start-fails zero j e = absurd (omega arith)
  start-fails (suc k) j e = go (lost k) refl e (start-fails k j)
    where
      go : (b : Bool) → lost k ≡ b → j + 1 ≡ cond b (start_of lost k) (suc k) → (j + 1 ≡ start_of lost k → lost j ≡ false) → lost j ≡ false
      go true f m r = r m
      go false f m r = ap lost (omega arith) ∙ f

  not-lost : (k : ℕ) → lost k ≡ false → ¬ IsLost v k
  not-lost k fails is = both_ways (lost k) fails ((means k).1 is)

  -- the run that ends at a number
  pub run-holds : (k : ℕ) → (lost k && not (lost (k + 1))) ≡ true → IsLostRun v (start_of lost k) k
  run-holds k ends =
      let both = and_parts (lost k) (not (lost (k + 1))) ends in
      record {
        some = start-low k;
        each = λ j low high. (means j).0 (inside j low high both.0 (cases_lt j k));
        before = λ some. not-lost (start_of lost k - 1) (start-fails k (start_of lost k - 1) (omega (arith, some)));
        after = not-lost (k + 1) (not-true (lost (k + 1)) both.1);
      }
    where
      inside : (j : ℕ) → start_of lost k ≤ j → j ≤ k → lost k ≡ true → (j < k) ⊎ (k ≤ j) → lost j ≡ true
      inside j low high e (inl x) = start-holds k j low x
      inside j low high e (inr x) = ap lost (omega arith) ∙ e

  -- a run ends where the test says so
  pub run-ends : (a b : ℕ) → IsLostRun v a b → (lost b && not (lost (b + 1))) ≡ true
  run-ends a b run = and_from (lost b) (not (lost (b + 1))) ((means b).1 (run.each b run.some (omega arith)))
      (not_from_false (lost (b + 1)) (false_from_ne_true (lost (b + 1)) (λ e. run.after ((means (b + 1)).0 e))))

  -- and begins there
  pub run-begins : (a b : ℕ) → IsLostRun v a b → a ≡ start_of lost b
  run-begins a b run = go (cases_lt a (start_of lost b)) (cases_lt (start_of lost b) a)
    where
      low : start_of lost b ≤ b
      low = start-low b

      some : a ≤ b
      some = run.some

      go : (a < start_of lost b) ⊎ (start_of lost b ≤ a) → (start_of lost b < a) ⊎ (a ≤ start_of lost b) → a ≡ start_of lost b
      go (inl x) y =
          absurd (not-lost (start_of lost b - 1) (start-fails b (start_of lost b - 1) (omega (arith, x)))
          (run.each (start_of lost b - 1) (omega (arith, x)) (omega (arith, x, low))))
      go (inr x) (inl y) =
          absurd (run.before (omega arith) ((means (a - 1)).0 (start-holds b (a - 1) (omega arith) (omega (arith, some, y)))))
      go (inr x) (inr y) = omega arith
