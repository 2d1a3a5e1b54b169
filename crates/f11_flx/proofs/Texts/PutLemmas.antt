-- Bytes put into a block one after another.
use Rattle.std.proofs.Common.{◌≡◌, ℕ, ◌+◌, ◌-◌, ◌≤◌, List, ◌++◌, take, drop, sym, ap, ◌∙◌, arith}
use Rattle.std.specs.Prelude.{slice_range}
use Rattle.std.proofs.Math.Seq.{take-add}
use Rattle.std.proofs.lemmas.List.{drop-drop, drop-take, take-take}
use Rattle.f11_flx.specs.Puts.{PutsAt}

-- bytes before a place are the same where all before it are
slice_range-front : (xs ys : List ℕ) (from to : ℕ) → from ≤ to → take to xs ≡ take to ys → slice_range xs from to ≡ slice_range ys from to
slice_range-front xs ys from to order same =
    let whole : to ≡ from + (to - from) = omega arith in
    sym (drop-take from (to - from) xs) ∙ ap (λ (n : ℕ). drop from (take n xs)) (sym whole) ∙ ap (drop from) same
    ∙ ap (λ (n : ℕ). drop from (take n ys)) whole ∙ drop-take from (to - from) ys

-- those up to a place and those from it on
slice_range-append : (xs : List ℕ) (from mid to : ℕ) → from ≤ mid → mid ≤ to
    → slice_range xs from to ≡ slice_range xs from mid ++ slice_range xs mid to
slice_range-append xs from mid to low high =
    let count : to - from ≡ mid - from + (to - mid) = omega arith in
    let place : from + (mid - from) ≡ mid = omega arith in
    ap (λ (n : ℕ). take n (drop from xs)) count ∙ take-add (mid - from) (to - mid) (drop from xs)
    ∙ ap (λ (b : List ℕ). slice_range xs from mid ++ take (to - mid) b) (drop-drop (mid - from) from xs ∙ ap (λ (n : ℕ). drop n xs) place)

-- one after another
pub PutsAt-more : {a b c : List ℕ} {from mid to : ℕ} → from ≤ mid → mid ≤ to → PutsAt a b from mid → PutsAt b c mid to → PutsAt a c from to
PutsAt-more {a} {b} {c} {from} {mid} {to} low high first then = record {
  before = sym (take-take from mid c low) ∙ ap (take from) then.before ∙ take-take from mid b low ∙ first.before;
  behind =
      let place : mid + (to - mid) ≡ to = omega arith in
      then.behind ∙ ap (λ (n : ℕ). drop n b) (sym place) ∙ sym (drop-drop (to - mid) mid b) ∙ ap (drop (to - mid)) first.behind
      ∙ drop-drop (to - mid) mid a ∙ ap (λ (n : ℕ). drop n a) place;
}

-- and what was put in all
pub slice_range-more : {b c : List ℕ} (from : ℕ) {mid to : ℕ} {own : List ℕ} → from ≤ mid → mid ≤ to → PutsAt b c mid to
    → slice_range c mid to ≡ own → slice_range c from to ≡ slice_range b from mid ++ own
slice_range-more {b} {c} from {mid} {to} {own} low high then own_is =
    slice_range-append c from mid to low high
    ∙ ap (λ (first : List ℕ). first ++ slice_range c mid to) (slice_range-front c b from mid low then.before)
    ∙ ap (λ (last : List ℕ). slice_range b from mid ++ last) own_is
