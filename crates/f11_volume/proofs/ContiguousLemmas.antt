-- Blocks that are contiguous, and those that aren't.
use Rattle.std.proofs.Common.{◌≡◌, ◌<◌, ◌+◌, ℕ, zero, suc, refl, ap, sym, ◌∙◌, arith, List, [], ◌∷◌, ◌++◌, length, get_or}
use Rattle.std.specs.List.{range_with_len}
use Rattle.std.proofs.lemmas.List.{ext_get_or, length-append, get_or_append_left, get_or-append-add}
use Rattle.std.proofs.lemmas.List.FromFn.{length-range_with_len, get_or-range_with_len}
use Rattle.f11_volume.specs.Notes.{AreContiguous}
use Rattle.f11_volume.specs.NoteLaws.{StandsFrom}

-- they stand from the first one on, and from no other
pub contiguous-stands : (lbns : List ℕ) → AreContiguous lbns → StandsFrom (get_or lbns 0 0) lbns
contiguous-stands lbns is i below = ap (λ (l : List ℕ). get_or l i 0) is ∙ get_or-range_with_len (get_or lbns 0 0) (length lbns) i 0 below

pub stands-contiguous : (k : ℕ) (lbns : List ℕ) → StandsFrom k lbns → AreContiguous lbns
stands-contiguous k [] stands = refl
stands-contiguous k (lbn ∷ more) stands =
    let first : lbn ≡ k + 0 = stands 0 (omega arith) in
    ext_get_or 0 (lbn ∷ more) (range_with_len lbn (length (lbn ∷ more))) (sym (length-range_with_len lbn (length (lbn ∷ more))))
    (λ i below. omega (arith, stands i below, first, get_or-range_with_len lbn (length (lbn ∷ more)) i 0 below))

-- the blocks of a run are contiguous, and so are those of a run behind it
pub run-contiguous : (first count : ℕ) → AreContiguous (range_with_len first count)
run-contiguous first count =
    stands-contiguous first (range_with_len first count)
    (λ i below. get_or-range_with_len first count i 0 (omega (arith, below, length-range_with_len first count)))

pub runs-join : (first count more : ℕ)
    → range_with_len first count ++ range_with_len (first + count) more ≡ range_with_len first (count + more)
runs-join first zero more =
    let same : first + 0 ≡ first = omega arith in let plain : 0 + more ≡ more = omega arith in ap (λ k. range_with_len k more) same
    ∙ ap (range_with_len first) (sym plain)
runs-join first (suc count) more =
    let on : first + suc count ≡ first + 1 + count = omega arith in
    let all : suc count + more ≡ suc (count + more) = omega arith in
    ap (λ k. first ∷ (range_with_len (first + 1) count ++ range_with_len k more)) on
    ∙ ap (λ l. first ∷ l) (runs-join (first + 1) count more) ∙ ap (range_with_len first) (sym all)

-- of contiguous blocks those in front are, and those behind them
pub contiguous-front : (front behind : List ℕ) → AreContiguous (front ++ behind) → AreContiguous front
contiguous-front front behind is =
    stands-contiguous (get_or (front ++ behind) 0 0) front
    (λ i below. sym (get_or_append_left front behind 0 i below) ∙ contiguous-stands (front ++ behind) is i
    (omega (arith, below, length-append front behind)))

pub contiguous-behind : (front behind : List ℕ) → AreContiguous (front ++ behind) → AreContiguous behind
contiguous-behind front behind is =
    stands-contiguous (get_or (front ++ behind) 0 0 + length front) behind
    (λ i below. omega (
      arith,
      get_or-append-add front behind i 0,
      contiguous-stands (front ++ behind) is (length front + i)
          (omega (arith, below, length-append front behind)),
    ))

-- a run behind another is where that one ends
pub contiguous-seam : (first count next more : ℕ) → 0 < count → 0 < more
    → AreContiguous (range_with_len first count ++ range_with_len next more) → next ≡ first + count
contiguous-seam first count next more some others is =
    let one = range_with_len first count in
    let other = range_with_len next more in
    let long : length one ≡ count = length-range_with_len first count in
    omega (
      arith,
      long,
      get_or_append_left one other 0 0 (omega (arith, some, long)),
      get_or-range_with_len first count 0 0 some,
      get_or-append-add one other 0 0,
      get_or-range_with_len next more 0 0 others,
      contiguous-stands (one ++ other) is (length one + 0)
          (omega (arith, others, length-append one other, length-range_with_len next more)),
    )
