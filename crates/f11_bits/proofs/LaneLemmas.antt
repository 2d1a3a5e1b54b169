-- Facts about the lanes of vectors: their 1 bits, and their sums.
use Rattle.std.proofs.Common.{◌≡◌, ℕ, zero, suc, ◌+◌, ◌*◌, ◌/◌, ◌%◌, ◌^◌, ◌<◌, ◌≤◌, ◌==◌, List, [], ◌∷◌, length}
use Rattle.std.proofs.Common.{map, sum, count_ones, refl, sym, ap, ◌∙◌, arith, mod-lt, get_or}
use Rattle.std.specs.Int.{bit_at}
use Rattle.std.specs.Int.Count.{ones}
use Rattle.std.specs.Simd.Lanes.{Each1, sum_l}
use Rattle.std.proofs.Common.{Fits, w8}
use mir.Val.{bits}
use mir.Syntax.{Width}
use Rattle.std.specs.List.{fold}
use Rattle.std.proofs.lemmas.Nat.{ones_cat, ones-le, mod-pow-add, pow_pos}
use Rattle.std.proofs.lemmas.Nat.Bits.{bit_at-lt}
use Rattle.std.proofs.lemmas.List.{length-map}
use Rattle.std.proofs.lemmas.Simd.{sum_bound, fold-sum}
use Rattle.f11_dev.specs.bytes.Bits.{bit}
use Rattle.f11_bits.specs.Bitmap.{count_below}
use Rattle.f11_bits.proofs.CountLemmas.{one_if, count_below-zero, count_below-suc, count_below-append}

-- a digit of a number in base 2 is 1 where it counts
digit-ones : (d : ℕ) → d < 2 → one_if (d == 1) ≡ count_ones d
unfolding ones
digit-ones zero few = refl
digit-ones (suc zero) few = refl
digit-ones (suc (suc d)) few = absurd (omega (arith, few))

-- the 1 bits among the first so many of a number are those of what is left of it behind them
ones-below : (x n : ℕ) → count_below (λ k. bit_at x k == 1) n ≡ count_ones (x % 2 ^ n)
ones-below x zero = count_below-zero (λ k. bit_at x k == 1) ∙ digit-ones 0 (omega arith) ∙ ap count_ones (omega arith)
ones-below x (suc n) =
    let digit : ℕ = bit_at x n in
    let parts : x % 2 ^ (1 + n) ≡ digit * 2 ^ n + x % 2 ^ n = mod-pow-add x 1 n in
    let next : count_ones (x % 2 ^ suc n) ≡ count_ones (x % 2 ^ (1 + n)) = ap (λ (m : ℕ). count_ones (x % 2 ^ m)) (omega arith) in
    let both = ones_cat n digit (x % 2 ^ n) (mod-lt x (pow_pos n)) in
    omega (
      arith,
      count_below-suc (λ k. bit_at x k == 1) n,
      ones-below x n,
      digit-ones digit (bit_at-lt x n),
      next,
      ap count_ones parts,
      both,
    )

-- so a byte has those of its eight bits
byte-ones : (x : ℕ) → x < 256 → count_below (λ k. bit_at x k == 1) 8 ≡ count_ones x
byte-ones x byte = ones-below x 8 ∙ ap count_ones (omega (arith, byte))

-- a sum that wraps at each step is the sum, wrapped
fold-wraps : (a b : ℕ) (xs : List ℕ) → b ≡ a % 65536 → fold (λ s x. (s + x) % 65536) b xs ≡ fold (λ s x. s + x) a xs % 65536
fold-wraps a b [] is = is
fold-wraps a b (x ∷ xs) is = fold-wraps (a + x) ((b + x) % 65536) xs (omega (arith, is))

pub sum-wraps : (xs : List ℕ) → fold (λ s x. (s + x) % 65536) 0 xs ≡ sum xs % 65536
sum-wraps xs = fold-wraps 0 0 xs refl

-- and it has at most eight of them
byte-few : (x : ℕ) → x < 256 → count_ones x ≤ 8
byte-few x byte = ones-le 8 x byte

-- the numbers of 1 bits of bytes fit lanes of any width
pub counts-fit : (w : Width) → 8 < 2 ^ bits w → (xs : List ℕ) → Each1 (Fits w8) xs → Each1 (Fits w) (map count_ones xs)
counts-fit w wide [] fit = tt
counts-fit w wide (x ∷ xs) (one, others) = (record { fits = omega (arith, wide, byte-few x one.fits) }, counts-fit w wide xs others)

-- lanes that are cast to wider ones stay
pub cast-stays : (xs : List ℕ) → map (λ x. x) xs ≡ xs
cast-stays [] = refl
cast-stays (x ∷ xs) = ap (λ ys. x ∷ ys) (cast-stays xs)

-- each is at most eight
counts-few : (xs : List ℕ) → Each1 (Fits w8) xs → Each1 (λ x. x ≤ 8) (map count_ones xs)
counts-few [] fit = tt
counts-few (x ∷ xs) (one, others) = (byte-few x one.fits, counts-few xs others)

-- a bit of the first byte, and one behind it
bit-first : (x : ℕ) (xs : List ℕ) (k : ℕ) → k < 8 → bit (x ∷ xs) (0 + k) ≡ (bit_at x k == 1)
bit-first x xs k below =
    let at : (0 + k) / 8 ≡ 0 = omega (arith, below) in
    let bit_is : (0 + k) % 8 ≡ k = omega (arith, below) in
    ap (λ (i : ℕ). bit_at (get_or (x ∷ xs) i 0) ((0 + k) % 8) == 1) at ∙ ap (λ (j : ℕ). bit_at x j == 1) bit_is

bit-behind : (x : ℕ) (xs : List ℕ) (k : ℕ) → bit (x ∷ xs) (8 + k) ≡ bit xs k
bit-behind x xs k =
    let at : (8 + k) / 8 ≡ suc (k / 8) = omega arith in
    let bit_is : (8 + k) % 8 ≡ k % 8 = omega arith in
    ap (λ (i : ℕ). bit_at (get_or (x ∷ xs) i 0) ((8 + k) % 8) == 1) at ∙ ap (λ (j : ℕ). bit_at (get_or xs (k / 8) 0) j == 1) bit_is

-- they add up to those of all
lanes-ones : (xs : List ℕ) → Each1 (Fits w8) xs → count_below (bit xs) (8 * length xs) ≡ sum_l (map count_ones xs)
lanes-ones [] fit = count_below-zero (bit [])
lanes-ones (x ∷ xs) (one, others) =
    let none = count_below-zero (bit (x ∷ xs)) in
    let first = count_below-append (bit (x ∷ xs)) (λ k. bit_at x k == 1) 0 8 (bit-first x xs) in
    let rest = count_below-append (bit (x ∷ xs)) (bit xs) 8 (8 * length xs) (λ k below. bit-behind x xs k) in
    let all : 8 * length (x ∷ xs) ≡ 8 + 8 * length xs = omega arith in
    let eight : 0 + 8 ≡ 8 = refl in
    omega (
      arith,
      none,
      first,
      byte-ones x one.fits,
      lanes-ones xs others,
      rest,
      ap (count_below (bit (x ∷ xs))) all,
      ap (count_below (bit (x ∷ xs))) eight,
    )

-- the sum of the counts, as it is made in lanes of 16 bits, is the number of 1 bits
pub ones-summed : (xs : List ℕ) → length xs ≡ 64 → Each1 (Fits w8) xs
    → fold (λ s x. (s + x) % 65536) 0 (map (λ x. x) (map (λ x. x) (map count_ones xs))) ≡ count_below (bit xs) 512
ones-summed xs long fit =
    let counts : List ℕ = map count_ones xs in
    let small : sum_l counts ≤ 8 * length counts = sum_bound 8 counts (counts-few xs fit) in
    let many : length counts ≡ length xs = length-map xs count_ones in
    let whole : 8 * length xs ≡ 512 = omega (arith, long) in
    let added : fold (λ s x. s + x) 0 counts ≡ 0 + sum_l counts = fold-sum 0 counts in
    let wrapped : sum counts % 65536 ≡ sum_l counts = omega (arith, added, small, many, long) in
    ap (λ ys. fold (λ s x. (s + x) % 65536) 0 (map (λ x. x) ys)) (cast-stays counts)
    ∙ ap (λ ys. fold (λ s x. (s + x) % 65536) 0 ys) (cast-stays counts)
    ∙ sum-wraps counts ∙ wrapped ∙ sym (lanes-ones xs fit) ∙ ap (count_below (bit xs)) whole
