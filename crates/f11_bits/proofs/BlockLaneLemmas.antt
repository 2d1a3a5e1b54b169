-- A block seen through the lanes of vectors: its bits, and its words.
use Rattle.std.proofs.Common.{◌≡◌, ℕ, zero, suc, ◌+◌, ◌-◌, ◌*◌, ◌/◌, ◌%◌, ◌<◌, ◌≤◌, ◌==◌, Bool, true, false, not, nat_eq, List, [], ◌∷◌}
use Rattle.std.proofs.Common.{length}
use Rattle.std.proofs.Common.{map, sum, get_or, replicate, cond, refl, sym, ap, ◌∙◌, inl, inr, arith, Fits, w8}
use Rattle.std.specs.Int.{bit_at}
use Rattle.std.specs.Simd.Lanes.{Each1, sum_l, zip2, chunk, number_l, digits_l, mask_l, top}
use Rattle.std.proofs.lemmas.Bool.{cases_Bool, both_ways, eqb-true}
use Rattle.std.proofs.lemmas.List.{get_or-replicate}
use Rattle.std.proofs.lemmas.Nat.Bits.{bit_at-zero}
use Rattle.std.proofs.lemmas.Simd.{fold-sum, get_or-chunk, get_or_wider, below_from_Fits, bitmask_splat, length-chunk}
use Rattle.f11_dev.specs.bytes.Bits.{bit}
use Rattle.f11_dev.specs.bytes.Words.{word, word_total, word_sum}
use Rattle.f11_bits.specs.Bitmap.{count_below}
use Rattle.f11_bits.specs.Bits.{NoneWithin}
use Rattle.f11_bits.proofs.CountLemmas.{count_below-append, count_below-le}

-- an item of a part of a part
pub part-index : (i n m k : ℕ) (xs : List ℕ) → k < n → k < m → get_or (chunk 0 n (chunk i m xs)) k 0 ≡ get_or xs (i + k) 0
part-index i n m k xs low high =
    let at : 0 + k ≡ k = omega arith in
    get_or-chunk 0 n (chunk i m xs) k 0 low ∙ ap (λ (j : ℕ). get_or (chunk i m xs) j 0) at ∙ get_or-chunk i m xs k 0 high

-- these bytes are those of a block from byte 64 i on
abbrev pub AreBytes : List ℕ → ℕ → List ℕ → Type 0
AreBytes b i lanes = (k : ℕ) → k < 64 → get_or lanes k 0 ≡ get_or b (64 * i + k) 0

-- so their bits are its bits
bits-are : (b : List ℕ) (i : ℕ) (lanes : List ℕ) → AreBytes b i lanes → (k : ℕ) → k < 512 → bit b (512 * i + k) ≡ bit lanes k
bits-are b i lanes are k below =
    let at : (512 * i + k) / 8 ≡ 64 * i + k / 8 = omega arith in
    let bit_is : (512 * i + k) % 8 ≡ k % 8 = omega arith in
    ap (λ (j : ℕ). bit_at (get_or b j 0) ((512 * i + k) % 8) == 1) at
    ∙ ap (λ (j : ℕ). bit_at (get_or b (64 * i + k / 8) 0) j == 1) bit_is
    ∙ ap (λ (x : ℕ). bit_at x (k % 8) == 1) (sym (are (k / 8) (omega (arith, below))))

-- 64 bytes more are counted
pub count-more : (b lanes : List ℕ) (i count more : ℕ) → AreBytes b i lanes → count ≡ count_below (bit b) (512 * i) →
    more ≡ count_below (bit lanes) 512
    → count + more ≡ count_below (bit b) (512 * (i + 1))
count-more b lanes i count more are so_far here =
    let both = count_below-append (bit b) (bit lanes) (512 * i) 512 (bits-are b i lanes are) in
    let end : 512 * (i + 1) ≡ 512 * i + 512 = omega arith in
    omega (arith, so_far, here, both, ap (count_below (bit b)) end)

-- and they are few
pub count-few : (p q : ℕ → Bool) (i count more : ℕ) → i < 8 → count ≡ count_below p (512 * i) → more ≡ count_below q 512 →
    count + more < 65536
count-few p q i count more few so_far here = omega (arith, few, so_far, here, count_below-le p (512 * i), count_below-le q 512)

-- where a mask is empty no lane passes
none-masked : (p : ℕ → Bool) (xs : List ℕ) → mask_l (map p xs) ≡ 0 → (k : ℕ) → k < length xs → p (get_or xs k 0) ≡ false
none-masked p [] none k within = absurd (omega (arith, within))
none-masked p (x ∷ xs) none zero within = elim (cases_Bool (p x)) [
  | inl passes ↦ let one : cond (p x) 1 zero ≡ 1 = ap (λ (t : Bool). cond t 1 zero) passes in absurd (omega (arith, one, none))
  | inr fails ↦ fails
]
none-masked p (x ∷ xs) none (suc k) within = none-masked p xs (omega (arith, none)) k (omega (arith, within))

-- whether two bytes differ
abbrev pub is_not : ℕ → ℕ → Bool
is_not x y = not (nat_eq x y)

-- numbers that don't
is-same : (x y : ℕ) → is_not x y ≡ false → x ≡ y
is-same x y same = elim (cases_Bool (nat_eq x y)) [
  | inl equal ↦ eqb-true x y equal
  | inr apart ↦ absurd (both_ways (is_not x y) same (ap not apart))
]

-- a mask of the lanes that differ from a byte that is empty
pub mask-empty : (lanes : List ℕ) (y : ℕ) → length lanes ≡ 64
    → not (nat_eq (mask_l (map (top 7) (zip2 (λ a b. cond (is_not a b) 255 0) lanes (replicate 64 y))) % 18446744073709551616) 0) ≡ false
    → mask_l (map (λ x. is_not x y) lanes) ≡ 0
mask-empty lanes y long none = sym (bitmask_splat w8 is_not lanes 64 y long (omega arith)) ∙ is-same _ 0 none

-- where no lane differs from a byte, each bit of the block there is that byte's
lanes-bit : (b lanes : List ℕ) (i y : ℕ) → length lanes ≡ 64 → AreBytes b i lanes → mask_l (map (λ x. is_not x y) lanes) ≡ 0
    → (k : ℕ) → 512 * i ≤ k → k < 512 * i + 512 → bit b k ≡ (bit_at y (k % 8) == 1)
lanes-bit b lanes i y long are none k low high =
    let j : ℕ = k - 512 * i in
    let at : k ≡ 512 * i + j = omega (arith, low) in
    let within : j < 512 = omega (arith, low, high) in
    let lane : j / 8 < length lanes = omega (arith, within, long) in
    let place : j % 8 ≡ k % 8 = omega (arith, low) in
    ap (bit b) at ∙ bits-are b i lanes are j within
    ∙ ap (λ (x : ℕ). bit_at x (j % 8) == 1) (is-same (get_or lanes (j / 8) 0) y (none-masked (λ x. is_not x y) lanes none (j / 8) lane))
    ∙ ap (λ (m : ℕ). bit_at y m == 1) place

-- where no lane differs from 0 none of the block's bits there is 1
pub NoneWithin-lanes : (b lanes : List ℕ) (i : ℕ) → length lanes ≡ 64 → AreBytes b i lanes → mask_l (map (λ x. is_not x 0) lanes) ≡ 0
    → NoneWithin (bit b) (512 * i) (512 * i + 512)
NoneWithin-lanes b lanes i long are none k low high =
    lanes-bit b lanes i 0 long are none k low high ∙ ap (λ (d : ℕ). d == 1) (bit_at-zero (k % 8))

-- each bit of a byte of ones is 1
ones-bit : (k : ℕ) → k < 8 → (bit_at 255 k == 1) ≡ true
ones-bit zero few = refl
ones-bit (suc zero) few = refl
ones-bit (suc (suc zero)) few = refl
ones-bit (suc (suc (suc zero))) few = refl
ones-bit (suc (suc (suc (suc zero)))) few = refl
ones-bit (suc (suc (suc (suc (suc zero))))) few = refl
ones-bit (suc (suc (suc (suc (suc (suc zero)))))) few = refl
ones-bit (suc (suc (suc (suc (suc (suc (suc zero))))))) few = refl
ones-bit (suc (suc (suc (suc (suc (suc (suc (suc k)))))))) few = absurd (omega (arith, few))

-- where none differs from 255 each of them is
pub ones-lanes : (b lanes : List ℕ) (i : ℕ) → length lanes ≡ 64 → AreBytes b i lanes → mask_l (map (λ x. is_not x 255) lanes) ≡ 0
    → (k : ℕ) → 512 * i ≤ k → k < 512 * i + 512 → bit b k ≡ true
ones-lanes b lanes i long are none k low high =
    lanes-bit b lanes i 255 long are none k low high ∙ ones-bit (k % 8) (omega arith)

-- a bit of a block of equal bytes
filled-bit : (y z k : ℕ) → y ≡ z → k < 4096 → bit (replicate 512 y) k ≡ (bit_at z (k % 8) == 1)
filled-bit y z k is below = ap (λ (x : ℕ). bit_at x (k % 8) == 1) (get_or-replicate 512 (k / 8) y 0 (omega (arith, below)) ∙ is)

pub filled-ones : (y k : ℕ) → y ≡ 255 → k < 4096 → bit (replicate 512 y) k ≡ true
filled-ones y k is below = filled-bit y 255 k is below ∙ ones-bit (k % 8) (omega arith)

pub filled-zeros : (y k : ℕ) → y ≡ 0 → k < 4096 → bit (replicate 512 y) k ≡ false
filled-zeros y k is below = filled-bit y 0 k is below ∙ ap (λ (d : ℕ). d == 1) (bit_at-zero (k % 8))

-- a number of two bytes
number-two : (i : ℕ) (xs : List ℕ) → i + 2 ≤ length xs → number_l 256 (chunk i 2 xs) ≡ get_or xs i 0 + 256 * get_or xs (i + 1) 0
number-two i xs within =
    let part : List ℕ = chunk i 2 xs in
    let at : i + 0 ≡ i = omega arith in
    let first = get_or-chunk i 2 xs 0 0 (omega arith) ∙ ap (λ (j : ℕ). get_or xs j 0) at in
    let second = get_or-chunk i 2 xs 1 0 (omega arith) in
    two part (length-chunk i 2 xs within) ∙ ap (λ (x : ℕ). x + 256 * get_or part 1 0) first ∙ ap (λ (y : ℕ). get_or xs i 0 + 256 * y) second
  where
    two : (part : List ℕ) → length part ≡ 2 → number_l 256 part ≡ get_or part 0 0 + 256 * get_or part 1 0
    two (x ∷ y ∷ []) is = omega arith
    two [] is = absurd (omega (arith, is))
    two (x ∷ []) is = absurd (omega (arith, is))
    two (x ∷ y ∷ z ∷ others) is = absurd (omega (arith, is))

-- words made of bytes
pub words-made : (bytes : List ℕ) (k : ℕ) → length bytes ≡ 32 → Each1 (Fits w8) bytes → k < 16
    → get_or (digits_l 65536 16 (number_l 256 bytes)) k 0 ≡ word bytes (2 * k)
words-made bytes k long fit below =
    get_or_wider 256 2 65536 16 bytes k refl (below_from_Fits w8 bytes fit) below ∙ number-two (2 * k) bytes (omega (arith, long, below))

-- the words of a part of a block are the block's
pub words-are : (b : List ℕ) (i k : ℕ) → i < 16 → k < 16 →
    word (chunk 0 32 (chunk (32 * i) (512 - 32 * i) b)) (2 * k) ≡ word b (2 * (16 * i + k))
words-are b i k few below =
    let m : ℕ = 512 - 32 * i in
    let part : List ℕ = chunk 0 32 (chunk (32 * i) m b) in
    let low = part-index (32 * i) 32 m (2 * k) b (omega (arith, below)) (omega (arith, below, few)) in
    let high = part-index (32 * i) 32 m (2 * k + 1) b (omega (arith, below)) (omega (arith, below, few)) in
    let at : 32 * i + 2 * k ≡ 2 * (16 * i + k) = omega arith in
    let next : 32 * i + (2 * k + 1) ≡ 2 * (16 * i + k) + 1 = omega arith in
    ap (λ (x : ℕ). x + 256 * get_or part (2 * k + 1) 0) (low ∙ ap (λ (j : ℕ). get_or b j 0) at)
    ∙ ap (λ (y : ℕ). get_or b (2 * (16 * i + k)) 0 + 256 * y) (high ∙ ap (λ (j : ℕ). get_or b j 0) next)

-- lanes that wrap add up, wrapped, to the sum of both
zip-wraps : (xs ys : List ℕ) → length xs ≡ length ys → sum_l (zip2 (λ a c. (a + c) % 65536) xs ys) % 65536 ≡ (sum_l xs + sum_l ys) % 65536
zip-wraps [] [] same = refl
zip-wraps [] (y ∷ ys) same = absurd (omega (arith, same))
zip-wraps (x ∷ xs) [] same = absurd (omega (arith, same))
zip-wraps (x ∷ xs) (y ∷ ys) same = let rest = zip-wraps xs ys (omega (arith, same)) in omega (arith, rest)

-- these are the words of a block from word n on
abbrev pub AreWords : List ℕ → ℕ → List ℕ → Type 0
AreWords b n ys = (k : ℕ) → k < length ys → get_or ys k 0 ≡ word b (2 * (n + k))

total-more : (b : List ℕ) (n : ℕ) (ys : List ℕ) → AreWords b n ys → word_total b (n + length ys) ≡ word_total b n + sum_l ys
unfolding word_total
total-more b n [] are = let end : n + 0 ≡ n = omega arith in omega (arith, ap (word_total b) end)
total-more b n (y ∷ ys) are =
    let here : y ≡ word b (2 * (n + 0)) = are 0 (omega arith) in
    let at : 2 * (n + 0) ≡ 2 * n = omega arith in
    let first : word_total b (suc n) ≡ word_total b n + word b (2 * n) = refl in
    let rest = total-more b (suc n) ys (λ k below. are (suc k) (omega (arith, below)) ∙ ap (λ (j : ℕ). word b (2 * j)) (omega arith)) in
    let end : n + length (y ∷ ys) ≡ suc n + length ys = omega arith in
    omega (arith, here, ap (word b) at, first, rest, ap (word_total b) end)

-- 16 words more are summed
pub sum-more : (b sums ys : List ℕ) (i : ℕ) → length sums ≡ 16 → length ys ≡ 16 →
    ((k : ℕ) → k < 16 → get_or ys k 0 ≡ word b (2 * (16 * i + k)))
    → sum sums % 65536 ≡ word_total b (16 * i) % 65536
    → sum (zip2 (λ a c. (a + c) % 65536) sums ys) % 65536 ≡ word_total b (16 * (i + 1)) % 65536
sum-more b sums ys i long sixteen are so_far =
    let added : List ℕ = zip2 (λ a c. (a + c) % 65536) sums ys in
    let new : sum added ≡ 0 + sum_l added = fold-sum 0 added in
    let old : sum sums ≡ 0 + sum_l sums = fold-sum 0 sums in
    let wraps = zip-wraps sums ys (long ∙ sym sixteen) in
    let more = total-more b (16 * i) ys (λ k below. are k (omega (arith, below, sixteen))) in
    let end : 16 * (i + 1) ≡ 16 * i + length ys = omega (arith, sixteen) in
    omega (arith, new, old, wraps, more, so_far, ap (word_total b) end)

-- no word is summed at first
pub none-summed : (b : List ℕ) → 0 ≡ word_total b 0 % 65536
unfolding word_total
none-summed b = refl

-- the sum of all words, less the last
less-last : (more less all last : ℕ) → more ≡ less + last → all ≡ more % 65536 → last < 65536 →
    (all + (65536 - last)) % 65536 ≡ less % 65536
less-last more less all last whole is fits = omega (arith, whole, is, fits)

pub sum-less : (b : List ℕ) (n all last : ℕ) → n ≡ 256 → all ≡ word_total b n % 65536 → last ≡ word b 510 → last < 65536
    → (all + (65536 - last)) % 65536 ≡ word_sum b 255
unfolding word_total word_sum
sum-less b n all last end is last_is fits =
    less-last (word_total b 256) (word_total b 255) all last (ap (λ (w : ℕ). word_total b 255 + w) (sym last_is))
    (is ∙ ap (λ (m : ℕ). word_total b m % 65536) end) fits
