-- Facts about words of bytes, and numbers of two words.
use Rattle.std.proofs.Common.{◌≡◌, ◌≢◌, ◌⊎◌, inl, ⊎_elim, ℕ, zero, suc, ◌+◌, ◌*◌, ◌/◌, ◌%◌, ◌<◌, ◌≤◌, List, take, drop, [], ◌∷◌, length}
use Rattle.std.proofs.Common.{refl, sym, ◌∙◌, ap, arith, add-one, append_assoc}
use Rattle.std.proofs.Math.ListN.{set, drop_of_length-le}
use Rattle.std.proofs.Math.Nat.{mod-add-mod}
use Rattle.std.specs.Prelude.{slice_index}
use Rattle.std.proofs.lemmas.List.{length-take, length-set, get_or-set_same, get_or-set_other}
use Rattle.std.proofs.lemmas.List.Edits.{sets-eq, paste_all}
use Rattle.std.proofs.lemmas.Slice.{put_mid-paste}
use borrow.Rule.Slice.PartMut.{put_mid, mid_of}
use Rattle.f11_bytes.specs.Words.{word, with_word, long, with_long, word_total, word_sum}

-- a sum with one word more
pub word_sum-more : (b : List ℕ) (n sum w : ℕ) → sum ≡ word_sum b n → w ≡ word b (2 * n) → (sum + w) % 65536 ≡ word_sum b (n + 1)
unfolding word_sum word_total
word_sum-more b n sum w so_far is = rw (add-one, so_far, is) (mod-add-mod (word_total b n) 65536 (word b (2 * n)))

-- two bytes put in the place of two are a word
pub with_word-put_mid : (b buf : List ℕ) (at k w : ℕ) → at + 2 ≤ length b → k ≡ 2 → w < 65536
    → buf ≡ w % 256 ∷ w / 256 % 256 ∷ drop 2 (mid_of at k b) → put_mid at k b buf ≡ with_word b at w
with_word-put_mid b buf at k w within two fits is =
    let bytes : List ℕ = w % 256 ∷ w / 256 ∷ [] in
    let high : w / 256 % 256 ≡ w / 256 = omega arith in
    let none : drop 2 (mid_of at k b) ≡ [] = drop_of_length-le (mid_of at k b) {i = 2} (omega (arith, length-take k (drop at b))) in
    let put : buf ≡ bytes = is ∙ ap (λ (h : ℕ). w % 256 ∷ h ∷ drop 2 (mid_of at k b)) high
    ∙ ap (λ (t : List ℕ). w % 256 ∷ w / 256 ∷ t) none in
    put_mid-paste at k b buf bytes 2 put (sym two) refl ∙ paste_all b at bytes 2 refl
    ∙ sym (append_assoc (take at b) bytes (drop (at + 2) b))
    ∙ sym (sets-eq bytes b at within) ∙ ap (λ (j : ℕ). set (set b at (w % 256)) j (w / 256)) (sym (add-one at))

-- a byte outside the word that was put stays
pub slice_index-with_word : (b : List ℕ) (at w i : ℕ) → i ≢ at → i ≢ at + 1 → slice_index (with_word b at w) i ≡ slice_index b i
slice_index-with_word b at w i low high =
    get_or-set_other (set b at (w % 256)) (at + 1) i (w / 256) 0 high ∙ get_or-set_other b at i (w % 256) 0 low

-- the word that was put
pub word-with_word : (b : List ℕ) (at w : ℕ) → at + 2 ≤ length b → word (with_word b at w) at ≡ w
word-with_word b at w within =
    let low : slice_index (with_word b at w) at ≡ w % 256 =
    get_or-set_other (set b at (w % 256)) (at + 1) at (w / 256) 0 (omega arith) ∙ get_or-set_same b at (w % 256) 0 (omega arith) in
    let high : slice_index (with_word b at w) (at + 1) ≡ w / 256 =
    get_or-set_same (set b at (w % 256)) (at + 1) (w / 256) 0 (omega (arith, within, length-set b at (w % 256))) in
    omega (arith, low, high)

-- a word apart from the one that was put stays
pub word-with_word_apart : (b : List ℕ) (at w i : ℕ) → i + 2 ≤ at ⊎ at + 2 ≤ i → word (with_word b at w) i ≡ word b i
word-with_word_apart b at w i apart =
    let low : slice_index (with_word b at w) i ≡ slice_index b i =
    slice_index-with_word b at w i (⊎_elim (λ h. omega arith) (λ h. omega arith) apart)
    (⊎_elim (λ h. omega arith) (λ h. omega arith) apart) in
    let high : slice_index (with_word b at w) (i + 1) ≡ slice_index b (i + 1) =
    slice_index-with_word b at w (i + 1) (⊎_elim (λ h. omega arith) (λ h. omega arith) apart)
    (⊎_elim (λ h. omega arith) (λ h. omega arith) apart) in
    omega (arith, low, high)

-- the sum of the words before the one that was put stays
word_total-with_word : (b : List ℕ) (at w n : ℕ) → 2 * n ≤ at → word_total (with_word b at w) n ≡ word_total b n
unfolding word_total
word_total-with_word b at w zero before = refl
word_total-with_word b at w (suc n) before =
    let so_far = word_total-with_word b at w n (omega arith) in
    let last = word-with_word_apart b at w (2 * n) (inl (omega arith)) in
    rw (so_far, last) refl

pub word_sum-with_word : (b : List ℕ) (at w n : ℕ) → 2 * n ≤ at → word_sum (with_word b at w) n ≡ word_sum b n
unfolding word_sum
word_sum-with_word b at w n before = ap (λ (total : ℕ). total % 65536) (word_total-with_word b at w n before)

-- a word leaves as many bytes
pub length-with_word : (b : List ℕ) (at w : ℕ) → length (with_word b at w) ≡ length b
length-with_word b at w = length-set (set b at (w % 256)) (at + 1) (w / 256) ∙ length-set b at (w % 256)

-- the number of two words that was put
pub long-with_long : (b : List ℕ) (at n : ℕ) → at + 4 ≤ length b → long (with_long b at n) at ≡ n
long-with_long b at n within =
    let once : List ℕ = with_word b at (n / 65536) in
    let high : word (with_long b at n) at ≡ n / 65536 =
    word-with_word_apart once (at + 2) (n % 65536) at (inl (omega arith)) ∙ word-with_word b at (n / 65536) (omega arith) in
    let low : word (with_long b at n) (at + 2) ≡ n % 65536 =
    word-with_word once (at + 2) (n % 65536) (omega (arith, length-with_word b at (n / 65536))) in
    omega (arith, high, low)

-- a byte outside of it stays
pub slice_index-with_long : (b : List ℕ) (at n i : ℕ) → i < at ⊎ at + 4 ≤ i → slice_index (with_long b at n) i ≡ slice_index b i
slice_index-with_long b at n i apart =
    let differs : (j : ℕ) → j < 4 → i ≢ at + j = λ j few is. ⊎_elim (λ before. omega arith) (λ behind. omega arith) apart in
    slice_index-with_word (with_word b at (n / 65536)) (at + 2) (n % 65536) i (differs 2 (omega arith))
    (λ is. differs 3 (omega arith) (omega arith))
    ∙ slice_index-with_word b at (n / 65536) i (λ is. differs 0 (omega arith) (omega arith)) (differs 1 (omega arith))
