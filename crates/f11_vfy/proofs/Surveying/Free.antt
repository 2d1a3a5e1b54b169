-- The free blocks of a volume, a bitmap block at a time.
use Rattle.std.proofs.Common.{◌≡◌, ◌≢◌, ◌≤◌, ◌<◌, ◌+◌, ◌-◌, ◌*◌, ◌⊎◌, ◌&&◌, ◌||◌, inl, inr, ℕ, refl, ap, sym, ◌∙◌, arith, Bool, true, false}
use Rattle.std.proofs.Common.{List, Some, min, eqb, leb, ltb, get_or}
use Rattle.std.specs.List.{slice_get}
use Rattle.std.proofs.lemmas.Bool.{cases_lt, eq-eqb, ne_eqb, le-leb, lt-leb, lt-ltb, le-ltb}
use Rattle.std.proofs.Math.Bool.{or-false}
use Rattle.f11_bits.specs.Bitmap.{Bitmap, is_free}
use Rattle.f11_bits.specs.Bits.{bit_below}
use Rattle.f11_bits.proofs.BitmapLemmas.{is_free-at, is_free-past}
use Rattle.f11_bytes.specs.Bits.{bit}
use Rattle.f11_dev.specs.Image.{Image}
use Rattle.f11_vfy.specs.Surveying.Free.{has_bit}

-- a number outside the block's has no bit there, and one inside has its own
pub has_bit-below : (b : List ℕ) (first count j : ℕ) → j < first → has_bit b first count j ≡ false
unfolding has_bit
has_bit-below b first count j h = ap (λ t. (t && ltb j (first + count)) && bit b (j - first)) (lt-leb first j h)

pub has_bit-above : (b : List ℕ) (first count j : ℕ) → first + count ≤ j → has_bit b first count j ≡ false
unfolding has_bit
has_bit-above b first count j h = ap (λ t. t && bit b (j - first)) (go (leb first j))
  where
    go : (t : Bool) → (t && ltb j (first + count)) ≡ false
    go true = le-ltb j (first + count) h
    go false = refl

pub has_bit-inside : (b : List ℕ) (first count j k : ℕ) → j ≡ first + k → k < count → has_bit b first count j ≡ bit b k
unfolding has_bit
has_bit-inside b first count j k e h =
    ap (λ t. (t && ltb j (first + count)) && bit b (j - first)) (le-leb first j (omega arith))
    ∙ ap (λ t. t && bit b (j - first)) (lt-ltb j (first + count) (omega arith))
    ∙ ap (bit b) (omega arith)

pub adds-none : (t : Bool) (b : List ℕ) (first j : ℕ) → t ≡ (t || has_bit b first 0 j)
adds-none t b first j = sym (ap (λ z. t || z) (go (cases_lt j first)) ∙ or-false t)
  where
    go : (j < first) ⊎ (first ≤ j) → has_bit b first 0 j ≡ false
    go (inl h) = has_bit-below b first 0 j h
    go (inr h) = has_bit-above b first 0 j (omega arith)

-- the next bit's number
has_bit-more : (b : List ℕ) (first k j : ℕ) (here : Bool) → here ≡ bit b k
    → has_bit b first (k + 1) j ≡ (has_bit b first k j || (here && eqb j (first + k)))
has_bit-more b first k j here is = go (cases_lt j first) (cases_lt j (first + k)) (cases_lt (first + k) j)
  where
    apart : (t : Bool) → j ≢ first + k → (t || (here && eqb j (first + k))) ≡ t
    apart t ne = ap (λ z. t || (here && z)) (ne_eqb j (first + k) ne) ∙ ap (λ z. t || z) (no here) ∙ or-false t
      where
        no : (h : Bool) → (h && false) ≡ false
        no true = refl
        no false = refl

    go : (j < first) ⊎ (first ≤ j) → (j < first + k) ⊎ (first + k ≤ j) → (first + k < j) ⊎ (j ≤ first + k)
        → has_bit b first (k + 1) j ≡ (has_bit b first k j || (here && eqb j (first + k)))
    go (inl x) y z = has_bit-below b first (k + 1) j x ∙ sym (has_bit-below b first k j x) ∙ sym (apart _ (λ e. omega arith))
    go (inr x) (inl y) z =
        has_bit-inside b first (k + 1) j (j - first) (omega arith) (omega arith)
        ∙ sym (has_bit-inside b first k j (j - first) (omega arith) (omega arith)) ∙ sym (apart _ (λ e. omega arith))
    go (inr x) (inr y) (inl z) =
        has_bit-above b first (k + 1) j (omega arith) ∙ sym (has_bit-above b first k j y) ∙ sym (apart _ (λ e. omega arith))
    go (inr x) (inr y) (inr z) =
        has_bit-inside b first (k + 1) j k (omega arith) (omega arith) ∙ sym is
        ∙ sym (ap (λ t. t || (here && eqb j (first + k))) (has_bit-above b first k j y) ∙ yes here (eq-eqb j (first + k) (omega arith)))
      where
        yes : (h : Bool) {e : Bool} → e ≡ true → (h && e) ≡ h
        yes true e = e
        yes false e = refl

pub or_assoc : (s t u : Bool) → ((s || t) || u) ≡ (s || (t || u))
or_assoc true t u = refl
or_assoc false t u = refl

pub adds-bit : (s : Bool) (b : List ℕ) (first k j : ℕ) (now new : Bool) → true ≡ bit b k → now ≡ (s || has_bit b first k j)
    → new ≡ (now || eqb j (first + k)) → new ≡ (s || has_bit b first (k + 1) j)
adds-bit s b first k j now new is before here =
    here ∙ ap (λ z. z || eqb j (first + k)) before ∙ or_assoc s _ _ ∙ ap (λ z. s || z) (sym (has_bit-more b first k j true is))

pub adds-no_bit : (s : Bool) (b : List ℕ) (first k j : ℕ) (now : Bool) → false ≡ bit b k → now ≡ (s || has_bit b first k j)
    → now ≡ (s || has_bit b first (k + 1) j)
adds-no_bit s b first k j now is before = before ∙ ap (λ z. s || z) (sym (has_bit-more b first k j false is ∙ or-false _))

-- no bitmap block yet, one more, and all
pub free-none : (t : Bool) (lbn : ℕ) → t ≡ false → (c : Bool) → t ≡ (ltb lbn (4096 * 0) && c)
free-none t lbn e c = e ∙ sym (ap (λ z. z && c) (le-ltb lbn (4096 * 0) (omega arith)))

pub free-more : (image : Image) (bitmap : Bitmap) (index count lbn : ℕ) (block : List ℕ) (now new : Bool)
    → slice_get image (get_or bitmap.places index 0) ≡ Some block
    → count ≡ min (bitmap.size - index * 4096) 4096 → now ≡ (ltb lbn (4096 * index) && is_free image bitmap lbn)
    → new ≡ (now || has_bit block (index * 4096) count lbn)
    → new ≡ (ltb lbn (4096 * (index + 1)) && is_free image bitmap lbn)
free-more image bitmap index count lbn block now new stands counts before here =
    go (cases_lt lbn (4096 * index)) (cases_lt lbn (4096 * (index + 1)))
  where
    F : Bool
    F = is_free image bitmap lbn

    go : (lbn < 4096 * index) ⊎ (4096 * index ≤ lbn) → (lbn < 4096 * (index + 1)) ⊎ (4096 * (index + 1) ≤ lbn)
        → new ≡ (ltb lbn (4096 * (index + 1)) && is_free image bitmap lbn)
    go (inl x) y =
        here ∙ ap (λ z. now || z) (has_bit-below block (index * 4096) count lbn (omega arith)) ∙ or-false now
        ∙ before ∙ ap (λ z. z && F) (lt-ltb lbn (4096 * index) x) ∙ sym (ap (λ z. z && F) (lt-ltb lbn (4096 * (index + 1)) (omega arith)))
    go (inr x) (inr y) =
        here ∙ ap (λ z. now || z) (has_bit-above block (index * 4096) count lbn (omega arith)) ∙ or-false now
        ∙ before ∙ ap (λ z. z && F) (le-ltb lbn (4096 * index) x) ∙ sym (ap (λ z. z && F) (le-ltb lbn (4096 * (index + 1)) y))
    go (inr x) (inl y) =
        here ∙ ap (λ z. z || has_bit block (index * 4096) count lbn) (before ∙ ap (λ z. z && F) (le-ltb lbn (4096 * index) x))
        ∙ inside (cases_lt (lbn - 4096 * index) count)
        ∙ sym (ap (λ z. z && F) (lt-ltb lbn (4096 * (index + 1)) y))
      where
        k : ℕ
        k = lbn - 4096 * index

        at : is_free image bitmap lbn ≡ bit_below block (min (bitmap.size - 4096 * index) 4096) k
        at = ap (is_free image bitmap) (omega arith) ∙ is_free-at image bitmap index k block (omega arith) stands

        inside : (k < count) ⊎ (count ≤ k) → has_bit block (index * 4096) count lbn ≡ is_free image bitmap lbn
        inside (inl h) =
            has_bit-inside block (index * 4096) count lbn k (omega arith) h
            ∙ sym (at ∙ ap (λ z. z && bit block k) (lt-ltb k (min (bitmap.size - 4096 * index) 4096) (omega arith)))
        inside (inr h) =
            has_bit-above block (index * 4096) count lbn (omega arith)
            ∙ sym (at ∙ ap (λ z. z && bit block k) (le-ltb k (min (bitmap.size - 4096 * index) 4096) (omega arith)))

pub free-all : (image : Image) (bitmap : Bitmap) (n lbn : ℕ) (t : Bool) → bitmap.size ≤ 4096 * n
    → t ≡ (ltb lbn (4096 * n) && is_free image bitmap lbn) → t ≡ is_free image bitmap lbn
free-all image bitmap n lbn t covered is = go (cases_lt lbn (4096 * n))
  where
    go : (lbn < 4096 * n) ⊎ (4096 * n ≤ lbn) → t ≡ is_free image bitmap lbn
    go (inl x) = is ∙ ap (λ z. z && is_free image bitmap lbn) (lt-ltb lbn (4096 * n) x)
    go (inr x) = is ∙ ap (λ z. z && is_free image bitmap lbn) (le-ltb lbn (4096 * n) x) ∙ sym (is_free-past image bitmap lbn (omega arith))
