-- The areas of an accepted volume lie one behind another, so that a block of one is no block of another.
use Rattle.std.proofs.Common.{◌≡◌, ◌⊎◌, inl, inr, ℕ, zero, suc, ◌+◌, ◌<◌, ◌≤◌, ◌==◌, Bool, true, false, if◌then◌else◌, List, [], ◌∷◌, ◌++◌}
use Rattle.std.proofs.Common.{map, filter, sum_by, slice_index, Some, refl, ap, arith}
use Rattle.std.specs.List.{slice_get, range_with_len}
use Rattle.std.proofs.lemmas.Bool.{ne_eqb}
use Rattle.std.proofs.lemmas.List.Sums.{sum_by-cons}
use Rattle.f11_dev.specs.Image.{Image}
use Rattle.rt11_volume.specs.Directory.{data_start, end_before, segment_of, visited}
use Rattle.rt11_volume.specs.Entry.{area_length}
use Rattle.rt11_volume.specs.Named.{Placed, placed, placed_in, area_of}
use Rattle.rt11_volume.specs.Segment.{areas_end}
use Rattle.rt11_volume.specs.Store.{Area}
use Rattle.rt11_volume.proofs.Verifying.Sound.{IsSoundImage}

-- each area begins at this block or behind it, and no sooner than the one before it ends
pub Ascends : ℕ → List Placed → Type 0
Ascends at [] = Unit {0}
Ascends at (p ∷ ps) = (at ≤ p.start) × Ascends (p.start + area_length p.entry) ps

later : (at from : ℕ) (ps : List Placed) → at ≤ from → Ascends from ps → Ascends at ps
unfolding Ascends
later at from [] low up = tt
later at from (p ∷ ps) low up = (omega (arith, low, up.0), up.1)

placed-ascends : (at start : ℕ) (es : List (List ℕ)) (rest : List Placed) → at ≤ start → Ascends (start + sum_by area_length es) rest
    → Ascends at (placed start es ++ rest)
unfolding placed Ascends
placed-ascends at start [] rest low up = later at (start + sum_by area_length []) rest (omega (arith, low)) up
placed-ascends at start (e ∷ es) rest low up =
    let next : ℕ = start + area_length e in (
      low,
      placed-ascends next next es rest (omega arith)
          (later (next + sum_by area_length es) (start + sum_by area_length (e ∷ es)) rest
          (omega (arith, sum_by-cons area_length e es)) up),
    )

-- where the areas of these segments begin: at a block, and where those of the one before end
begins_at : Image → ℕ → List ℕ → ℕ → ℕ
begins_at image at ks zero = at
begins_at image at ks (suc j) = areas_end (segment_of image (slice_index ks j))

segments-ascend : (image : Image) (at : ℕ) (ks : List ℕ)
    → ((j k : ℕ) → slice_get ks j ≡ Some k → begins_at image at ks j ≤ (segment_of image k).first)
    → Ascends at (placed_in (map (segment_of image) ks))
unfolding begins_at placed_in Ascends
segments-ascend image at [] begins = tt
segments-ascend image at (k ∷ ks) begins =
    placed-ascends at (segment_of image k).first (segment_of image k).entries (placed_in (map (segment_of image) ks)) (begins zero k refl)
    (segments-ascend image (areas_end (segment_of image k)) ks (λ j next is. on j next is))
  where
    on : (j next : ℕ) → slice_get ks j ≡ Some next → begins_at image (areas_end (segment_of image k)) ks j ≤ (segment_of image next).first
    on zero next is = begins (suc zero) next is
    on (suc j) next is = begins (suc (suc j)) next is

pub image-ascends : (image : Image) → IsSoundImage image → Ascends (data_start image) (placed_in (map (segment_of image) (visited image)))
unfolding begins_at end_before
image-ascends image sound = segments-ascend image (data_start image) (visited image) (λ j k is. on j k is)
  where
    on : (j k : ℕ) → slice_get (visited image) j ≡ Some k
        → begins_at image (data_start image) (visited image) j ≤ (segment_of image k).first
    on zero k is = (sound.each zero k is).begins
    on (suc j) k is = (sound.each (suc j) k is).begins

-- the blocks with one of them replaced
abbrev pub replaced : (ℕ → List ℕ) → ℕ → List ℕ → ℕ → List ℕ
replaced block lbn bytes n = if n == lbn then bytes else block n

-- blocks before or behind it stay
pub range-kept : (block : ℕ → List ℕ) (lbn : ℕ) (bytes : List ℕ) (start n : ℕ) → (lbn < start) ⊎ (start + n ≤ lbn)
    → map (replaced block lbn bytes) (range_with_len start n) ≡ map block (range_with_len start n)
range-kept block lbn bytes start zero apart = refl
range-kept block lbn bytes start (suc n) apart =
    let other : (start == lbn) ≡ false =
    ne_eqb start lbn (λ same. elim apart [ inl low ↦ omega (arith, low, same) | inr high ↦ omega (arith, high, same) ]) in
    let rest : (lbn < start + 1)
    ⊎ (start + 1 + n ≤ lbn) = elim apart [ inl low ↦ inl (omega (arith, low)) | inr high ↦ inr (omega (arith, high)) ] in
    λ t. (if other t then bytes else block start) ∷ range-kept block lbn bytes (start + 1) n rest t

area-kept : (block : ℕ → List ℕ) (lbn : ℕ) (bytes : List ℕ) (p : Placed) → (lbn < p.start) ⊎ (p.start + area_length p.entry ≤ lbn)
    → area_of (replaced block lbn bytes) p ≡ area_of block p
area-kept block lbn bytes p apart =
    ap (λ (c : List (List ℕ)). record (area_of block p) { contents = c }) (range-kept block lbn bytes p.start (area_length p.entry) apart)

-- one area more, if it passes
one-more : (f g : Placed → Area) (b : Bool) (p : Placed) (ps : List Placed) → f p ≡ g p → map f ps ≡ map g ps
    → map f (if b then p ∷ ps else ps) ≡ map g (if b then p ∷ ps else ps)
one-more f g true p ps here rest = λ t. here t ∷ rest t
one-more f g false p ps here rest = rest

-- areas behind the block, and areas before it, are as they were
pub behind-kept : (test : Placed → Bool) (block : ℕ → List ℕ) (lbn : ℕ) (bytes : List ℕ) (at : ℕ) (ps : List Placed) → lbn < at
    → Ascends at ps
    → map (area_of (replaced block lbn bytes)) (filter test ps) ≡ map (area_of block) (filter test ps)
unfolding Ascends
behind-kept test block lbn bytes at [] low up = refl
behind-kept test block lbn bytes at (p ∷ ps) low up =
    one-more (area_of (replaced block lbn bytes)) (area_of block) (test p) p (filter test ps)
    (area-kept block lbn bytes p (inl (omega (arith, low, up.0))))
    (behind-kept test block lbn bytes (p.start + area_length p.entry) ps (omega (arith, low, up.0)) up.1)

-- an area begins no sooner than those before it do
pub begins-behind : (at : ℕ) (before : List Placed) (p : Placed) (behind : List Placed) → Ascends at (before ++ (p ∷ behind)) → at ≤ p.start
unfolding Ascends
begins-behind at [] p behind up = up.0
begins-behind at (q ∷ before) p behind up = omega (arith, up.0, begins-behind (q.start + area_length q.entry) before p behind up.1)

pub before-kept : (test : Placed → Bool) (block : ℕ → List ℕ) (lbn : ℕ) (bytes : List ℕ) (at : ℕ) (before : List Placed) (p : Placed)
    (behind : List Placed) → p.start ≤ lbn → Ascends at (before ++ (p ∷ behind))
    → map (area_of (replaced block lbn bytes)) (filter test before) ≡ map (area_of block) (filter test before)
unfolding Ascends
before-kept test block lbn bytes at [] p behind high up = refl
before-kept test block lbn bytes at (q ∷ before) p behind high up =
    one-more (area_of (replaced block lbn bytes)) (area_of block) (test q) q (filter test before)
    (area-kept block lbn bytes q (inr (omega (arith, high, begins-behind (q.start + area_length q.entry) before p behind up.1))))
    (before-kept test block lbn bytes (q.start + area_length q.entry) before p behind high up.1)

-- and what is behind an area ascends from its end
pub ascends-behind : (at : ℕ) (before : List Placed) (p : Placed) (behind : List Placed) → Ascends at (before ++ (p ∷ behind))
    → Ascends (p.start + area_length p.entry) behind
unfolding Ascends
ascends-behind at [] p behind up = up.1
ascends-behind at (q ∷ before) p behind up = ascends-behind (q.start + area_length q.entry) before p behind up.1
