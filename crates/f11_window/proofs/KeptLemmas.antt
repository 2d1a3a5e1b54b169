-- That calls within a part keep what is outside it.
use Rattle.std.proofs.Common.{◌≡◌, ℕ, zero, suc, ◌+◌, ◌-◌, ◌<◌, ◌≤◌, List, [], ◌∷◌, ◌++◌, length, true, false, refl, sym, subst, ap, ◌∙◌}
use Rattle.std.proofs.Common.{◌⊎◌, arith, inl, inr, get_or, Bool, Result, Ok, Err, take}
use Rattle.std.specs.List.{All}
use Rattle.std.proofs.Math.ListN.{set}
use Rattle.std.proofs.lemmas.List.{length-set, length-append, drop-set-lt, take-set-le, take_at, get_or-take, get_or-drop}
use Rattle.f11_bytes.specs.Block.{zero_block}
use Rattle.f11_dev.specs.Image.{Image, image_block}
use Rattle.f11_dev.specs.Disk.{Disk, Writes, with_block_at, with_transfer}
use Rattle.f11_dev.specs.Went.{newest}
use Rattle.f11_dev.specs.Zeros.{StopsAmongZeros, WritesZeros, with_zeros_from}
use Rattle.f11_window.specs.Part.{IsSameOutside, KeepsOutside, images_since}

same-outside : (first blocks : ℕ) (image : Image) → IsSameOutside first blocks image image
same-outside first blocks image = record { size = refl; before = refl; behind = refl }

-- a block of the part is replaced
same-written : (first blocks lbn : ℕ) (b : List ℕ) (made image : Image) → lbn < blocks → IsSameOutside first blocks made image
    → IsSameOutside first blocks made (set image (first + lbn) b)
same-written first blocks lbn b made image below same = record {
  size = length-set image (first + lbn) b ∙ same.size;
  before = take-set-le first image (first + lbn) b (omega arith) ∙ same.before;
  behind = drop-set-lt (first + blocks) image (first + lbn) b (omega (arith, below)) ∙ same.behind;
}

newest-same : (first blocks : ℕ) (made : Image) (since : List Image) → All (IsSameOutside first blocks made) since
    → IsSameOutside first blocks made (newest since made)
newest-same first blocks made [] each = same-outside first blocks made
newest-same first blocks made (last ∷ earlier) each = each 0 last (omega arith)

-- the image as it stands
kept-image : (first blocks : ℕ) (made now : Disk) → KeepsOutside first blocks made now
    → IsSameOutside first blocks made.image now.image
kept-image first blocks made now kept =
    subst (IsSameOutside first blocks made.image) (sym kept.image) (newest-same first blocks made.image (images_since made now) kept.each)

kept-size : (first blocks : ℕ) (made now : Disk) → KeepsOutside first blocks made now → length now.image ≡ length made.image
kept-size first blocks made now kept = (kept-image first blocks made now kept).size

-- by the images that stood since
kept-from : (first blocks : ℕ) (made now : Disk) (since : List Image) → now.history ≡ since ++ made.history
    → now.image ≡ newest since made.image → All (IsSameOutside first blocks made.image) since → now.honest ≡ made.honest
    → KeepsOutside first blocks made now
kept-from first blocks made now since history image each honest = record {
  history = history ∙ ap (λ (s : List Image). s ++ made.history) (sym is);
  image = image ∙ ap (λ (s : List Image). newest s made.image) (sym is);
  each = subst (All (IsSameOutside first blocks made.image)) (sym is) each;
  honest = honest;
}
  where
    count : length since ≡ length now.history - length made.history
    count = omega (arith, ap (λ (h : List Image). length h) history, length-append since made.history)

    is : images_since made now ≡ since
    is = ap (take (length now.history - length made.history)) history
        ∙ take_at since made.history (length now.history - length made.history) count

-- when a window is made
kept-none : (first blocks : ℕ) (d : Disk) → KeepsOutside first blocks d d
kept-none first blocks d = kept-from first blocks d d [] refl refl (λ k x within. absurd (omega arith)) refl

-- no block changed
kept-same : (first blocks : ℕ) (made old new : Disk) → new.image ≡ old.image → new.history ≡ old.history → new.honest ≡ old.honest
    → KeepsOutside first blocks made old → KeepsOutside first blocks made new
kept-same first blocks made old new image history honest kept = kept-from first blocks made new (images_since made old)
    (history ∙ kept.history) (image ∙ kept.image) kept.each (honest ∙ kept.honest)

kept-counted : (first blocks : ℕ) (made old new : Disk) (passed : Bool) → new ≡ with_transfer passed old
    → KeepsOutside first blocks made old → KeepsOutside first blocks made new
kept-counted first blocks made old new passed is kept = kept-same first blocks made old new
    (ap (λ (d : Disk). d.image) is) (ap (λ (d : Disk). d.history) is) (ap (λ (d : Disk). d.honest) is) kept

All-more : (P : Image → Type 0) (image : Image) (since : List Image) → P image → All P since → All P (image ∷ since)
All-more P image since holds each zero d within = holds
All-more P image since holds each (suc k) d within = each k d (omega (arith, within))

kept-written : (first blocks lbn : ℕ) (b : List ℕ) (made old : Disk) → lbn < blocks → KeepsOutside first blocks made old
    → KeepsOutside first blocks made (with_block_at (first + lbn) b old)
kept-written first blocks lbn b made old below kept = kept-from first blocks made (with_block_at (first + lbn) b old)
    (set old.image (first + lbn) b ∷ images_since made old)
    (ap (λ (h : List Image). set old.image (first + lbn) b ∷ h) kept.history) refl
    (All-more (IsSameOutside first blocks made.image) (set old.image (first + lbn) b) (images_since made old)
    (same-written first blocks lbn b made.image old.image below (kept-image first blocks made old kept)) kept.each)
    kept.honest

kept-landed : (first blocks lbn : ℕ) (b : List ℕ) (made old new : Disk) (passed : Bool) → lbn < blocks
    → new ≡ with_transfer passed (with_block_at (first + lbn) b old)
    → KeepsOutside first blocks made old → KeepsOutside first blocks made new
kept-landed first blocks lbn b made old new passed below is kept =
    kept-counted first blocks made (with_block_at (first + lbn) b old) new passed is (kept-written first blocks lbn b made old below kept)

pub kept-writes : {E : Type 0} (result : Result Unit E) (first blocks lbn : ℕ) (from : List ℕ) (made old new : Disk) → lbn < blocks
    → Writes result (first + lbn) from old new → KeepsOutside first blocks made old → KeepsOutside first blocks made new
kept-writes (Ok x) first blocks lbn from made old new below writes kept =
    kept-landed first blocks lbn from made old new true below writes.ok kept
kept-writes (Err e) first blocks lbn from made old new below writes kept = elim writes.err [
  | inl same ↦ kept-counted first blocks made old new false same kept
  | inr lands ↦ kept-landed first blocks lbn from made old new false below lands kept
]

zero-landed : (first blocks lbn count : ℕ) (made old new : Disk) (passed : Bool) → lbn + count < blocks
    → new ≡ with_transfer passed (with_block_at ((first + lbn) + count) zero_block old)
    → KeepsOutside first blocks made old → KeepsOutside first blocks made new
zero-landed first blocks lbn count made old new passed below is kept =
    kept-landed first blocks (lbn + count) zero_block made old new passed below
    (is ∙ ap (λ n. with_transfer passed (with_block_at n zero_block old)) at) kept
  where
    at : (first + lbn) + count ≡ first + (lbn + count)
    at = omega arith

kept-zeros_from : (first blocks lbn count : ℕ) (made old : Disk) → lbn + count ≤ blocks → KeepsOutside first blocks made old
    → KeepsOutside first blocks made (with_zeros_from (first + lbn) count old)
kept-zeros_from first blocks lbn zero made old within kept = kept
kept-zeros_from first blocks lbn (suc count) made old within kept = zero-landed first blocks lbn count made
    (with_zeros_from (first + lbn) count old) (with_zeros_from (first + lbn) (suc count) old) true (omega (arith, within)) refl
    (kept-zeros_from first blocks lbn count made old (omega (arith, within)) kept)

pub kept-zeros : {E : Type 0} (result : Result Unit E) (first blocks lbn count : ℕ) (made old new : Disk) → lbn + count ≤ blocks
    → WritesZeros result (first + lbn) count old new → KeepsOutside first blocks made old → KeepsOutside first blocks made new
kept-zeros (Ok x) first blocks lbn count made old new within zeros kept =
    subst (KeepsOutside first blocks made) (sym zeros.ok) (kept-zeros_from first blocks lbn count made old within kept)
kept-zeros (Err e) first blocks lbn count made old new within zeros kept = elim stops.fails [
  | inl same ↦ kept-counted first blocks made so_far new false same kept_so_far
  | inr lands ↦ zero-landed first blocks lbn stops.written made so_far new false (omega (arith, within, stops.fewer)) lands kept_so_far
]
  where
    stops : StopsAmongZeros (first + lbn) count old new
    stops = zeros.err

    so_far : Disk
    so_far = with_zeros_from (first + lbn) stops.written old

    kept_so_far : KeepsOutside first blocks made so_far
    kept_so_far = kept-zeros_from first blocks lbn stops.written made old (omega (arith, within, stops.fewer)) kept

-- and the part is as long as it was
pub kept-within : (first blocks : ℕ) (made old new : Disk) → first + blocks ≤ length old.image → KeepsOutside first blocks made old
    → KeepsOutside first blocks made new → first + blocks ≤ length new.image
kept-within first blocks made old new within before after =
    omega (arith, within, kept-size first blocks made old before, kept-size first blocks made new after)

-- block by block
same-block : (first blocks lbn : ℕ) (made image : Image) → IsSameOutside first blocks made image
    → (lbn < first) ⊎ (first + blocks ≤ lbn) → image_block image lbn ≡ image_block made lbn
same-block first blocks lbn made image same outside = elim outside [
  | inl before ↦ sym (get_or-take first image lbn [] before) ∙ ap (λ (l : Image). get_or l lbn []) same.before
      ∙ get_or-take first made lbn [] before
  | inr behind ↦
      let at : (first + blocks) + (lbn - (first + blocks)) ≡ lbn = omega (arith, behind) in
      ap (λ n. get_or image n []) (sym at) ∙ sym (get_or-drop (first + blocks) image (lbn - (first + blocks)) [])
      ∙ ap (λ (l : Image). get_or l (lbn - (first + blocks)) []) same.behind
      ∙ get_or-drop (first + blocks) made (lbn - (first + blocks)) [] ∙ ap (λ n. get_or made n []) at
]

pub kept-blocks : (first blocks : ℕ) (made now : Disk) (lbn : ℕ) → KeepsOutside first blocks made now
    → (lbn < first) ⊎ (first + blocks ≤ lbn)
    → All (λ (image : Image). image_block image lbn ≡ image_block made.image lbn) (now.image ∷ images_since made now)
kept-blocks first blocks made now lbn kept outside =
    All-more (λ (image : Image). image_block image lbn ≡ image_block made.image lbn) now.image (images_since made now)
    (same-block first blocks lbn made.image now.image (kept-image first blocks made now kept) outside)
    (λ k image within. same-block first blocks lbn made.image (get_or (images_since made now) k image) (kept.each k image within) outside)
