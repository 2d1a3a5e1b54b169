-- What putting a block back does to the blocks of an image in sector order.
use Rattle.std.proofs.Common.{◌≡◌, ◌≢◌, ℕ, ◌+◌, ◌-◌, ◌<◌, ◌≤◌, List, [], length, take, drop, get_or}
use Rattle.std.proofs.Common.{inl, inr, refl, sym, ap, ◌∙◌, arith}
use Rattle.std.proofs.Math.ListN.{set}
use Rattle.std.proofs.lemmas.Bool.{cases_eq, cases_lt}
use Rattle.std.proofs.lemmas.List.{ext_get_or, get_or-drop, get_or-set_other, get_or-set_same, get_or-take}
use Rattle.std.proofs.lemmas.List.{length-drop, length-set, length-take}
use Rattle.std.proofs.lemmas.List.FromFn.{get_or-map-range_with_len, length-map-range_with_len}
use Rattle.f11_dev.specs.Image.{Image}
use Rattle.f11_floppies.specs.Arrange.{IsSameOutside, PutsBlock, logical_block, logical_image}
use Rattle.f11_floppies.specs.Laws.{IsPlace}
use Rattle.f11_floppies.specs.Order.{block_count, image_size, place, unused_bytes}
use Rattle.f11_floppies.specs.declared.order.Order.{Order}
use Rattle.f11_floppies.proofs.CoverLemmas.{each-place}
use Rattle.f11_floppies.proofs.PlaceLemmas.{places-apart, places-behind, places-within}

-- a block has 512 bytes,
pub length-logical_block : (order : Order) (image : List ℕ) (b : ℕ) → length (logical_block order image b) ≡ 512
unfolding logical_block
length-logical_block order image b = length-map-range_with_len (λ i. get_or image (place order b i) 0) 0 512

-- which are those at their places
pub logical-byte : (order : Order) (image : List ℕ) (b i : ℕ) → i < 512
    → get_or (logical_block order image b) i 0 ≡ get_or image (place order b i) 0
unfolding logical_block
logical-byte order image b i within =
    get_or-map-range_with_len (λ i. get_or image (place order b i) 0) 0 512 i i 0 within (omega arith)

-- there are so many blocks,
pub length-logical_image : (order : Order) (image : List ℕ) → length (logical_image order image) ≡ block_count order
unfolding logical_image
length-logical_image order image = length-map-range_with_len (logical_block order image) 0 (block_count order)

-- each of which is one
pub logical-block : (order : Order) (image : List ℕ) (b : ℕ) (d : List ℕ) → b < block_count order
    → get_or (logical_image order image) b d ≡ logical_block order image b
unfolding logical_image
logical-block order image b d below =
    get_or-map-range_with_len (logical_block order image) 0 (block_count order) b b d below (omega arith)

-- bytes are a block where each of them is its byte
pub is-logical_block : (order : Order) (image : List ℕ) (b : ℕ) (block : List ℕ) → length block ≡ 512
    → ((i : ℕ) → i < 512 → get_or block i 0 ≡ get_or image (place order b i) 0) → logical_block order image b ≡ block
is-logical_block order image b block long each = ext_get_or 0 (logical_block order image b) block
    (length-logical_block order image b ∙ sym long)
    (λ i within. let below : i < 512 = omega (arith, within, length-logical_block order image b) in
    logical-byte order image b i below ∙ sym (each i below))

-- a block that was put is read
pub put-there : (order : Order) (lbn : ℕ) (block old new : List ℕ) → length block ≡ 512 → PutsBlock order lbn block old new
    → logical_block order new lbn ≡ block
put-there order lbn block old new long puts = is-logical_block order new lbn block long (λ i within. sym (puts.there i within))

-- and others are as they were
pub put-other : (order : Order) (lbn other : ℕ) (block old new : List ℕ) → lbn < block_count order → other < block_count order
    → other ≢ lbn → PutsBlock order lbn block old new → logical_block order new other ≡ logical_block order old other
put-other order lbn other block old new below below' apart puts =
    is-logical_block order new other (logical_block order old other) (length-logical_block order old other)
    (λ i within. logical-byte order old other i within
    ∙ sym (puts.others (place order other i)
    (λ j within' same. apart (places-apart order other lbn i j below' below within within' same).0)))

pub put-writes : (order : Order) (lbn : ℕ) (block old new : List ℕ) → length block ≡ 512 → lbn < block_count order
    → PutsBlock order lbn block old new → logical_image order new ≡ set (logical_image order old) lbn block
put-writes order lbn block old new long below puts =
    ext_get_or [] (logical_image order new) (set (logical_image order old) lbn block)
    (length-logical_image order new ∙ sym (length-set (logical_image order old) lbn block ∙ length-logical_image order old))
    (λ b within. let is_block : b < block_count order = omega (arith, within, length-logical_image order new) in
    logical-block order new b [] is_block ∙ (elim (cases_eq b lbn) [
      | inl same ↦ ap (logical_block order new) same ∙ put-there order lbn block old new long puts
          ∙ sym (ap (λ (n : ℕ). get_or (set (logical_image order old) lbn block) n []) same
          ∙ get_or-set_same (logical_image order old) lbn block [] (omega (arith, below, length-logical_image order old)))
      | inr other ↦ put-other order lbn b block old new below is_block other puts
          ∙ sym (get_or-set_other (logical_image order old) lbn b block [] other ∙ logical-block order old b [] is_block)
    ]))

-- the first bytes of two lists, and those behind
same-front : (n : ℕ) (xs ys : List ℕ) → length xs ≡ length ys → ((i : ℕ) → i < n → get_or xs i 0 ≡ get_or ys i 0) → take n xs ≡ take n ys
same-front n xs ys long each = ext_get_or 0 (take n xs) (take n ys) (omega (arith, length-take n xs, length-take n ys, long))
    (λ i within. let below : i < n = omega (arith, within, length-take n xs) in
    get_or-take n xs i 0 below ∙ each i below ∙ sym (get_or-take n ys i 0 below))

same-back : (n : ℕ) (xs ys : List ℕ) → length xs ≡ length ys → ((i : ℕ) → n ≤ i → get_or xs i 0 ≡ get_or ys i 0) → drop n xs ≡ drop n ys
same-back n xs ys long each = ext_get_or 0 (drop n xs) (drop n ys) (omega (arith, length-drop n xs, length-drop n ys, long))
    (λ i within. get_or-drop n xs i 0 ∙ each (n + i) (omega arith) ∙ sym (get_or-drop n ys i 0))

-- what is no block's stays
pub put-outside : (order : Order) (lbn : ℕ) (block old new : List ℕ) → lbn < block_count order → PutsBlock order lbn block old new
    → IsSameOutside order old new
put-outside order lbn block old new below puts = record {
  size = puts.size;
  before = same-front (unused_bytes order) new old puts.size
      (λ at before. puts.others at (λ i within same. absurd (omega (arith, before, same, places-behind order lbn i below within))));
  behind = same-back (image_size order) new old puts.size
      (λ at behind. puts.others at (λ i within same. absurd (omega (arith, behind, same, places-within order lbn i below within))));
}

-- nothing was done
pub same-outside : (order : Order) (image : List ℕ) → IsSameOutside order image image
same-outside order image = record { size = refl; before = refl; behind = refl }

-- one thing was done after another
pub outside-then : (order : Order) (made old new : List ℕ) → IsSameOutside order made old → IsSameOutside order old new
    → IsSameOutside order made new
outside-then order made old new first next = record {
  size = next.size ∙ first.size;
  before = next.before ∙ first.before;
  behind = next.behind ∙ first.behind;
}

-- a byte of the same block
same-byte : (order : Order) (made image : List ℕ) (at : ℕ) → IsPlace order at → logical_image order image ≡ logical_image order made
    → get_or image at 0 ≡ get_or made at 0
same-byte order made image at is same =
    ap (λ (n : ℕ). get_or image n 0) (sym is.stands)
    ∙ sym (logical-byte order image is.block is.byte is.in_block)
    ∙ ap (λ (b : List ℕ). get_or b is.byte 0) (sym (logical-block order image is.block [] is.is_block)
    ∙ ap (λ (l : Image). get_or l is.block []) same ∙ logical-block order made is.block [] is.is_block)
    ∙ logical-byte order made is.block is.byte is.in_block ∙ ap (λ (n : ℕ). get_or made n 0) is.stands

pub image-whole : (order : Order) (made image : List ℕ) → image_size order ≤ length made → IsSameOutside order made image
    → logical_image order image ≡ logical_image order made → image ≡ made
image-whole order made image long outside same =
    ext_get_or 0 image made outside.size (λ at within. elim (cases_lt at (unused_bytes order)) [
      | inl before ↦ sym (get_or-take (unused_bytes order) image at 0 before) ∙ ap (λ (l : List ℕ). get_or l at 0) outside.before
          ∙ get_or-take (unused_bytes order) made at 0 before
      | inr from ↦ elim (cases_lt at (image_size order)) [
        | inl in_image ↦ same-byte order made image at (each-place order at from in_image) same
        | inr behind ↦ let is : image_size order + (at - image_size order) ≡ at = omega (arith, behind) in
            ap (λ (n : ℕ). get_or image n 0) (sym is) ∙ sym (get_or-drop (image_size order) image (at - image_size order) 0)
            ∙ ap (λ (l : List ℕ). get_or l (at - image_size order) 0) outside.behind
            ∙ get_or-drop (image_size order) made (at - image_size order) 0 ∙ ap (λ (n : ℕ). get_or made n 0) is
      ]
    ])
