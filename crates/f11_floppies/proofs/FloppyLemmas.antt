-- What carries a floppy from call to call.
use Rattle.std.proofs.Common.{◌≡◌, ℕ, ◌+◌, ◌-◌, ◌^◌, ◌<◌, ◌≤◌, lit<, List, [], ◌∷◌, ◌++◌, true, Ok, Some, add-zero, length, get_or}
use Rattle.std.proofs.Common.{replicate, inl, inr, refl, sym, subst, ap, ◌∙◌, arith}
use Rattle.std.proofs.Math.ListN.{set}
use Rattle.std.proofs.lemmas.Bool.{cases_lt}
use Rattle.std.proofs.lemmas.List.{get_or_append_left, get_or-append_right, get_or-replicate, get_or_past, ext_get_or, length-append}
use Rattle.std.proofs.lemmas.List.{length-replicate}
use Rattle.std.proofs.lemmas.Option.{slice_get_within, get_or_from_slice_get}
use Rattle.f11_bytes.specs.Block.{IsBlock}
use Rattle.f11_dev.specs.Disk.{Disk, Reads, Writes, with_transfer}
use Rattle.f11_dev.specs.Image.{Image, IsImage}
use Rattle.f11_dev.specs.Outcomes.{transfers_of, failures_of, calm_of}
use Rattle.f11_dev.specs.declared.outcomes.Outcomes.{Outcomes}
use Rattle.f11_dev.proofs.ImageLemmas.{slice_get-image_block}
use Rattle.f11_floppies.specs.Arrange.{PutsBlock, logical_block, logical_image, padded}
use Rattle.f11_floppies.specs.Moments.{Adds, images_of}
use Rattle.f11_floppies.specs.Order.{block_count, image_size, order_of_blocks, order_of_length, place}
use Rattle.f11_floppies.specs.declared.moments.Moments.{Moments}
use Rattle.f11_floppies.specs.declared.order.Order.{Order}
use Rattle.f11_floppies.specs.declared.order.Order.TheVariants.{Rx01, Rx02, Rx50}
use Rattle.f11_floppies.proofs.BlockLemmas.{is-logical_block, length-logical_block, length-logical_image, logical-block, logical-byte}
use Rattle.f11_floppies.proofs.BlockLemmas.{put-writes}

-- how many blocks there are tells the order
pub order-counted : (order : Order) → order_of_blocks (block_count order) ≡ order
order-counted Rx01 = refl
order-counted Rx02 = refl
order-counted Rx50 = refl

-- and so does a length that tells one
pub length-told : (order : Order) (bytes : ℕ) → order_of_length bytes ≡ Some order → bytes ≡ image_size order
length-told Rx01 bytes told = grind arith
length-told Rx02 bytes told = grind arith
length-told Rx50 bytes told = grind arith

-- an image in logical order tells it
pub order-told : (order : Order) (image : List ℕ) → order ≡ order_of_blocks (length (logical_image order image))
order-told order image = sym (order-counted order) ∙ ap order_of_blocks (sym (length-logical_image order image))

-- a block of the disk is one of the floppy
pub below : (order : Order) (image : List ℕ) (lbn : ℕ) → lbn < length (logical_image order image) → lbn < block_count order
below order image lbn within = omega (arith, within, length-logical_image order image)

-- the blocks of bytes are an image
few-blocks : (order : Order) → block_count order < 2 ^ 32
few-blocks Rx01 = lit< tt
few-blocks Rx02 = lit< tt
few-blocks Rx50 = lit< tt

pub logical_image-is_image : (order : Order) (image : List ℕ) → ((i : ℕ) → get_or image i 0 < 256) → IsImage (logical_image order image)
logical_image-is_image order image fits = record {
  size = omega (arith, length-logical_image order image, few-blocks order);
  each = λ b block at.
      let within : b < block_count order = omega (
        arith,
        slice_get_within (logical_image order image) b block at,
        length-logical_image order image,
      ) in
      subst IsBlock (sym (logical-block order image b block within) ∙ get_or_from_slice_get (logical_image order image) b block block at)
      record {
        size = length-logical_block order image b;
        bytes = λ i. elim (cases_lt i 512) [
          | inl inside ↦ subst (λ n. n < 256) (sym (logical-byte order image b i inside)) (fits (place order b i))
          | inr past ↦ subst (λ n. n < 256) (sym (get_or_past (logical_block order image b) i 0
              (omega (arith, past, length-logical_block order image b)))) (lit< tt)
        ];
      };
}

-- zeros behind an image are read where nothing was
padded-byte : (bytes : List ℕ) (n i z : ℕ) → get_or (bytes ++ replicate n z) i z ≡ get_or bytes i z
padded-byte bytes n i z = elim (cases_lt i (length bytes)) [
  | inl within ↦ get_or_append_left bytes (replicate n z) z i within
  | inr past ↦ get_or-append_right bytes (replicate n z) (length bytes) i z refl past
      ∙ (elim (cases_lt (i - length bytes) n) [
        | inl zero_there ↦ get_or-replicate n (i - length bytes) z z zero_there
        | inr behind ↦ get_or_past (replicate n z) (i - length bytes) z (omega (arith, behind, length-replicate n z))
      ])
      ∙ sym (get_or_past bytes i z past)
]

padded-block : (order : Order) (bytes : List ℕ) (b : ℕ) → logical_block order (padded order bytes) b ≡ logical_block order bytes b
padded-block order bytes b = is-logical_block order (padded order bytes) b (logical_block order bytes b)
    (length-logical_block order bytes b)
    (λ i within. logical-byte order bytes b i within
    ∙ sym (padded-byte bytes (image_size order - length bytes) (place order b i) 0))

-- so the blocks are the same
pub padded-image : (order : Order) (bytes : List ℕ) → logical_image order (padded order bytes) ≡ logical_image order bytes
padded-image order bytes = ext_get_or [] (logical_image order (padded order bytes)) (logical_image order bytes)
    (length-logical_image order (padded order bytes) ∙ sym (length-logical_image order bytes))
    (λ b within. let is_block : b < block_count order = omega (arith, within, length-logical_image order (padded order bytes)) in
    logical-block order (padded order bytes) b [] is_block ∙ padded-block order bytes b ∙ sym (logical-block order bytes b [] is_block))

-- and it is whole
pub padded-whole : (order : Order) (bytes : List ℕ) → image_size order ≤ length (padded order bytes)
padded-whole order bytes = omega (
  arith,
  length-append bytes (replicate (image_size order - length bytes) 0),
  length-replicate {A = ℕ} (image_size order - length bytes) 0,
)

-- a floppy as a disk, of its parts
abbrev disk_of : Order → List ℕ → Moments → Outcomes → Disk
disk_of order bytes moments outcomes = record {
  image = logical_image order bytes;
  history = images_of order moments;
  transfers = transfers_of outcomes;
  failures = failures_of outcomes;
  calm = calm_of outcomes;
  honest = true;
}

-- a transfer that passed was counted
pub record Counts (old new : Outcomes) : Type 0 where
  pub transfers : transfers_of new ≡ transfers_of old + 1
  pub failures : failures_of new ≡ failures_of old + 0
  pub calm : calm_of new ≡ calm_of old + 1

counted : (order : Order) (bytes : List ℕ) (moments : Moments) (old new : Outcomes) → Counts old new
    → disk_of order bytes moments new ≡ with_transfer true (disk_of order bytes moments old)
counted order bytes moments old new counts = λ i. record (disk_of order bytes moments old) {
  transfers = counts.transfers i;
  failures = (counts.failures ∙ add-zero (failures_of old)) i;
  calm = counts.calm i;
}

-- a block was read
pub floppy-reads : {E : Type 0} (order : Order) (bytes : List ℕ) (moments : Moments) (old new : Outcomes) (lbn : ℕ) (into : List ℕ)
    → lbn < length (logical_image order bytes) → into ≡ logical_block order bytes lbn → Counts old new
    → Reads {E = E} (Ok tt) lbn into (disk_of order bytes moments old) (disk_of order bytes moments new)
floppy-reads order bytes moments old new lbn into within is counts = record {
  counts = counted order bytes moments old new counts;
  gives = λ honest. slice_get-image_block (logical_image order bytes) lbn within
      ∙ ap Some (logical-block order bytes lbn [] (below order bytes lbn within) ∙ sym is);
}

-- a block was written
pub floppy-writes : {E : Type 0} (order : Order) (bytes after : List ℕ) (was is : Moments) (old new : Outcomes) (lbn : ℕ) (from : List ℕ)
    → lbn < length (logical_image order bytes) → length from ≡ 512 → PutsBlock order lbn from bytes after → Adds after was is
    → Counts old new → Writes {E = E} (Ok tt) lbn from (disk_of order bytes was old) (disk_of order after is new)
floppy-writes order bytes after was is old new lbn from within long puts adds counts = record {
  ok = counted order after is old new counts
      ∙ ap (with_transfer true) (λ i. record (disk_of order bytes was old) { image = image i; history = history i });
  err = tt;
}
  where
    image : logical_image order after ≡ set (logical_image order bytes) lbn from
    image = put-writes order lbn from bytes after long (below order bytes lbn within) puts

    history : images_of order is ≡ set (logical_image order bytes) lbn from ∷ images_of order was
    history = adds.images order ∙ ap (λ (l : Image). l ∷ images_of order was)
        (put-writes order lbn from bytes after long (below order bytes lbn within) puts)
