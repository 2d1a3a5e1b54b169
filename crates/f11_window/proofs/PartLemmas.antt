-- What carries a disk to a part of it.
use Rattle.std.proofs.Common.{◌≡◌, ℕ, zero, suc, ◌+◌, ◌<◌, ◌≤◌, List, ◌∷◌, ◌++◌, map, true, false, refl, sym}
use Rattle.std.proofs.Common.{ap, ◌∙◌, arith, inl, inr, Result, Ok, Err, take, drop}
use Rattle.std.proofs.Math.ListN.{set}
use Rattle.std.proofs.Math.Seq.{take-set-lt}
use Rattle.std.proofs.lemmas.List.{drop-drop, drop-set-add, take-append-drop}
use Rattle.f11_bytes.specs.Block.{zero_block}
use Rattle.f11_dev.specs.Image.{Image}
use Rattle.f11_dev.specs.Disk.{Disk, Writes, with_block_at, with_transfer}
use Rattle.f11_dev.specs.Zeros.{StopsAmongZeros, WritesZeros, with_zeros_from}
use Rattle.f11_window.specs.Part.{IsSameOutside, disk_part, image_part}

-- a block that is written is written in the part
part-set : (first blocks : ℕ) (image : Image) (lbn : ℕ) (b : List ℕ) → lbn < blocks
    → image_part first blocks (set image (first + lbn) b) ≡ set (image_part first blocks image) lbn b
part-set first blocks image lbn b below =
    ap (take blocks) (drop-set-add first image lbn b) ∙ take-set-lt blocks (drop first image) lbn b below

part-write : (first blocks lbn : ℕ) (b : List ℕ) (d : Disk) → lbn < blocks
    → disk_part first blocks (with_block_at (first + lbn) b d) ≡ with_block_at lbn b (disk_part first blocks d)
part-write first blocks lbn b d below =
    ap (λ (i : Image). record (disk_part first blocks d) { image = i; history = i ∷ map (image_part first blocks) d.history })
    (part-set first blocks d.image lbn b below)

-- a write of a disk is one of a part of it,
pub part-writes : {E : Type 0} (result : Result Unit E) (first blocks lbn : ℕ) (from : List ℕ) (old new : Disk) → lbn < blocks
    → Writes result (first + lbn) from old new → Writes result lbn from (disk_part first blocks old) (disk_part first blocks new)
part-writes (Ok x) first blocks lbn from old new below writes = record {
  ok = ap (disk_part first blocks) writes.ok ∙ ap (with_transfer true) (part-write first blocks lbn from old below);
  err = tt;
}
part-writes (Err e) first blocks lbn from old new below writes = record {
  ok = tt;
  err = elim writes.err [
    | inl kept ↦ inl (ap (disk_part first blocks) kept)
    | inr lands ↦ inr (ap (disk_part first blocks) lands ∙ ap (with_transfer false) (part-write first blocks lbn from old below))
  ];
}

-- and so are zeros
zeros-at : (first blocks lbn count : ℕ) (d : Disk) → lbn + count < blocks
    → disk_part first blocks (with_block_at ((first + lbn) + count) zero_block d)
    ≡ with_block_at (lbn + count) zero_block (disk_part first blocks d)
zeros-at first blocks lbn count d below =
    ap (λ n. disk_part first blocks (with_block_at n zero_block d)) at ∙ part-write first blocks (lbn + count) zero_block d below
  where
    at : (first + lbn) + count ≡ first + (lbn + count)
    at = omega arith

part-zeros_from : (first blocks lbn count : ℕ) (d : Disk) → lbn + count ≤ blocks
    → disk_part first blocks (with_zeros_from (first + lbn) count d) ≡ with_zeros_from lbn count (disk_part first blocks d)
part-zeros_from first blocks lbn zero d within = refl
part-zeros_from first blocks lbn (suc count) d within =
    ap (with_transfer true) (zeros-at first blocks lbn count (with_zeros_from (first + lbn) count d) (omega (arith, within))
    ∙ ap (with_block_at (lbn + count) zero_block) (part-zeros_from first blocks lbn count d (omega (arith, within))))

pub part-zeros : {E : Type 0} (result : Result Unit E) (first blocks lbn count : ℕ) (old new : Disk) → lbn + count ≤ blocks
    → WritesZeros result (first + lbn) count old new
    → WritesZeros result lbn count (disk_part first blocks old) (disk_part first blocks new)
part-zeros (Ok x) first blocks lbn count old new within zeros = record {
  ok = ap (disk_part first blocks) zeros.ok ∙ part-zeros_from first blocks lbn count old within;
  err = tt;
}
part-zeros (Err e) first blocks lbn count old new within zeros = record {
  ok = tt;
  err = record {
    written = stops.written;
    fewer = stops.fewer;
    fails = elim stops.fails [
      | inl kept ↦ inl (ap (disk_part first blocks) kept ∙ ap (with_transfer false) first_ones)
      | inr lands ↦ inr (ap (disk_part first blocks) lands ∙ ap (with_transfer false)
          (zeros-at first blocks lbn stops.written (with_zeros_from (first + lbn) stops.written old) (omega (arith, within, stops.fewer))
          ∙ ap (with_block_at (lbn + stops.written) zero_block) first_ones))
    ];
  };
}
  where
    stops : StopsAmongZeros (first + lbn) count old new
    stops = zeros.err

    first_ones : disk_part first blocks (with_zeros_from (first + lbn) stops.written old)
        ≡ with_zeros_from lbn stops.written (disk_part first blocks old)
    first_ones = part-zeros_from first blocks lbn stops.written old (omega (arith, within, stops.fewer))

-- an image is a part and what is outside it
part-split : (first blocks : ℕ) (image : Image)
    → take first image ++ (image_part first blocks image ++ drop (first + blocks) image) ≡ image
part-split first blocks image =
    ap (λ (l : Image). take first image ++ l)
    (ap (λ (l : Image). image_part first blocks image ++ l) (sym (drop-drop blocks first image))
    ∙ take-append-drop blocks (drop first image))
    ∙ take-append-drop first image

pub part-whole : (first blocks : ℕ) (made image : Image) → IsSameOutside first blocks made image
    → image_part first blocks image ≡ image_part first blocks made → image ≡ made
part-whole first blocks made image same is =
    sym (part-split first blocks image)
    ∙ ap (λ (l : Image). l ++ (image_part first blocks image ++ drop (first + blocks) image)) same.before
    ∙ ap (λ (l : Image). take first made ++ (l ++ drop (first + blocks) image)) is
    ∙ ap (λ (l : Image). take first made ++ (image_part first blocks made ++ l)) same.behind
    ∙ part-split first blocks made
