-- What carries a run of reads from block to block.
use Rattle.std.proofs.Common.{◌≡◌, ℕ, ◌+◌, ◌<◌, IsTrue, List, [], length, true, false, sym, ap, ◌∙◌, arith}
use Rattle.std.proofs.Common.{inl, inr, Some, Result, Ok, Err}
use Rattle.std.specs.List.{slice_get}
use Rattle.std.proofs.Math.ListN.{set}
use Rattle.std.proofs.lemmas.List.{get_or-set_same, get_or-set_other}
use Rattle.std.proofs.lemmas.Bool.{cases_lt}
use Rattle.f11_dev.specs.Image.{Image, image_block}
use Rattle.f11_dev.specs.Disk.{Disk, Reads, with_transfer}
use Rattle.f11_dev.specs.Looked.{Looked}
use Rattle.f11_dev.specs.Run.{StandsAt, ReadsRun}
use Rattle.f11_dev.proofs.ImageLemmas.{image_block-read}
use Rattle.f11_dev.proofs.LookedLemmas.{looked_none, looked_read, looked_failed_read, looked_more, looked_within}

-- none of them
pub stands-none : (image : Image) (lbn : ℕ) (blocks : Image) → StandsAt image lbn 0 blocks
stands-none image lbn blocks k within = absurd (omega (arith, within))

-- one more
pub stands-more : (image : Image) (lbn count : ℕ) (blocks : Image) (block : List ℕ) → count < length blocks
    → StandsAt image lbn count blocks → image_block image (lbn + count) ≡ block → StandsAt image lbn (count + 1) (set blocks count block)
stands-more image lbn count blocks block room stands is k within = elim (cases_lt k count) [
  | inl below ↦ stands k below ∙ sym (get_or-set_other blocks count k block [] (omega (arith, below)))
  | inr last ↦
      let same : k ≡ count = omega (arith, within, last) in
      ap (λ n. image_block image (lbn + n)) same ∙ is
      ∙ sym (ap (λ n. image_block (set blocks count block) n) same ∙ get_or-set_same blocks count block [] room)
]

-- so many blocks of a run were read
pub record HasRead (old : Disk) (lbn count : ℕ) (into : Image) (now : Disk) : Type 0 where
  pub looks : Looked old now count 0
  pub gives : IsTrue old.honest → StandsAt old.image lbn count into

pub read-none : (d : Disk) (lbn : ℕ) (into : Image) → HasRead d lbn 0 into d
read-none d lbn into = record { looks = looked_none d; gives = λ honest. stands-none d.image lbn into }

pub read-more : (old now new : Disk) (lbn count : ℕ) (into : Image) (block : List ℕ) → HasRead old lbn count into now
    → count < length into → new ≡ with_transfer true now → (IsTrue now.honest → slice_get now.image (lbn + count) ≡ Some block)
    → HasRead old lbn (count + 1) (set into count block) new
read-more old now new lbn count into block so_far room counts gives = record {
  looks = looked_more so_far.looks (looked_read now new counts);
  gives = λ honest. stands-more old.image lbn count into block room (so_far.gives honest)
      (ap (λ (i : Image). image_block i (lbn + count)) (sym so_far.looks.image)
      ∙ image_block-read now.image (lbn + count) block (gives (so_far.looks.honest ∙ honest)));
}

-- a read of the run failed
pub read-failed : (old now new : Disk) (lbn count most : ℕ) (into : Image) → HasRead old lbn count into now → count < most
    → new ≡ with_transfer false now → Looked old new most 1
read-failed old now new lbn count most into so_far within counts =
    looked_within (looked_more so_far.looks (looked_failed_read now new counts)) (omega (arith, within))

-- all of a run was read
pub read-all : {E : Type 0} (old now : Disk) (lbn count : ℕ) (into : Image) → HasRead old lbn count into now → count ≡ length into
    → ReadsRun {E = E} (Ok tt) lbn into old now
read-all old now lbn count into so_far all = record {
  looks = looked_within so_far.looks (omega (arith, all));
  gives = λ honest. λ k within. so_far.gives honest k (omega (arith, within, all));
}

-- a run in one transfer, of which any block's read is right
pub read-at-once : {E : Type 0} (result : Result Unit E) (lbn : ℕ) (into : Image) (old new : Disk) → 0 < length into
    → ((at : ℕ) (block : List ℕ) → Reads result at block old new) → ReadsRun result lbn into old new
read-at-once (Ok x) lbn into old new some reads = record {
  looks = looked_within (looked_read old new (reads lbn []).counts) (omega (arith, some));
  gives = λ honest. λ k within.
      image_block-read old.image (lbn + k) (image_block into k) ((reads (lbn + k) (image_block into k)).gives honest);
}
read-at-once (Err e) lbn into old new some reads = record {
  looks = looked_within (looked_failed_read old new (reads lbn []).counts) (omega (arith, some));
  gives = tt;
}
