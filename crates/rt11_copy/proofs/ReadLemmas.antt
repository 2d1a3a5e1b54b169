-- The blocks of an area, read one after another.
use Rattle.std.proofs.Common.{◌≡◌, ℕ, ◌+◌, ◌<◌, true, false, IsTrue, List, [], ◌∷◌, ◌++◌, length, Some, if◌then◌else◌, slice_index_or, refl}
use Rattle.std.proofs.Common.{sym, ap, ◌∙◌, subst, arith}
use Rattle.std.specs.List.{slice_get}
use Rattle.std.proofs.lemmas.List.{length-append}
use Rattle.std.proofs.lemmas.List.FromFn.{map-range_with_len_more}
use Rattle.std.proofs.lemmas.Option.{get_or_from_slice_get}
use Rattle.f11_bytes.specs.Block.{zero_block}
use Rattle.f11_dev.specs.Disk.{Disk, with_transfer}
use Rattle.f11_dev.specs.Image.{Image}
use Rattle.f11_dev.specs.Looked.{Looked}
use Rattle.f11_dev.proofs.LookedLemmas.{looked_failed_read, looked_more, looked_none, looked_read, looked_within}
use Rattle.rt11_volume.specs.AnyDirectory.{blocks_from}
use Rattle.rt11_volume.specs.Files.{is_fault}
use Rattle.rt11_volume.specs.declared.refusal.RtRefusal.{RtRefusal}
use Rattle.rt11_volume.specs.declared.refusal.RtRefusal.TheVariants.{DeviceFault}
use Rattle.rt11_copy.specs.Reading.{HasArea, ReadsArea, read_transfers}

-- So many blocks were read.
pub record ReadSoFar (first place : ℕ) (blocks : List (List ℕ)) (old now : Disk) : Type 0 where
  pub looked : Looked old now place 0
  pub reads : ReadsArea first place blocks old

pub read-none : (first : ℕ) (old : Disk) → ReadSoFar first 0 [] old old
read-none first old = record {
  looked = looked_none old;
  reads = record { size = refl; blocks_are = λ honest. refl };
}

module _ (first place : ℕ) (blocks : List (List ℕ)) (old now : Disk) (so-far : ReadSoFar first place blocks old now) where
  -- the next one is there
  pub next-there : (count : ℕ) → place < count → HasArea first count old → first + place < length now.image
  next-there count inside there = subst (λ (i : Image). first + place < length i) (sym so-far.looked.image) (there place inside)

  -- it was read
  pub read-more : (lbn : ℕ) (block : List ℕ) (new : Disk) → lbn ≡ first + place → new ≡ with_transfer true now
      → (IsTrue now.honest → slice_get now.image lbn ≡ Some block) → ReadSoFar first (place + 1) (blocks ++ block ∷ []) old new
  read-more lbn block new at one gives = record {
    looked = looked_more so-far.looked (looked_read now new one);
    reads = record {
      size = length-append blocks (block ∷ []) ∙ ap (λ n. n + 1) so-far.reads.size;
      blocks_are = λ honest.
          let f = λ (i : ℕ). slice_index_or old.image (first + i) zero_block in
          let there : slice_get old.image (first + place) ≡ Some block =
          sym (ap (λ n. slice_get old.image n) at) ∙ sym (ap (λ (i : Image). slice_get i lbn) so-far.looked.image)
          ∙ gives (so-far.looked.honest ∙ honest) in
          let here : block ≡ f place = sym (get_or_from_slice_get old.image (first + place) block zero_block there) in
          (λ t. so-far.reads.blocks_are honest t ++ here t ∷ []) ∙ sym (map-range_with_len_more f 0 place place (omega arith));
    };
  }

  -- or wasn't, since the transfer failed
  pub read-failed : (count : ℕ) (new : Disk) → place < count → new ≡ with_transfer false now → Looked old new count 1
  read-failed count new inside one = looked_within (looked_more so-far.looked (looked_failed_read now new one)) (omega (arith, inside))

  -- or there was no memory for it
  pub read-lacks : (count : ℕ) (new : Disk) → place < count → new ≡ with_transfer true now → Looked old new count 0
  read-lacks count new inside one = looked_within (looked_more so-far.looked (looked_read now new one)) (omega (arith, inside))

-- what is read behind a look
pub area-there : {a b : Disk} {m faults : ℕ} (first count : ℕ) → Looked a b m faults → HasArea first count a → HasArea first count b
area-there first count looked there place inside =
    subst (λ (i : Image). first + place < length i) (sym looked.image) (there place inside)

pub reads-as : {a b : Disk} {m faults : ℕ} (first count : ℕ) (blocks : List (List ℕ)) → Looked a b m faults
    → ReadsArea first count blocks b → ReadsArea first count blocks a
reads-as first count blocks looked reads = record {
  size = reads.size;
  blocks_are = λ honest.
      reads.blocks_are (looked.honest ∙ honest) ∙ ap (λ (i : Image). blocks_from i first count) looked.image;
}

-- a date that couldn't be read
pub date-failed : {a b : Disk} (count : ℕ) (e : RtRefusal) → e ≡ DeviceFault → Looked a b 2 (if is_fault e then 1 else 0)
    → Looked a b (read_transfers count) 1
date-failed {a = a} {b = b} count e is looked =
    looked_within (subst (λ (r : RtRefusal). Looked a b 2 (if is_fault r then 1 else 0)) is looked) (omega arith)
