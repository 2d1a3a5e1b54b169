-- A directory's blocks, taken one part after another.
use Rattle.std.proofs.Common.{◌≡◌, ◌≤◌, ◌<◌, ◌+◌, ◌-◌, ◌*◌, ◌/◌, ◌%◌, ◌==◌, ℕ, refl, ap, sym, ◌∙◌, subst, arith, List, [], ◌++◌, length}
use Rattle.std.proofs.Common.{min, take, drop, get_or, Some, true, IsTrue}
use Rattle.std.specs.List.{slice_get, range_with_len}
use Rattle.std.proofs.Math.ListN.{get_or-eq_default}
use Rattle.std.proofs.lemmas.List.{length-append, take_all, take-append-drop, get_or_append_left, get_or-append-add, get_or-replicate}
use Rattle.std.proofs.lemmas.List.FromFn.{get_or-range_with_len, length-range_with_len}
use Rattle.std.proofs.lemmas.Option.{get_or_from_slice_get}
use Rattle.f11_bytes.specs.Block.{zero_block}
use Rattle.f11_bytes.specs.Words.{word}
use Rattle.f11_dev.specs.Disk.{Disk}
use Rattle.f11_dev.specs.Image.{Image}
use Rattle.f11_dev.specs.Looked.{Looked}
use Rattle.f11_dev.proofs.LookedLemmas.{looked_more, looked_within}
use Rattle.f11_dir.proofs.RecordWords.{word-record_in}
use Rattle.f11_header.specs.Fields.{map_area}
use Rattle.f11_map.specs.HeaderBlock.{blocks_named}
use Rattle.f11_map.specs.MapArea.{runs_of, blocks_in}
use Rattle.f11_map.proofs.MapLemmas.{blocks_in-append, blocks_in-drop, length-blocks_in-more}
use Rattle.f11_store.specs.Directory.{is_empty, record_in, record_at}
use Rattle.f11_volume.specs.Contents.{block_or_zeros}
use Rattle.f11_vfy.specs.Surveying.Bits.{has}
use Rattle.f11_vfy.specs.Directory.Blank.{AddsBlank, HasAll}
use Rattle.f11_vfy.specs.Directory.Reading.{HasBlocks, HasImage, HoldsDirectoryBlock, HoldsDirectoryBlocks, TakesBlocks, until, wanted}
use Rattle.f11_vfy.specs.Directory.Gathered.{TakesOn}
use Rattle.f11_vfy.specs.declared.directories.contents.Directory.{Directory}
use Rattle.f11_vfy.specs.declared.directories.gathered.Gathered.{Gathered}
use Rattle.f11_vfy.specs.declared.survey.bits.Bits.{Bits}
use Rattle.f11_vfy.specs.declared.survey.slot.Slot.{Slot}
use Rattle.f11_vfy.proofs.Directory.Blank.{blank-more, block-empty}
use Rattle.f11_vfy.proofs.Directory.Taking.{takes-empty, takes-more, takes-same, takes-skip}

-- the records of a block of zeros are empty
empty-zeros : (blocks : List (List ℕ)) (k : ℕ) → get_or blocks (k / 32) [] ≡ zero_block → is_empty (record_at blocks k) ≡ true
unfolding record_at zero_block
empty-zeros blocks k is =
    let low : get_or zero_block (16 * (k % 32) + 0) 0 ≡ 0 = get_or-replicate 512 (16 * (k % 32) + 0) 0 0 (omega arith) in
    let high : get_or zero_block (16 * (k % 32) + 0 + 1) 0 ≡ 0 = get_or-replicate 512 (16 * (k % 32) + 0 + 1) 0 0 (omega arith) in
    let number : word (record_in zero_block (k % 32)) 0 ≡ 0 = omega (arith, word-record_in zero_block (k % 32) 0 (omega arith), low, high)
    in
    ap (λ (w : ℕ). w == 0) (ap (λ (b : List ℕ). word (record_in b (k % 32)) 0) is ∙ number)

-- blocks that are a directory's, in two parts
module _ (image : Image) (a b : List ℕ) (at : ℕ) (blocks : List (List ℕ)) (has : HasBlocks image (a ++ b) at blocks) where
  pub has-left : HasBlocks image a at blocks
  has-left k below = has k (omega (arith, below, length-append a b)) ∙ ap (block_or_zeros image) (get_or_append_left a b 0 k below)

  pub has-right : HasBlocks image b (at + length a) blocks
  has-right k below =
      let place : at + length a + k ≡ at + (length a + k) = omega arith in
      ap (λ (n : ℕ). get_or blocks n []) place ∙ has (length a + k) (omega (arith, below, length-append a b))
      ∙ ap (block_or_zeros image) (get_or-append-add a b k 0)

-- those of one pointer
pub has-run : (image : Image) (runs : List (ℕ × ℕ)) (i : ℕ) (run : ℕ × ℕ) (at : ℕ) (blocks : List (List ℕ)) → slice_get runs i ≡ Some run
    → HasBlocks image (blocks_in runs) at blocks
    → HasBlocks image (range_with_len run.0 run.1) (at + length (blocks_in (take i runs))) blocks
has-run image runs i run at blocks here has =
    let parts : blocks_in runs ≡ blocks_in (take i runs) ++ (range_with_len run.0 run.1 ++ blocks_in (drop (i + 1) runs)) =
    ap blocks_in (sym (take-append-drop i runs)) ∙ blocks_in-append (take i runs) (drop i runs)
    ∙ ap (λ (l : List ℕ). blocks_in (take i runs) ++ l) (blocks_in-drop runs i run here) in
    has-left image (range_with_len run.0 run.1) (blocks_in (drop (i + 1) runs)) (at + length (blocks_in (take i runs))) blocks
    (has-right image (blocks_in (take i runs)) (range_with_len run.0 run.1 ++ blocks_in (drop (i + 1) runs)) at blocks
    (subst (λ (l : List ℕ). HasBlocks image l at blocks) parts has))

-- the same image
pub still : (old now : Disk) (image : Image) {most : ℕ} → Looked old now most 0 → HasImage old image → HasImage now image
still old now image {most} looked has = (looked.honest ∙ has.0, looked.image ∙ has.1)

-- one block
module _ (slots : List Slot) (dir : Directory) (at lbn : ℕ) (old : Disk) where
  abbrev pub Block : Image → List (List ℕ) → Type 0
  Block = HoldsDirectoryBlock old lbn at

  -- that is known to hold no record
  pub known-taken : (now : Gathered) → has now.blank lbn ≡ true
      → TakesOn slots dir.d Block (until dir.end at) (until dir.end (at + 1)) now now
  known-taken now known = record {
    limit = refl;
    takes = λ image t blocks first keeps holds taken.
        takes-empty image t dir.d blocks (until dir.end at) (until dir.end (at + 1)) first now (omega arith)
        (block-empty dir.end at blocks (block_or_zeros image lbn) holds.1 (taken.blank lbn known)) taken;
  }

  -- that was read
  pub read-taken : (b : List ℕ) (before after : Gathered) (blank : Bits) → (IsTrue old.honest → slice_get old.image lbn ≡ Some b)
      → TakesOn slots dir.d (λ _ blocks. get_or blocks at [] ≡ b) (until dir.end at) (until dir.end (at + 1)) before after
      → AddsBlank lbn b after.blank blank
      → TakesOn slots dir.d Block (until dir.end at) (until dir.end (at + 1)) before (record after { blank = blank })
  read-taken b before after blank reads takes adds = record {
    limit = takes.limit;
    takes = λ image t blocks first keeps holds taken.
        let is : block_or_zeros image lbn ≡ b = get_or_from_slice_get image lbn b zero_block
        (subst (λ (i : Image). slice_get i lbn ≡ Some b) holds.0.1 (reads holds.0.0)) in
        let then = takes.takes image t blocks first keeps (holds.1 ∙ is) taken in
        record {
          entered = then.entered;
          no_file = then.no_file;
          repeated = then.repeated;
          no_name = then.no_name;
          names = then.names;
          blank = blank-more image lbn b after.blank blank adds is then.blank;
        };
  }

-- a run of blocks
module _ (slots : List Slot) (dir : Directory) (at lbn count : ℕ) (old : Disk) (before : Gathered) where
  abbrev pub Run : Image → List (List ℕ) → Type 0
  Run = HoldsDirectoryBlocks old (range_with_len lbn count) at

  -- block k of it
  run-block : (image : Image) (blocks : List (List ℕ)) → Run image blocks → (k : ℕ) → k < count
      → get_or blocks (at + k) [] ≡ block_or_zeros image (lbn + k)
  run-block image blocks holds k below =
      holds.1 k (omega (arith, below, length-range_with_len lbn count))
      ∙ ap (block_or_zeros image) (get_or-range_with_len lbn count k 0 below)

  -- one block more
  pub run-more : (k : ℕ) (now after : Gathered) (disk : Disk) → k < count
      → TakesOn slots dir.d Run (until dir.end at) (until dir.end (at + k)) before now → Looked old disk k 0
      → TakesOn slots dir.d (HoldsDirectoryBlock disk (lbn + k) (at + k)) (until dir.end (at + k)) (until dir.end (at + k + 1)) now after
      → TakesOn slots dir.d Run (until dir.end at) (until dir.end (at + (k + 1))) before after
  run-more k now after disk below taken looked here =
      let next : at + k + 1 ≡ at + (k + 1) = omega arith in
      takes-more slots dir.d Run Run Run _ _ _ before now after taken
      (takes-same slots dir.d _ Run _ _ _ _ now after here refl (ap (until dir.end) next)
      (λ image blocks holds. (still old disk image looked holds.0, run-block image blocks holds k below)))
      (λ image blocks holds. (holds, holds))

  -- all that are on the device are known to hold none
  pub run-known : (n : ℕ) → n ≤ count → HasAll before.blank lbn (lbn + n)
      → TakesOn slots dir.d Run (until dir.end at) (until dir.end (at + n)) before before
  run-known n few known = record {
    limit = refl;
    takes = λ image t blocks first keeps holds taken.
        takes-empty image t dir.d blocks (until dir.end at) (until dir.end (at + n)) first before (omega arith) (λ k low high.
        let place : at + (k / 32 - at) ≡ k / 32 = omega (arith, low, high) in
        block-empty dir.end (k / 32) blocks (block_or_zeros image (lbn + (k / 32 - at)))
        (ap (λ (m : ℕ). get_or blocks m []) (sym place) ∙ run-block image blocks holds (k / 32 - at) (omega (arith, low, high, few)))
        (taken.blank (lbn + (k / 32 - at)) (known (lbn + (k / 32 - at)) (omega arith) (omega (arith, low, high)))) k
        (omega (arith, low, high)) (omega (arith, low, high)))
        taken;
  }

  -- those that are left hold no record before the end, or are past the device's end
  run-zeros : (k : ℕ) → k ≡ min (wanted dir.end at count) (length old.image - lbn) → (image : Image) (blocks : List (List ℕ))
      → Run image blocks → (j : ℕ) → until dir.end (at + k) ≤ j
      → j < until dir.end (at + count) → is_empty (record_at blocks j) ≡ true
  run-zeros k all image blocks holds j low high =
      let place : at + (j / 32 - at) ≡ j / 32 = omega (arith, low, high, all) in
      let long : length old.image ≡ length image = ap length holds.0.1 in
      let past : length image ≤ lbn + (j / 32 - at) = omega (arith, low, high, all, long) in
      empty-zeros blocks j (ap (λ (n : ℕ). get_or blocks n []) (sym place) ∙ run-block image blocks holds (j / 32 - at)
      (omega (arith, low, high, all)) ∙ get_or-eq_default image zero_block past)

  run-all : (k : ℕ) (now : Gathered) → k ≡ min (wanted dir.end at count) (length old.image - lbn)
      → TakesOn slots dir.d Run (until dir.end at) (until dir.end (at + k)) before now
      → TakesOn slots dir.d Run (until dir.end at) (until dir.end (at + length (range_with_len lbn count))) before now
  run-all k now all taken =
      let long : at + count ≡ at + length (range_with_len lbn count) = omega (arith, length-range_with_len lbn count) in
      takes-same slots dir.d Run Run _ _ _ _ before now
      (takes-more slots dir.d Run Run Run _ _ _ before now now taken
      (takes-skip slots dir.d Run (until dir.end (at + k)) (until dir.end (at + count)) now (omega (arith, all)) (run-zeros k all))
      (λ image blocks holds. (holds, holds)))
      refl (ap (until dir.end) long) (λ image blocks holds. holds)

  pub run-taken : (k : ℕ) (now : Gathered) (disk : Disk) → k ≡ min (wanted dir.end at count) (length old.image - lbn)
      → TakesOn slots dir.d Run (until dir.end at) (until dir.end (at + k)) before now → Looked old disk k 0
      → TakesBlocks slots dir at (range_with_len lbn count) before now old disk
  run-taken k now disk all taken looked =
      record { takes = run-all k now all taken; looked = looked_within looked (omega (arith, all, length-range_with_len lbn count)) }

-- a header's pointers
module _ (slots : List Slot) (dir : Directory) (at : ℕ) (b : List ℕ) (old : Disk) (before : Gathered) where
  -- the blocks of one pointer more
  pub pointers-more : (i behind : ℕ) (run : ℕ × ℕ) (now after : Gathered) (disk new : Disk) → slice_get (runs_of (map_area b)) i ≡ Some run
      → behind ≡ at + length (blocks_in (take i (runs_of (map_area b))))
      → TakesOn slots dir.d (HoldsDirectoryBlocks old (blocks_named b) at) (until dir.end at) (until dir.end behind) before now → {most : ℕ}
      → Looked old disk most 0
      → TakesBlocks slots dir behind (range_with_len run.0 run.1) now after disk new
      → TakesOn slots dir.d (HoldsDirectoryBlocks old (blocks_named b) at) (until dir.end at) (until dir.end (behind + run.1)) before after
  unfolding blocks_named
  pointers-more i behind run now after disk new here is taken {most} looked takes =
      let next : behind + length (range_with_len run.0 run.1) ≡ behind + run.1 = omega (arith, length-range_with_len run.0 run.1) in
      takes-more slots dir.d (HoldsDirectoryBlocks old (blocks_named b) at) (HoldsDirectoryBlocks old (blocks_named b) at)
      (HoldsDirectoryBlocks old (blocks_named b) at) _ _ _ before now after taken
      (takes-same slots dir.d (HoldsDirectoryBlocks disk (range_with_len run.0 run.1) behind) (HoldsDirectoryBlocks old (blocks_named b) at)
      _ _ _ _ now after takes.takes refl (ap (until dir.end) next)
      (λ image blocks holds. (
        still old disk image looked holds.0,
        subst (λ (n : ℕ). HasBlocks image (range_with_len run.0 run.1) n blocks) (sym is)
            (has-run image (runs_of (map_area b)) i run at blocks here holds.1),
      )))
      (λ image blocks holds. (holds, holds))

  -- which are all blocks of the header at the end
  pub pointers-all : (i behind : ℕ) → length (runs_of (map_area b)) ≤ i → behind ≡ at + length (blocks_in (take i (runs_of (map_area b))))
      → behind ≡ at + length (blocks_named b)
  unfolding blocks_named
  pointers-all i behind all is = is ∙ ap (λ (rs : List (ℕ × ℕ)). at + length (blocks_in rs)) (take_all i (runs_of (map_area b)) all)

  pub pointers-within : (i behind : ℕ) (run : ℕ × ℕ) → slice_get (runs_of (map_area b)) i ≡ Some run
      → behind ≡ at + length (blocks_in (take i (runs_of (map_area b))))
      → behind + run.1 ≤ at + length (blocks_named b)
  unfolding blocks_named
  pointers-within i behind run here is =
      let runs = runs_of (map_area b) in
      let parts = ap length (ap blocks_in (sym (take-append-drop (i + 1) runs)) ∙ blocks_in-append (take (i + 1) runs) (drop (i + 1) runs))
      in
      omega (
        arith,
        is,
        length-blocks_in-more runs i (length (blocks_in (take i runs))) run here refl,
        parts,
        length-append (blocks_in (take (i + 1) runs)) (blocks_in (drop (i + 1) runs)),
      )

  -- one pointer more was looked at
  pub pointers-looked : (i behind : ℕ) (run : ℕ × ℕ) (disk new : Disk) (faults : ℕ) → slice_get (runs_of (map_area b)) i ≡ Some run
      → behind ≡ at + length (blocks_in (take i (runs_of (map_area b))))
      → Looked old disk (wanted dir.end at (behind - at)) 0 → Looked disk new (wanted dir.end behind run.1) faults
      → Looked old new (wanted dir.end at (length (blocks_named b))) faults
  pointers-looked i behind run disk new faults here is before after =
      looked_within (looked_more before after) (omega (arith, pointers-within i behind run here is, is))

  pub pointers-taken : (behind : ℕ) (now : Gathered) (disk : Disk) → behind ≡ at + length (blocks_named b)
      → TakesOn slots dir.d (HoldsDirectoryBlocks old (blocks_named b) at) (until dir.end at) (until dir.end behind) before now
      → Looked old disk (wanted dir.end at (behind - at)) 0
      → TakesBlocks slots dir at (blocks_named b) before now old disk
  pointers-taken behind now disk is taken looked = record {
    takes = takes-same slots dir.d _ _ _ _ _ _ before now taken refl (ap (until dir.end) is) (λ image blocks holds. holds);
    looked = looked_within looked (omega (arith, is));
  }
