-- What the calls of a device do to a bitmap.
use Rattle.std.proofs.Common.{◌≡◌, ◌⊎◌, inl, inr, ℕ, ◌+◌, ◌*◌, ◌/◌, ◌%◌, ◌<◌, ◌≤◌, Bool, false, IsTrue, List, length, get_or, Result, OnOk}
use Rattle.std.proofs.Common.{OnErr, Some, sym, ap, ◌∙◌, subst, arith}
use Rattle.std.proofs.Math.ListN.{set}
use Rattle.std.specs.List.{slice_get}
use Rattle.std.proofs.lemmas.Result.{on_ok_weaker, on_err_weaker}
use Rattle.f11_dev.specs.bytes.Bits.{bit}
use Rattle.f11_dev.specs.Image.{Image}
use Rattle.f11_dev.specs.Disk.{Disk, Writes}
use Rattle.f11_dev.specs.Looked.{Looked}
use Rattle.f11_dev.specs.Went.{Went}
use Rattle.f11_dev.proofs.WentLemmas.{went_looked, went_write, went_failed_write, went_more, went_weaker, went_within, went_last}
use Rattle.f11_bits.specs.Bitmap.{Bitmap, IsBitmap, LiesWithin, KeepsOthers, Marks}
use Rattle.f11_bits.specs.Calls.{MarksOnDisk, FailsToMark, FailsToTake, FailsToTakeRun}
use Rattle.f11_bits.specs.Changes.{Changing, Taking, TakingRun}
use Rattle.f11_bits.specs.Parts.{HasBitOf, IsPart, FindsRun}
use Rattle.f11_bits.specs.Room.{FindsRunOf}
use Rattle.f11_bits.specs.Storage.{bitmap_of, KeepsBlock, IsOn}
use Rattle.f11_bits.specs.Transfers.{blocks_touched}
use Rattle.f11_bits.specs.declared.storage.Storage.{Storage}
use Rattle.f11_bits.proofs.BitmapLemmas.{Changing-all, Changing-more, KeepsOthers-refl, KeepsOthers-write, Marks-more, Marks-write}

-- a bitmap block that was written, with the bits of count blocks set in it
pub Marks-block : (honest free : Bool) (bitmap : Bitmap) (lbn count place : ℕ) (old : Image) (block new : List ℕ) → IsBitmap bitmap
    → LiesWithin bitmap (length old) → IsPart bitmap.size 0 4096 lbn count
    → place ≡ get_or bitmap.places (lbn / 4096) 0
    → (IsTrue honest → HasBitOf old bitmap lbn block)
    → ((k : ℕ) → lbn % 4096 ≤ k → k < lbn % 4096 + count → bit new k ≡ free)
    → ((k : ℕ) → k < lbn % 4096 → bit new k ≡ bit block k)
    → ((k : ℕ) → lbn % 4096 + count ≤ k → k < 4096 → bit new k ≡ bit block k)
    → IsTrue honest → Marks free bitmap lbn count old (set old place new)
Marks-block honest free bitmap lbn count place old block new valid lies part is stands inside before after holds =
    subst (λ (p : ℕ). Marks free bitmap lbn count old (set old p new)) (sym is)
    (Marks-write free bitmap lbn count old block new valid lies part (stands holds) inside before after)

pub Changing-block : (honest free : Bool) (bitmap : Bitmap) (lbn count place : ℕ) (old : Image) (new : List ℕ) → IsBitmap bitmap
    → IsPart bitmap.size 0 4096 lbn count
    → place ≡ get_or bitmap.places (lbn / 4096) 0
    → (IsTrue honest → Marks free bitmap lbn count old (set old place new)) → Changing honest free bitmap lbn count old (set old place new)
Changing-block honest free bitmap lbn count place old new valid part is marks =
    let within : lbn / 4096 < length bitmap.places = omega (arith, valid.covered, part.some, part.within) in
    Changing-all honest free bitmap lbn count old (set old place new) part.some
    (rw is (KeepsOthers-write bitmap old (lbn / 4096) new within)) marks

-- a bitmap block was written
pub MarksOnDisk-write : {E : Type 0} (free : Bool) (bitmap : Bitmap) (lbn count : ℕ) (result : Result Unit E) (place : ℕ) (block : List ℕ)
    (old new : Disk) → Writes result place block old new
    → (IsTrue old.honest → Marks free bitmap lbn count old.image (set old.image place block))
    → Changing old.honest free bitmap lbn count old.image (set old.image place block)
    → OnOk result (MarksOnDisk free bitmap lbn count 1 old new)
MarksOnDisk-write free bitmap lbn count result place block old new writes marks changing =
    on_ok_weaker result (λ is. record {
      marks = λ honest. subst (λ (d : Disk). Marks free bitmap lbn count old.image d.image) (sym is) (marks honest);
      went = went_write (Changing old.honest free bitmap lbn count old.image) old new place block is changing;
    }) writes.ok

-- a write failed
pub went-failed : {E : Type 0} (P : Image → Type 0) (result : Result Unit E) (place : ℕ) (block : List ℕ) (old new : Disk)
    → Writes result place block old new
    → P (set old.image place block) → OnErr result (Went P old new 1 1)
went-failed P result place block old new writes holds =
    on_err_weaker result (λ is. went_failed_write P old new place block is holds) writes.err

-- a block that was read after reads alone
pub slice_get-read : (old now : Disk) (most at place : ℕ) (block : List ℕ) → Looked old now most 0 → at ≡ place
    → (IsTrue now.honest → slice_get now.image at ≡ Some block)
    → IsTrue old.honest → slice_get old.image place ≡ Some block
slice_get-read old now most at place block looked is gives honest =
    ap (λ (image : Image). slice_get image place) (sym looked.image) ∙ ap (slice_get now.image) (sym is)
    ∙ gives (subst (λ (b : Bool). IsTrue b) (sym looked.honest) honest)

-- the image after a write that succeeded
pub image-written : {E : Type 0} (result : Result Unit E) (at place : ℕ) (block : List ℕ) (old new : Disk) → Writes result at block old new
    → at ≡ place → OnOk result (new.image ≡ set old.image place block)
image-written result at place block old new writes is =
    on_ok_weaker result (λ written. ap (λ (d : Disk). d.image) written ∙ ap (λ (p : ℕ). set old.image p block) is) writes.ok

-- the blocks that aren't the bitmap's stay to the end
pub KeepsOthers-went : {honest free : Bool} {bitmap : Bitmap} {lbn count : ℕ} {old new : Disk} {most faults : ℕ}
    → Went (Changing honest free bitmap lbn count old.image) old new most faults → KeepsOthers bitmap old.image new.image
KeepsOthers-went {honest} {free} {bitmap} {lbn} {count} {old} {new} went =
    went_last (KeepsOthers bitmap old.image)
    (went_weaker (Changing honest free bitmap lbn count old.image) (KeepsOthers bitmap old.image) (λ image changing. changing.keeps)
    went) (KeepsOthers-refl bitmap old.image)

-- so its blocks are still there
pub LiesWithin-kept : (bitmap : Bitmap) (old new : Image) → LiesWithin bitmap (length old) → KeepsOthers bitmap old new
    → LiesWithin bitmap (length new)
LiesWithin-kept bitmap old new lies keeps = subst (LiesWithin bitmap) (sym keeps.size) lies

-- and so they are after reads alone
pub LiesWithin-looked : (bitmap : Bitmap) {old new : Disk} {most faults : ℕ} → LiesWithin bitmap (length old.image)
    → Looked old new most faults → LiesWithin bitmap (length new.image)
LiesWithin-looked bitmap lies looked = subst (λ (image : Image). LiesWithin bitmap (length image)) (sym looked.image) lies

-- what is on a disk is on it after reads alone
pub IsOn-looked : (s : Storage) {old new : Disk} {most faults : ℕ} → IsOn s old → Looked old new most faults → IsOn s new
IsOn-looked s {old} {new} is looked = record {
  within = LiesWithin-looked (bitmap_of s) is.within looked;
  block = λ honest. subst (KeepsBlock s) (sym looked.image) (is.block (subst (λ (b : Bool). IsTrue b) looked.honest honest));
}

-- n blocks are being marked after the m before them
pub Went-more : (free : Bool) (bitmap : Bitmap) (lbn m start n count : ℕ) (old now new : Disk) {first then faults : ℕ}
    → Went (Changing old.honest free bitmap lbn count old.image) old now first 0
    → KeepsOthers bitmap old.image now.image
    → (IsTrue old.honest → Marks free bitmap lbn m old.image now.image)
    → start ≡ lbn + m → m + n ≤ count → (m + n ≡ count) ⊎ ((lbn + (m + n)) % 4096 ≡ 0)
    → Went (Changing now.honest free bitmap start n now.image) now new then faults
    → Went (Changing old.honest free bitmap lbn count old.image) old new (first + then) faults
Went-more free bitmap lbn m start n count old now new first keeps marks is within whole then =
    let P : Image → Type 0 = Changing old.honest free bitmap lbn count old.image in
    went_more P first (went_weaker (Changing now.honest free bitmap start n now.image) P
    (λ image changing. Changing-more old.honest free bitmap lbn m n count old.image now.image image keeps marks within whole
    (subst (λ (b : Bool). Changing b free bitmap (lbn + m) n now.image image) first.honest
    (subst (λ (k : ℕ). Changing now.honest free bitmap k n now.image image) is changing))) then)

-- they are marked
pub Marks-next : (free : Bool) (bitmap : Bitmap) (lbn m start n total : ℕ) (old now new : Disk) → now.honest ≡ old.honest
    → (IsTrue old.honest → Marks free bitmap lbn m old.image now.image) → start ≡ lbn + m → m + n ≡ total
    → (IsTrue now.honest → Marks free bitmap start n now.image new.image) → IsTrue old.honest
    → Marks free bitmap lbn total old.image new.image
Marks-next free bitmap lbn m start n total old now new same first is sum then honest =
    let now_honest : IsTrue now.honest = subst (λ (b : Bool). IsTrue b) (sym same) honest in
    subst (λ (t : ℕ). Marks free bitmap lbn t old.image new.image) sum
    (Marks-more free bitmap lbn m n old.image now.image new.image (first honest)
    (subst (λ (k : ℕ). Marks free bitmap k n now.image new.image) is (then now_honest)))

-- the first n blocks of count are being marked
pub Went-first : (free : Bool) (bitmap : Bitmap) (lbn n count : ℕ) (old now : Disk) {most faults : ℕ} → n ≤ count
    → (n ≡ count) ⊎ ((lbn + n) % 4096 ≡ 0)
    → Went (Changing old.honest free bitmap lbn n old.image) old now most faults
    → Went (Changing old.honest free bitmap lbn count old.image) old now most faults
Went-first free bitmap lbn n count old now within whole went =
    went_weaker (Changing old.honest free bitmap lbn n old.image) (Changing old.honest free bitmap lbn count old.image)
    (λ image changing. record {
      keeps = changing.keeps;
      marking = λ honest.
          let marking = changing.marking honest in
          record {
            part = marking.part;
            some = marking.some;
            within = omega (arith, marking.within);
            whole = elim marking.whole [
              | inl all ↦ elim whole [
                | inl last ↦ inl (omega arith)
                | inr edge ↦ inr (omega arith)
              ]
              | inr edge ↦ inr edge
            ];
            marks = marking.marks;
          };
    }) went

-- a disk was looked at, and then they were marked
pub MarksOnDisk-looked : {free : Bool} {bitmap : Bitmap} {lbn count looks most total : ℕ} {old now new : Disk} → Looked old now looks 0
    → MarksOnDisk free bitmap lbn count most now new → looks + most ≤ total → MarksOnDisk free bitmap lbn count total old new
MarksOnDisk-looked {free} {bitmap} {lbn} {count} {old = old} {now} {new} looked marked few =
    let P : Image → Type 0 = Changing old.honest free bitmap lbn count old.image in
    record {
      marks = λ honest. subst (λ (before : Image). Marks free bitmap lbn count before new.image) looked.image
          (marked.marks (subst (λ (b : Bool). IsTrue b) (sym looked.honest) honest));
      went = went_within P (went_more P (went_looked P looked) (went_weaker (Changing now.honest free bitmap lbn count now.image) P
          (λ image changing. subst (λ (b : Bool). Changing b free bitmap lbn count old.image image) looked.honest
          (subst (λ (before : Image). Changing now.honest free bitmap lbn count before image) looked.image changing)) marked.went)) few;
    }

-- the first run was found, and a transfer failed while it was being marked
pub FailsToTake-marking : {bitmap : Bitmap} {from most lbn here beyond : ℕ} {block next : List ℕ} {old now new : Disk}
    → FindsRun bitmap from most lbn here beyond block next old now → FailsToMark false bitmap lbn (here + beyond) 2 now new
    → FailsToTake bitmap from most old new
FailsToTake-marking {bitmap} {from} {most} {lbn} {here} {beyond} {old = old} {now} found failed =
    let count = here + beyond in
    let P : Image → Type 0 = Taking old.honest bitmap from most old.image in
    went_within P (went_more P (went_looked P found.looked) (went_weaker (Changing now.honest false bitmap lbn count now.image) P
    (λ image changing. record {
      lbn = lbn;
      count = count;
      run = found.first;
      changing = subst (λ (b : Bool). Changing b false bitmap lbn count old.image image) found.looked.honest
          (subst (λ (before : Image). Changing now.honest false bitmap lbn count before image) found.looked.image changing);
    }) failed)) (omega arith)

-- the first n free blocks in a row were found, and a transfer failed while they were being marked
pub FailsToTakeRun-marking : {bitmap : Bitmap} {n lbn most : ℕ} {block : List ℕ} {old now new : Disk}
    → FindsRunOf bitmap n lbn block old now → blocks_touched 0 (lbn + n) + most ≤ 3 * length bitmap.places
    → FailsToMark false bitmap lbn n most now new → FailsToTakeRun bitmap n old new
FailsToTakeRun-marking {bitmap} {n} {lbn} {old = old} {now} found few failed =
    let P : Image → Type 0 = TakingRun old.honest bitmap n old.image in
    went_within P (went_more P (went_looked P found.looked) (went_weaker (Changing now.honest false bitmap lbn n now.image) P
    (λ image changing. record {
      lbn = lbn;
      run = found.first;
      changing = subst (λ (b : Bool). Changing b false bitmap lbn n old.image image) found.looked.honest
          (subst (λ (before : Image). Changing now.honest false bitmap lbn n before image) found.looked.image changing);
    }) failed)) few
