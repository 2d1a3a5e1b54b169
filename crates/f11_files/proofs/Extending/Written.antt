-- The last header of a file that gets blocks was written: of the index file, whose blocks are slots, or of one that requests reach.
use Rattle.std.proofs.Common.{◌≡◌, ◌+◌, ◌≤◌, ◌==◌, ℕ, Bool, true, false, IsTrue, List, length, inl, inr, refl, sym, ap, subst, ◌∙◌, arith}
use Rattle.std.proofs.Math.ListN.{set}
use Rattle.std.proofs.lemmas.List.{length-set}
use Rattle.f11_dev.specs.Disk.{Disk, with_transfer, with_block_at}
use Rattle.f11_dev.specs.Image.{Image}
use Rattle.f11_home.specs.Home.{HomeFields}
use Rattle.f11_index.specs.Growth.{with_header}
use Rattle.f11_index.specs.IndexFile.{Index, is_in_use, header_lbn}
use Rattle.f11_index.specs.Kept.{index_kept}
use Rattle.f11_index.specs.Table.{table_of, IsLive}
use Rattle.f11_index.specs.declared.index_file.IndexFile.{IndexFile}
use Rattle.f11_volume.specs.Sound.{HasSoundVolume}
use Rattle.f11_writes.specs.Kept.{WritesHeader, WritesGrowth}
use Rattle.f11_image_store.proofs.FileLemmas.{HasWritten, as-header, as-growth}
use Rattle.f11_store.proofs.StoreLemmas.{other_number}
use Rattle.f11_files.specs.Extending.Slots.{GetsBlocks, StaysBehind, index_behind}
use Rattle.f11_files.specs.Structure.{index_in, bitmap_in, home_of, FitsOn, IsStructureOf, IsStructureFor, StaysFor}
use Rattle.f11_files.specs.declared.structure.Structure.{Structure}
use Rattle.f11_files.proofs.Changing.Alter.{keeps-header}
use Rattle.f11_files.proofs.GrowingIndex.SlotGrowth.{in_use-kept, grown-for}
use Rattle.f11_files.proofs.Confining.Parts.{grows-within, reserved-alike, stands-within}
use Rattle.f11_files.proofs.Extending.Reserved.{reserved-for}

-- what was written
abbrev pub WroteAs : {k : ℕ} → GetsBlocks k → ℕ → List ℕ → ℕ → ℕ → HomeFields → Image → Image → Type 0
WroteAs (inl one) n block lbn count home old new = WritesGrowth n block lbn count home old new
WroteAs (inr late) n block lbn count home old new = WritesHeader n block home old new

-- its blocks are slots, or aren't
pub are-slots : {k : ℕ} → k ≡ 1 → IsTrue (k == 1)
are-slots one = ap (λ (j : ℕ). j == 1) one

pub are-none : {k : ℕ} → 4 ≤ k → (k == 1) ≡ false
are-none {k = k} late = other_number k 1 (λ one. omega (arith, late, one))

pub has-written : {k : ℕ} (gets : GetsBlocks k) (n : ℕ) (block : List ℕ) (lbn count : ℕ) (home : HomeFields) (old new : Image)
    → IsLive (table_of old home) n → WroteAs gets n block lbn count home old new
    → HasWritten n block home old new
has-written (inl one) n block lbn count home old new live wrote = as-growth n block lbn count home old new live wrote
has-written (inr late) n block lbn count home old new live wrote = as-header n block home old new wrote

-- what is kept of the slots in use
pub in_use-behind : (slots : Bool) (index : Index) (lbn count n : ℕ) (s : Structure) → index ≡ index_in s → is_in_use index n ≡ true
    → is_in_use (index_behind slots index lbn count) n ≡ true
in_use-behind true index lbn count n s is used =
    subst (λ (x : Index). is_in_use x n ≡ true → is_in_use (index_behind true x lbn count) n ≡ true) (sym is)
    (in_use-kept (index_in s) lbn count n s.index.valid) used
in_use-behind false index lbn count n s is used = used

module _ (s : Structure) (after : IndexFile) where
  abbrev t : Structure
  t = record s { index = after }

  -- where the headers are
  pub stays-behind : (slots : Bool) (lbn count : ℕ) → index_kept after ≡ index_behind slots (index_in s) lbn count
      → StaysBehind s t lbn count
  stays-behind true lbn count behind = record {
    bits = ap (λ (x : Index). x.bitmap) behind;
    within = λ headers. grows-within s t headers headers lbn count (λ n is. is) behind refl;
  }
  stays-behind false lbn count behind = record {
    bits = ap (λ (x : Index). x.bitmap) behind;
    within = λ headers. stands-within s t headers headers _ (λ n is. is) (reserved-alike s after behind);
  }

  module _ (n : ℕ) (block : List ℕ) (lbn count : ℕ) (old new : Disk) (for : IsStructureFor s old)
      (within : lbn + count ≤ (bitmap_in s).size) (place : ℕ) (at : place ≡ header_lbn (index_in s) n)
      (is : new ≡ with_transfer true (with_block_at place block old)) where
    abbrev home : HomeFields
    home = home_of s

    abbrev next : Image
    next = with_header old.image home n block

    pub image-is : IsTrue old.honest → new.image ≡ next
    image-is honest =
        ap (λ (d : Disk). d.image) is
        ∙ ap (λ (l : ℕ). set old.image l block) (at ∙ ap (λ (x : Index). header_lbn x n) (for.keeps honest).index_is)

    -- where it is no slot that comes
    file-for : (IsTrue old.honest → WritesHeader n block home old.image next) → IsStructureFor s new
    file-for wrote = record {
      lies = subst (λ (k : ℕ). FitsOn s k) (sym size) for.lies;
      sound = λ honest. let before = was-honest honest in
          subst (λ (i : Image). HasSoundVolume i home) (sym (image-is before)) (wrote before).slot.sound;
      keeps = λ honest. let before = was-honest honest in
          subst (IsStructureOf s) (sym (image-is before)) (keeps-header s n block old.image next (wrote before) (for.keeps before));
    }
      where
        size : length new.image ≡ length old.image
        size = ap (λ (d : Disk). length d.image) is ∙ length-set old.image place block

        was-honest : IsTrue new.honest → IsTrue old.honest
        was-honest honest = sym (ap (λ (d : Disk). d.honest) is) ∙ honest

    -- what is kept is the disk's
    pub behind-for : {k : ℕ} (gets : GetsBlocks k) → index_kept after ≡ index_behind (k == 1) (index_in s) lbn count
        → (IsTrue old.honest → WroteAs gets n block lbn count home old.image next) → IsStructureFor t new
    behind-for (inl one) behind wrote =
        grown-for s after n block lbn count old new for within
        (behind ∙ ap (λ (slots : Bool). index_behind slots (index_in s) lbn count) (are-slots one)) wrote place at is
    behind-for (inr late) behind wrote =
        reserved-for s after (behind ∙ ap (λ (slots : Bool). index_behind slots (index_in s) lbn count) (are-none late)) new
        (file-for wrote)

-- it stays so
pub for-stays : {s t : Structure} {new : Disk} → home_of t ≡ home_of s → IsStructureFor t new → StaysFor false s t new
for-stays same for = record { home = same; lies = λ _. for.lies; sound = for.sound; keeps = λ _. for.keeps }
