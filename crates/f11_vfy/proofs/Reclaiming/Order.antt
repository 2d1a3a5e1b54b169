-- The parts of reclaiming, one after another.
use Rattle.std.proofs.Common.{◌≡◌, ℕ, true, inl, inr, ap, ◌∙◌}
use Rattle.f11_bits.specs.Bitmap.{KeepsBitmap}
use Rattle.f11_dev.specs.Image.{Image}
use Rattle.f11_home.specs.Home.{HomeFields}
use Rattle.f11_index.specs.IndexFile.{Index, index_of}
use Rattle.f11_index.specs.Table.{table_of}
use Rattle.f11_index.proofs.ChainLemmas.{live_of-header}
use Rattle.f11_vfy.specs.Reclaiming.Moments.{IsInOrder, IsReclaiming}
use Rattle.f11_vfy.specs.Reclaiming.Slots.{IsOrphan, IsIdle}
use Rattle.f11_vfy.proofs.Reclaiming.Files.{KeepsFiles, in-new, orphan-was}
use Rattle.f11_vfy.proofs.Reclaiming.Storage.{storage-then}
use Rattle.f11_volume.specs.Space.{storage_bitmap}

-- neither bitmap was changed
pub order-kept : (home : HomeFields) (old image : Image) → index_of image home ≡ index_of old home
    → KeepsBitmap (storage_bitmap old home) old image → IsInOrder home old image
order-kept home old image index storage = record { kills_first = inl (ap (λ (x : Index). x.bitmap) index); clears_first = inl storage }

-- what is in order, and then again
pub order-then : (home : HomeFields) (a b c : Image) → KeepsFiles (table_of b home) (table_of c home)
    → ((n : ℕ) → (table_of c home).in_use n ≡ true → (table_of b home).in_use n ≡ true) → storage_bitmap b home ≡ storage_bitmap a home
    → IsInOrder home a b → IsInOrder home b c
    → IsInOrder home a c
order-then home a b c keeps was bitmap one two = record {
  kills_first = elim two.kills_first [
    | inr none ↦ inr none
    | inl same ↦ elim one.kills_first [
      | inl before ↦ inl (same ∙ before)
      | inr none ↦ inr (λ n orphan. none n (orphan-was (table_of b home) (table_of c home) keeps n orphan))
    ]
  ];
  clears_first = elim two.clears_first [
    | inr files ↦ inr files
    | inl same ↦ elim one.clears_first [
      | inl before ↦ inl (storage-then a b c home bitmap before same)
      | inr files ↦ inr (λ n. (
        λ used. in-new (table_of b home) (table_of c home) keeps n ((files n).0 (was n used)),
        λ within.
            (live_of-header within.of).in_use,
      ))
    ]
  ];
}

-- while there is an orphan the index bitmap is as it was
pub orphans-first : (home : HomeFields) (old image : Image) → IsReclaiming home old image → (n : ℕ) → IsOrphan (table_of image home) n
    → (index_of image home).bitmap ≡ (index_of old home).bitmap
orphans-first home old image is n orphan = elim is.order.kills_first [ inl same ↦ same | inr none ↦ absurd (none n orphan) ]

-- and while a slot in use is one of no file, so is the storage bitmap
pub blocks-last : (home : HomeFields) (old image : Image) → IsReclaiming home old image → (n : ℕ) → IsIdle (table_of image home) n
    → KeepsBitmap (storage_bitmap old home) old image
blocks-last home old image is n idle =
    elim is.order.clears_first [ inl same ↦ same | inr files ↦ absurd (idle.of_none ((files n).0 idle.in_use)) ]
