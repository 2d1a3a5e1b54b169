-- Which blocks of the storage bitmap are other than they were, and how many.
use Rattle.std.proofs.Common.{◌≡◌, ℕ, ◌+◌, ◌/◌, ◌<◌, ◌≤◌, List, length, Some, set, ap, sym, subst, ◌∙◌, arith}
use Rattle.f11_bits.specs.Bitmap.{Bitmap, KeepsBitmap}
use Rattle.f11_bits.specs.Replacing.{BitmapBlockChanges}
use Rattle.f11_bits.proofs.LawLemmas.{KeepsBitmap-write, bitmap_bit-same}
use Rattle.f11_dev.specs.Image.{Image}
use Rattle.f11_home.specs.Home.{HomeFields}
use Rattle.f11_vfy.specs.Reclaiming.Moments.{KeepsPast}
use Rattle.f11_vfy.specs.Reclaiming.Slots.{CountsUpTo, none, such, other}
use Rattle.f11_vfy.specs.Reclaiming.Steps.{IsChangedBlock}
use Rattle.f11_volume.specs.Sound.{HasSoundVolume}
use Rattle.f11_volume.specs.Space.{storage_bitmap}
use Rattle.f11_volume.proofs.FileLemmas.{place-at}
use Rattle.f11_image_store.proofs.writes.OwnerLemmas.{owned-once, in-index-file, in-bitmap-file}
use Rattle.f11_image_store.proofs.writes.SlotLemmas.{IsPlacedAt}

-- a property that holds of the same numbers
pub counts-same : (P Q : ℕ → Type 0) (n count : ℕ) → ((m : ℕ) → m < n → P (m + 1) → Q (m + 1)) → ((m : ℕ) → m < n → Q (m + 1) → P (m + 1))
    → CountsUpTo P n count → CountsUpTo Q n count
counts-same P Q n count to from none = none
counts-same P Q n count to from (such k c counts holds) =
    such k c (counts-same P Q k c (λ m low. to m (omega (arith, low))) (λ m low. from m (omega (arith, low))) counts)
    (to k (omega arith) holds)
counts-same P Q n count to from (other k c counts fails) =
    other k c (counts-same P Q k c (λ m low. to m (omega (arith, low))) (λ m low. from m (omega (arith, low))) counts)
    (λ holds. fails (from k (omega arith) holds))

module _ (bitmap : Bitmap) (i : ℕ) (a b c : Image) where
  -- a block that stays, and stays then
  pub unchanged-then : ¬ BitmapBlockChanges bitmap i a b → ¬ BitmapBlockChanges bitmap i b c → ¬ BitmapBlockChanges bitmap i a c
  unchanged-then one two changes = one (λ first. two (λ then. changes (then ∙ first)))

  -- one that changes, and then stays
  pub changed-stays : ¬ BitmapBlockChanges bitmap i b c → BitmapBlockChanges bitmap i a b → BitmapBlockChanges bitmap i a c
  changed-stays stays changes same = stays (λ then. changes (sym then ∙ same))

  pub changed-before : ¬ BitmapBlockChanges bitmap i b c → BitmapBlockChanges bitmap i a c → BitmapBlockChanges bitmap i a b
  changed-before stays changes same = stays (λ then. changes (then ∙ same))

  -- one that stays, and then changes
  pub stays-changed : ¬ BitmapBlockChanges bitmap i a b → BitmapBlockChanges bitmap i b c → BitmapBlockChanges bitmap i a c
  stays-changed stays changes same = stays (λ first. changes (same ∙ sym first))

-- blocks counted from 0 and from 1
pub block-changed : (bitmap : Bitmap) (a b : Image) (i : ℕ) → BitmapBlockChanges bitmap i a b → IsChangedBlock bitmap a b (i + 1)
block-changed bitmap a b i = subst (λ (j : ℕ). BitmapBlockChanges bitmap j a b) (omega arith)

pub changed-block : (bitmap : Bitmap) (a b : Image) (i : ℕ) → IsChangedBlock bitmap a b (i + 1) → BitmapBlockChanges bitmap i a b
changed-block bitmap a b i = subst (λ (j : ℕ). BitmapBlockChanges bitmap j a b) (omega arith)

-- as many changed from a to b as from c to d, where the same did
counts-blocks : (bitmap : Bitmap) (a b c d : Image) (n count : ℕ)
    → ((i : ℕ) → i < n → BitmapBlockChanges bitmap i a b → BitmapBlockChanges bitmap i c d)
    → ((i : ℕ) → i < n → BitmapBlockChanges bitmap i c d → BitmapBlockChanges bitmap i a b)
    → CountsUpTo (IsChangedBlock bitmap a b) n count → CountsUpTo (IsChangedBlock bitmap c d) n count
counts-blocks bitmap a b c d n count to from = counts-same (IsChangedBlock bitmap a b) (IsChangedBlock bitmap c d) n count
    (λ i low changes. block-changed bitmap c d i (to i low (changed-block bitmap a b i changes)))
    (λ i low changes. block-changed bitmap a b i (from i low (changed-block bitmap c d i changes)))

-- as many changed since an image in which they were the same
pub counts-since : (bitmap : Bitmap) (a b c : Image) (n count : ℕ) → n ≤ length bitmap.places → KeepsBitmap bitmap a b
    → CountsUpTo (IsChangedBlock bitmap b c) n count → CountsUpTo (IsChangedBlock bitmap a c) n count
counts-since bitmap a b c n count few keeps = counts-blocks bitmap b c a c n count
    (λ m low changes same. changes (same ∙ sym (keeps m (omega (arith, low, few)))))
    (λ m low changes same. changes (same ∙ keeps m (omega (arith, low, few))))

-- as many changed where they stay then
pub counts-on : (bitmap : Bitmap) (a b c : Image) (n count : ℕ) → ((i : ℕ) → i < n → ¬ BitmapBlockChanges bitmap i b c)
    → CountsUpTo (IsChangedBlock bitmap a b) n count → CountsUpTo (IsChangedBlock bitmap a c) n count
counts-on bitmap a b c n count stay = counts-blocks bitmap a b a c n count
    (λ m low. changed-stays bitmap m a b c (stay m low)) (λ m low. changed-before bitmap m a b c (stay m low))

-- blocks of the bitmap that stay, and stay then
pub storage-then : (a b c : Image) (home : HomeFields) → storage_bitmap b home ≡ storage_bitmap a home
    → KeepsBitmap (storage_bitmap a home) a b → KeepsBitmap (storage_bitmap b home) b c → KeepsBitmap (storage_bitmap a home) a c
storage-then a b c home same one two i within = subst (λ (x : Bitmap). KeepsBitmap x b c) same two i within ∙ one i within

-- a block of the index file was written
pub storage-write : (image : Image) (home : HomeFields) (lbn : ℕ) (block : List ℕ) → HasSoundVolume image home → IsPlacedAt image home lbn
    → KeepsBitmap (storage_bitmap image home) image (set image lbn block)
storage-write image home lbn block is placed = KeepsBitmap-write (storage_bitmap image home) image lbn block (λ i within same.
    let here = owned-once image home is 2 1 lbn (in-bitmap-file image home is (1 + i) lbn (place-at image home i within ∙ ap Some same))
    (in-index-file image home is placed.place lbn placed.at) in
    omega (arith, here))

-- where they stay, so do their bits past the volume's size
pub past-kept : (bitmap : Bitmap) (old new : Image) → KeepsBitmap bitmap old new → KeepsPast bitmap old new
past-kept bitmap old new keeps k high below = bitmap_bit-same bitmap old new k (keeps (k / 4096) (omega (arith, below)))
