-- Unreferenced blocks that are made zeros.
use Rattle.std.proofs.Common.{◌≡◌, ◌≢◌, ◌⊎◌, ◌+◌, ◌<◌, ◌≤◌, ℕ, true, false, IsTrue, length, inl, inr, refl, sym, ap, subst, ◌∙◌, arith}
use Rattle.std.proofs.Math.ListN.{set}
use Rattle.std.proofs.lemmas.Bool.{cases_eq}
use Rattle.std.proofs.lemmas.List.{get_or-set_same, get_or-set_other}
use Rattle.f11_bytes.specs.Block.{zero_block}
use Rattle.f11_bits.specs.Bitmap.{Bitmap, KeepsBitmap}
use Rattle.f11_dev.specs.Disk.{Disk, with_transfer, with_block_at}
use Rattle.f11_dev.specs.Image.{Image}
use Rattle.f11_dev.proofs.LookedLemmas.{looked_none}
use Rattle.f11_dev.proofs.WentLemmas.{went_looked, went_write, went_failed_write, went_more, went_within}
use Rattle.f11_home.specs.Home.{HomeFields}
use Rattle.f11_volume.specs.Contents.{block_or_zeros}
use Rattle.f11_volume.specs.Sound.{HasSoundVolume}
use Rattle.f11_volume.specs.Volume.{Volume, volume_of, IsNamed}
use Rattle.f11_writes.specs.Kept.{KeepsVolume, KeepsFiles}
use Rattle.f11_writes.specs.NameLaws.{AreUnreferenced}
use Rattle.f11_writes.proofs.NameLemmas.{unreferenced-stay}
use Rattle.f11_writes.proofs.OtherLemmas.{unnamed-keeps}
use Rattle.f11_writes.specs.Order.{IsOrderlyWrite, WritesInOrder}
use Rattle.f11_writes.proofs.InOrderLemmas.{order-failed, order-write}
use Rattle.f11_writes.proofs.OrderLemmas.{lost-orderly}
use Rattle.f11_files.specs.Extending.Zeros.{HoldsZeros, Keeping, Zeroes, FailsToZero}
use Rattle.f11_image_store.proofs.StoreLemmas.{stays}

-- what was only read is as it was
pub volume-same : (home : HomeFields) (image : Image) → HasSoundVolume image home → KeepsVolume home image image
volume-same home image sound = record {
  sound = sound;
  index_file = record { file = refl; index = refl; table = refl; sound = sound.framed.indexed.file };
  bitmap = refl;
  bitmap_blocks = λ i within. refl;
  volume = refl;
}

pub volume-more : (home : HomeFields) (a b c : Image) → KeepsVolume home a b → KeepsVolume home b c → KeepsVolume home a c
volume-more home a b c one two = record {
  sound = two.sound;
  index_file = record {
    file = two.index_file.file ∙ one.index_file.file;
    index = two.index_file.index ∙ one.index_file.index;
    table = two.index_file.table ∙ one.index_file.table;
    sound = two.index_file.sound;
  };
  bitmap = two.bitmap ∙ one.bitmap;
  bitmap_blocks = λ i within. subst (λ (x : Bitmap). KeepsBitmap x b c) one.bitmap two.bitmap_blocks i within ∙ one.bitmap_blocks i within;
  volume = two.volume ∙ one.volume;
}

-- zeros that are written are zeros, and those that were there are zeros still
zero-more : (image : Image) (lbn count : ℕ) → lbn + count < length image → HoldsZeros image lbn count
    → HoldsZeros (set image (lbn + count) zero_block) lbn (count + 1)
zero-more image lbn count within zeros = record { each = λ k low high. go k low high (cases_eq k (lbn + count)) }
  where
    go : (k : ℕ) → lbn ≤ k → k < lbn + (count + 1) → (k ≡ lbn + count) ⊎ (k ≢ lbn + count)
        → block_or_zeros (set image (lbn + count) zero_block) k ≡ zero_block
    go k low high (inl here) =
        ap (block_or_zeros (set image (lbn + count) zero_block)) here ∙ get_or-set_same image (lbn + count) zero_block zero_block within
    go k low high (inr away) =
        get_or-set_other image (lbn + count) k zero_block zero_block away ∙ zeros.each k low (omega (arith, high, away))

unnamed-at : (v : Volume) (lbn count k : ℕ) → AreUnreferenced v lbn count → k < count → ¬ IsNamed v.table (lbn + k)
unnamed-at v lbn count k unreferenced few = unreferenced.unnamed (lbn + k) (omega arith) (omega (arith, few))

module _ (home : HomeFields) (lbn count : ℕ) (old : Disk) (within : lbn + count ≤ length old.image)
    (sound : IsTrue old.honest → HasSoundVolume old.image home)
    (unreferenced : IsTrue old.honest → AreUnreferenced (volume_of old.image home) lbn count) where
  abbrev P : Image → Type 0
  P = Keeping home old

  pub zeroes-none : Zeroes home lbn 0 old old
  zeroes-none = record {
    keeps = λ honest. record { volume = volume-same home old.image (sound honest); store = refl };
    zeros = λ honest. record { each = λ k low high. absurd (omega (arith, low, high)) };
    went = went_looked P (looked_none old);
  }

  module _ (k : ℕ) (now new : Disk) (few : k < count) (so_far : Zeroes home lbn k old now) where
    abbrev next : Image
    next = set now.image (lbn + k) zero_block

    unnamed : (honest : IsTrue old.honest) → ¬ IsNamed (volume_of now.image home).table (lbn + k)
    unnamed honest =
        unnamed-at (volume_of now.image home) lbn count k
        (unreferenced-stay old.image now.image home lbn count (so_far.keeps honest).volume (unreferenced honest)) few

    keeps-files : (honest : IsTrue old.honest) → KeepsFiles home now.image next
    unfolding volume_of
    keeps-files honest = unnamed-keeps now.image home (so_far.keeps honest).volume.sound (lbn + k) zero_block (unnamed honest)

    keeps-next : P next
    keeps-next honest =
        let here = keeps-files honest in
        let before = so_far.keeps honest in
        record {
          volume = volume-more home old.image now.image next before.volume here.keeps;
          store = stays now.image next home here
              ∙ before.store;
        }

    inside : lbn + k < length now.image
    inside = omega (arith, so_far.went.size, within, few)

    -- the write is in order
    sound-now : IsTrue now.honest → HasSoundVolume now.image home
    sound-now honest = (so_far.keeps (sym so_far.went.honest ∙ honest)).volume.sound

    orderly : IsTrue now.honest → IsOrderlyWrite home now.image next
    unfolding volume_of
    orderly sure =
        let honest = sym so_far.went.honest ∙ sure in
        let before = (so_far.keeps honest).volume in
        let still = unreferenced-stay old.image now.image home lbn count before (unreferenced honest) in
        lost-orderly now.image home before.sound (lbn + k) zero_block (omega (arith, still.inside, few))
        (still.used (lbn + k) (omega arith) (omega (arith, few)))
        (unnamed honest)

    pub zeroed-order : new ≡ with_transfer true (with_block_at (lbn + k) zero_block now) → WritesInOrder now new
    zeroed-order = order-write now home sound-now (lbn + k) zero_block orderly new

    pub unzeroed-order : (new ≡ with_transfer false now) ⊎ (new ≡ with_transfer false (with_block_at (lbn + k) zero_block now))
        → WritesInOrder now new
    unzeroed-order = order-failed now home sound-now (lbn + k) zero_block orderly new

    pub zeroes-more : new ≡ with_transfer true (with_block_at (lbn + k) zero_block now) → Zeroes home lbn (k + 1) old new
    zeroes-more is = record {
      keeps = subst P (sym image) keeps-next;
      zeros = λ honest. subst (λ (i : Image). HoldsZeros i lbn (k + 1)) (sym image)
          (zero-more now.image lbn k inside (so_far.zeros honest));
      went = went_more P so_far.went (went_write P now new (lbn + k) zero_block is keeps-next);
    }
      where
        image : new.image ≡ next
        image = ap (λ (d : Disk). d.image) is

    pub fails-zero : (new ≡ with_transfer false now) ⊎ (new ≡ with_transfer false (with_block_at (lbn + k) zero_block now))
        → FailsToZero home count old new
    fails-zero is =
        went_within P (went_more P so_far.went (went_failed_write P now new (lbn + k) zero_block is keeps-next)) (omega (arith, few))
