-- What carries an image that stands while a volume is reclaimed to the next one.
use Rattle.std.proofs.Common.{◌≡◌, ◌<◌, ◌≤◌, ℕ, true, List, length, inl, inr, refl, sym, ap, subst, ◌∙◌, arith}
use Rattle.std.proofs.lemmas.Bool.{both_ways, cases_Bool}
use Rattle.f11_bits.specs.Bitmap.{Bitmap}
use Rattle.f11_dev.specs.Image.{Image}
use Rattle.f11_header.specs.Header.{IsHeader}
use Rattle.f11_header.specs.Writing.{dead_header}
use Rattle.f11_header.proofs.HeaderFacts.{dead-not-valid}
use Rattle.f11_home.specs.Home.{HomeFields}
use Rattle.f11_index.specs.Headers.{IsInFile}
use Rattle.f11_index.specs.IndexFile.{Index, index_of}
use Rattle.f11_index.specs.Table.{Table, table_in, table_of}
use Rattle.f11_index.proofs.ChainLemmas.{live_of-header}
use Rattle.f11_index.proofs.InUseLemmas.{in_use-some, in_use-slot}
use Rattle.f11_image_store.specs.StoreOf.{store_of}
use Rattle.f11_image_store.proofs.ConfinesLemmas.{alike-part}
use Rattle.f11_image_store.proofs.FreeingLemmas.{frees-none, frees-then}
use Rattle.f11_vfy.specs.Reclaiming.Moments.{any_header, IsReclaiming, KeepsPlaces, KeepsPast}
use Rattle.f11_vfy.specs.Reclaiming.Slots.{IsOrphan, IsKeptOrKilled}
use Rattle.f11_vfy.specs.Reclaiming.Whole.{HasReclaimed}
use Rattle.f11_vfy.proofs.Reclaiming.Dead.{live-kept, in-file-kept, orphan-dead, kept-then, left-then, same-kept, same-left}
use Rattle.f11_vfy.proofs.Reclaiming.Files.{KeepsFiles, in-old, in-new, orphan-was}
use Rattle.f11_vfy.proofs.Reclaiming.Order.{order-kept, order-then}
use Rattle.f11_volume.specs.Sound.{HasSoundVolume}
use Rattle.f11_volume.specs.Space.{storage_bitmap}

-- slots that are in use, and as many
used-slot : (image : Image) (home : HomeFields) (n : ℕ) → (table_of image home).in_use n ≡ true
    → (0 < n) × (n ≤ (table_of image home).slots)
unfolding table_in
used-slot image home n used = (in_use-some (index_of image home) n used, in_use-slot (index_of image home) n used)

slots-alike : (a b : Image) (home : HomeFields) → (index_of b home).headers ≡ (index_of a home).headers
    → (table_of b home).slots ≡ (table_of a home).slots
unfolding table_in
slots-alike a b home same = ap (λ (xs : List ℕ). length xs) same

-- an image that stands while a volume is reclaimed
module _ (home : HomeFields) (old image : Image) (is : IsReclaiming home old image) where
  abbrev t : Table
  t = table_of old home

  abbrev u : Table
  u = table_of image home

  used-was : (n : ℕ) → u.in_use n ≡ true → t.in_use n ≡ true
  unfolding store_of
  used-was n used = elim (cases_Bool (t.in_use n)) [
    | inl was ↦ was
    | inr unused ↦ absurd (both_ways _ (is.freeing.frees.unused n unused) used)
  ]

  kept-at : (n : ℕ) → t.in_use n ≡ true → IsKeptOrKilled t u n
  kept-at n used = let (some, few) = used-slot old home n used in is.headers n some few

  -- each header of a file is kept, and each that is live was and says what it said
  pub reclaiming-keeps : KeepsFiles t u
  reclaiming-keeps = record {
    was = λ m live.
        let used = used-was m live.in_use in
        let same = live-kept t u m (kept-at m used) live in
        (record { in_use = used; valid = subst (λ (b : List ℕ). IsHeader b m) same live.valid }, same);
    stays = λ m within.
        let live = live_of-header within.of in
        let same = in-file-kept t u m (kept-at m live.in_use) within in
        let valid : IsHeader (u.header m) m = subst (λ (b : List ℕ). IsHeader b m) (sym same) live.valid in
        record {
          in_use = elim (cases_Bool (u.in_use m)) [
            | inl used ↦ used
            | inr gone ↦ absurd (dead-not-valid (u.header m) m (is.left m live.in_use gone) valid)
          ];
          valid = valid;
        };
  }

  -- so the headers of files are those that there were, each as it was
  pub files-keep : (n : ℕ) → IsInFile t n → IsInFile u n × (u.header n ≡ t.header n)
  files-keep n within = (in-new t u reclaiming-keeps n within, in-file-kept t u n (kept-at n (live_of-header within.of).in_use) within)

  pub files-were : (n : ℕ) → IsInFile u n → IsInFile t n
  files-were n within = in-old t u reclaiming-keeps n within

-- where a volume was reclaimed each orphan was killed
pub orphans-killed : (home : HomeFields) (old new : Image) → HasReclaimed home old new → (n : ℕ) → IsOrphan (table_of old home) n
    → (table_of new home).header n ≡ dead_header ((table_of old home).header n)
orphans-killed home old new did n orphan =
    let is = did.reclaiming in
    orphan-dead (table_of old home) (table_of new home) n (kept-at home old new is n orphan.live.in_use) orphan
    (elim (cases_Bool ((table_of new home).in_use n)) [
      | inl used ↦ absurd (orphan.of_none (files-were home old new is n ((did.slots n).0 used)))
      | inr gone ↦ is.left n orphan.live.in_use gone
    ])

pub reclaiming-none : (home : HomeFields) (image : Image) → HasSoundVolume image home → IsReclaiming home image image
reclaiming-none home image sound = record {
  freeing = record { sound = sound; frees = frees-none (store_of image home) };
  spares = λ lbn none out. refl;
  headers = same-kept (table_of image home) (table_of image home) refl;
  left = same-left (table_of image home) (table_of image home) refl;
  past = λ k high below. refl;
  order = order-kept home image image refl (λ i within. refl);
}

pub places-none : (home : HomeFields) (image : Image) → HasSoundVolume image home → KeepsPlaces home image image
places-none home image sound = record {
  reclaiming = reclaiming-none home image sound;
  alike = record { headers = refl; bitmap_lbn = refl; bitmap_blocks = refl; places = refl };
  bitmap = refl;
}

pub reclaiming-then : (home : HomeFields) (a b c : Image) → KeepsPlaces home a b → IsReclaiming home b c → IsReclaiming home a c
reclaiming-then home a b c one two = record {
  freeing = record {
    sound = two.freeing.sound;
    frees = frees-then (store_of a home) (store_of b home) (store_of c home) one.reclaiming.freeing.frees two.freeing.frees;
  };
  spares = λ lbn none out.
      two.spares lbn (alike-part any_header (index_of a home) (index_of b home) (storage_bitmap a home) (storage_bitmap b home) one.alike
      lbn none) out
      ∙ one.reclaiming.spares lbn none out;
  headers = λ n some few.
      let slots = slots-alike a b home one.alike.headers in
      kept-then (table_of a home) (table_of b home) (table_of c home) n
      (orphan-was (table_of a home) (table_of b home) (reclaiming-keeps home a b one.reclaiming) n) (one.reclaiming.headers n some few)
      (two.headers n some (omega (arith, few, slots)));
  left = λ n used gone.
      let slots = slots-alike a b home one.alike.headers in
      let (some, few) = used-slot a home n used in
      left-then (table_of a home) (table_of b home) (table_of c home) n (one.reclaiming.left n used) two.left
      (two.headers n some (omega (arith, few, slots))) gone;
  past = λ k high below. subst (λ (x : Bitmap). KeepsPast x b c) one.bitmap two.past k high below ∙ one.reclaiming.past k high below;
  order = order-then home a b c (reclaiming-keeps home b c two) (used-was home b c two) one.bitmap one.reclaiming.order two.order;
}

pub places-then : (home : HomeFields) (a b c : Image) → KeepsPlaces home a b → KeepsPlaces home b c → KeepsPlaces home a c
places-then home a b c one two = record {
  reclaiming = reclaiming-then home a b c one two.reclaiming;
  alike = record {
    headers = two.alike.headers ∙ one.alike.headers;
    bitmap_lbn = two.alike.bitmap_lbn ∙ one.alike.bitmap_lbn;
    bitmap_blocks = two.alike.bitmap_blocks ∙ one.alike.bitmap_blocks;
    places = two.alike.places ∙ one.alike.places;
  };
  bitmap = two.bitmap ∙ one.bitmap;
}

-- an index file at the same places
pub places-same : (home : HomeFields) (a b : Image) → IsReclaiming home a b → index_of b home ≡ index_of a home
    → storage_bitmap b home ≡ storage_bitmap a home → KeepsPlaces home a b
places-same home a b reclaiming index bitmap = record {
  reclaiming = reclaiming;
  alike = record {
    headers = ap (λ (x : Index). x.headers) index;
    bitmap_lbn = ap (λ (x : Index). x.bitmap_lbn) index;
    bitmap_blocks = ap (λ (x : Index). length x.bitmap) index;
    places = ap (λ (x : Bitmap). x.places) bitmap;
  };
  bitmap = bitmap;
}
