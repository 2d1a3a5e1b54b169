-- Blocks that no header names, which become free, a block of the storage bitmap after another.
use Rattle.std.proofs.Common.{◌≡◌, ◌≢◌, ◌⊎◌, ◌+◌, ◌-◌, ◌*◌, ◌/◌, ◌%◌, ◌<◌, ◌≤◌, ℕ, Bool, true, false, IsTrue, [], List, length, get_or, inl}
use Rattle.std.proofs.Common.{inr}
use Rattle.std.proofs.Common.{Some, set, refl, sym, ap, subst, ◌∙◌, arith}
use Rattle.std.specs.List.{slice_get}
use Rattle.std.proofs.lemmas.Bool.{both_ways, cases_eq, cases_lt}
use Rattle.f11_bits.specs.Bitmap.{Bitmap, IsBitmap, LiesWithin, bitmap_bit, is_free, KeepsOthers}
use Rattle.f11_bits.specs.Replacing.{BitmapBlockChanges, HasBitsPast, Replaces}
use Rattle.f11_bits.proofs.BitmapLemmas.{bitmap_bit-here, is_free-past, is_free-same}
use Rattle.f11_bits.proofs.LawLemmas.{bitmap_bit-same}
use Rattle.f11_bits.proofs.ReplaceLemmas.{replaces-write}
use Rattle.f11_bytes.specs.Bits.{bit}
use Rattle.f11_dev.specs.Disk.{Disk, with_transfer, with_block_at}
use Rattle.f11_dev.specs.Image.{Image}
use Rattle.f11_dev.proofs.LookedLemmas.{looked_none}
use Rattle.f11_dev.proofs.WentLemmas.{went_looked, went_more, went_write, went_failed_write}
use Rattle.f11_home.specs.Home.{HomeFields}
use Rattle.f11_index.specs.IndexFile.{Index, index_of}
use Rattle.f11_index.specs.Table.{Table, table_of}
use Rattle.f11_image_store.proofs.ConfinesLemmas.{spares-bitmap}
use Rattle.f11_image_store.proofs.FreeingLemmas.{unnamed-freed}
use Rattle.f11_vfy.specs.Reclaiming.Moments.{any_header, IsReclaiming, KeepsPlaces, KeepsPast, Moment}
use Rattle.f11_vfy.specs.Reclaiming.Slots.{CountsUpTo, UsedAreOfFiles, none, such, other}
use Rattle.f11_vfy.specs.Reclaiming.Steps.{may_be_free, IsToChange, IsTold, IsChangedBlock, HasFreedUpTo, FreesUnnamed, FailsToFree}
use Rattle.f11_vfy.specs.Surveying.Bits.{has}
use Rattle.f11_vfy.specs.declared.survey.bits.Bits.{Bits}
use Rattle.f11_vfy.proofs.Reclaiming.Dead.{same-kept, same-left}
use Rattle.f11_vfy.proofs.Reclaiming.Places.{places-none, places-then, places-same, reclaiming-then}
use Rattle.f11_vfy.proofs.Reclaiming.Storage.{block-changed, changed-block, counts-on, unchanged-then, stays-changed}
use Rattle.f11_volume.specs.Sound.{HasSoundVolume}
use Rattle.f11_volume.specs.Space.{storage_bitmap}
use Rattle.f11_volume.specs.Volume.{volume_of, IsNamed}
use Rattle.f11_volume.proofs.FileLemmas.{bitmap-is}
use Rattle.f11_image_store.specs.writes.Kept.{KeepsButFree}
use Rattle.f11_image_store.proofs.writes.BitmapLemmas.{bitmap-keeps}

-- a free block is in the volume
free-inside : (image : Image) (bitmap : Bitmap) (lbn : ℕ) → is_free image bitmap lbn ≡ true → lbn < bitmap.size
free-inside image bitmap lbn free = elim (cases_lt lbn bitmap.size) [
  | inl inside ↦ inside
  | inr past ↦ absurd (both_ways _ (is_free-past image bitmap lbn past) free)
]

-- and no header names it
pub free-unnamed : (image : Image) (home : HomeFields) (lbn : ℕ) → HasSoundVolume image home
    → is_free image (storage_bitmap image home) lbn ≡ true → ¬ IsNamed (table_of image home) lbn
unfolding volume_of
free-unnamed image home lbn sound free named = both_ways _ (sound.sound.taken named.header named.place lbn named.cell) free

-- two tests that aren't otherwise are the same
same-unless : (a b : Bool) → ¬ (a ≢ b) → a ≡ b
same-unless true true not_other = refl
same-unless false false not_other = refl
same-unless true false not_other = absurd (not_other (λ same. cc))
same-unless false true not_other = absurd (not_other (λ same. cc))

-- none so far
pub space-none : (bitmap : Bitmap) (known named unreferenced : Bits) (last : List ℕ) (disk : Disk)
    → FreesUnnamed bitmap known named unreferenced last 0 disk disk
space-none bitmap known named unreferenced last disk = record {
  frees = λ honest home told. record {
    places = places-none home disk.image told.sound;
    table = refl;
    free = λ lbn below. absurd (omega (arith, below));
    rest = λ i high few changes. changes refl;
  };
  count = 0;
  counts = λ honest home told. none;
  went = went_looked (Moment (IsTold bitmap known named unreferenced last) disk) (looked_none disk);
}

module _ (bitmap : Bitmap) (known named unreferenced : Bits) (last : List ℕ) (i : ℕ) (old now : Disk)
    (so_far : FreesUnnamed bitmap known named unreferenced last i old now)
    (few : i < length bitmap.places) where
  so-until : (honest : IsTrue old.honest) (home : HomeFields) → IsTold bitmap known named unreferenced last home old.image
      → HasFreedUpTo i bitmap home old.image now.image
  so-until honest home told = so_far.frees honest home told

  -- this bitmap block is as it was until then
  still : (honest : IsTrue old.honest) (home : HomeFields) → IsTold bitmap known named unreferenced last home old.image
      → ¬ BitmapBlockChanges bitmap i old.image now.image
  still honest home told changes =
      (so-until honest home told).rest (i + 1) (omega arith) (omega (arith, few)) (block-changed bitmap old.image now.image i changes)

  -- so its bits are
  bit-still : (honest : IsTrue old.honest) (home : HomeFields) → IsTold bitmap known named unreferenced last home old.image → (k : ℕ)
      → k / 4096 ≡ i → bitmap_bit now.image bitmap k ≡ bitmap_bit old.image bitmap k
  bit-still honest home told k here =
      same-unless _ _ (λ differs. still honest home told (λ same.
      differs (bitmap_bit-same bitmap old.image now.image k
      (subst (λ (x : ℕ). slice_get now.image (get_or bitmap.places x 0) ≡ slice_get old.image (get_or bitmap.places x 0)) (sym here)
      same))))

  -- and a block is free in it as it was read
  as-read : (honest : IsTrue old.honest) (home : HomeFields) → IsTold bitmap known named unreferenced last home old.image → (lbn : ℕ)
      → lbn / 4096 ≡ i
      → is_free now.image bitmap lbn ≡ has known lbn
  as-read honest home told lbn here =
      is_free-same old.image now.image bitmap lbn (bit-still honest home told lbn here) ∙ sym (told.free_are lbn)

  -- no bit of it is to change
  pub space-same : ¬ IsToChange bitmap.size known named unreferenced i → FreesUnnamed bitmap known named unreferenced last (i + 1) old now
  space-same none_here = record {
    frees = λ honest home told.
        let so = so-until honest home told in
        record {
          places = so.places;
          table = so.table;
          free = λ lbn below inside unnamed. elim (cases_eq (lbn / 4096) i) [
            | inl here ↦
                as-read honest home told lbn here
                ∙ same-unless _ _ (λ differs. none_here (record { lbn = lbn; here = here; inside = inside; otherwise = differs }))
                ∙ (told.tells lbn inside).1 unnamed
            | inr apart ↦ so.free lbn (omega (arith, below, apart)) inside unnamed
          ];
          rest = λ m high within. so.rest m (omega (arith, high)) within;
        };
    count = so_far.count;
    counts = λ honest home told.
        other i so_far.count (so_far.counts honest home told)
        (λ changed. still honest home told (changed-block bitmap old.image now.image i changed));
    went = so_far.went;
  }

  -- where it is written, on the device
  pub placed-still : LiesWithin bitmap (length old.image) → get_or bitmap.places i 0 < length now.image
  placed-still lies = let there = lies i few in let size = so_far.went.size in omega (arith, there, size)

module _ (bitmap : Bitmap) (known named unreferenced : Bits) (last : List ℕ) (i : ℕ) (block : List ℕ) (old now : Disk)
    (so_far : FreesUnnamed bitmap known named unreferenced last i old now)
    (wanted_is : (k : ℕ) → k < 4096 → 4096 * i + k < bitmap.size → bit block k ≡ may_be_free named unreferenced (4096 * i + k))
    (past_is : (k : ℕ) → bitmap.size ≤ 4096 * i + k → bit block k ≡ bit last k)
    (few : i < length bitmap.places) (change : IsToChange bitmap.size known named unreferenced i)
    (lies : LiesWithin bitmap (length old.image))
  where
    abbrev place : ℕ
    place = get_or bitmap.places i 0

    abbrev image : Image
    image = set now.image place block

    module _ (honest : IsTrue old.honest) (home : HomeFields) (told : IsTold bitmap known named unreferenced last home old.image) where
      abbrev t : Table
      t = table_of old.image home

      so : HasFreedUpTo i bitmap home old.image now.image
      so = so_far.frees honest home told

      sound : HasSoundVolume now.image home
      sound = so.places.reclaiming.freeing.sound

      bitmap-now : bitmap ≡ storage_bitmap now.image home
      bitmap-now = told.bitmap_is ∙ sym so.places.bitmap

      valid : IsBitmap bitmap
      valid = subst IsBitmap (sym bitmap-now) (bitmap-is now.image home sound).0

      -- only the last bitmap block has bits past the size
      bits-past : HasBitsPast bitmap i block now.image
      bits-past k here past =
          let last_one : (bitmap.size - 1) / 4096 ≡ i = omega (arith, here, past, change.here, change.inside) in
          past_is (k % 4096) (omega (arith, here, past))
          ∙ sym (bitmap_bit-here old.image bitmap i k last here
          (subst (λ (x : ℕ). slice_get old.image (get_or bitmap.places x 0) ≡ Some last) last_one told.last_is))
          ∙ sym (bit-still bitmap known named unreferenced last i old now so_far few honest home told k here)

      is : Replaces bitmap i block now.image image
      is = replaces-write bitmap i block now.image valid few
          (placed-still bitmap known named unreferenced last i old now so_far few lies) bits-past

      -- whether a block may be free, by its bit
      wanted-at : (lbn : ℕ) → lbn / 4096 ≡ i → lbn < bitmap.size → bit block (lbn % 4096) ≡ may_be_free named unreferenced lbn
      wanted-at lbn here inside =
          let number : 4096 * i + lbn % 4096 ≡ lbn = omega (arith, here) in
          wanted_is (lbn % 4096) (omega arith) (omega (arith, number, inside)) ∙ ap (may_be_free named unreferenced) number

      only : (lbn : ℕ) → is_free image bitmap lbn ≡ true → (is_free now.image bitmap lbn ≡ true) ⊎ (¬ IsNamed (table_of now.image home) lbn)
      only lbn free = elim (cases_eq (lbn / 4096) i) [
        | inl here ↦
            let inside = free-inside image bitmap lbn free in
            inr (subst (λ (u : Table). ¬ IsNamed u lbn) (sym so.table)
            ((told.tells lbn inside).0 (sym (wanted-at lbn here inside) ∙ sym (is.here lbn here inside) ∙ free)))
        | inr apart ↦ inl (sym (is.elsewhere lbn apart) ∙ free)
      ]

      -- the bitmap block is another than it was: the block whose bit is to change isn't free as it was
      changes-here : BitmapBlockChanges bitmap i now.image image
      changes-here same =
          change.otherwise
          (sym (as-read bitmap known named unreferenced last i old now so_far few honest home told change.lbn change.here)
          ∙ sym (is_free-same now.image image bitmap change.lbn
          (bitmap_bit-same bitmap now.image image change.lbn
          (subst (λ (x : ℕ). slice_get image (get_or bitmap.places x 0) ≡ slice_get now.image (get_or bitmap.places x 0)) (sym change.here)
          same)))
          ∙ is.here change.lbn change.here change.inside
          ∙ wanted-at change.lbn change.here change.inside)

      -- one that no header names is free then
      here-free : (lbn : ℕ) → lbn / 4096 ≡ i → lbn < bitmap.size → ¬ IsNamed t lbn → is_free image bitmap lbn ≡ true
      here-free lbn here inside unnamed = is.here lbn here inside ∙ wanted-at lbn here inside ∙ (told.tells lbn inside).1 unnamed

      stays : (lbn : ℕ) → is_free now.image bitmap lbn ≡ true → is_free image bitmap lbn ≡ true
      stays lbn free = elim (cases_eq (lbn / 4096) i) [
        | inl here ↦
            here-free lbn here (free-inside now.image bitmap lbn free)
            (subst (λ (u : Table). ¬ IsNamed u lbn) so.table
            (free-unnamed now.image home lbn sound (ap (λ (b : Bitmap). is_free now.image b lbn) (sym bitmap-now) ∙ free)))
        | inr apart ↦ is.elsewhere lbn apart ∙ free
      ]

      keeps : KeepsOthers (storage_bitmap now.image home) now.image image
      keeps = subst (λ (b : Bitmap). KeepsOthers b now.image image) bitmap-now is.keeps

      abbrev Only : Bitmap → Type 0
      Only b = (lbn : ℕ) → is_free image b lbn ≡ true → (is_free now.image b lbn ≡ true) ⊎ (¬ IsNamed (table_of now.image home) lbn)

      abbrev Stays : Bitmap → Type 0
      Stays b = (lbn : ℕ) → is_free now.image b lbn ≡ true → is_free image b lbn ≡ true

      kept : KeepsButFree home now.image image
      kept = bitmap-keeps now.image image home sound keeps (subst Only bitmap-now only)

      reclaiming : IsReclaiming home now.image image
      reclaiming = record {
        freeing = unnamed-freed now.image image home sound keeps (subst Only bitmap-now only) (subst Stays bitmap-now stays);
        spares = spares-bitmap any_header (index_of now.image home) (storage_bitmap now.image home) [] now.image image keeps;
        headers = same-kept (table_of now.image home) (table_of image home) kept.index_file.table;
        left = same-left (table_of now.image home) (table_of image home) kept.index_file.table;
        past = subst (λ (b : Bitmap). KeepsPast b now.image image) bitmap-now is.past;
        order = record {
          kills_first = inl (ap (λ (x : Index). x.bitmap) kept.index_file.index);
          clears_first = inr (subst UsedAreOfFiles (sym (kept.index_file.table ∙ so.table)) told.slots);
        };
      }

      places : KeepsPlaces home now.image image
      places = places-same home now.image image reclaiming kept.index_file.index kept.bitmap

      stands : IsReclaiming home old.image image
      stands = reclaiming-then home old.image now.image image so.places reclaiming

      more : HasFreedUpTo (i + 1) bitmap home old.image image
      more = record {
        places = places-then home old.image now.image image so.places places;
        table = kept.index_file.table ∙ so.table;
        free = λ lbn below inside unnamed. elim (cases_eq (lbn / 4096) i) [
          | inl here ↦ here-free lbn here inside unnamed
          | inr apart ↦ is.elsewhere lbn apart ∙ so.free lbn (omega (arith, below, apart)) inside unnamed
        ];
        rest = λ m high within.
            unchanged-then bitmap (m - 1) old.image now.image image (so.rest m (omega (arith, high)) within)
            (is.others (m - 1) (omega (arith, high, within)) (λ same. omega (arith, same, high)));
      }

      -- how many were other than they were before this one
      counts-before : CountsUpTo (IsChangedBlock bitmap old.image image) i so_far.count
      counts-before = counts-on bitmap old.image now.image image i so_far.count
          (λ j low. is.others j (omega (arith, low, few)) (λ same. omega (arith, same, low))) (so_far.counts honest home told)

      counts-more : CountsUpTo (IsChangedBlock bitmap old.image image) (i + 1) (so_far.count + 1)
      counts-more =
          such i so_far.count counts-before
          (block-changed bitmap old.image image i
          (stays-changed bitmap i old.image now.image image
          (still bitmap known named unreferenced last i old now so_far few honest home told) changes-here))

    abbrev P : Image → Type 0
    P = Moment (IsTold bitmap known named unreferenced last) old

    pub space-more : (new : Disk) → new ≡ with_transfer true (with_block_at place block now)
        → FreesUnnamed bitmap known named unreferenced last (i + 1) old new
    space-more new wrote =
        let image_is : image ≡ new.image = ap (λ (d : Disk). d.image) (sym wrote) in
        record {
          frees = λ honest home told. subst (HasFreedUpTo (i + 1) bitmap home old.image) image_is (more honest home told);
          count = so_far.count + 1;
          counts = λ honest home told.
              subst (λ (x : Image). CountsUpTo (IsChangedBlock bitmap old.image x) (i + 1) (so_far.count + 1)) image_is
              (counts-more honest home told);
          went = went_more P so_far.went (went_write P now new place block wrote stands);
        }

    pub space-fail : (new : Disk) → (new ≡ with_transfer false now) ⊎ (new ≡ with_transfer false (with_block_at place block now))
        → FailsToFree bitmap known named unreferenced last old new
    space-fail new failed = record {
      upto = i;
      within = few;
      count = so_far.count;
      counts = λ honest home told. elim failed [
        | inl left ↦
            subst (λ (x : Image). CountsUpTo (IsChangedBlock bitmap old.image x) i so_far.count) (ap (λ (d : Disk). d.image) (sym left))
            (so_far.counts honest home told)
        | inr landed ↦
            subst (λ (x : Image). CountsUpTo (IsChangedBlock bitmap old.image x) i so_far.count) (ap (λ (d : Disk). d.image) (sym landed))
            (counts-before honest home told)
      ];
      went = went_more P so_far.went (went_failed_write P now new place block failed stands);
    }
