-- A run of free blocks that is marked used, for a file that is to have it.
use Rattle.std.proofs.Common.{◌≡◌, ◌+◌, ◌-◌, ◌<◌, ◌≤◌, ℕ, zero, suc, Bool, true, false, IsTrue, refl, sym, ap, subst, ◌∙◌, ◌++◌, inl, inr}
use Rattle.std.proofs.Common.{arith}
use Rattle.std.specs.List.{filter, range_with_len}
use Rattle.std.proofs.lemmas.Bool.{cases_lt, false≢true}
use Rattle.f11_bits.specs.Bitmap.{Bitmap, count_below, free_blocks, is_free, Marks, KeepsOthers}
use Rattle.f11_bits.specs.Calls.{Takes, FindsNone, FailsToTake}
use Rattle.f11_bits.specs.Changes.{Changing, Taking as TakingBits}
use Rattle.f11_bits.specs.Storage.{bitmap_of}
use Rattle.f11_bits.specs.Transfers.{blocks_from, blocks_to, blocks_touched}
use Rattle.f11_bits.specs.Storage as storage
use Rattle.f11_bits.specs.declared.storage.Storage.{Storage}
use Rattle.f11_bits.proofs.BitmapLemmas.{is_free-past}
use Rattle.f11_bits.proofs.CountLemmas.{count_below-zero, count_below-suc, one_if}
use Rattle.f11_dev.specs.Disk.{Disk}
use Rattle.f11_dev.specs.Image.{Image}
use Rattle.f11_dev.specs.Went.{Went}
use Rattle.f11_dev.proofs.WentLemmas.{went_looked, went_weaker}
use Rattle.f11_home.specs.Home.{HomeFields}
use Rattle.f11_index.specs.Kept.{IndexLiesWithin, room}
use Rattle.f11_store.specs.Store.{Store, free_headers, free_slots}
use Rattle.f11_store.specs.declared.refusals.Refusal.TheVariants.{DeviceFault, Damaged}
use Rattle.f11_volume.specs.Space.{storage_bitmap}
use Rattle.f11_volume.specs.Volume.{volume_of}
use Rattle.f11_writes.specs.Kept.{KeepsButFree}
use Rattle.f11_writes.specs.NameLaws.{AreUnreferenced}
use Rattle.f11_writes.proofs.BitmapLemmas.{used-keeps, outside}
use Rattle.f11_writes.proofs.NameLemmas.{taken-unreferenced}
use Rattle.f11_image_store.specs.Allocation.{free_list}
use Rattle.f11_writes.specs.Order.{WritesInOrder}
use Rattle.f11_writes.proofs.InOrderLemmas.{order-marked}
use Rattle.f11_files.specs.Answers.{Breaks}
use Rattle.f11_files.specs.Extending.Growing.{IsTaking, WhileTaking}
use Rattle.f11_store.specs.Pieces.{TakesSome}
use Rattle.f11_image_store.specs.StoreOf.{store_of}
use Rattle.f11_files.specs.Structure.{index_in, bitmap_in, home_of, store_on, IsStructureFor, StaysFor}
use Rattle.f11_files.specs.Extending.Take.{NoneFreeBelow, TakesNextRun, with_fewer_free}
use Rattle.f11_files.specs.declared.structure.Structure.{Structure}
use Rattle.f11_image_store.proofs.AllocationLemmas.{lowest-taken}
use Rattle.f11_files.proofs.Removing.Freeing.{writes-within}
use Rattle.f11_files.proofs.Extending.Growing.{breaks-fault, sound-growing, taking-sound, went-writes}
use Rattle.f11_image_store.proofs.StoreLemmas.{fewer-free}

same-slots : (s : Store) (part : ℕ) → free_headers (with_fewer_free s part) ≡ free_headers s
unfolding free_slots
same-slots s part = refl

-- a store with some fewer free
pub takes-blocks : (s : Store) (part most : ℕ) → part ≤ most → TakesSome most 0 s (with_fewer_free s part)
takes-blocks s part most few = record {
  files = λ n. refl;
  free = omega (arith, few);
  unused = λ n unused. unused;
  slots_free = omega (arith, same-slots s part);
  last = λ n. inl refl;
  no_header = λ _ n. refl;
  slots = refl;
  limits = record { bitmap_blocks = refl; index_bitmap_blocks = refl; limit = refl };
}

-- where none passes a test, none is counted
none-counted : (test : ℕ → Bool) (n : ℕ) → ((k : ℕ) → test k ≡ false) → count_below test n ≡ 0
none-counted test zero none = count_below-zero test
none-counted test (suc n) none = omega (arith, count_below-suc test n, ap one_if (none n), none-counted test n none)

-- the number of free blocks of a store is that of its storage bitmap
store-free : (image : Image) (home : HomeFields) → (store_of image home).free ≡ free_blocks image (storage_bitmap image home)
unfolding store_of
store-free image home = refl

module _ (s : Structure) (from most : ℕ) (old : Disk) (for : IsStructureFor s old) where
  abbrev home : HomeFields
  home = home_of s

  abbrev st : Store
  st = store_on s old

  bitmap : IsTrue old.honest → bitmap_in s ≡ storage_bitmap old.image home
  bitmap honest = (for.keeps honest).bitmap_is

  -- a front of a run of free blocks was marked used
  module _ (lbn count part : ℕ) (image : Image) (some : 0 < part) (within : part ≤ count) (asked : count ≤ most)
      (honest : IsTrue old.honest)
      (each : (k : ℕ) → lbn ≤ k → k < lbn + count → is_free old.image (bitmap_in s) k ≡ true)
      (marks : Marks false (bitmap_in s) lbn part old.image image) where
    marks-there : Marks false (storage_bitmap old.image home) lbn part old.image image
    marks-there = subst (λ (b : Bitmap). Marks false b lbn part old.image image) (bitmap honest) marks

    front-free : (k : ℕ) → lbn ≤ k → k < lbn + part → is_free old.image (storage_bitmap old.image home) k ≡ true
    front-free k low high = ap (λ (b : Bitmap). is_free old.image b k) (sym (bitmap honest)) ∙ each k low (omega (arith, high, within))

    pub front-keeps : KeepsButFree home old.image image
    front-keeps = used-keeps old.image image home lbn part (for.sound honest) marks-there

    -- the last block of the front is free, and so in the volume
    front-inside : lbn + part ≤ (storage_bitmap old.image home).size
    front-inside = elim (cases_lt (lbn + part - 1) (storage_bitmap old.image home).size) [
      | inl inside ↦ omega (arith, inside, some)
      | inr past ↦ let free =
          front-free (lbn + part - 1) (omega (arith, some)) (omega (arith, some)) in
          let used = is_free-past old.image (storage_bitmap old.image home) (lbn + part - 1) past in absurd cc
    ]

    pub front-store : store_of image home ≡ with_fewer_free st part
    front-store = fewer-free old.image image home lbn part front-keeps marks-there front-inside front-free

    front-takes : IsTaking home most 0 st image
    front-takes = record {
      sound = front-keeps.sound;
      takes = subst (TakesSome most 0 st) (sym front-store) (takes-blocks st part most (omega (arith, within, asked)));
    }

    pub front-unreferenced : AreUnreferenced (volume_of image home) lbn part
    front-unreferenced = taken-unreferenced old.image image home lbn part (for.sound honest) marks-there front-inside front-free

  -- the images that stand while a run is marked used
  pub run-moment : (lbn count : ℕ) → count ≤ most
      → (IsTrue old.honest → (k : ℕ) → lbn ≤ k → k < lbn + count → is_free old.image (bitmap_in s) k ≡ true)
      → (image : Image) → Changing old.honest false (bitmap_in s) lbn count old.image image → WhileTaking home most 0 st old image
  run-moment lbn count asked each image is honest =
      let marking = is.marking honest in
      front-takes lbn count marking.part image marking.some marking.within asked honest (each honest) marking.marks

  -- the writes are in order
  pub taken-order : (P : Image → Type 0)
      → ((image : Image) → P image → (lbn : ℕ) × (count : ℕ) × Changing old.honest false (bitmap_in s) lbn count old.image image)
      → (new : Disk) {transfers faults : ℕ} → Went P old new transfers faults → WritesInOrder old new
  taken-order P changing new went =
      order-marked P old new home for.sound
      (λ honest image is.
      let (lbn, count, here) = changing image is in
      let marking = here.marking honest in
      record {
        keeps = subst (λ (b : Bitmap). KeepsOthers b old.image image) (bitmap honest) here.keeps;
        only = λ k free. elim (outside false (storage_bitmap old.image home) lbn marking.part k old.image image
            (subst (λ (b : Bitmap). Marks false b lbn marking.part old.image image) (bitmap honest) marking.marks) free) [
              | inl was ↦ inl was
              | inr row ↦ absurd (false≢true (sym (marking.marks.inside k row.0 row.1)
                  ∙ ap (λ (b : Bitmap). is_free image b k) (bitmap honest) ∙ free))
            ];
      }) went

  first-moment : (image : Image) → TakingBits old.honest (bitmap_in s) from most old.image image → WhileTaking home most 0 st old image
  first-moment image is honest = run-moment is.lbn is.count (is.run honest).asked (λ sure. (is.run sure).each) image is.changing honest

  pub fails-taking : (new : Disk) → FailsToTake (bitmap_in s) from most old new
      → Breaks (WhileTaking home most 0 st old) (blocks_from (bitmap_in s) from + 2) DeviceFault old new
  fails-taking new fails =
      breaks-fault (went-writes
      (went_weaker (TakingBits old.honest (bitmap_in s) from most old.image) (WhileTaking home most 0 st old) first-moment fails))

  -- on an honest disk a block is free, where some are asked for
  pub finds-none : (new : Disk) → 0 < most → (IsTrue old.honest → most ≤ st.free)
      → (IsTrue old.honest → NoneFreeBelow old.image (bitmap_in s) from) → FindsNone (bitmap_in s) from old new
      → Breaks (WhileTaking home most 0 st old) (blocks_from (bitmap_in s) from + 2) Damaged old new
  finds-none new some enough below finds = record {
    fatal = refl;
    undamaged = λ honest _.
        let all : (k : ℕ) → is_free old.image (bitmap_in s) k ≡ false =
        λ k. elim (cases_lt k from) [ inl low ↦ below honest k low | inr high ↦ finds.none honest k high ] in
        let none = none-counted (is_free old.image (bitmap_in s)) (bitmap_in s).size all in
        let free = store-free old.image home in
        let same = ap (free_blocks old.image) (bitmap honest) in
        let many = enough honest in
        omega (arith, none, free, same, many, some);
    writes = writes-within (λ _. omega arith) (went-writes (went_looked (WhileTaking home most 0 st old) finds.looked));
  }

  module _ (lbn count : ℕ) (new : Disk) (below : IsTrue old.honest → NoneFreeBelow old.image (bitmap_in s) from)
      (takes : Takes (bitmap_in s) from most lbn count old new) where
    went : Went (WhileTaking home most 0 st old) old new (blocks_to (bitmap_in s) from (lbn + count) + blocks_touched lbn count) 0
    went =
        went_weaker (Changing old.honest false (bitmap_in s) lbn count old.image) (WhileTaking home most 0 st old)
        (run-moment lbn count takes.within.asked (λ sure. (takes.first sure).each)) takes.marked.went

    none-before : IsTrue old.honest → NoneFreeBelow old.image (bitmap_in s) lbn
    none-before honest k before =
        elim (cases_lt k from) [ inl early ↦ below honest k early | inr late ↦ (takes.first honest).first k late before ]

    none-left : IsTrue old.honest → NoneFreeBelow new.image (bitmap_in s) (lbn + count)
    none-left honest k low = elim (cases_lt k lbn) [
      | inl before ↦ (takes.marked.marks honest).before k before ∙ none-before honest k before
      | inr inside ↦ (takes.marked.marks honest).inside k inside low
    ]

    module _ (honest : IsTrue old.honest) where
      kept : KeepsButFree home old.image new.image
      kept =
          front-keeps lbn count count new.image takes.within.some (omega arith) takes.within.asked honest (takes.first honest).each
          (takes.marked.marks honest)

      store-now : store_of new.image home ≡ with_fewer_free st count
      store-now =
          front-store lbn count count new.image takes.within.some (omega arith) takes.within.asked honest (takes.first honest).each
          (takes.marked.marks honest)

      unreferenced-now : AreUnreferenced (volume_of new.image home) lbn count
      unreferenced-now =
          front-unreferenced lbn count count new.image takes.within.some (omega arith) takes.within.asked honest (takes.first honest).each
          (takes.marked.marks honest)

      lowest-now : free_list (volume_of old.image home) ≡ range_with_len lbn count ++ free_list (volume_of new.image home)
      unfolding free_list volume_of
      lowest-now =
          ap (λ (b : Bitmap). filter (is_free old.image b) (range_with_len 0 b.size)) (sym (bitmap honest))
          ∙ lowest-taken (is_free old.image (bitmap_in s)) (is_free new.image (bitmap_in s)) (bitmap_in s).size lbn count
          takes.within.within (none-before honest) (takes.first honest).each (none-left honest)
          (takes.marked.marks honest).after
          ∙ ap (λ (b : Bitmap). range_with_len lbn count ++ filter (is_free new.image b) (range_with_len 0 b.size))
          (bitmap honest ∙ sym kept.bitmap)

    pub takes-run : (t : Structure) → index_in t ≡ index_in s → bitmap_in t ≡ bitmap_in s → room t.index ≡ room s.index
        → TakesNextRun s t from most lbn count old new
    takes-run t index bitmaps left = record {
      index = index;
      bitmap = bitmaps;
      left = left;
      within = takes.within;
      keeps = kept;
      unreferenced = unreferenced-now;
      none_below = none-left;
      lowest = lowest-now;
      store = store-now;
      writes = went-writes went;
    }

    pub take-stays : (t : Storage) → bitmap_of t ≡ bitmap_in s → storage.IsFor t new → StaysFor false s (record s { storage = t }) new
    take-stays t same is = record {
      home = refl;
      lies = λ _. record {
        index = subst (λ (n : ℕ). IndexLiesWithin (index_in s) n) (sym went.size) for.lies.index;
        bitmap = is.within;
        volume = let size = ap (λ (b : Bitmap). b.size) same in let device = went.size in let was = for.lies.volume in
            omega (arith, size, device, was);
      };
      sound = sound-growing (taking-sound home most 0 st old) for.sound (went-writes went);
      keeps = λ _ honest.
          let was = sym went.honest ∙ honest in
          record {
            index_is = (for.keeps was).index_is ∙ sym (kept was).index_file.index;
            bitmap_is = same ∙ bitmap was ∙ sym (kept was).bitmap;
            storage = is.keeps honest;
          };
    }
