-- A run of blocks that was marked used, for a file or for the index file: what is so before it is named.
use Rattle.std.proofs.Common.{◌≡◌, ◌+◌, ◌-◌, ◌*◌, ◌/◌, ◌<◌, ◌≤◌, ℕ, false, IsTrue, refl, sym, ap, subst, ◌∙◌, arith}
use Rattle.std.specs.List.{range_with_len}
use Rattle.f11_bits.specs.Bitmap.{Bitmap, is_free}
use Rattle.f11_bits.specs.Transfers.{blocks_from, blocks_to, blocks_touched}
use Rattle.f11_dev.specs.Disk.{Disk}
use Rattle.f11_home.specs.Home.{HomeFields}
use Rattle.f11_index.specs.Headers.{IsLastOf}
use Rattle.f11_index.specs.IndexFile.{Index, is_in_use}
use Rattle.f11_index.specs.Table.{Table, table_of}
use Rattle.f11_store.specs.Store.{Store}
use Rattle.f11_store.specs.declared.callers.Uic.{Uic}
use Rattle.f11_volume.specs.Space.{storage_bitmap}
use Rattle.f11_volume.specs.Volume.{volume_of}
use Rattle.f11_image_store.specs.Allocation.{AddsZeroSlots, GainsBlocksAs, NamesMore}
use Rattle.f11_store.specs.Pieces.{with_more_free}
use Rattle.f11_files.specs.Extending.Growing.{SameFree}
use Rattle.f11_image_store.specs.StoreOf.{store_of}
use Rattle.f11_files.specs.Structure.{bitmap_in, home_of, store_on, IsStructureFor, StaysFor}
use Rattle.f11_files.specs.Extending.Tail.{HoldsLast}
use Rattle.f11_files.specs.Extending.Take.{NoneFreeBelow, TakesNextRun, with_fewer_free}
use Rattle.f11_files.specs.declared.structure.Structure.{Structure}
use Rattle.f11_files.specs.declared.extend.tail.Tail.{Tail}
use Rattle.f11_image_store.proofs.AllocationLemmas.{gains-run}
use Rattle.f11_files.proofs.Finding.First.{table-of}
use Rattle.f11_files.proofs.Removing.Freeing.{stays-for}

-- blocks that were taken and aren't
pub fewer-more : (s : Store) (count : ℕ) → count ≤ s.free → with_more_free (with_fewer_free s count) count ≡ s
fewer-more s count few = let sum : s.free - count + count ≡ s.free = omega (arith, few) in ap (λ (n : ℕ). record s { free = n }) sum

-- the transfers of taking a run, of making zeros and of naming it
pub run-cost : (bitmap : Bitmap) (from lbn count : ℕ) → from ≤ lbn → 0 < count → count ≤ 256
    → blocks_to bitmap from (lbn + count) + blocks_touched lbn count + (count + 1) ≤ (lbn + count) / 4096 - from / 4096 + 5 * count
run-cost bitmap from lbn count above some few = omega (arith, above, some, few)

pub break-cost : (bitmap : Bitmap) (from most lbn count : ℕ) → from ≤ lbn → 0 < count → count ≤ 256 → count ≤ most
    → blocks_to bitmap from (lbn + count) + blocks_touched lbn count + (count + 4) ≤ blocks_from bitmap from + 5 * most + 3
break-cost bitmap from most lbn count above some few asked = omega (arith, above, some, few, asked)

module _ (s t : Structure) (tail : Tail) (from most lbn count : ℕ) (old mid : Disk) (for : IsStructureFor s old)
    (last : HoldsLast s tail old) (enough : IsTrue old.honest → most ≤ (store_on s old).free)
    (takes : TakesNextRun s t from most lbn count old mid) (stays : StaysFor false s t mid) where
  abbrev home : HomeFields
  home = home_of s

  abbrev st : Store
  st = store_on s old

  abbrev now : Store
  now = store_on t mid

  was-honest : IsTrue mid.honest → IsTrue old.honest
  was-honest honest = sym takes.writes.went.honest ∙ honest

  pub store-mid : IsTrue old.honest → now ≡ with_fewer_free st count
  store-mid honest = ap (store_of mid.image) stays.home ∙ takes.store honest

  -- the blocks free again
  pub store-free : IsTrue old.honest → with_more_free now count ≡ st
  store-free honest =
      let many = enough honest in
      let few = takes.within.asked in
      ap (λ (x : Store). with_more_free x count) (store-mid honest) ∙ fewer-more st count (omega (arith, many, few))

  pub run-for : IsStructureFor t mid
  run-for = stays-for stays

  tables : IsTrue old.honest → table_of mid.image home ≡ table_of old.image home
  tables honest = (takes.keeps honest).index_file.table

  pub run-last : HoldsLast t tail mid
  run-last = record {
    header = record {
      in_use = ap (λ (x : Index). is_in_use x tail.number) takes.index ∙ last.header.in_use;
      valid = last.header.valid;
      block_is = λ honest.
          let before = was-honest honest in
          last.header.block_is before
          ∙ ap (λ (x : Table). x.header tail.number)
          (table-of s old for before ∙ sym (tables before) ∙ ap (table_of mid.image) (sym stays.home)
          ∙ sym (table-of t mid run-for honest));
    };
    no_link = last.no_link;
    few = last.few;
    is_last = λ honest.
        let before = was-honest honest in
        subst (λ (h : HomeFields). IsLastOf (table_of mid.image h) tail.file.number tail.number) (sym stays.home)
        (subst (λ (x : Table). IsLastOf x tail.file.number tail.number) (sym (tables before)) (last.is_last before));
  }

  -- the storage bitmap is where it was
  bitmap-mid : IsTrue mid.honest → storage_bitmap mid.image home ≡ bitmap_in s
  bitmap-mid there = ap (storage_bitmap mid.image) (sym stays.home) ∙ sym (stays.keeps refl there).bitmap_is ∙ takes.bitmap

  bitmap-then : (u : Structure) (new : Disk) → bitmap_in u ≡ bitmap_in t → StaysFor false t u new → IsTrue new.honest
      → storage_bitmap new.image home ≡ bitmap_in s
  bitmap-then u new bitmap kept honest =
      ap (storage_bitmap new.image) (sym stays.home ∙ sym kept.home) ∙ sym (kept.keeps refl honest).bitmap_is ∙ bitmap ∙ takes.bitmap

  -- once it is named, and the free blocks are as they were
  pub none-left : (u : Structure) (new : Disk) → bitmap_in u ≡ bitmap_in t → new.honest ≡ mid.honest
      → (IsTrue mid.honest → SameFree (home_of t) mid.image new.image) → StaysFor false t u new
      → IsTrue old.honest → NoneFreeBelow new.image (bitmap_in s) (lbn + count)
  unfolding volume_of
  none-left u new bitmap still free kept honest j low =
      let there = takes.writes.went.honest ∙ honest in
      let same : SameFree home mid.image new.image = subst (λ (h : HomeFields). SameFree h mid.image new.image) stays.home (free there) in
      ap (λ (b : Bitmap). is_free new.image b j) (sym (bitmap-then u new bitmap kept (still ∙ there))) ∙ (λ i. same i j)
      ∙ ap (λ (b : Bitmap). is_free mid.image b j) (bitmap-mid there)
      ∙ takes.none_below honest j low

  -- the file has the run then
  pub run-gained : (u : Structure) (new : Disk) (f : ℕ) (ownership : Uic × ℕ) → bitmap_in u ≡ bitmap_in t → new.honest ≡ mid.honest
      → (IsTrue mid.honest → SameFree (home_of t) mid.image new.image)
      → (IsTrue mid.honest → NamesMore f ownership (range_with_len lbn count) (table_of mid.image (home_of t))
      (table_of new.image (home_of t)))
      → StaysFor false t u new → IsTrue old.honest → GainsBlocksAs f ownership count (volume_of old.image home) (volume_of new.image home)
  unfolding volume_of
  run-gained u new f ownership bitmap still free names kept honest =
      let there = takes.writes.went.honest ∙ honest in
      gains-run f ownership lbn count (volume_of old.image home) (volume_of mid.image home) (volume_of new.image home) (tables honest)
      (takes.lowest honest)
      (subst (λ (h : HomeFields). NamesMore f ownership (range_with_len lbn count) (table_of mid.image h) (table_of new.image h)) stays.home
      (names there))
      (ap (λ (b : Bitmap). b.size) (bitmap-mid there ∙ (for.keeps honest).bitmap_is))
      (ap (λ (b : Bitmap). b.size) (bitmap-then u new bitmap kept (still ∙ there) ∙ sym (bitmap-mid there)))
      (subst (λ (h : HomeFields). SameFree h mid.image new.image) stays.home (free there))

  -- and the slots that came are those since it was taken
  pub slots-gained : (new : Disk) → (IsTrue mid.honest → AddsZeroSlots (table_of mid.image (home_of t)) (table_of new.image (home_of t)))
      → IsTrue old.honest → AddsZeroSlots (table_of old.image home) (table_of new.image home)
  slots-gained new slots honest =
      subst (λ (x : Table). AddsZeroSlots x (table_of new.image home)) (tables honest)
      (subst (λ (h : HomeFields). AddsZeroSlots (table_of mid.image h) (table_of new.image h)) stays.home
      (slots (takes.writes.went.honest ∙ honest)))
