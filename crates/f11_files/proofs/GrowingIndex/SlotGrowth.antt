-- Blocks of zeros that the index file has behind its others are slots.
use Rattle.std.proofs.Common.{◌≡◌, ◌≢◌, ◌+◌, ◌-◌, ◌*◌, ◌<◌, ◌≤◌, ℕ, true, IsTrue, List, ◌++◌, length, min, get_or, Some, refl, sym, ap}
use Rattle.std.proofs.Common.{subst, ◌∙◌, arith}
use Rattle.std.specs.List.{slice_get, range_with_len}
use Rattle.std.proofs.Math.ListN.{set}
use Rattle.std.proofs.lemmas.List.{length-append, length-take, length-set, get_or-take, get_or-append-add}
use Rattle.std.proofs.lemmas.List.FromFn.{get_or-range_with_len, length-map-range_with_len, length-range_with_len}
use Rattle.std.proofs.lemmas.Option.{slice_get_within, slice_get-get_or}
use Rattle.f11_bits.specs.Bitmap.{LiesWithin as BitmapLiesWithin}
use Rattle.f11_bits.specs.Storage.{Keeps}
use Rattle.f11_bytes.specs.Block.{zero_block}
use Rattle.f11_dev.specs.Disk.{Disk, with_transfer, with_block_at}
use Rattle.f11_dev.specs.Image.{Image, image_block}
use Rattle.f11_dev.proofs.ImageLemmas.{image_block-other, image_block-read}
use Rattle.f11_header.specs.Fields.{file_sequence}
use Rattle.f11_home.specs.Home.{HomeFields}
use Rattle.f11_index.specs.Calls.{with_blocks_behind}
use Rattle.f11_index.specs.Growth.{with_header}
use Rattle.f11_index.specs.IndexFile.{Index, IsIndex, index_of, index_file_blocks, slots, most_slots, is_in_use, header_lbn}
use Rattle.f11_index.specs.Kept.{index_kept, IsIndexFor as IndexIsFor}
use Rattle.f11_index.specs.Table.{table_in, table_of, IsHeaderOf}
use Rattle.f11_index.specs.declared.index_file.IndexFile.{IndexFile}
use Rattle.f11_index.proofs.BitLemmas.{is_in_use-within}
use Rattle.f11_index.proofs.ChainLemmas.{live_of-header}
use Rattle.f11_index.proofs.ForLemmas.{IsFor-grown}
use Rattle.f11_index.proofs.InUseLemmas.{in_use-some, in_use-slot}
use Rattle.f11_index.proofs.PlaceLemmas.{slice_get-append_front, range-slice_get}
use Rattle.f11_index.proofs.WalkLemmas.{in_use-within}
use Rattle.f11_map.proofs.MapLemmas.{slice_get-append_back}
use Rattle.f11_volume.specs.Sound.{HasSoundVolume}
use Rattle.f11_volume.specs.Space.{storage_bitmap}
use Rattle.f11_volume.proofs.FileLemmas.{index-apart}
use Rattle.f11_writes.specs.Kept.{WritesGrowth}
use Rattle.f11_writes.proofs.SlotLemmas.{header-placed-at}
use Rattle.f11_image_store.specs.FileLaws.{HasSlotsMore}
use Rattle.f11_image_store.specs.StoreOf.{store_of}
use Rattle.f11_files.specs.Structure.{index_in, bitmap_in, home_of, IsStructureFor}
use Rattle.f11_files.specs.Extending.Zeros.{HoldsZeros}
use Rattle.f11_files.specs.declared.structure.Structure.{Structure}
use Rattle.f11_files.proofs.WriteLemmas.{keeps-storage}
use Rattle.f11_image_store.proofs.FreshStoreLemmas.{zero-sequence}

-- a slot that was in use is so still
pub in_use-kept : (index : Index) (lbn count n : ℕ) → IsIndex index → is_in_use index n ≡ true
    → is_in_use (with_blocks_behind index lbn count) n ≡ true
in_use-kept index lbn count n valid used =
    let some = in_use-some index n used in
    let within = in_use-slot index n used in
    let cut = length-take (min (4096 * length index.bitmap) 65535) (index.headers ++ range_with_len lbn count) in
    let sum = length-append index.headers (range_with_len lbn count) in
    is_in_use-within (with_blocks_behind index lbn count) n some (omega (arith, within, cut, sum, valid.few_slots))
    ∙ sym (is_in_use-within index n some within) ∙ used

-- the index file of an image has grown, where no more slots came than there may be
module _ (image : Image) (home : HomeFields) (n : ℕ) (block : List ℕ) (lbn count : ℕ) (is : HasSoundVolume image home)
    (of : IsHeaderOf (table_of image home) 1 n)
    (wrote : WritesGrowth n block lbn count home image (with_header image home n block)) (within : lbn + count ≤ length image)
    (zeros : HoldsZeros image lbn count)
    (limit : (store_of image home).slots + count ≤ (store_of image home).limit) where
  abbrev was : Index
  was = index_of image home

  abbrev next : Image
  next = with_header image home n block

  abbrev all : List ℕ
  all = index_file_blocks image home

  abbrev more : List ℕ
  more = range_with_len lbn count

  abbrev most : ℕ
  most = min (4096 * length was.bitmap) 65535

  most-is : most ≡ most_slots home
  unfolding index_of
  most-is = omega (arith, length-map-range_with_len (image_block image) home.index_lbn home.index_blocks)

  fits : slots was + count ≤ most
  unfolding store_of table_in
  fits = omega (arith, limit, most-is)

  slots-are : slots (index_of next home) ≡ slots was + count
  slots-are =
      ap slots wrote.index_file.index
      ∙ (let cut = length-take most (was.headers ++ more) in
      let sum = length-append was.headers more in
      let size = length-range_with_len lbn count in
      omega (arith, cut, sum, size, fits))

  -- where a new slot is
  lbn-is : (m : ℕ) → slots was < m → m ≤ slots was + count → header_lbn (index_of next home) m ≡ lbn + (m - 1 - slots was)
  unfolding header_lbn
  lbn-is m past few =
      let behind : m - 1 ≡ slots was + (m - 1 - slots was) = omega (arith, past) in
      ap (λ (x : Index). get_or x.headers (m - 1) 0) wrote.index_file.index
      ∙ get_or-take most (was.headers ++ more) (m - 1) 0 (omega (arith, past, few, fits))
      ∙ ap (λ (k : ℕ). get_or (was.headers ++ more) k 0) behind
      ∙ get_or-append-add was.headers more (m - 1 - slots was) 0
      ∙ get_or-range_with_len lbn count (m - 1 - slots was) 0 (omega (arith, past, few))

  -- it isn't where the header was written
  apart : (i : ℕ) → i < count → lbn + i ≢ header_lbn was n
  apart i below same =
      let slot = in_use-within image home n (live_of-header of).in_use in
      let placed = header-placed-at image home n is.framed.indexed.file slot.0 slot.1 in
      let there : length all + i - length all ≡ i = omega arith in
      let front : slice_get (index_file_blocks next home) placed.place ≡ Some (header_lbn was n) =
      ap (λ (xs : List ℕ). slice_get xs placed.place) wrote.index_file.file
      ∙ slice_get-append_front all more placed.place (header_lbn was n) placed.at in
      let behind : slice_get (index_file_blocks next home) (length all + i) ≡ Some (header_lbn was n) =
      ap (λ (xs : List ℕ). slice_get xs (length all + i)) wrote.index_file.file
      ∙ slice_get-append_back all more (length all + i) (length all) refl (omega arith)
      ∙ ap (slice_get more) there ∙ range-slice_get lbn count i below ∙ ap Some same in
      let one = index-apart next home wrote.slot.sound placed.place (length all + i) (header_lbn was n) front behind in
      let inside = slice_get_within all placed.place (header_lbn was n) placed.at in
      omega (arith, one, inside)

  zeros-there : (i : ℕ) → i < count → image_block next (lbn + i) ≡ zero_block
  zeros-there i below =
      image_block-other image (header_lbn was n) (lbn + i) block (apart i below)
      ∙ image_block-read image (lbn + i) zero_block
      (slice_get-get_or image (lbn + i) zero_block (omega (arith, below, within))
      ∙ ap Some (zeros.each (lbn + i) (omega arith) (omega (arith, below))))

  pub slots-zero : (m : ℕ) → (table_of image home).slots < m → m ≤ (table_of image home).slots + count
      → (table_of next home).header m ≡ zero_block
  unfolding table_in
  slots-zero m past few = ap (image_block next) (lbn-is m past few) ∙ zeros-there (m - 1 - slots was) (omega (arith, past, few))

  pub slots-more : HasSlotsMore count (table_of image home) (table_of next home)
  unfolding table_in
  slots-more = record {
    slots = slots-are;
    unnumbered = λ m past few.
        ap file_sequence (slots-zero m past few) ∙ zero-sequence;
  }

-- what is kept has grown with the image's index file
module _ (s : Structure) (after : IndexFile) (n : ℕ) (block : List ℕ) (lbn count : ℕ) (old new : Disk) (for : IsStructureFor s old)
    (within : lbn + count ≤ (bitmap_in s).size)
    (grown : index_kept after ≡ with_blocks_behind (index_in s) lbn count)
    (wrote : IsTrue old.honest → WritesGrowth n block lbn count (home_of s) old.image (with_header old.image (home_of s) n block))
    (place : ℕ) (at : place ≡ header_lbn (index_in s) n) (is : new ≡ with_transfer true (with_block_at place block old)) where
  abbrev home : HomeFields
  home = home_of s

  abbrev t : Structure
  t = record s { index = after }

  abbrev written : Disk
  written = with_transfer true (with_block_at (header_lbn (index_in s) n) block old)

  new-is : new ≡ written
  new-is = is ∙ ap (λ (l : ℕ). with_transfer true (with_block_at l block old)) at

  index-for : IndexIsFor (index_kept after) home new
  index-for =
      subst (IndexIsFor (index_kept after) home) (sym new-is) (subst (λ (x : Index). IndexIsFor x home written) (sym grown)
      (IsFor-grown (index_in s) home old true n block lbn count (λ honest. (wrote honest).index_file)
      (let whole = for.lies.volume in omega (arith, within, whole))
      (record { within = for.lies.index; keeps = λ honest. (for.keeps honest).index_is })))

  size : length new.image ≡ length old.image
  size = ap (λ (d : Disk). length d.image) is ∙ length-set old.image place block

  was-honest : IsTrue new.honest → IsTrue old.honest
  was-honest honest = sym (ap (λ (d : Disk). d.honest) is) ∙ honest

  grown-image : IsTrue old.honest → new.image ≡ with_header old.image home n block
  grown-image honest =
      ap (λ (d : Disk). d.image) new-is ∙ ap (λ (x : Index). set old.image (header_lbn x n) block) (for.keeps honest).index_is

  pub grown-for : IsStructureFor t new
  grown-for = record {
    lies = record {
      index = index-for.within;
      bitmap = subst (BitmapLiesWithin (bitmap_in s)) (sym size) for.lies.bitmap;
      volume = let whole = for.lies.volume in omega (arith, whole, size);
    };
    sound = λ honest. let before = was-honest honest in
        subst (λ (i : Image). HasSoundVolume i home) (sym (grown-image before)) (wrote before).slot.sound;
    keeps = λ honest. record {
      index_is = index-for.keeps honest;
      bitmap_is =
          let before = was-honest honest in
          subst (λ (i : Image). bitmap_in s ≡ storage_bitmap i home) (sym (grown-image before))
          ((for.keeps before).bitmap_is ∙ sym (wrote before).slot.bitmap);
      storage =
          let before = was-honest honest in
          subst (Keeps s.storage) (sym (grown-image before))
          (keeps-storage s old.image (with_header old.image home n block) (wrote before).slot.bitmap_blocks (for.keeps before));
    };
  }
