-- A fresh volume is sound.
use Rattle.std.proofs.Common.{◌≡◌, ◌<◌, ◌≤◌, ◌+◌, ◌-◌, ◌*◌, ◌/◌, ◌%◌, ◌⊎◌, ℕ, zero, suc, Bool, true, false, List, [], ◌∷◌, Some, refl, ap}
use Rattle.std.proofs.Common.{sym, subst, ◌∙◌, inl, inr, arith, length, slice_index}
use Rattle.std.specs.Prelude.{min, take, drop, slice_index_or, slice_set, All, nat_lt, nat_le, ◌&&◌}
use Rattle.std.specs.List.{slice_get, range_with_len}
use Rattle.std.proofs.Math.Bool.{and-true}
use Rattle.std.proofs.lemmas.Bool.{cases_lt, and_from, and_parts, lt-ltb, le-leb, ltb-true, leb-true, false_from_ne_true}
use Rattle.std.proofs.lemmas.List.{append-nil, get_or_past, get_or-set_same, length-set, length-replicate}
use Rattle.std.proofs.lemmas.List.FromFn.{get_or-map-range_with_len, length-map-range_with_len, length-range_with_len}
use Rattle.std.proofs.lemmas.List.FromFn.{get_or-range_with_len}
use Rattle.std.proofs.lemmas.Option.{slice_get-get_or}
use Rattle.f11_bytes.specs.Bits.{bit}
use Rattle.f11_bytes.specs.Block.{zero_block}
use Rattle.f11_bytes.specs.Words.{long}
use Rattle.f11_bytes.proofs.WordLemmas.{slice_index-with_long, long-with_long}
use Rattle.f11_chain.specs.bits.Bitmap.{bitmap_bit, is_free}
use Rattle.f11_chain.specs.FileHeaders.{blocks_by, file_blocks}
use Rattle.f11_chain.specs.index.Headers.{headers_from, headers_of, IsInFile}
use Rattle.f11_dev.specs.Image.{Image, IsImage, image_block}
use Rattle.f11_chain.specs.home.Home.{HomeFields, candidate, fields_of, IsHomeOf}
use Rattle.f11_chain.specs.home.HomeBlock.{IsHomeBlock}
use Rattle.f11_chain.specs.map.HeaderBlock.{segment_number, link_of, blocks_named}
use Rattle.f11_chain.specs.index.IndexFile.{Index, index_of, index_file_blocks, blocks_on, header_among, slots, slot_bit, bit_of_slot}
use Rattle.f11_chain.specs.index.IndexFile.{is_in_use}
use Rattle.f11_chain.specs.index.IndexFile.{header_lbn, first_header_lbn, HasNonePast}
use Rattle.f11_chain.specs.index.Sound.{IsPlaced, IsIndexFile}
use Rattle.f11_chain.specs.index.Table.{Table, table_in, table_of, IsFile, IsNext, IsHeaderOf, IsWholeFile, first, next}
use Rattle.f11_chain.proofs.index.ChainLemmas.{file_of-header}
use Rattle.f11_chain.proofs.index.InUseLemmas.{in_use-some}
use Rattle.f11_chain.proofs.index.PlaceLemmas.{drop-range_with_len, take-range, slice_get-range, range-slice_get}
use Rattle.f11_chain.proofs.index.WalkLemmas.{ends, goes_on}
use Rattle.f11_layout.specs.FreshBitmaps.{fresh_control}
use Rattle.f11_layout.specs.FreshHeader.{IsFreshHeader}
use Rattle.f11_layout.specs.FreshHome.{fresh_home}
use Rattle.f11_layout.specs.Files.{own_file}
use Rattle.f11_layout.specs.IndexBitmap.{fresh_index_bitmap}
use Rattle.f11_layout.specs.Places.{bit_blocks, first_header, control_lbn, directory_lbn}
use Rattle.f11_layout.specs.declared.layout.Layout.{Layout}
use Rattle.f11_layout.proofs.HomeLemmas.{fresh-home, fresh-index_blocks, fresh-index_lbn}
use Rattle.f11_chain.specs.store.declared.files.FileId.{FileId}
use Rattle.f11_volume.specs.Fresh.{used_by, IsFreshUpTo}
use Rattle.f11_volume.specs.Faults.{IsFramed}
use Rattle.f11_volume.specs.Sound.{IsSoundVolume, IsSoundImage}
use Rattle.f11_volume.specs.Space.{bitmap_count, stated_size, bitmap_file, control_block, storage_bitmap, IsControlBlock}
use Rattle.f11_volume.specs.Volume.{Volume, volume_of, IsCell}
use Rattle.f11_volume.proofs.FreshBits.{own-bit, other-bit, past-bit}

zero-size : length zero_block ≡ 512
unfolding zero_block
zero-size = length-replicate {A = ℕ} 512 0

module _ (image : Image) (l : Layout) (is : IsImage image) (room : l.blocks ≤ length image) (fresh : IsFreshUpTo l image (used_by l)) where
  abbrev I : ℕ
  I = bit_blocks l.max_files

  abbrev F : ℕ
  F = first_header l.max_files

  abbrev C : ℕ
  C = control_lbn l.max_files l.slots

  abbrev B : ℕ
  B = bit_blocks l.blocks

  -- the home block
  abbrev home : HomeFields
  home = fields_of 1 (fresh_home l)

  home-block : image_block image 1 ≡ fresh_home l
  home-block = (fresh 1 (omega arith)).home refl

  pub bitmap-size : home.index_blocks ≡ I
  bitmap-size = fresh-index_blocks l (omega (arith, l.valid.few_files))

  bitmap-lbn : home.index_lbn ≡ 2
  bitmap-lbn = fresh-index_lbn l

  home-size : length (fresh_home l) ≡ 512
  home-size = ap length (sym home-block) ∙ (is.each 1 _ (slice_get-get_or image 1 [] (omega (arith, room, l.valid.room)))).size

  pub home-is : IsHomeOf image home
  home-is = record {
    place = 0;
    found = record {
      within = omega (arith, room, l.valid.room);
      valid = subst (λ (b : List ℕ). IsHomeBlock b (length image))
          (sym home-block) (fresh-home l (length image) room home-size);
    };
    first = λ k below. absurd (omega (arith, below));
    fields = ap (fields_of 1) (sym home-block);
  }

  -- the index file
  own-block : (n : ℕ) → 0 < n → n ≤ 5 → IsFreshHeader l n (image_block image (F + (n - 1)))
  own-block n some few =
      subst (λ (k : ℕ). IsFreshHeader l k (image_block image (F + (n - 1)))) (omega (arith, some))
      ((fresh (F + (n - 1)) (omega (arith, few, l.valid.some_slots))).own_header (n - 1) (omega (arith, few, some)) refl)

  named : (n : ℕ) (b : List ℕ) → IsFreshHeader l n b → blocks_named b ≡ range_with_len (own_file l n).first (own_file l n).count
  unfolding blocks_named
  named n b header = header.blocks

  unlinked : (n : ℕ) (b : List ℕ) → IsFreshHeader l n b → (link_of b).number ≡ 0
  unfolding link_of
  unlinked n b header = ap (λ (id : FileId). id.number) header.no_link

  first-segment : (n : ℕ) (b : List ℕ) → IsFreshHeader l n b → segment_number b ≡ 0
  unfolding segment_number
  first-segment n b header = header.first_segment

  index-named : blocks_named (image_block image F) ≡ range_with_len 0 C
  unfolding own_file
  index-named =
      named 1 (image_block image F)
      (subst (λ (k : ℕ). IsFreshHeader l 1 (image_block image k)) (omega arith) (own-block 1 (omega arith) (omega arith)))

  pub index-is : index_file_blocks image home ≡ range_with_len 0 C
  unfolding index_file_blocks
  index-is =
      let at : first_header_lbn home ≡ F = omega (arith, bitmap-lbn, bitmap-size) in
      let last : (link_of (image_block image F)).number ≡ 0 =
      unlinked 1 (image_block image F)
      (subst (λ (k : ℕ). IsFreshHeader l 1 (image_block image k)) (omega arith) (own-block 1 (omega arith) (omega arith))) in
      ap (λ (lbn : ℕ). blocks_on 256 image home [] (Some lbn)) at ∙ goes_on 255 image home [] F (image_block image F) refl
      ∙ ap (λ (k : ℕ). blocks_on 255 image home (blocks_named (image_block image F))
      (header_among home (blocks_named (image_block image F)) k)) last
      ∙ ends 255 image home (blocks_named (image_block image F)) ∙ index-named

  abbrev index : Index
  index = index_of image home

  abbrev t : Table
  t = table_of image home

  headers-are : index.headers ≡ range_with_len F l.slots
  unfolding index_of
  headers-are =
      let most : min (4096 * home.index_blocks) 65535 ≡ min (4096 * I) 65535 = ap (λ (k : ℕ). min (4096 * k) 65535) bitmap-size in
      ap (λ (blocks : List ℕ). take (min (4096 * home.index_blocks) 65535) (drop (2 + home.index_blocks) blocks)) index-is
      ∙ ap (λ (k : ℕ). take (min (4096 * k) 65535) (drop (2 + k) (range_with_len 0 C))) bitmap-size
      ∙ ap (take (min (4096 * I) 65535)) (drop-range_with_len 0 C (2 + I))
      ∙ take-range (0 + min (2 + I) C) (C - min (2 + I) C) (min (4096 * I) 65535)
      ∙ ap (λ (k : ℕ). range_with_len k (min (min (4096 * I) 65535) (C - min (2 + I) C)))
      (let at : 0 + min (2 + I) C ≡ F = omega arith in at)
      ∙ ap (range_with_len F) (let size : min (min (4096 * I) 65535) (C - min (2 + I) C) ≡ l.slots =
      omega (arith, l.valid.few_slots, l.valid.some_files) in size)

  pub slots-are : slots index ≡ l.slots
  slots-are = ap length headers-are ∙ length-range_with_len F l.slots

  slot-lbn : (n : ℕ) → 0 < n → n ≤ l.slots → header_lbn index n ≡ F + (n - 1)
  unfolding header_lbn
  slot-lbn n some few =
      ap (λ (xs : List ℕ). slice_index xs (n - 1)) headers-are ∙ get_or-range_with_len F l.slots (n - 1) 0 (omega (arith, some, few))

  pub header-at : (n : ℕ) → 0 < n → n ≤ l.slots → t.header n ≡ image_block image (F + (n - 1))
  unfolding table_in
  header-at n some few = ap (image_block image) (slot-lbn n some few)

  pub own : (n : ℕ) → 0 < n → n ≤ 5 → IsFreshHeader l n (t.header n)
  own n some few =
      subst (λ (b : List ℕ). IsFreshHeader l n b) (sym (header-at n some (omega (arith, few, l.valid.some_slots)))) (own-block n some few)

  -- which slots are in use
  bitmap-at : (i : ℕ) → i < I → slice_index_or index.bitmap i [] ≡ fresh_index_bitmap i
  unfolding index_of
  bitmap-at i within =
      get_or-map-range_with_len (image_block image) home.index_lbn home.index_blocks i (2 + i) [] (omega (arith, within, bitmap-size))
      (omega (arith, bitmap-lbn))
      ∙ (fresh (2 + i) (omega (arith, within))).index_bitmap i within refl

  bitmap-past : (i : ℕ) → I ≤ i → slice_index_or index.bitmap i [] ≡ []
  unfolding index_of
  bitmap-past i past =
      get_or_past index.bitmap i []
      (omega (arith, past, bitmap-size, length-map-range_with_len (image_block image) home.index_lbn home.index_blocks))

  bit-of : (n : ℕ) (b : List ℕ) → slice_index_or index.bitmap ((n - 1) / 4096) [] ≡ b → slot_bit index n ≡ bit b ((n - 1) % 4096)
  unfolding bit_of_slot
  bit-of n b at = ap (λ (block : List ℕ). bit block ((n - 1) % 4096)) at

  own-used : (n : ℕ) → 0 < n → n ≤ 5 → slot_bit index n ≡ true
  own-used n some few =
      bit-of n _ (bitmap-at ((n - 1) / 4096) (omega (arith, few, l.valid.some_files, l.valid.some_slots)))
      ∙ ap (λ (i : ℕ). bit (fresh_index_bitmap i) ((n - 1) % 4096)) (let at : (n - 1) / 4096 ≡ 0 = omega (arith, few) in at)
      ∙ own-bit ((n - 1) % 4096) (omega (arith, some, few))

  other-unused : (n : ℕ) → 5 < n → slot_bit index n ≡ false
  other-unused n past = elim (cases_lt ((n - 1) / 4096) I) [
    | inl within ↦ bit-of n _ (bitmap-at ((n - 1) / 4096) within) ∙ other-bit ((n - 1) / 4096) ((n - 1) % 4096) (omega (arith, past))
    | inr behind ↦ bit-of n _ (bitmap-past ((n - 1) / 4096) behind) ∙ past-bit ((n - 1) % 4096)
  ]

  pub used-own : (n : ℕ) → t.in_use n ≡ true → (0 < n) × (n ≤ 5)
  unfolding table_in is_in_use
  used-own n used = (
    in_use-some index n used,
    elim (cases_lt 5 n) [
      | inl past ↦ absurd (both_ways' (sym (other-unused n past) ∙ (and_parts _ _ (and_parts _ _ used).1).1))
      | inr few ↦ few
    ],
  )
    where
      both_ways' : false ≡ true → ⊥
      both_ways' is = cc

  pub own-in_use : (n : ℕ) → 0 < n → n ≤ 5 → t.in_use n ≡ true
  unfolding table_in is_in_use
  own-in_use n some few =
      and_from _ _ (lt-ltb 0 n some)
      (and_from _ _ (le-leb n (slots index) (omega (arith, few, slots-are, l.valid.some_slots))) (own-used n some few))

  none-past : HasNonePast index
  none-past n past = elim (cases_lt 5 n) [
    | inl high ↦ let off = other-unused n high in let on = past.bit in cc
    | inr few ↦ omega (arith, few, past.past, slots-are, l.valid.some_slots)
  ]

  -- the files
  pub is-file : (n : ℕ) → 0 < n → n ≤ 5 → IsFile t n
  is-file n some few =
      record {
        live = record { in_use = own-in_use n some few; valid = (own n some few).valid };
        first = first-segment n (t.header n) (own n some few);
      }

  no-next : (n m : ℕ) → ¬ IsNext t n m
  no-next n m goes =
      let used = used-own n goes.from.in_use in
      let none = unlinked n (t.header n) (own n used.0 used.1) in
      let some = used-own m goes.to.in_use in omega (arith, none, some.0, goes.number)

  one-header : (f n : ℕ) → IsHeaderOf t f n → n ≡ f
  one-header f n (first file) = refl
  one-header f n (next of goes) = absurd (no-next _ n goes)

  pub whole : (n : ℕ) → 0 < n → n ≤ 5 → IsWholeFile t n
  whole n some few = record {
    file = is-file n some few;
    links = λ m of. inl (subst (λ (k : ℕ). (link_of (t.header k)).number ≡ 0) (sym (one-header n m of))
        (unlinked n (t.header n) (own n some few)));
  }

  in-file-own : (n : ℕ) → IsInFile t n → (0 < n) × (n ≤ 5)
  in-file-own n of =
      let file = file_of-header of.of in let same = one-header of.file n of.of in let used = used-own of.file file.live.in_use in
      (omega (arith, same, used.0), omega (arith, same, used.1))

  -- the index file is as it should be
  placed : IsPlaced home (range_with_len 0 C)
  placed = record {
    boot = range-slice_get 0 C 0 (omega arith);
    home_block = range-slice_get 0 C 1 (omega (arith, l.valid.some_slots));
    bitmap_and_headers = λ i below. range-slice_get 0 C (2 + i) (omega (arith, below, bitmap-size, l.valid.some_slots))
        ∙ ap Some (omega (arith, bitmap-lbn));
  }

  range-within : (from count : ℕ) → from + count ≤ length image → All (λ lbn. lbn < length image) (range_with_len from count)
  range-within from count fits = λ k d below.
      let size = length-range_with_len from count in
      let at = get_or-range_with_len from count k d (omega (arith, below, size)) in omega (arith, at, below, size, fits)

  indexed : IsIndexFile image home
  indexed = record {
    whole = whole 1 (omega arith) (omega arith);
    sequence = (own 1 (omega arith) (omega arith)).sequence_is;
    within = subst (All (λ lbn. lbn < length image)) (sym index-is) (range-within 0 C (omega (arith, room, l.valid.room)));
    placed = subst (IsPlaced home) (sym index-is) placed;
  }

  -- the blocks of a file with one header
  pub own-headers : (n : ℕ) → 0 < n → n ≤ 5 → headers_of t n ≡ n ∷ []
  unfolding headers_from
  own-headers zero some few = absurd (omega (arith, some))
  own-headers (suc n) some few = ap (λ (k : ℕ). suc n ∷ headers_from 255 t k) (unlinked (suc n) (t.header (suc n)) (own (suc n) some few))

  pub own-blocks : (n : ℕ) → 0 < n → n ≤ 5 → file_blocks t n ≡ range_with_len (own_file l n).first (own_file l n).count
  unfolding file_blocks
  own-blocks n some few =
      ap (blocks_by t) (own-headers n some few) ∙ append-nil (blocks_named (t.header n)) ∙ named n (t.header n) (own n some few)

  bitmap-is : bitmap_file t ≡ range_with_len C (1 + B)
  unfolding own_file
  bitmap-is = own-blocks 2 (omega arith) (omega arith)

  control-is : control_block image t ≡ fresh_control l
  unfolding control_block
  control-is =
      let at : slice_index (range_with_len C (1 + B)) 0 ≡ C = omega (arith, get_or-range_with_len C (1 + B) 0 0 (omega arith)) in
      ap (λ (xs : List ℕ). image_block image (slice_index xs 0)) bitmap-is ∙ ap (image_block image) at
      ∙ (fresh C (omega arith)).control refl

  count-is : bitmap_count (fresh_control l) ≡ B
  unfolding fresh_control
  count-is =
      slice_index-with_long (slice_set zero_block 3 B) (4 + 4 * B) l.blocks 3 (inl (omega arith))
      ∙ get_or-set_same zero_block 3 B 0 (omega (arith, zero-size))

  size-is : stated_size (fresh_control l) ≡ l.blocks
  unfolding fresh_control
  size-is = ap (λ (k : ℕ). long (fresh_control l) (4 + 4 * k)) count-is
      ∙ long-with_long (slice_set zero_block 3 B) (4 + 4 * B) l.blocks
      (omega (arith, length-set zero_block 3 B, zero-size, l.valid.few_blocks))

  framed : IsFramed image home
  framed = record {
    home_is = home-is;
    indexed = record { file = indexed; earlier = λ k below. absurd (no-earlier k below) };
    own_files = λ n low high.
        record {
          file = is-file n (omega (arith, low)) (omega (arith, high));
          sequence = (own n (omega (arith, low)) (omega (arith, high))).sequence_is;
        };
    bitmap = record {
      sound = record {
        whole = whole 2 (omega arith) (omega arith);
        within = subst (All (λ lbn. lbn < length image)) (sym bitmap-is)
            (range-within C (1 + B) (omega (arith, room, l.valid.room)));
      };
      some = λ none. some-blocks (sym bitmap-is ∙ none);
    };
    control = subst (λ (c : List ℕ). IsControlBlock c (length (bitmap_file t)) (length image)) (sym control-is) (record {
      some_bitmap = omega (arith, count-is, l.valid.room);
      few_bitmap = omega (arith, count-is, l.valid.few_blocks);
      in_file = let size : length (bitmap_file t) ≡ 1 + B = ap length bitmap-is ∙ length-range_with_len C (1 + B) in
          omega (arith, count-is, size);
      some_blocks = omega (arith, size-is, l.valid.room);
      covered = omega (arith, size-is, count-is);
      on_device = omega (arith, size-is, room);
    });
    none_past = none-past;
  }
    where
      no-earlier : (k : ℕ) → candidate k < 1 → ⊥
      no-earlier zero below = omega (arith, below)
      no-earlier (suc k) below = omega (arith, below)

      some-blocks : range_with_len C (1 + B) ≡ [] → ⊥
      some-blocks none =
          let size : length (range_with_len C (1 + B)) ≡ 0 = ap length none in omega (arith, size, length-range_with_len C (1 + B))

  -- the volume
  abbrev v : Volume
  v = volume_of image home

  pub volume-size : (storage_bitmap image home).size ≡ l.blocks
  unfolding storage_bitmap
  volume-size = ap stated_size control-is ∙ size-is

  pub places-are : (storage_bitmap image home).places ≡ range_with_len (C + 1) B
  unfolding storage_bitmap
  places-are =
      ap (λ (c : List ℕ). take (bitmap_count c) (drop 1 (bitmap_file t))) control-is
      ∙ ap (λ (k : ℕ). take k (drop 1 (bitmap_file t))) count-is
      ∙ ap (λ (xs : List ℕ). take B (drop 1 xs)) bitmap-is
      ∙ ap (take B) (drop-range_with_len C (1 + B) 1) ∙ take-range (C + min 1 (1 + B)) (1 + B - min 1 (1 + B)) B
      ∙ ap (λ (from : ℕ). range_with_len from (min B (1 + B - min 1 (1 + B)))) (let at : C + min 1 (1 + B) ≡ C + 1 = omega arith in at)
      ∙ ap (range_with_len (C + 1)) (let size : min B (1 + B - min 1 (1 + B)) ≡ B = omega arith in size)

  -- the blocks behind the front are free
  pub free-are : (lbn : ℕ) → lbn < l.blocks → is_free image (storage_bitmap image home) lbn ≡ nat_le (used_by l) lbn
  unfolding is_free bitmap_bit
  free-are lbn inside =
      let place : slice_index (storage_bitmap image home).places (lbn / 4096) ≡ C + 1 + lbn / 4096 =
      ap (λ (xs : List ℕ). slice_index xs (lbn / 4096)) places-are
      ∙ get_or-range_with_len (C + 1) B (lbn / 4096) 0 (omega (arith, inside)) in
      let block = (fresh (C + 1 + lbn / 4096) (omega (arith, inside))).bitmap (lbn / 4096) (omega (arith, inside)) refl in
      let there : bit (image_block image (slice_index (storage_bitmap image home).places (lbn / 4096)))
      (lbn % 4096) ≡ (nat_le (used_by l) (4096 * (lbn / 4096) + lbn % 4096) && nat_lt (4096 * (lbn / 4096) + lbn % 4096) l.blocks) =
      ap (λ (k : ℕ). bit (image_block image k) (lbn % 4096)) place ∙ block.bits (lbn % 4096) (omega arith) in
      let same : 4096 * (lbn / 4096) + lbn % 4096 ≡ lbn = omega arith in
      ap (λ (b : Bool). b && bit (image_block image (slice_index (storage_bitmap image home).places (lbn / 4096))) (lbn % 4096))
      (lt-ltb lbn (storage_bitmap image home).size (omega (arith, inside, volume-size)))
      ∙ there ∙ ap (λ (k : ℕ). nat_le (used_by l) k && nat_lt k l.blocks) same
      ∙ ap (λ (b : Bool). nat_le (used_by l) lbn && b) (lt-ltb lbn l.blocks inside) ∙ and-true (nat_le (used_by l) lbn)

  pub free-inside : (lbn : ℕ) → is_free image (storage_bitmap image home) lbn ≡ true → lbn < l.blocks
  unfolding is_free
  free-inside lbn free = omega (arith, ltb-true lbn (storage_bitmap image home).size (and_parts _ _ free).0, volume-size)

  free-unused : (lbn : ℕ) → is_free image (storage_bitmap image home) lbn ≡ true → used_by l ≤ lbn
  free-unused lbn free = leb-true (used_by l) lbn (sym (free-are lbn (free-inside lbn free)) ∙ free)

  -- each block that is named, by the file whose it is
  abbrev IsOwned : ℕ → ℕ → ℕ → Type 0
  IsOwned n place lbn =
      ((n ≡ 1) × (lbn < C) × (place ≡ lbn))
      ⊎ (((n ≡ 2) × (C ≤ lbn) × (lbn < C + 1 + B) × (place + C ≡ lbn)) ⊎ ((n ≡ 4) × (lbn ≡ C + 1 + B) × (place ≡ 0)))

  owned-by : (n place lbn : ℕ) → 0 < n → n ≤ 5 → slice_get (range_with_len (own_file l n).first (own_file l n).count) place ≡ Some lbn
      → IsOwned n place lbn
  unfolding own_file
  owned-by zero place lbn some few names = absurd (omega (arith, some))
  owned-by (suc zero) place lbn some few names =
      let at = slice_get-range 0 C place lbn names in inl (refl, omega (arith, at.0, at.1), omega (arith, at.1))
  owned-by (suc (suc zero)) place lbn some few names =
      let at = slice_get-range C (1 + B) place lbn names in
      inr (inl (refl, omega (arith, at.1), omega (arith, at.0, at.1), omega (arith, at.1)))
  owned-by (suc (suc (suc zero))) place lbn some few names = let at = slice_get-range 0 0 place lbn names in absurd (omega (arith, at.0))
  owned-by (suc (suc (suc (suc zero)))) place lbn some few names =
      let at = slice_get-range (directory_lbn l.max_files l.slots l.blocks) 1 place lbn names in
      inr (inr (refl, omega (arith, at.0, at.1), omega (arith, at.0)))
  owned-by (suc (suc (suc (suc (suc zero))))) place lbn some few names =
      let at = slice_get-range 0 0 place lbn names in absurd (omega (arith, at.0))
  owned-by (suc (suc (suc (suc (suc (suc n)))))) place lbn some few names = absurd (omega (arith, few))

  owned : (n place lbn : ℕ) → IsCell t n place lbn → IsOwned n place lbn
  owned n place lbn cell =
      let used = used-own n cell.live.in_use in
      owned-by n place lbn used.0 used.1 (ap (λ (xs : List ℕ). slice_get xs place) (sym (named n (t.header n) (own n used.0 used.1)))
      ∙ cell.names)

  below-used : (n place lbn : ℕ) → IsOwned n place lbn → lbn < used_by l
  below-used n place lbn (inl at) = omega (arith, at.1)
  below-used n place lbn (inr (inl at)) = omega (arith, at.2)
  below-used n place lbn (inr (inr at)) = omega (arith, at.1)

  one-cell : (n place m other lbn : ℕ) → IsOwned n place lbn → IsOwned m other lbn → (n ≡ m) × (place ≡ other)
  one-cell n place m other lbn (inl a) (inl b) = (omega (arith, a.0, b.0), omega (arith, a.2, b.2))
  one-cell n place m other lbn (inl a) (inr (inl b)) = absurd (omega (arith, a.1, b.1))
  one-cell n place m other lbn (inl a) (inr (inr b)) = absurd (omega (arith, a.1, b.1))
  one-cell n place m other lbn (inr (inl a)) (inl b) = absurd (omega (arith, a.1, b.1))
  one-cell n place m other lbn (inr (inl a)) (inr (inl b)) = (omega (arith, a.0, b.0), omega (arith, a.3, b.3))
  one-cell n place m other lbn (inr (inl a)) (inr (inr b)) = absurd (omega (arith, a.2, b.1))
  one-cell n place m other lbn (inr (inr a)) (inl b) = absurd (omega (arith, a.1, b.1))
  one-cell n place m other lbn (inr (inr a)) (inr (inl b)) = absurd (omega (arith, a.1, b.2))
  one-cell n place m other lbn (inr (inr a)) (inr (inr b)) = (omega (arith, a.0, b.0), omega (arith, a.2, b.2))

  sound-table : IsSoundVolume v
  unfolding volume_of
  sound-table = record {
    headers = λ n used. let few = used-own n used in inr (own n few.0 few.1).valid;
    inside = λ n place lbn cell. omega (arith, below-used n place lbn (owned n place lbn cell), volume-size, l.valid.room);
    apart = λ n place m other lbn one two. one-cell n place m other lbn (owned n place lbn one) (owned m other lbn two);
    taken = λ n place lbn cell.
        false_from_ne_true _ (λ free. omega (arith, below-used n place lbn (owned n place lbn cell), free-unused lbn free));
    links = λ n linked. let few = in-file-own n linked.in_file in absurd (linked.link (unlinked n (t.header n) (own n few.0 few.1)));
    once = λ n one other of also goes comes. absurd (no-next one n goes);
  }

  pub fresh-sound : IsSoundImage image
  fresh-sound = record { home = home; volume = record { framed = framed; sound = sound-table } }
