-- What a write of one block leaves of the index file.
use Rattle.std.proofs.Common.{◌≡◌, ◌≢◌, ℕ, zero, suc, ◌+◌, ◌-◌, ◌<◌, ◌≤◌, Bool, List, ◌∷◌, length, get_or, map, Some, refl, sym, ap, subst}
use Rattle.std.proofs.Common.{◌∙◌, inl, inr, arith}
use Rattle.std.proofs.Math.ListN.{set}
use Rattle.std.specs.List.{All, slice_get, range_with_len}
use Rattle.std.proofs.lemmas.Bool.{cases_lt, cases_eq}
use Rattle.std.proofs.lemmas.List.{length-set, get_or_past}
use Rattle.std.proofs.lemmas.Option.{same_Some, slice_get_within, get_or_from_slice_get}
use Rattle.f11_dev.specs.Image.{Image, image_block}
use Rattle.f11_dev.proofs.ImageLemmas.{image_block-written, image_block-other}
use Rattle.f11_home.specs.Home.{HomeFields}
use Rattle.f11_index.specs.Calls.{SetsBit, with_bitmap_block, bitmap_block, bitmap_place}
use Rattle.f11_map.specs.HeaderBlock.{link_of, blocks_named}
use Rattle.f11_index.specs.IndexFile.{Index, index_of, index_file_blocks, headers_among, header_lbn, header_place, most_slots, slots}
use Rattle.f11_index.specs.IndexFile.{is_in_use}
use Rattle.f11_index.specs.Laws.{BlocksStay, LeadsAlike, KeepsIndexFile, KeepsButBit, KeepsButHeader}
use Rattle.f11_index.specs.Sound.{IsPlaced, IsIndexFile, IsNoneOf, AreApart}
use Rattle.f11_index.specs.Table.{table_in, table_of, IsHeaderOf, IsWholeFile, last_sequence}
use Rattle.f11_index.proofs.ChainLemmas.{live_of-header}
use Rattle.f11_index.proofs.PlaceLemmas.{slice_get-header}
use Rattle.f11_index.proofs.SameLemmas.{file_same}
use Rattle.f11_index.proofs.WalkLemmas.{in_use-within, few-slots}

-- one of these
All-at : (xs : List ℕ) (i x : ℕ) {n : ℕ} → All (λ l. l < n) xs → slice_get xs i ≡ Some x → x < n
All-at xs i x {n} each at = subst (λ (l : ℕ). l < n) (get_or_from_slice_get xs i x 0 at) (each i 0 (slice_get_within xs i x at))

-- blocks in a row that are the same
map-same : (f g : ℕ → List ℕ) (n a : ℕ) → ((i : ℕ) → i < n → f (a + i) ≡ g (a + i))
    → map f (range_with_len a n) ≡ map g (range_with_len a n)
map-same f g zero a same = refl
map-same f g (suc n) a same =
    let here : a + 0 ≡ a = omega arith in
    let first : f a ≡ g a = ap f (sym here) ∙ same 0 (omega arith) ∙ ap g here in
    ap (λ (b : List ℕ). b ∷ map f (range_with_len (a + 1) n)) first
    ∙ ap (λ (bs : List (List ℕ)). g a ∷ bs) (map-same f g n (a + 1) (λ i within.
    let next : a + 1 + i ≡ a + (i + 1) = omega arith in ap f next ∙ same (i + 1) (omega arith) ∙ ap g (sym next)))

-- blocks in a row of which one is another
map-set : (f g : ℕ → List ℕ) (b : List ℕ) (n a p : ℕ) → p < n → f (a + p) ≡ b → ((i : ℕ) → i < n → i ≢ p → f (a + i) ≡ g (a + i))
    → map f (range_with_len a n) ≡ set (map g (range_with_len a n)) p b
map-set f g b zero a p within one others = absurd (omega arith)
map-set f g b (suc n) a zero within one others =
    let here : a + 0 ≡ a = omega arith in
    ap (λ (x : List ℕ). x ∷ map f (range_with_len (a + 1) n)) (ap f (sym here) ∙ one)
    ∙ ap (λ (bs : List (List ℕ)). b ∷ bs) (map-same f g n (a + 1) (λ i inside.
    let next : a + 1 + i ≡ a + (i + 1) = omega arith in ap f next ∙ others (i + 1) (omega arith) (λ e. omega arith) ∙ ap g (sym next)))
map-set f g b (suc n) a (suc p) within one others =
    let here : a + 0 ≡ a = omega arith in
    let place : a + 1 + p ≡ a + suc p = omega arith in
    ap (λ (x : List ℕ). x ∷ map f (range_with_len (a + 1) n)) (ap f (sym here) ∙ others 0 (omega arith) (λ e. omega arith) ∙ ap g here)
    ∙ ap (λ (bs : List (List ℕ)). g a ∷ bs) (map-set f g b n (a + 1) p (omega arith) (ap f place ∙ one) (λ i inside apart.
    let next : a + 1 + i ≡ a + (i + 1) = omega arith in ap f next ∙ others (i + 1) (omega arith) (λ e. apart (omega arith))
    ∙ ap g (sym next)))

module _ (image : Image) (home : HomeFields) (good : IsIndexFile image home) where
  abbrev all : List ℕ
  all = index_file_blocks image home

  abbrev index : Index
  index = index_of image home

  -- where header m is
  pub header_at : (m : ℕ) → 0 < m → m ≤ slots index → slice_get all (2 + home.index_blocks + (m - 1)) ≡ Some (header_lbn index m)
  unfolding index_of header_lbn
  header_at m some few = slice_get-header all (2 + home.index_blocks) (most_slots home) (m - 1) (header_lbn index m) 0 (omega arith) refl

  -- the LBN of any number is one of the index file's blocks, and none of the bitmap's
  record IsAt (m : ℕ) : Type 0 where
    place : ℕ
    at : slice_get all place ≡ Some (header_lbn index m)
    outside : (i : ℕ) → i < home.index_blocks → place ≢ 2 + i

  is_at : (m : ℕ) → IsAt m
  unfolding header_lbn index_of
  is_at m = elim (cases_lt (m - 1) (length index.headers)) [
    | inl within ↦ record {
      place = 2 + home.index_blocks + (m - 1);
      at = slice_get-header all (2 + home.index_blocks) (most_slots home) (m - 1) (header_lbn index m) 0 within refl;
      outside = λ i few e. omega arith;
    }
    | inr past ↦ record {
      place = 0;
      at = good.placed.boot ∙ ap Some (sym (get_or_past index.headers (m - 1) 0 past));
      outside = λ i few e. omega arith;
    }
  ]

  -- a block of the bitmap
  pub bitmap_at : (i : ℕ) → i < home.index_blocks → slice_get all (2 + i) ≡ Some (home.index_lbn + i)
  bitmap_at i few = good.placed.bitmap_and_headers i (omega arith)

  module _ (new : Image) where
    headers_same : index_file_blocks new home ≡ all → (index_of new home).headers ≡ index.headers
    unfolding index_of
    headers_same file = ap (headers_among home) file

    bitmap_stays : ((i : ℕ) → i < home.index_blocks → image_block new (home.index_lbn + i) ≡ image_block image (home.index_lbn + i))
        → (index_of new home).bitmap ≡ index.bitmap
    unfolding index_of
    bitmap_stays stay = map-same (image_block new) (image_block image) home.index_blocks home.index_lbn stay

    index_from : (bitmap : List (List ℕ)) → (index_of new home).bitmap ≡ bitmap → (index_of new home).headers ≡ index.headers
        → index_of new home ≡ record index { bitmap = bitmap }
    unfolding index_of
    index_from bitmap b h =
        ap (λ (xs : List (List ℕ)). record { bitmap_lbn = home.index_lbn; bitmap = xs; headers = (index_of new home).headers }) b
        ∙ ap (λ (hs : List ℕ). record { bitmap_lbn = home.index_lbn; bitmap = bitmap; headers = hs }) h

    -- an image that has the index file's blocks as they were
    module _ (size : length new ≡ length image) (stay : BlocksStay all image new) where
      file : index_file_blocks new home ≡ all
      file = file_same image new home good (λ m l of at.
          let is = stay (header_place home m) l at in record { blocks = ap blocks_named is; link = ap link_of is })

      index_is : index_of new home ≡ index
      index_is = index_from index.bitmap (bitmap_stays (λ i few. stay (2 + i) (home.index_lbn + i) (bitmap_at i few))) (headers_same file)

      table_is : table_of new home ≡ table_of image home
      unfolding table_in
      table_is = ap (table_in new) index_is ∙ (λ i. record {
        slots = slots index;
        in_use = is_in_use index;
        header = λ m. stay (is_at m).place (header_lbn index m) (is_at m).at i;
      })

      pub other_images : KeepsIndexFile home image new
      other_images = record {
        file = file;
        index = index_is;
        table = table_is;
        sound = record {
          whole = subst (λ t. IsWholeFile t 1) (sym table_is) good.whole;
          sequence = ap (λ t. last_sequence t 1) table_is ∙ good.sequence;
          within = subst (λ (xs : List ℕ). All (λ l. l < length new) xs) (sym file)
              (subst (λ (n : ℕ). All (λ l. l < n) all) (sym size) good.within);
          placed = subst (IsPlaced home) (sym file) good.placed;
        };
      }

  module _ (lbn : ℕ) (block : List ℕ) where
    abbrev new : Image
    new = set image lbn block

    pub same : (l : ℕ) → l ≢ lbn → image_block new l ≡ image_block image l
    same l apart = image_block-other image lbn l block apart

    alike : (l : ℕ) → l ≢ lbn → LeadsAlike (image_block image l) (image_block new l)
    alike l apart = record { blocks = ap blocks_named (same l apart); link = ap link_of (same l apart) }

    pub bitmap_same : ((i : ℕ) → i < home.index_blocks → home.index_lbn + i ≢ lbn) → (index_of new home).bitmap ≡ index.bitmap
    bitmap_same apart = bitmap_stays new (λ i few. same (home.index_lbn + i) (apart i few))

    -- none of the index file's blocks
    pub other_write : IsNoneOf lbn all → KeepsIndexFile home image new
    other_write none = other_images new (length-set image lbn block) (λ i l at. same l (λ e. none i (at ∙ ap Some e)))

    -- one of them, which stands at one place only
    module _ (apart : AreApart all) (at_place : ℕ) (at : slice_get all at_place ≡ Some lbn) where
      pub elsewhere : (i l : ℕ) → slice_get all i ≡ Some l → i ≢ at_place → l ≢ lbn
      elsewhere i l here other e = other (apart i at_place lbn (here ∙ ap Some e) at)

      pub inside : lbn < length image
      inside = All-at all at_place lbn good.within at

  -- the bitmap block of a slot
  module _ (value : Bool) (n : ℕ) (after : Index) (apart : AreApart all) (some : 0 < n) (few : n ≤ slots index)
      (bit : SetsBit value n index after) where
    abbrev lbn : ℕ
    lbn = after.bitmap_lbn + bitmap_place n

    abbrev block : List ℕ
    block = bitmap_block after n

    lbn_is : lbn ≡ home.index_lbn + bitmap_place n
    unfolding index_of
    lbn_is = ap (λ (x : Index). x.bitmap_lbn + bitmap_place n) bit.one_block

    within : bitmap_place n < home.index_blocks
    within = omega (arith, some, few, few-slots image home)

    pub at : slice_get all (2 + bitmap_place n) ≡ Some lbn
    at = bitmap_at (bitmap_place n) within ∙ ap Some (sym lbn_is)

    bit_file : index_file_blocks (new lbn block) home ≡ all
    bit_file = file_same image (new lbn block) home good (λ m l of here.
        alike lbn block l (elsewhere lbn block apart (2 + bitmap_place n) at (header_place home m) l here
        (λ e. omega (arith, within, e, (in_use-within image home m (live_of-header of).in_use).0))))

    bitmap_is : (index_of (new lbn block) home).bitmap ≡ set index.bitmap (bitmap_place n) block
    unfolding index_of
    bitmap_is = map-set (image_block (new lbn block)) (image_block image) block home.index_blocks home.index_lbn (bitmap_place n) within
        (ap (image_block (new lbn block)) (sym lbn_is)
        ∙ image_block-written image lbn block (inside lbn block apart (2 + bitmap_place n) at))
        (λ i inside_is other. same lbn block (home.index_lbn + i)
        (elsewhere lbn block apart (2 + bitmap_place n) at (2 + i) (home.index_lbn + i) (bitmap_at i inside_is)
        (λ e. other (omega arith))))

    bit_index : index_of (new lbn block) home ≡ after
    bit_index =
        index_from (new lbn block) (set index.bitmap (bitmap_place n) block) bitmap_is (headers_same (new lbn block) bit_file)
        ∙ sym bit.one_block

    bit_table : table_of (new lbn block) home ≡ record (table_of image home) { in_use = is_in_use after }
    unfolding table_in header_lbn
    bit_table = ap (table_in (new lbn block)) bit_index ∙ (λ i. record {
      slots = headers_length i;
      in_use = is_in_use after;
      header = λ m. header_stays m i;
    })
      where
        headers_are : after.headers ≡ index.headers
        headers_are = ap (λ (x : Index). x.headers) bit.one_block

        headers_length : slots after ≡ slots index
        headers_length = ap length headers_are

        header_stays : (m : ℕ) → image_block (new lbn block) (header_lbn after m) ≡ image_block image (header_lbn index m)
        header_stays m =
            ap (λ (hs : List ℕ). image_block (new lbn block) (get_or hs (m - 1) 0)) headers_are
            ∙ same lbn block (header_lbn index m)
            (elsewhere lbn block apart (2 + bitmap_place n) at (is_at m).place (header_lbn index m) (is_at m).at
            ((is_at m).outside (bitmap_place n) within))

    pub bit_write : KeepsButBit home after image (with_bitmap_block image after n)
    bit_write = record { file = bit_file; index_is = bit_index; table = bit_table }

  -- the block of a header
  module _ (n : ℕ) (written : List ℕ) (apart : AreApart all) (some : 0 < n) (few : n ≤ slots index)
      (leads : IsHeaderOf (table_of image home) 1 n → LeadsAlike ((table_of image home).header n) written) where
    abbrev header_new : Image
    header_new = set image (header_lbn index n) written

    here : slice_get all (2 + home.index_blocks + (n - 1)) ≡ Some (header_lbn index n)
    here = header_at n some few

    away : (i l : ℕ) → slice_get all i ≡ Some l → i ≢ 2 + home.index_blocks + (n - 1) → l ≢ header_lbn index n
    away = elsewhere (header_lbn index n) written apart (2 + home.index_blocks + (n - 1)) here

    read_back : image_block header_new (header_lbn index n) ≡ written
    read_back =
        image_block-written image (header_lbn index n) written
        (inside (header_lbn index n) written apart (2 + home.index_blocks + (n - 1)) here)

    each_alike : (m l : ℕ) → IsHeaderOf (table_of image home) 1 m → slice_get all (header_place home m) ≡ Some l
        → LeadsAlike (image_block image l) (image_block header_new l)
    unfolding table_in
    each_alike m l of at = elim (cases_eq m n) [
      | inl same_number ↦
          let place : header_place home m ≡ 2 + home.index_blocks + (n - 1) = omega (arith, same_number, some) in
          let is : l ≡ header_lbn index n = same_Some l (header_lbn index n) (sym at ∙ ap (slice_get all) place ∙ here) in
          subst (λ (k : ℕ). LeadsAlike (image_block image k) (image_block header_new k)) (sym is)
          (subst (LeadsAlike (image_block image (header_lbn index n))) (sym read_back)
          (leads (subst (λ (k : ℕ). IsHeaderOf (table_of image home) 1 k) same_number of)))
      | inr other ↦ alike (header_lbn index n) written l (away (header_place home m) l at
          (λ e. other (omega (arith, e, some, (in_use-within image home m (live_of-header of).in_use).0))))
    ]

    header_file : index_file_blocks header_new home ≡ all
    header_file = file_same image header_new home good each_alike

    header_index : index_of header_new home ≡ index
    header_index = index_from header_new index.bitmap
        (bitmap_same (header_lbn index n) written (λ i below. away (2 + i) (home.index_lbn + i) (bitmap_at i below) (λ e. omega arith)))
        (headers_same header_new header_file)

    pub header_write : KeepsButHeader home n written image header_new
    unfolding table_in
    header_write = record {
      file = header_file;
      index = header_index;
      header = ap (λ (x : Index). image_block header_new (header_lbn x n)) header_index ∙ read_back;
      others = λ m above below other.
          ap (λ (x : Index). image_block header_new (header_lbn x m)) header_index
          ∙ same (header_lbn index n) written (header_lbn index m)
          (away (2 + home.index_blocks + (m - 1)) (header_lbn index m) (header_at m above below) (λ e. other (omega arith)));
    }
