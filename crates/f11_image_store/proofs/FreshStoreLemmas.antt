-- The store of a fresh volume.
use Rattle.std.proofs.Common.{◌≡◌, ◌⊎◌, ◌≤◌, ◌<◌, ◌+◌, ◌-◌, inl, inr, ℕ, zero, suc, Bool, true, false, cond, List, [], ◌∷◌, Some, None}
use Rattle.std.proofs.Common.{refl, ap, sym, ◌∙◌, map, length, ltb, leb, arith}
use Rattle.std.specs.List.{sum_by}
use Rattle.std.proofs.lemmas.Bool.{cases_lt, and_from, and_left, and_right, lt-ltb, le-leb, lt-leb, le-ltb, ltb-true, false_from_ne_true}
use Rattle.std.proofs.lemmas.List.FromFn.{length-range_with_len}
use Rattle.std.proofs.lemmas.List.Sums.{sum_by-cons}
use Rattle.f11_bits.specs.Bitmap.{count_below, is_free, free_blocks}
use Rattle.f11_bits.proofs.CountLemmas.{count_below-zero, count_below-suc, count_below-more}
use Rattle.f11_bytes.specs.Block.{zero_block}
use Rattle.f11_dev.specs.Image.{Image, IsImage}
use Rattle.f11_header.specs.Fields.{file_sequence, map_area}
use Rattle.f11_header.specs.MapFields.{places}
use Rattle.f11_volume.specs.home.Home.{HomeFields, fields_of, IsHomeOf}
use Rattle.f11_volume.proofs.home.HomeLemmas.{home-unique}
use Rattle.f11_index.specs.Table.{Table, table_in, table_of, last_sequence, first}
use Rattle.f11_volume.specs.layout.FreshHome.{fresh_home}
use Rattle.f11_volume.specs.layout.Places.{first_header, bit_blocks}
use Rattle.f11_volume.specs.layout.declared.layout.Layout.{Layout}
use Rattle.f11_volume.proofs.layout.HomeLemmas.{fresh-max_files}
use Rattle.f11_store.specs.File.{File}
use Rattle.f11_volume.specs.Contents.{block_or_zeros, file_of, headers_reached, pointer_count, room_left}
use Rattle.f11_volume.specs.Fresh.{used_by, IsFreshUpTo, IsFreshVolume}
use Rattle.f11_volume.specs.Space.{storage_bitmap}
use Rattle.f11_volume.proofs.FileLemmas.{reached-are, file-blocks-are}
use Rattle.f11_volume.proofs.FreshLemmas.{home-is, bitmap-size, slots-are, header-at, own, used-own, own-in_use, is-file, whole}
use Rattle.f11_volume.proofs.FreshLemmas.{own-headers, own-blocks, volume-size, places-are, free-are, free-inside}
use Rattle.f11_image_store.specs.FreshStore.{is_own, fresh_file, fresh_store}
use Rattle.f11_image_store.specs.StoreOf.{as_seen, file_at, last_given, store_of}
use Rattle.f11_image_store.proofs.InstanceLemmas.{last-at}
use Rattle.f11_image_store.proofs.StoreLemmas.{file-at}
use Rattle.f11_store.proofs.StoreLemmas.{same-store}

-- a number is one of its own files', or isn't
own-or-not : (n : ℕ) → ((0 < n) × (n ≤ 5) × (is_own n ≡ true)) ⊎ (¬ ((0 < n) × (n ≤ 5)) × (is_own n ≡ false))
own-or-not n = go (cases_lt 0 n) (cases_lt 5 n)
  where
    go : (0 < n) ⊎ (n ≤ 0) → (5 < n) ⊎ (n ≤ 5) → ((0 < n) × (n ≤ 5) × (is_own n ≡ true)) ⊎ (¬ ((0 < n) × (n ≤ 5)) × (is_own n ≡ false))
    go (inl some) (inr few) = inl (some, few, and_from _ _ (lt-ltb 0 n some) (le-leb n 5 few))
    go (inl some) (inl past) = inr (λ is. omega (arith, is.1, past), and_right _ _ (lt-leb n 5 past))
    go (inr none) which = inr (λ is. omega (arith, is.0, none), and_left _ _ (le-ltb 0 n none))

-- none pass a test that none passes
none-pass : (n : ℕ) → count_below (λ k. false) n ≡ 0
none-pass zero = count_below-zero (λ k. false)
none-pass (suc n) = let so_far = none-pass n in let more = count_below-suc (λ k. false) n in omega (arith, so_far, more)

pub zero-sequence : file_sequence zero_block ≡ 0
unfolding zero_block
zero-sequence = refl

module _ (image : Image) (l : Layout) (is : IsImage image) (room : l.blocks ≤ length image) (fresh : IsFreshUpTo l image (used_by l)) where
  abbrev home : HomeFields
  home = fields_of 1 (fresh_home l)

  abbrev t : Table
  t = table_of image home

  reached : (n : ℕ) → 0 < n → n ≤ 5 → headers_reached t n ≡ n ∷ []
  reached n some few =
      reached-are 256 t n (whole image l is room fresh n some few) (first (is-file image l is room fresh n some few))
      ∙ own-headers image l is room fresh n some few

  counted : (n : ℕ) (some : 0 < n) (few : n ≤ 5) → pointer_count t n ≡ (fresh_file image l n).pointers
  counted n some few = ap length (own image l is room fresh n some few).pointers

  pointers-are : (n : ℕ) → 0 < n → n ≤ 5 → sum_by (pointer_count t) (headers_reached t n) ≡ (fresh_file image l n).pointers
  pointers-are n some few =
      let one = ap (sum_by (pointer_count t)) (reached n some few) ∙ sum_by-cons (pointer_count t) n [] in
      let here = counted n some few in omega (arith, one, here)

  room-is : (n : ℕ) → 0 < n → n ≤ 5 → room_left t (headers_reached t n) ≡ (fresh_file image l n).room
  room-is n some few =
      ap (room_left t) (reached n some few)
      ∙ ap (λ (k : ℕ). places (map_area (t.header n)) - k) (counted n some few)
      ∙ ap (λ (k : ℕ). k - (fresh_file image l n).pointers) (own image l is room fresh n some few).room

  file-is : (n : ℕ) → 0 < n → n ≤ 5 → file_of image t n ≡ fresh_file image l n
  unfolding file_of
  file-is n some few = λ i. record {
    sequence = (own image l is room fresh n some few).sequence_is i;
    owner = (own image l is room fresh n some few).owner_is i;
    protection = (own image l is room fresh n some few).protection_is i;
    characteristics = (own image l is room fresh n some few).no_characteristics i;
    ident = (own image l is room fresh n some few).ident_is i;
    attr = (own image l is room fresh n some few).attributes_are i;
    held = reached n some few i;
    pointers = pointers-are n some few i;
    room = room-is n some few i;
    blocks = (file-blocks-are image t n (whole image l is room fresh n some few)
        ∙ ap (map (block_or_zeros image)) (own-blocks image l is room fresh n some few)) i;
  }

  files-are : (n : ℕ) → file_at image t n ≡ (fresh_store image l).file n
  files-are n = go (own-or-not n)
    where
      go : ((0 < n) × (n ≤ 5) × (is_own n ≡ true)) ⊎ (¬ ((0 < n) × (n ≤ 5)) × (is_own n ≡ false))
          → file_at image t n ≡ (fresh_store image l).file n
      go (inl (some, few, is_one)) =
          file-at image t n _ (λ file. refl) (λ none. absurd (none (is-file image l is room fresh n some few)))
          ∙ ap (λ (f : File). Some (as_seen n f)) (file-is n some few)
          ∙ sym (ap (λ (b : Bool). cond b (Some (as_seen n (fresh_file image l n))) None) is_one)
      go (inr (other, isnt)) =
          file-at image t n None (λ file. absurd (other (used-own image l is room fresh n file.live.in_use))) (λ none. refl)
          ∙ sym (ap (λ (b : Bool). cond b (Some (as_seen n (fresh_file image l n))) None) isnt)

  used-are : (n : ℕ) → t.in_use n ≡ is_own n
  used-are n = go (own-or-not n)
    where
      go : ((0 < n) × (n ≤ 5) × (is_own n ≡ true)) ⊎ (¬ ((0 < n) × (n ≤ 5)) × (is_own n ≡ false)) → t.in_use n ≡ is_own n
      go (inl (some, few, is_one)) = own-in_use image l is room fresh n some few ∙ sym is_one
      go (inr (other, isnt)) = false_from_ne_true _ (λ used. other (used-own image l is room fresh n used)) ∙ sym isnt

  -- the sequence number of a slot behind them
  slots-same : t.slots ≡ l.slots
  unfolding table_in
  slots-same = slots-are image l is room fresh

  later-last : (n : ℕ) → 5 < n → last_given t n ≡ 0
  unfolding last_given
  later-last n past = go (cases_lt l.slots n)
    where
      go : (l.slots < n) ⊎ (n ≤ l.slots) → last_given t n ≡ 0
      go (inl high) =
          ap (λ (b : Bool). cond b (last_sequence t n) 0)
          (and_right (ltb 0 n) (leb n t.slots) (lt-leb n t.slots (omega (arith, high, slots-same))))
      go (inr within) =
          last-at t n (omega (arith, past)) (omega (arith, within, slots-same))
          ∙ ap file_sequence (header-at image l is room fresh n (omega (arith, past)) within
          ∙ (fresh (first_header l.max_files + (n - 1)) (omega (arith, past, within))).free_header (n - 1) (omega (arith, past))
          (omega (arith, past, within)) refl)
          ∙ zero-sequence

  last-are : (n : ℕ) → last_given t n ≡ (fresh_store image l).last n
  unfolding last_given
  last-are n = go (own-or-not n) (cases_lt 5 n)
    where
      go : ((0 < n) × (n ≤ 5) × (is_own n ≡ true)) ⊎ (¬ ((0 < n) × (n ≤ 5)) × (is_own n ≡ false)) → (5 < n) ⊎ (n ≤ 5)
          → last_given t n ≡ (fresh_store image l).last n
      go (inl (some, few, is_one)) which =
          last-at t n some (omega (arith, few, slots-same, l.valid.some_slots)) ∙ (own image l is room fresh n some few).sequence_is
          ∙ sym (ap (λ (b : Bool). cond b n 0) is_one)
      go (inr (other, isnt)) (inl past) = later-last n past ∙ sym (ap (λ (b : Bool). cond b n 0) isnt)
      go (inr (other, isnt)) (inr few) =
          ap (λ (b : Bool). cond b (last_sequence t n) 0)
          (and_left (ltb 0 n) (leb n t.slots) (false_from_ne_true (ltb 0 n) (λ some. other (ltb-true 0 n some, few))))
          ∙ sym (ap (λ (b : Bool). cond b n 0) isnt)

  free-count : free_blocks image (storage_bitmap image home) ≡ l.blocks - used_by l
  free-count =
      let bitmap = storage_bitmap image home in
      let fits : used_by l + (l.blocks - used_by l) ≡ l.blocks = omega (arith, l.valid.room) in
      let more : count_below (is_free image bitmap) l.blocks ≡ count_below (λ k. false) l.blocks + (l.blocks - used_by l) =
      count_below-more (is_free image bitmap) (λ k. false) (used_by l) (l.blocks - used_by l) l.blocks (omega (arith, fits))
      (λ k low high. free-are image l is room fresh k (omega (arith, high, fits)) ∙ le-leb (used_by l) k low)
      (λ k low high. refl)
      (λ k below. free-are image l is room fresh k (omega (arith, below, l.valid.room)) ∙ lt-leb (used_by l) k below)
      (λ k past. false_from_ne_true _ (λ free. let inside = free-inside image l is room fresh k free in omega (arith, inside, past, fits)))
      in
      let none = none-pass l.blocks in
      ap (count_below (is_free image bitmap)) (volume-size image l is room fresh) ∙ omega (arith, more, none)

  fresh-stored : store_of image home ≡ fresh_store image l
  unfolding store_of
  fresh-stored = same-store (store_of image home) (fresh_store image l) files-are free-count slots-same used-are last-are refl
      (ap (λ (b : List ℕ). length b) (places-are image l is room fresh) ∙ length-range_with_len _ (bit_blocks l.blocks))
      (bitmap-size image l is room fresh) limit-is
    where
      limit-is : (store_of image home).limit ≡ l.max_files
      limit-is =
          let files = fresh-max_files l (omega (arith, l.valid.few_files)) in let blocks = bitmap-size image l is room fresh in
          omega (arith, files, blocks, l.valid.few_files)

pub fresh-is-stored : (l : Layout) (old new : Image) (home : HomeFields) → IsImage new → l.blocks ≤ length new → IsFreshVolume l old new
    → IsHomeOf new home → store_of new home ≡ fresh_store new l
fresh-is-stored l old new home is room fresh of =
    ap (store_of new) (home-unique new home (fields_of 1 (fresh_home l)) of (home-is new l is room fresh.front))
    ∙ fresh-stored new l is room fresh.front
