-- The index file grows at its end.
use Rattle.std.proofs.Common.{◌≡◌, ◌≢◌, ℕ, zero, suc, ◌+◌, ◌-◌, ◌*◌, ◌<◌, ◌≤◌, false, List, [], ◌++◌, length, take, drop, min, Option, Some}
use Rattle.std.proofs.Common.{None, refl, sym, ap, subst, ◌∙◌, inl, inr, arith, append_assoc}
use Rattle.std.proofs.Math.ListN.{set}
use Rattle.std.specs.List.{All, slice_get, range_with_len}
use Rattle.std.proofs.lemmas.Bool.{cases_eq, cases_lt, cases_Bool}
use Rattle.std.proofs.lemmas.List.{length-append, length-take, length-set, get_or-take, get_or_append_left}
use Rattle.std.proofs.lemmas.List.FromFn.{length-map-range_with_len}
use Rattle.std.proofs.lemmas.List.Elements.{All-append}
use Rattle.std.proofs.lemmas.Option.{same_Some, slice_get_within}
use Rattle.f11_dev.specs.Image.{Image, image_block}
use Rattle.f11_dev.proofs.ImageLemmas.{image_block-written}
use Rattle.f11_map.specs.header.Fields.{file_sequence}
use Rattle.f11_map.specs.header.Header.{IsHeader}
use Rattle.f11_home.specs.Home.{HomeFields}
use Rattle.f11_index.specs.Calls.{with_blocks_behind}
use Rattle.f11_index.specs.ChangeLaws.{IsAsGood}
use Rattle.f11_index.specs.Growth.{IsGoodFor, MayNameMore, MayLinkOn, AddsIndexBlocks, with_header}
use Rattle.f11_map.specs.HeaderBlock.{segment_number, link_of, blocks_named}
use Rattle.f11_index.specs.Headers.{IsLastOf}
use Rattle.f11_index.specs.IndexFile.{Index, index_of, index_file_blocks, blocks_on, header_place, header_among, header_lbn, headers_among}
use Rattle.f11_index.specs.IndexFile.{most_slots, slots, slot_bit, is_in_use, first_header_lbn, HasNonePast}
use Rattle.f11_index.specs.Sound.{IsIndexFile, AreApart}
use Rattle.f11_index.specs.Table.{Table, table_in, table_of, IsLive, IsNext, IsHeaderOf, first, next}
use Rattle.f11_index.proofs.BitLemmas.{is_in_use-within, is_in_use-past, is_in_use-none}
use Rattle.f11_index.proofs.ChainLemmas.{live_of-header}
use Rattle.f11_index.proofs.HeadersLemmas.{link_number, last-highest, last-one, last-whole}
use Rattle.f11_index.proofs.LawLemmas.{header_at, bitmap_at, bitmap_same, elsewhere, inside, same as same_block}
use Rattle.f11_index.proofs.PlaceLemmas.{slice_get-append_front, drop-append, take-append_take, range-below}
use Rattle.f11_index.proofs.UpLemmas.{header-up}
use Rattle.f11_index.proofs.WalkLemmas.{first-at, so_far, ends, goes_on, header_among-some, header_is, in_use-within, few-slots}
use Rattle.f11_index.proofs.WalkLemmas.{found-there}

module _ (image : Image) (home : HomeFields) (good : IsIndexFile image home) where
  abbrev t : Table
  t = table_of image home

  abbrev all : List ℕ
  all = index_file_blocks image home

  abbrev index : Index
  index = index_of image home

  -- The walk over a new image: it goes the same way up to the last header, and has more from there on.
  module _ (n : ℕ) (last : IsLastOf t 1 n) (few : segment_number (t.header n) < 256) (new : Image) (more : List ℕ)
      (others : (m l : ℕ) → IsHeaderOf t 1 m → m ≢ n → slice_get all (header_place home m) ≡ Some l
      → image_block new l ≡ image_block image l)
      (end : (most : ℕ) (known : List ℕ) (l : ℕ) → segment_number (t.header n) + most ≡ 255 → slice_get all (header_place home n) ≡ Some l
      → all ≡ known ++ blocks_named (t.header n) → blocks_on (suc most) new home known (Some l) ≡ all ++ more) where
    Grown : ℕ → Type 0
    Grown most =
        (known : List ℕ) (m l : ℕ) → IsHeaderOf t 1 m → segment_number (t.header m) + most ≡ 256
        → slice_get all (header_place home m) ≡ Some l
        → all ≡ blocks_on most image home known (Some l) → blocks_on most new home known (Some l) ≡ all ++ more

    -- on along a link
    along : (most : ℕ) → Grown most → (known : List ℕ) (m : ℕ) → IsHeaderOf t 1 m → segment_number (t.header m) + most ≡ 256
        → (at : Option ℕ) → header_among home known m ≡ at
        → all ≡ blocks_on most image home known at → blocks_on most new home known at ≡ all ++ more
    unfolding Grown
    along most grown known m of segment None is so =
        let slot = in_use-within image home m (live_of-header of).in_use in
        absurd (found-there image home good known m slot.0 slot.1 (so ∙ ends most image home known) is)
    along most grown known m of segment (Some l) is so =
        let some : 0 < m = (in_use-within image home m (live_of-header of).in_use).0 in
        let here : slice_get known (header_place home m) ≡ Some l = sym (header_among-some home known m some) ∙ is in
        grown known m l of segment
        (ap (λ (xs : List ℕ). slice_get xs (header_place home m)) so ∙ so_far most image home known (Some l) (header_place home m) l
        here) so

    from-header : (most : ℕ) → Grown most
    unfolding Grown
    from-header zero known m l of segment at so = let highest = last-highest last of in absurd (omega (arith, segment, highest, few))
    from-header (suc most) known m l of segment at so =
        let slot = in_use-within image home m (live_of-header of).in_use in
        let is : t.header m ≡ image_block image l = header_is image home m l slot.0 (omega (arith, slot.1, few-slots image home)) at in
        let then_known : List ℕ = known ++ blocks_named (t.header m) in
        let on : blocks_on (suc most) image home known (Some l) ≡ blocks_on most image home then_known
        (header_among home then_known (link_number t m)) =
        goes_on most image home known l (t.header m) (sym is) in
        elim (cases_eq m n) [
          | inl same ↦
              let none : header_among home then_known (link_number t m) ≡ None =
              ap (header_among home then_known) (ap (link_number t) same ∙ last.no_link) in
              let all_is : all ≡ known ++ blocks_named (t.header m) = so ∙ on ∙ ap (blocks_on most image home then_known) none
              ∙ ends most image home then_known in
              end most known l (omega (arith, segment, ap (λ (x : ℕ). segment_number (t.header x)) same))
              (ap (λ (x : ℕ). slice_get all (header_place home x)) (sym same) ∙ at)
              (all_is ∙ ap (λ (x : ℕ). known ++ blocks_named (t.header x)) same)
          | inr other ↦
              let on_new : blocks_on (suc most) new home known (Some l) ≡ blocks_on most new home then_known
              (header_among home then_known (link_number t m)) =
              goes_on most new home known l (t.header m) (others m l of other at ∙ sym is) in
              elim (good.whole.links m of) [
                | inl none ↦ absurd (other (last-one t 1 m n (record { of = of; no_link = none }) last))
                | inr goes ↦
                    on_new
                    ∙ along most (from-header most) then_known (link_number t m) (next of goes) (omega (arith, goes.segment, segment))
                    (header_among home then_known (link_number t m)) refl (so ∙ on)
              ]
        ]

    pub file-grown : index_file_blocks new home ≡ all ++ more
    unfolding index_file_blocks Grown
    file-grown =
        from-header 256 [] 1 (first_header_lbn home) (first good.whole.file) (omega (arith, good.whole.file.first))
        (first-at home all good.placed) refl

  -- The last header is written where it is.
  module _ (apart : AreApart all) (n : ℕ) (some : 0 < n) (slot : n ≤ slots index) (block : List ℕ) where
    abbrev lbn_n : ℕ
    lbn_n = header_lbn index n

    abbrev new : Image
    new = set image lbn_n block

    abbrev place_n : ℕ
    place_n = 2 + home.index_blocks + (n - 1)

    here : slice_get all place_n ≡ Some lbn_n
    here = header_at image home good n some slot

    away : (i l : ℕ) → slice_get all i ≡ Some l → i ≢ place_n → l ≢ lbn_n
    away = elsewhere image home good lbn_n block apart place_n here

    read_back : image_block new lbn_n ≡ block
    read_back = image_block-written image lbn_n block (inside image home good lbn_n block apart place_n here)

    stays_at : (m l : ℕ) → 0 < m → m ≢ n → slice_get all (header_place home m) ≡ Some l → image_block new l ≡ image_block image l
    stays_at m l some_m other at =
        same_block image home good lbn_n block l (away (header_place home m) l at (λ e. other (omega (arith, e, some, some_m))))

    -- the place of header m
    place_is : (m : ℕ) → 0 < m → header_place home m ≡ 2 + home.index_blocks + (m - 1)
    place_is m some_m = omega (arith, some_m)

    found_at : (m : ℕ) → 0 < m → m ≤ slots index → slice_get all (header_place home m) ≡ Some (header_lbn index m)
    found_at m some_m few = ap (slice_get all) (place_is m some_m) ∙ header_at image home good m some_m few

    lbn_is : (m l : ℕ) → 0 < m → m ≤ slots index → slice_get all (header_place home m) ≡ Some l → l ≡ header_lbn index m
    lbn_is m l some_m few at = same_Some l (header_lbn index m) (sym at ∙ found_at m some_m few)

    -- What the index file says then, where it has these blocks more.
    module _ (lbn count : ℕ) (file : index_file_blocks new home ≡ all ++ range_with_len lbn count) where
      abbrev more : List ℕ
      more = range_with_len lbn count

      abbrev grown : Index
      grown = with_blocks_behind index lbn count

      most_is : min (4096 * length index.bitmap) 65535 ≡ most_slots home
      unfolding index_of
      most_is = omega (arith, length-map-range_with_len (image_block image) home.index_lbn home.index_blocks)

      headers_new : headers_among home (index_file_blocks new home) ≡ take (most_slots home) (index.headers ++ more)
      unfolding index_of
      headers_new =
          let skip : ℕ = 2 + home.index_blocks in
          let long = slice_get_within all (2 + home.index_blocks) _ (good.placed.bitmap_and_headers home.index_blocks (omega arith)) in
          let none : skip - length all ≡ 0 = omega (arith, long) in
          ap (headers_among home) file
          ∙ ap (take (most_slots home)) (drop-append skip all more ∙ ap (λ (k : ℕ). drop skip all ++ drop k more) none)
          ∙ sym (take-append_take (most_slots home) (drop skip all) more)

      bitmap_is : (index_of new home).bitmap ≡ index.bitmap
      bitmap_is =
          bitmap_same image home good lbn_n block
          (λ i below. away (2 + i) (home.index_lbn + i) (bitmap_at image home good i below) (λ e. omega (arith, e, below)))

      index_new : index_of new home ≡ grown
      unfolding index_of
      index_new =
          ap (λ (b : List (List ℕ)).
          record { bitmap_lbn = home.index_lbn; bitmap = b; headers = headers_among home (index_file_blocks new home) }) bitmap_is
          ∙ ap (λ (h : List ℕ). record { bitmap_lbn = home.index_lbn; bitmap = index.bitmap; headers = h })
          (headers_new ∙ ap (λ (k : ℕ). take k (index.headers ++ more)) (sym most_is))

      more_slots : slots index ≤ slots grown
      more_slots =
          omega (
            arith,
            length-take (min (4096 * length index.bitmap) 65535) (index.headers ++ more),
            length-append index.headers more,
            most_is,
            few-slots image home,
          )

      -- a slot that there was
      lbn_kept : (m : ℕ) → 0 < m → m ≤ slots index → header_lbn grown m ≡ header_lbn index m
      unfolding header_lbn
      lbn_kept m some_m within =
          get_or-take (min (4096 * length index.bitmap) 65535) (index.headers ++ more) (m - 1) 0
          (omega (arith, some_m, within, most_is, few-slots image home))
          ∙ get_or_append_left index.headers more 0 (m - 1) (omega (arith, some_m, within))

      header_kept : (m : ℕ) → 0 < m → m ≤ slots index → (table_of new home).header m ≡ image_block new (header_lbn index m)
      unfolding table_in
      header_kept m some_m within =
          ap (λ (x : Index). image_block new (header_lbn x m)) index_new ∙ ap (image_block new) (lbn_kept m some_m within)

      header_new : (table_of new home).header n ≡ block
      header_new = header_kept n some slot ∙ read_back

      header_other : (m : ℕ) → 0 < m → m ≤ slots index → m ≢ n → (table_of new home).header m ≡ t.header m
      unfolding table_in
      header_other m some_m within other =
          header_kept m some_m within ∙ stays_at m (header_lbn index m) some_m other (found_at m some_m within)

      in_use_is : (m : ℕ) → (table_of new home).in_use m ≡ is_in_use grown m
      unfolding table_in
      in_use_is m = ap (λ (x : Index). is_in_use x m) index_new

      in_use_kept : (m : ℕ) → m ≤ slots index → (table_of new home).in_use m ≡ t.in_use m
      unfolding table_in
      in_use_kept m within = in_use_is m ∙ elim (cases_eq m 0) [
        | inl none ↦ sym (is_in_use-none grown m (inl none)) ∙ is_in_use-none index m (inl none)
        | inr above ↦
            is_in_use-within grown m (omega (arith, above)) (omega (arith, within, more_slots))
            ∙ sym (is_in_use-within index m (omega (arith, above)) within)
      ]

      unused : HasNonePast index → (m : ℕ) → slots index < m → (table_of new home).in_use m ≡ false
      unused none m past = in_use_is m ∙ elim (cases_lt (slots grown) m) [
        | inl beyond ↦ is_in_use-past grown m beyond
        | inr within ↦ is_in_use-within grown m (omega (arith, past)) within ∙ elim (cases_Bool (slot_bit index m)) [
          | inl is ↦ absurd (none m (record { past = past; bit = is }))
          | inr not ↦ not
        ]
      ]

      none_past : HasNonePast index → HasNonePast (index_of new home)
      none_past none =
          subst HasNonePast (sym index_new) (λ m is. none m (record { past = omega (arith, is.past, more_slots); bit = is.bit }))

      -- Its headers are as good, where the one that was written is.
      module _ (is_good : IsGoodFor t n block) (last : IsLastOf t 1 n) where
        within_of : (m : ℕ) → IsHeaderOf t 1 m → (0 < m) × (m ≤ slots index)
        within_of m of = in_use-within image home m (live_of-header of).in_use

        as_good : (m : ℕ) → IsHeaderOf t 1 m → IsAsGood t (table_of new home) m
        as_good m of =
            let slot_m = within_of m of in
            let live = live_of-header of in
            elim (cases_eq m n) [
              | inl same ↦ subst (IsAsGood t (table_of new home)) (sym same) (record {
                in_use = in_use_kept n slot ∙ (live_of-header last.of).in_use;
                valid = subst (λ (b : List ℕ). IsHeader b n) (sym header_new) is_good.valid;
                sequence = ap file_sequence header_new ∙ is_good.sequence;
                segment = ap segment_number header_new ∙ is_good.segment;
              })
              | inr other ↦
                  let stays = header_other m slot_m.0 slot_m.1 other in
                  record {
                    in_use = in_use_kept m slot_m.1 ∙ live.in_use;
                    valid = subst (λ (b : List ℕ). IsHeader b m) (sym stays) live.valid;
                    sequence = ap file_sequence stays;
                    segment = ap segment_number stays;
                  }
            ]

        still_of : IsHeaderOf (table_of new home) 1 n
        still_of = header-up t (table_of new home) 1 last.of record {
          good = λ m of below. as_good m of;
          links = λ m of below.
              let slot_m = within_of m of in
              ap link_of (header_other m slot_m.0 slot_m.1
              (λ same. omega (arith, below, ap (λ (x : ℕ). segment_number (t.header x)) same)));
        }

        still_live : IsLive (table_of new home) n
        still_live = live_of-header still_of

        -- so it is as it should be where it has a last header
        grows : (m : ℕ) → lbn + count ≤ length image → IsLastOf (table_of new home) 1 m → AddsIndexBlocks home n block lbn count image new
        grows m on_device ends_now = record {
          file = file;
          index = index_new;
          header = header_new;
          others = header_other;
          in_use = in_use_kept;
          unused = unused;
          none_past = none_past;
          sound = record {
            whole = last-whole (table_of new home) 1 m ends_now;
            sequence = (as_good 1 (first good.whole.file)).sequence ∙ good.sequence;
            within = subst (λ (xs : List ℕ). All (λ l. l < length new) xs) (sym file)
                (subst (λ (k : ℕ). All (λ l. l < k) (all ++ more)) (sym (length-set image lbn_n block))
                (All-append (λ l. l < length image) all more good.within (range-below lbn count (length image) on_device)));
            placed = record {
              boot = front 0 0 good.placed.boot;
              home_block = front 1 home.lbn good.placed.home_block;
              bitmap_and_headers = λ i below. front (2 + i) (home.index_lbn + i) (good.placed.bitmap_and_headers i below);
            };
          };
        }
          where
            front : (i l : ℕ) → slice_get all i ≡ Some l → slice_get (index_file_blocks new home) i ≡ Some l
            front i l at = ap (λ (xs : List ℕ). slice_get xs i) file ∙ slice_get-append_front all more i l at

  -- It names more blocks.
  pub grows-at : (n : ℕ) (block : List ℕ) (lbn count : ℕ) → AreApart all → MayNameMore t n block lbn count → lbn + count ≤ length image
      → AddsIndexBlocks home n block lbn count image (with_header image home n block)
  grows-at n block lbn count apart may on_device =
      let slot = in_use-within image home n (live_of-header may.last.of).in_use in
      let new : Image = set image (header_lbn index n) block in
      let more : List ℕ = range_with_len lbn count in
      let file : index_file_blocks new home ≡ all ++ more =
      file-grown n may.last may.few new more
      (λ m l of other at. stays_at apart n slot.0 slot.1 block m l (in_use-within image home m (live_of-header of).in_use).0 other at)
      (λ most known l left at so.
      let read : image_block new l ≡ block = ap (image_block new) (lbn_is apart n slot.0 slot.1 block n l slot.0 slot.1 at)
      ∙ read_back apart n slot.0 slot.1 block in
      let none : header_among home (known ++ blocks_named block) (link_of block).number ≡ None =
      ap (header_among home (known ++ blocks_named block)) may.no_link in
      goes_on most new home known l block read ∙ ap (blocks_on most new home (known ++ blocks_named block)) none
      ∙ ends most new home (known ++ blocks_named block)
      ∙ ap (λ (b : List ℕ). known ++ b) may.blocks ∙ sym (append_assoc known (blocks_named (t.header n)) more)
      ∙ ap (λ (b : List ℕ). b ++ more) (sym so)) in
      grows apart n slot.0 slot.1 block lbn count file may.good may.last n on_device (record {
        of = still_of apart n slot.0 slot.1 block lbn count file may.good may.last;
        no_link = ap (λ (b : List ℕ). (link_of b).number) (header_new apart n slot.0 slot.1 block lbn count file) ∙ may.no_link;
      })

  -- It links to a header that does.
  pub grows-by : (n m : ℕ) (block : List ℕ) (lbn count : ℕ) → AreApart all → MayLinkOn t n m block lbn count → lbn + count ≤ length image
      → AddsIndexBlocks home n block lbn count image (with_header image home n block)
  grows-by n m block lbn count apart may on_device =
      let slot = in_use-within image home n (live_of-header may.last.of).in_use in
      let slot_m = in_use-within image home m may.to.in_use in
      let other : m ≢ n = λ same. omega (arith, may.next_segment, ap (λ (x : ℕ). segment_number (t.header x)) same) in
      let new : Image = set image (header_lbn index n) block in
      let more : List ℕ = range_with_len lbn count in
      let at_m = found_at apart n slot.0 slot.1 block m slot_m.0 slot_m.1 in
      let header_m : image_block new (header_lbn index m) ≡ t.header m =
      stays_at apart n slot.0 slot.1 block m (header_lbn index m) slot_m.0 other at_m
      ∙ sym (header_is image home m (header_lbn index m) slot_m.0 (omega (arith, slot_m.1, few-slots image home)) at_m) in
      let among_m : header_among home all (link_of block).number ≡ Some (header_lbn index m) = ap (header_among home all) may.number
      ∙ header_among-some home all m slot_m.0 ∙ at_m in
      let none : header_among home (all ++ blocks_named (t.header m)) (link_number t m) ≡ None =
      ap (header_among home (all ++ blocks_named (t.header m))) may.no_link in
      let file : index_file_blocks new home ≡ all ++ more =
      file-grown n may.last (omega (arith, may.few)) new more
      (λ x l of apart_n at. stays_at apart n slot.0 slot.1 block x l (in_use-within image home x (live_of-header of).in_use).0 apart_n at)
      (λ most known l left at so.
      let read : image_block new l ≡ block = ap (image_block new) (lbn_is apart n slot.0 slot.1 block n l slot.0 slot.1 at)
      ∙ read_back apart n slot.0 slot.1 block in
      let known_is : known ++ blocks_named block ≡ all = ap (λ (b : List ℕ). known ++ b) may.blocks ∙ sym so in
      let one_more : most ≡ suc (most - 1) = omega (arith, left, may.few) in
      goes_on most new home known l block read
      ∙ ap (λ (xs : List ℕ). blocks_on most new home xs (header_among home xs (link_of block).number)) known_is
      ∙ ap (blocks_on most new home all) among_m
      ∙ ap (λ (k : ℕ). blocks_on k new home all (Some (header_lbn index m))) one_more
      ∙ goes_on (most - 1) new home all (header_lbn index m) (t.header m) header_m
      ∙ ap (blocks_on (most - 1) new home (all ++ blocks_named (t.header m))) none
      ∙ ends (most - 1) new home (all ++ blocks_named (t.header m))
      ∙ ap (λ (b : List ℕ). all ++ b) may.next_blocks) in
      let header_n = header_new apart n slot.0 slot.1 block lbn count file in
      let header_to = header_other apart n slot.0 slot.1 block lbn count file m slot_m.0 slot_m.1 other in
      let goes : IsNext (table_of new home) n m = record {
        from = still_live apart n slot.0 slot.1 block lbn count file may.good may.last;
        to = record {
          in_use = in_use_kept apart n slot.0 slot.1 block lbn count file m slot_m.1 ∙ may.to.in_use;
          valid = subst (λ (b : List ℕ). IsHeader b m) (sym header_to) may.to.valid;
        };
        number = ap (λ (b : List ℕ). (link_of b).number) header_n ∙ may.number;
        sequence = ap (λ (b : List ℕ). (link_of b).sequence) header_n ∙ may.sequence ∙ ap file_sequence (sym header_to);
        segment = ap segment_number header_to ∙ may.next_segment
            ∙ ap (λ (k : ℕ). k + 1) (sym (ap segment_number header_n ∙ may.good.segment));
      } in
      grows apart n slot.0 slot.1 block lbn count file may.good may.last m on_device (record {
        of = next (still_of apart n slot.0 slot.1 block lbn count file may.good may.last) goes;
        no_link = ap (λ (b : List ℕ). (link_of b).number) header_to ∙ may.no_link;
      })
