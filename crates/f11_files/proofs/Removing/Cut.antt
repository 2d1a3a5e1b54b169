-- A file that is cut: its last header that stays, and what is kept of the volume then.
use Rattle.std.proofs.Common.{◌≡◌, ◌≢◌, ◌⊎◌, ◌+◌, ◌-◌, ◌*◌, ◌<◌, ◌≤◌, ◌==◌, ◌||◌, ℕ, Bool, true, false, cond, IsTrue, List, [], ◌∷◌, ◌++◌}
use Rattle.std.proofs.Common.{Option, Some, None, option_map, length, take, drop, refl, sym, ap, subst, ◌∙◌, arith, inl}
use Rattle.std.proofs.Math.ListN.{set}
use Rattle.std.proofs.Math.Seq.{drop-append_seam, take-append_seam}
use Rattle.std.specs.List.{slice_get, sum_by}
use Rattle.std.proofs.lemmas.List.{append-nil, length-append, length-drop, length-map, length-take, get_or-drop, get_or-take}
use Rattle.std.proofs.lemmas.List.Sums.{sum_by-append, sum_by-cons}
use Rattle.std.proofs.lemmas.Grind.{flat_map-append}
use Rattle.std.proofs.lemmas.Option.{slice_get_within, slice_get-get_or, get_or_from_slice_get}
use Rattle.f11_dev.specs.Disk.{Disk, with_transfer, with_block_at}
use Rattle.f11_dev.specs.Image.{Image, IsImage}
use Rattle.f11_dev.proofs.WentLemmas.{went_looked, went_more, went_weaker, went_write, went_failed_write}
use Rattle.f11_header.specs.Fields.{file_sequence}
use Rattle.f11_header.specs.Header.{IsHeader}
use Rattle.f11_home.specs.Home.{HomeFields}
use Rattle.f11_index.specs.Growth.{IsGoodFor, with_header}
use Rattle.f11_map.specs.HeaderBlock.{segment_number, link_of, blocks_named}
use Rattle.f11_index.specs.Headers.{headers_from, headers_of}
use Rattle.f11_index.specs.IndexFile.{Index, index_of, header_lbn}
use Rattle.f11_index.specs.Table.{Table, table_of, IsLive, IsWholeFile, IsHeaderOf, first}
use Rattle.f11_index.proofs.ChainLemmas.{file_of-header, live_of-header}
use Rattle.f11_index.proofs.HeadersLemmas.{last-whole, link_number, live-some, Comes, Comes-header, Comes-split}
use Rattle.f11_index.proofs.SegmentLemmas.{table-bytes}
use Rattle.f11_chain.specs.FileHeaders.{blocks_by, blocks_before, file_blocks}
use Rattle.f11_store.specs.Changes.{is_in, with_change, with_cut_file, with_file, with_first_blocks, without_slots, Truncates}
use Rattle.f11_store.specs.Cost.{cut_cost}
use Rattle.f11_store.specs.File.{File, length_of}
use Rattle.f11_store.specs.Lags.{AreLike, LagsBy, one_part, file_changes}
use Rattle.f11_store.specs.Refusal.{refusal_number}
use Rattle.f11_store.specs.Store.{Store, file_named}
use Rattle.f11_store.specs.declared.files.FileId.{FileId}
use Rattle.f11_store.specs.declared.refusals.Refusal.TheVariants.{DeviceFault}
use Rattle.f11_store.specs.declared.refusals.Refusal.{Refusal}
use Rattle.f11_store.proofs.Growth.{alike}
use Rattle.f11_store.proofs.LagLaws.{frees_lags}
use Rattle.f11_volume.specs.Contents.{pointer_count, file_of}
use Rattle.f11_volume.specs.Sound.{HasSoundVolume}
use Rattle.f11_volume.specs.Volume.{Volume, volume_of, IsCell}
use Rattle.f11_volume.proofs.FileLemmas.{image-files, reached-are, file-headers-are, file-blocks-are}
use Rattle.f11_writes.specs.Kept.{file_in, WritesHeader}
use Rattle.f11_writes.specs.OtherSlots.{KeepsOtherSlots}
use Rattle.f11_writes.specs.Volumes.{MayName, MayBecome, links_to_none}
use Rattle.f11_writes.proofs.HeaderLemmas.{file-rewrite-keeps}
use Rattle.f11_writes.proofs.NameLemmas.{own-names, fewer-names, lost-unnamed}
use Rattle.f11_writes.proofs.OtherSlotLemmas.{turned, in-file-was, nowhere}
use Rattle.f11_image_store.specs.Allocation.{FreesBlocks, IsEnd, LosesBlocks, LosesHeaders}
use Rattle.f11_writes.specs.Order.{IsOrderlyWrite, WritesInOrder}
use Rattle.f11_writes.proofs.OrderLemmas.{rewritten-orderly}
use Rattle.f11_files.proofs.Confining.InOrder.{header-failed-order, header-order, own-named}
use Rattle.f11_files.specs.Answers.{WritesAtMost, Meanwhile}
use Rattle.f11_files.specs.Removing.Truncate.{FindsLastKept, CutsOff, Cuts, FailsToCut, cut_work}
use Rattle.f11_files.specs.Removing.Drops.{BreaksOff, AreAllUnreferenced, GivesBlocks, DropsBehind, HangsBehind, headers_behind, tail_cost}
use Rattle.f11_files.specs.Removing.Drops.{without_headers, KeepsBlocksBut}
use Rattle.f11_image_store.specs.Freeing.{FreesMore, Freeing}
use Rattle.f11_store.specs.Pieces.{with_more_free}
use Rattle.f11_image_store.specs.FileLaws.{SaysAlike, MayStand, EndsThere, with_first_headers, pointers_before, pointers_in, room_in}
use Rattle.f11_files.specs.Extending.Growing.{SameFree}
use Rattle.f11_files.specs.Operations.{length_causes}
use Rattle.f11_image_store.specs.StoreOf.{store_of}
use Rattle.f11_files.specs.Structure.{index_in, home_of, store_on, FitsOn, IsStructureOf, IsStructureFor}
use Rattle.f11_files.specs.declared.structure.Structure.{Structure}
use Rattle.f11_files.proofs.Changing.Alter.{keeps-header}
use Rattle.f11_image_store.proofs.FileLemmas.{as-header, file-ends, of-now}
use Rattle.f11_files.proofs.Finding.First.{table-of}
use Rattle.f11_files.proofs.Removing.Freeing.{writes-then, writes-within, breaks-then, breaks-within, sound-freed}
use Rattle.f11_image_store.proofs.FreeingLemmas.{frees-none, frees-blocks, freeing-more}
use Rattle.f11_files.proofs.Removing.Gone.{breaks-fails}
use Rattle.f11_image_store.proofs.InstanceLemmas.{file-stored}
use Rattle.f11_files.proofs.Removing.Kill.{in_use-place}
use Rattle.f11_files.proofs.Removing.Loss.{in-behind, in-first, in-front, CutsThere, held-same, loses-blocks}
use Rattle.f11_files.proofs.Finding.Named.{file-stored as stored-file}
use Rattle.f11_image_store.proofs.StoreLemmas.{file-at, seen-own}
use Rattle.f11_files.proofs.Removing.Behind.{hangs-from, hangs-are, hangs-blocks, hangs-pointers}

-- what stands in the rest of a list, and in its front
drop-at : (xs : List ℕ) (count i k : ℕ) → slice_get (drop count xs) i ≡ Some k → slice_get xs (count + i) ≡ Some k
drop-at xs count i k at =
    let within = slice_get_within (drop count xs) i k at in
    let size = length-drop count xs in
    slice_get-get_or xs (count + i) k (omega (arith, within, size))
    ∙ ap Some (sym (get_or-drop count xs i k) ∙ get_or_from_slice_get (drop count xs) i k k at)

take-at : (xs : List ℕ) (count i k : ℕ) → slice_get (take count xs) i ≡ Some k → (i < count) × (slice_get xs i ≡ Some k)
take-at xs count i k at =
    let within = slice_get_within (take count xs) i k at in
    let size = length-take count xs in
    let early : i < count = omega (arith, within, size) in (
      early,
      slice_get-get_or xs i k (omega (arith, within, size))
          ∙ ap Some (sym (get_or-take count xs i k early) ∙ get_or_from_slice_get (take count xs) i k k at),
    )

-- a store with no less free than that with the file cut lags by the cut
pub frees-cut : (s t : Store) (k to headers pointers room : ℕ) → FreesMore (with_change s k (with_first_headers headers pointers room to)) t
    → LagsBy (one_part k (file_changes k (with_first_blocks to))) t s
frees-cut s t k to headers pointers room frees = frees_lags (one_part k (file_changes k (with_first_blocks to))) s t
    (λ n. subst (λ (o : Option File). AreLike o ((with_change s k (with_first_blocks to)).file n)) (sym (frees.files n))
    (like (n == k) (s.file n) (s.file k))) frees.slots
    (record {
      others = λ n out. frees.files n
          ∙ ap (λ (b : Bool). cond b (option_map (with_first_headers headers pointers room to) (s.file k)) (s.file n)) out;
      free = frees.free;
      unused = frees.unused;
      last = frees.last;
      slots = frees.slots;
      limits = record {
        bitmap_blocks = frees.limits.bitmap_blocks;
        index_bitmap_blocks = frees.limits.index_bitmap_blocks;
        limit = frees.limits.limit;
      };
    })
  where
    like : (b : Bool) (other file : Option File)
        → AreLike (cond b (option_map (with_first_headers headers pointers room to) file) other)
        (cond b (option_map (with_first_blocks to) file) other)
    like true other None = tt
    like true other (Some f) =
        record { sequence = refl; owner = refl; protection = refl; characteristics = refl; ident = refl; attr = refl; blocks = refl }
    like false other file = alike other

module _ (s : Structure) (f : FileId) (to n keep lbn : ℕ) (block cut : List ℕ) (old read : Disk) (for : IsStructureFor s old)
    (own : 4 ≤ f.number)
    (finds : FindsLastKept (home_of s) (index_in s) f to n keep block old read) (cuts : CutsOff keep block cut)
    (at : lbn ≡ header_lbn (index_in s) n) (old_image : IsImage old.image) where
  abbrev pub h : HomeFields
  h = home_of s

  abbrev pub t : Table
  t = table_of old.image h

  abbrev pub written : Image
  written = set read.image lbn cut

  abbrev pub change : File → File
  change = with_first_headers (segment_number block + 1) (pointers_before t f.number n + pointers_in cut) (room_in cut) to

  -- the store with the file cut, and nothing free of it
  abbrev pub base : Store
  base = with_change (store_on s old) f.number change

  abbrev pub hs : List ℕ
  hs = headers_behind t (t.header n)

  abbrev pub most : ℕ
  most = cut_cost (file_named (store_on s old) f) - 1

  module _ (honest : IsTrue old.honest) where
    pub header-is : block ≡ t.header n
    header-is = finds.header.block_is honest ∙ ap (λ (v : Table). v.header n) (table-of s old for honest)

    of : IsHeaderOf t f.number n
    of = finds.of_file honest

    live : IsLive t n
    live = live_of-header of

    sound : HasSoundVolume old.image h
    sound = for.sound honest

    pub whole : IsWholeFile t f.number
    whole = ((image-files old.image h sound).each f.number (file_of-header of)).whole

    pub byte : segment_number (t.header n) < 256
    byte = table-bytes old.image (index_of old.image h) old_image n

    is-written : written ≡ with_header old.image h n cut
    is-written =
        ap (λ (i : Image). set i lbn cut) finds.looked.image
        ∙ ap (λ (l : ℕ). set old.image l cut) (at ∙ ap (λ (x : Index). header_lbn x n) (for.keeps honest).index_is)

    valid : IsHeader cut n
    valid = record { number = cuts.number ∙ finds.header.valid.number; holds = cuts.holds; sum = cuts.sum }

    good : IsGoodFor t n cut
    good =
        record {
          valid = valid;
          sequence = cuts.sequence ∙ ap file_sequence header-is;
          segment = cuts.segment
              ∙ ap segment_number header-is;
        }

    stands : MayStand t f.number n cut
    stands = record { of = of; few = byte; good = good; alike = subst (λ (b : List ℕ). SaysAlike b cut) header-is cuts.alike }

    ends : EndsThere t f.number n cut keep
    ends = record {
      stands = stands;
      no_link = ap (λ (l : FileId). l.number) cuts.no_link;
      blocks = cuts.blocks ∙ ap (λ (b : List ℕ). take keep (blocks_named b)) header-is;
      within = subst (λ (b : List ℕ). keep ≤ length (blocks_named b)) header-is finds.within;
    }

    becomes : MayBecome (volume_of old.image h) n cut
    unfolding volume_of
    becomes = record {
      valid = valid;
      good = λ _. good;
      names = subst (MayName (volume_of old.image h) n) (sym ends.blocks)
          (fewer-names (volume_of old.image h) n keep (blocks_named (t.header n)) (own-names (volume_of old.image h) n sound.sound live));
      link = links_to_none (ap (λ (l : FileId). l.number) cuts.no_link);
    }

    pub one : WritesHeader n cut h old.image written
    one = subst (WritesHeader n cut h old.image) (sym is-written) (file-rewrite-keeps old.image h sound n cut f.number own of becomes)

    -- the write is in order
    orderly : IsOrderlyWrite h old.image (with_header old.image h n cut)
    orderly =
        let there = subst (WritesHeader n cut h old.image) is-written one in
        rewritten-orderly old.image h sound n cut there.slot (λ i. there.in_use i n) there.index_file.header live valid
        (λ i l is. inl (own-named t n live i l
        (take-at (blocks_named (t.header n)) keep i l (ap (λ (ls : List ℕ). slice_get ls i) (sym ends.blocks) ∙ is)).1))

    abbrev pub u : Table
    u = table_of written h

    few : 2 ≤ f.number
    few = omega (arith, own)

    file-now : file_in h f.number written ≡ change (file_in h f.number old.image)
    file-now =
        file-ends old.image written h f.number n cut keep few one sound ends
        ∙ ap (λ (k : ℕ). with_first_headers (k + 1) (pointers_before t f.number n + pointers_in cut) (room_in cut)
        (blocks_before t f.number n + keep) (file_in h f.number old.image)) (ap segment_number (sym header-is))
        ∙ ap (λ (k : ℕ). with_first_headers (segment_number block + 1) (pointers_before t f.number n + pointers_in cut) (room_in cut) k
        (file_in h f.number old.image)) (sym (finds.to_is honest))

    pub store-written : store_of written h ≡ base
    store-written =
        file-stored old.image written h n cut one good.sequence f.number change own of
        (of-now old.image written h f.number n cut (as-header n cut h old.image written one) stands) file-now

    -- the blocks that it names no more are unreferenced
    pub unreferenced-written : AreAllUnreferenced (volume_of written h) (drop keep (blocks_named block))
    unfolding volume_of
    unreferenced-written =
        let v : Volume = volume_of old.image h in
        let xs : List ℕ = blocks_named block in
        let names = subst (λ (b : List ℕ). MayName v n (blocks_named b)) (sym header-is) (own-names v n sound.sound live) in
        let cell : (i k : ℕ) → slice_get xs i ≡ Some k
        → IsCell t n i k = λ i k is.
        record { live = live; names = subst (λ (b : List ℕ). slice_get (blocks_named b) i ≡ Some k) header-is is } in
        record {
          inside = λ i k is. let within = names.inside _ k (drop-at xs keep i k is) in
              let size = ap (λ (w : Volume). w.size) one.slot.volume in omega (arith, within, size);
          used = λ i k is. ap (λ (w : Volume). w.free k) one.slot.volume ∙ names.used _ k (drop-at xs keep i k is);
          unnamed = λ i k is.
              lost-unnamed v (volume_of written h) n (keep + i) k sound.sound one.slot.others (cell (keep + i) k (drop-at xs keep i k is))
              (λ j named.
              let here = take-at xs keep j k
              (ap (λ (ys : List ℕ). slice_get ys j) (sym cuts.blocks) ∙ ap (λ (b : List ℕ). slice_get (blocks_named b) j)
              (sym one.index_file.header) ∙ named.names) in
              let same = names.apart _ _ k here.1 (drop-at xs keep i k is) in
              omega (arith, here.0, same));
          apart = λ i j k is other. let same = names.apart _ _ k (drop-at xs keep i k is) (drop-at xs keep j k other) in
              omega (arith, same);
        }

    link-now : link_number u n ≡ 0
    link-now = ap (λ (b : List ℕ). (link_of b).number) one.index_file.header ∙ ap (λ (l : FileId). l.number) cuts.no_link

    -- the headers behind it are of no file
    pub hangs-written : HangsBehind u (t.header n) hs
    hangs-written =
        hangs-from t u f.number n one.slot.others (image-files old.image h sound).chained
        (table-bytes old.image (index_of old.image h) old_image) whole of
        (λ m away in_file. in-file-was t u n one.slot.others in_file.file link-now away in_file.of) (λ m goes. nowhere link-now goes)

    pub segment-now : segment_number (u.header n) ≡ segment_number (t.header n)
    segment-now = ap segment_number one.index_file.header ∙ good.segment

    -- the headers of the file: those before it, it, and those behind it
    pub comes : (behind : List ℕ) × Comes t f.number n (segment_number (t.header n)) behind
    comes = Comes-header of byte

    pub headers-are : headers_of t f.number ≡ (comes.0 ++ n ∷ []) ++ hs
    headers-are = Comes-split t f.number n (segment_number (t.header n)) comes.0 comes.1 (live-some live) byte

    -- it is one of them
    pub listed : is_in (headers_of t f.number) n ≡ true
    listed = ap (λ (ns : List ℕ). is_in ns n) headers-are ∙ in-front (comes.0 ++ n ∷ []) hs n (in-behind comes.0 (n ∷ []) n (in-first n []))

    pub held-are : (file_in h f.number old.image).held ≡ (comes.0 ++ n ∷ []) ++ hs
    held-are = file-headers-are old.image t f.number whole ∙ headers-are

    pub front-counted : length (comes.0 ++ n ∷ []) ≡ segment_number block + 1
    front-counted = length-append comes.0 (n ∷ []) ∙ ap (λ (k : ℕ). k + 1) (comes.1.count ∙ ap segment_number (sym header-is))

    pub pointers-are : (file_in h f.number old.image).pointers ≡ sum_by (pointer_count t) comes.0 + pointers_in block + sum_by
        (pointer_count t) hs
    unfolding file_of
    pointers-are =
        let all = ap (sum_by (pointer_count t)) (reached-are 256 t f.number whole (first whole.file) ∙ headers-are) in
        let both = sum_by-append (pointer_count t) (comes.0 ++ n ∷ []) hs in
        let front = sum_by-append (pointer_count t) comes.0 (n ∷ []) in
        let here = sum_by-cons (pointer_count t) n [] in
        let own_pointers = ap pointers_in header-is in
        omega (arith, all, both, front, here, own_pointers)

    pub cost : segment_number block + 2 + 4 * pointers_in block + (3 * length hs + 4 * sum_by (pointer_count t) hs) ≤ most
    cost =
        let named = finds.named honest in
        let held = ap (λ (g : File). length g.held) named ∙ ap (λ (ns : List ℕ). length ns) held-are
        ∙ length-append (comes.0 ++ n ∷ []) hs in
        let pointers = ap (λ (g : File). g.pointers) named ∙ pointers-are in
        omega (arith, held, pointers, front-counted)

  -- the images that stand meanwhile
  pub cut-moment : (image : Image) → Freeing h base old image → Meanwhile (cut_work f to) h old image
  cut-moment image is honest =
      let there = is honest in
      record {
        sound = there.sound;
        lags = frees-cut (store_on s old) (store_of image h) f.number to (segment_number block + 1)
            (pointers_before t f.number n + pointers_in cut) (room_in cut) there.frees;
      }

  written-moment : Freeing h base old written
  written-moment honest =
      record { sound = (one honest).slot.sound; frees = subst (FreesMore base) (sym (store-written honest)) (frees-none base) }

  -- the write is in order
  pub uncut-order : (new : Disk) → (new ≡ with_transfer false read) ⊎ (new ≡ with_transfer false (with_block_at lbn cut read))
      → WritesInOrder read new
  uncut-order = header-failed-order s n lbn cut old read finds.looked for at orderly

  pub cut-order : (new : Disk) → new ≡ with_transfer true (with_block_at lbn cut read) → WritesInOrder read new
  cut-order = header-order s n lbn cut old read finds.looked for at orderly

  pub fails-written : (new : Disk) → (new ≡ with_transfer false read) ⊎ (new ≡ with_transfer false (with_block_at lbn cut read))
      → FailsToCut false h f to DeviceFault old new
  fails-written new is =
      let breaks : BreaksOff h base (segment_number block + 2) DeviceFault old new = record {
        fatal = refl;
        undamaged = λ _ same. let no : 19 ≡ 20 = ap refusal_number same in omega (arith, no);
        writes = record {
          transfers = segment_number block + 1 + 1;
          went = went_more (Freeing h base old) (went_looked (Freeing h base old) finds.looked)
              (went_failed_write (Freeing h base old) read new lbn cut is written-moment);
          few = λ _. omega arith;
        };
      } in
      breaks-fails (length_causes (store_on s old) f to) (cut_work f to) finds.no_cause cut-moment
      (breaks-within (λ honest. let few = cost honest in omega (arith, few)) breaks)

  module _ (now : Disk) (wrote : now ≡ with_transfer true (with_block_at lbn cut read)) where
    pub image-now : now.image ≡ written
    image-now = ap (λ (d : Disk). d.image) wrote

    pub honest-now : now.honest ≡ old.honest
    honest-now = ap (λ (d : Disk). d.honest) wrote ∙ finds.looked.honest

    pub first-writes : WritesAtMost (Freeing h base old) (segment_number block + 2) old now 0
    first-writes = record {
      transfers = segment_number block + 1 + 1;
      went = went_more (Freeing h base old) (went_looked (Freeing h base old) finds.looked)
          (went_write (Freeing h base old) read now lbn cut wrote written-moment);
      few = λ _. omega arith;
    }

    pub written-for : IsStructureFor s now
    written-for = record {
      lies = subst (FitsOn s) (sym first-writes.went.size) for.lies;
      sound = λ honest. subst (λ (i : Image). HasSoundVolume i h) (sym image-now) (one (sym honest-now ∙ honest)).slot.sound;
      keeps = λ honest. subst (IsStructureOf s) (sym image-now)
          (keeps-header s n cut old.image written (one (sym honest-now ∙ honest)) (for.keeps (sym honest-now ∙ honest)));
    }

    pub unreferenced-now : IsTrue now.honest → AreAllUnreferenced (volume_of now.image h) (drop keep (blocks_named block))
    unreferenced-now honest =
        subst (λ (i : Image). AreAllUnreferenced (volume_of i h) (drop keep (blocks_named block))) (sym image-now)
        (unreferenced-written (sym honest-now ∙ honest))

    store-now : IsTrue old.honest → store_of now.image h ≡ base
    store-now honest = ap (λ (i : Image). store_of i h) image-now ∙ store-written honest

    frees-now : IsTrue old.honest → FreesMore base (store_of now.image h)
    frees-now honest = subst (FreesMore base) (sym (store-now honest)) (frees-none base)

    pub fails-giving : (r : Refusal) (new : Disk) → BreaksOff h (store_of now.image h) (4 * pointers_in block) r now new
        → FailsToCut false h f to r old new
    fails-giving r new breaks =
        breaks-fails (length_causes (store_on s old) f to) (cut_work f to) finds.no_cause cut-moment
        (breaks-within (λ honest. let few = cost honest in omega (arith, few)) (breaks-then frees-now first-writes breaks))

    -- its other blocks were marked free
    module _ (c : Structure) (given : Disk) (gives : GivesBlocks h (drop keep (blocks_named block)) (pointers_in block) now given)
        (same : home_of c ≡ h) (is_image : IsImage given.image) where
      abbrev w : Table
      w = table_of given.image h

      abbrev lost : ℕ
      lost = length (drop keep (blocks_named block))

      now-honest : IsTrue old.honest → IsTrue now.honest
      now-honest honest = honest-now ∙ honest

      given-honest : IsTrue given.honest → IsTrue old.honest
      given-honest honest = sym honest-now ∙ sym gives.writes.went.honest ∙ honest

      tables : (honest : IsTrue old.honest) → w ≡ u honest
      tables honest = gives.table (now-honest honest) ∙ ap (λ (i : Image). table_of i h) image-now

      store-given : IsTrue old.honest → store_of given.image h ≡ with_more_free base lost
      store-given honest = gives.store (now-honest honest) ∙ ap (λ (x : Store). with_more_free x lost) (store-now honest)

      frees-given : IsTrue old.honest → FreesMore base (store_of given.image h)
      frees-given honest = subst (FreesMore base) (sym (store-given honest)) (frees-blocks base lost)

      more-writes : WritesAtMost (Freeing h base old) (segment_number block + 2 + 4 * pointers_in block) old given 0
      more-writes = writes-then (freeing-more h base (store_of now.image h) old now honest-now frees-now) first-writes gives.writes

      hangs-given : IsTrue old.honest → HangsBehind w block hs
      hangs-given honest =
          subst (λ (b : List ℕ). HangsBehind w b hs) (sym (header-is honest))
          (subst (λ (v : Table). HangsBehind v (t.header n) hs) (sym (tables honest)) (hangs-written honest))

      behind-is : IsTrue old.honest → headers_behind w block ≡ hs
      behind-is honest = hangs-are w block hs (table-bytes given.image (index_of given.image h) is_image) (hangs-given honest)

      pub behind-hangs : IsTrue given.honest
          → HangsBehind (table_of given.image (home_of c)) block (headers_behind (table_of given.image (home_of c)) block)
      behind-hangs honest =
          let sure = given-honest honest in
          subst (λ (k : HomeFields). HangsBehind (table_of given.image k) block (headers_behind (table_of given.image k) block)) (sym same)
          (subst (HangsBehind w block) (sym (behind-is sure)) (hangs-given sure))

      -- those are of the file, too
      pub behind-listed : IsTrue old.honest → (m : ℕ) → is_in (headers_behind (table_of given.image (home_of c)) block) m ≡ true
          → is_in (headers_of t f.number) m ≡ true
      behind-listed honest m is =
          let here : is_in (headers_behind w block) m ≡ true =
          subst (λ (k : HomeFields). is_in (headers_behind (table_of given.image k) block) m ≡ true) same is in
          ap (λ (ns : List ℕ). is_in ns m) (headers-are honest)
          ∙ in-behind ((comes honest).0 ++ n ∷ []) hs m (ap (λ (ns : List ℕ). is_in ns m) (sym (behind-is honest)) ∙ here)

      later : (honest : IsTrue old.honest) (m : ℕ) → IsLive (u honest) m
          → segment_number (t.header n) < segment_number ((u honest).header m) → m ≢ n
      later honest m is more alike_is =
          let there = ap (λ (k : ℕ). segment_number ((u honest).header k)) alike_is in let now_is = segment-now honest in
          omega (arith, there, more, now_is)

      blocks-behind : IsTrue old.honest → blocks_by w hs ≡ blocks_by t hs
      blocks-behind honest =
          ap (λ (v : Table). blocks_by v hs) (tables honest)
          ∙ sym (hangs-blocks (u honest) t n (segment_number (t.header n)) (turned t (u honest) n (one honest).slot.others) (later honest)
          (t.header n) hs (omega arith) (hangs-written honest))

      pointers-behind : IsTrue old.honest → sum_by (pointer_count w) hs ≡ sum_by (pointer_count t) hs
      pointers-behind honest =
          ap (λ (v : Table). sum_by (pointer_count v) hs) (tables honest)
          ∙ sym (hangs-pointers (u honest) t n (segment_number (t.header n)) (turned t (u honest) n (one honest).slot.others) (later honest)
          (t.header n) hs (omega arith) (hangs-written honest))

      cost-behind : IsTrue old.honest → segment_number block + 2 + 4 * pointers_in block + tail_cost w (headers_behind w block) ≤ most
      cost-behind honest =
          let list = ap (λ (ns : List ℕ). tail_cost w ns) (behind-is honest) in
          let pointers = pointers-behind honest in
          let few = cost honest in
          omega (arith, list, pointers, few)

      pub fails-behind : (r : Refusal) (new : Disk)
          → BreaksOff (home_of c) (store_on c given)
          (tail_cost (table_of given.image (home_of c)) (headers_behind (table_of given.image (home_of c)) block)) r given new
          → FailsToCut false h f to r old new
      fails-behind r new breaks =
          let here = subst (λ (k : HomeFields).
          BreaksOff k (store_of given.image k) (tail_cost (table_of given.image k) (headers_behind (table_of given.image k) block)) r
          given new) same breaks in
          breaks-fails (length_causes (store_on s old) f to) (cut_work f to) finds.no_cause cut-moment
          (breaks-within cost-behind (breaks-then frees-given more-writes here))

      -- the blocks of the file: those before, this header's own, and those behind
      counted : (honest : IsTrue old.honest)
          → length_of (file_in h f.number old.image) ≡ blocks_before t f.number n + length (blocks_named block) + length (blocks_by t hs)
      unfolding file_blocks
      counted honest =
          let named : ℕ → List ℕ = λ m. blocks_named (t.header m) in
          let behind : List ℕ = (comes honest).0 in
          let front : take (segment_number (t.header n)) (headers_of t f.number) ≡ behind =
          ap (take (segment_number (t.header n))) (comes honest).1.list
          ∙ ap (λ (k : ℕ). take k (behind ++ headers_from (256 - segment_number (t.header n)) t n)) (sym (comes honest).1.count)
          ∙ take-append_seam behind _ in
          let before = ap (λ (ns : List ℕ). length (blocks_by t ns)) front in
          let all = ap (λ (bs : List (List ℕ)). length bs) (file-blocks-are old.image t f.number (whole honest))
          ∙ length-map (file_blocks t f.number) _
          ∙ ap (λ (ns : List ℕ). length (blocks_by t ns)) (headers-are honest) in
          let two = ap (λ (bs : List ℕ). length bs) (flat_map-append named (behind ++ n ∷ []) hs)
          ∙ length-append (blocks_by t (behind ++ n ∷ [])) (blocks_by t hs) in
          let three = ap (λ (bs : List ℕ). length bs) (flat_map-append named behind (n ∷ []))
          ∙ length-append (blocks_by t behind) (blocks_by t (n ∷ [])) in
          let here = ap (λ (bs : List ℕ). length bs) (append-nil (blocks_named (t.header n)))
          ∙ ap (λ (b : List ℕ). length (blocks_named b)) (sym (header-is honest)) in
          omega (arith, before, all, two, three, here)

      file-was : IsTrue old.honest → (store_on s old).file f.number ≡ Some (file_in h f.number old.image)
      file-was honest =
          stored-file old.image h f.number
          ∙ file-at old.image t f.number (Some (file_in h f.number old.image))
          (λ _. ap Some (seen-own f.number (file_in h f.number old.image) own)) (λ none. absurd (none (whole honest).file))

      store-cut : (honest : IsTrue old.honest) → with_more_free (without_slots (with_more_free base lost) hs) (length (blocks_by t hs))
          ≡ with_cut_file (store_on s old) f.number (file_in h f.number old.image) to (segment_number block + 1)
          (pointers_before t f.number n + pointers_in cut) (room_in cut)
      store-cut honest =
          let st : Store = store_on s old in
          let g : File = file_in h f.number old.image in
          let gone : hs ≡ drop (segment_number block + 1) g.held = sym (
          ap (drop (segment_number block + 1)) (held-are honest)
          ∙ ap (λ (k : ℕ). drop k (((comes honest).0 ++ n ∷ []) ++ hs)) (sym (front-counted honest))
          ∙ drop-append_seam ((comes honest).0 ++ n ∷ []) hs
          ) in
          let sum : st.free + lost + length (blocks_by t hs) ≡ st.free + (length_of g - to) =
          (let all = counted honest in let rest = length-drop keep (blocks_named block) in let to_is = finds.to_is honest in
          let few = finds.within in omega (arith, all, rest, to_is, few)) in
          ap (λ (o : Option File). with_more_free (without_slots (with_more_free (with_file st f.number (option_map change o)) lost) hs)
          (length (blocks_by t hs))) (file-was honest)
          ∙ ap (λ (free : ℕ). record (with_file (without_slots st hs) f.number (Some (change g))) { free = free }) sum
          ∙ ap (λ (ns : List ℕ). record (with_file (without_slots st ns) f.number (Some (change g)))
          { free = st.free + (length_of g - to) }) gone

      cut-so : (new : Disk) → DropsBehind h block given new → IsTrue old.honest
          → Truncates (store_on s old) f.number to (store_of new.image h)
      cut-so new behind honest = record {
        before = file_in h f.number old.image;
        headers = segment_number block + 1;
        pointers = pointers_before t f.number n + pointers_in cut;
        room = room_in cut;
        was = file-was honest;
        some_header = omega arith;
        no_more_headers = let all = ap (λ (ns : List ℕ). length ns) (held-are honest) ∙ length-append ((comes honest).0 ++ n ∷ []) hs in
            let front = front-counted honest in omega (arith, all, front);
        no_more_pointers =
            let front : take (segment_number (t.header n)) (headers_of t f.number) ≡ (comes honest).0 =
            ap (take (segment_number (t.header n))) (comes honest).1.list
            ∙ ap (λ (k : ℕ). take k ((comes honest).0 ++ headers_from (256 - segment_number (t.header n)) t n)) (sym (comes honest).1.count)
            ∙ take-append_seam (comes honest).0 _ in
            let before = ap (sum_by (pointer_count t)) front in
            let all = pointers-are honest in
            let fewer = cuts.fewer in
            omega (arith, before, all, fewer);
        store_is =
            behind.store (gives.writes.went.honest ∙ now-honest honest)
            ∙ ap (without_headers (store_of given.image h) w) (behind-is honest)
            ∙ ap (λ (bs : List ℕ). with_more_free (without_slots (store_of given.image h) hs) (length bs)) (blocks-behind honest)
            ∙ ap (λ (x : Store). with_more_free (without_slots x hs) (length (blocks_by t hs))) (store-given honest)
            ∙ store-cut honest;
      }

      of-given : IsTrue old.honest → IsHeaderOf w f.number n
      of-given honest =
          subst (λ (v : Table). IsHeaderOf v f.number n) (sym (tables honest))
          (of-now old.image written h f.number n cut (as-header n cut h old.image written (one honest)) (stands honest))

      link-given : IsTrue old.honest → link_number w n ≡ 0
      link-given honest = ap (λ (v : Table). link_number v n) (tables honest) ∙ link-now honest

      free-now : IsTrue old.honest → SameFree h old.image now.image
      free-now honest = ap (λ (i : Image). (volume_of i h).free) image-now ∙ ap (λ (v : Volume). v.free) (one honest).slot.volume

      size-now : IsTrue old.honest → (volume_of now.image h).size ≡ (volume_of old.image h).size
      size-now honest = ap (λ (i : Image). (volume_of i h).size) image-now ∙ ap (λ (v : Volume). v.size) (one honest).slot.volume

      cuts-there : IsTrue old.honest → CutsThere f.number n keep to (volume_of old.image h) (volume_of given.image h)
      unfolding volume_of
      cuts-there honest = record {
        of = of honest;
        whole = whole honest;
        few = byte honest;
        others = subst (KeepsOtherSlots n t) (sym (tables honest)) (one honest).slot.others;
        live = live_of-header (of-given honest);
        no_link = link-given honest;
        ends =
            subst (IsEnd (t.header n)) (sym (ap (λ (v : Table). v.header n) (tables honest) ∙ (one honest).index_file.header))
            (record { alike = subst (λ (b : List ℕ). SaysAlike b cut) (header-is honest) cuts.alike; no_link = cuts.no_link });
        blocks = ap (λ (v : Table). blocks_named (v.header n)) (tables honest) ∙ ap blocks_named (one honest).index_file.header
            ∙ (ends honest).blocks;
        within = (ends honest).within;
        to_is = finds.to_is honest;
        needed = subst (λ (b : List ℕ). (segment_number b ≡ 0) ⊎ (0 < keep)) (header-is honest) finds.needed;
        free =
            subst (λ (b : List ℕ). FreesBlocks (drop keep (blocks_named b)) (volume_of old.image h) (volume_of given.image h))
            (header-is honest) (record {
              size = (gives.frees (now-honest honest)).size ∙ size-now honest;
              free = λ k.
                  (gives.frees (now-honest honest)).free k
                  ∙ ap (λ (free : ℕ → Bool). free k || is_in (drop keep (blocks_named block)) k) (free-now honest);
            });
      }

      -- the blocks of the file, once the headers behind it are gone
      loses-so : (new : Disk) → HasSoundVolume new.image h → DropsBehind h block given new → IsTrue old.honest
          → LosesBlocks f.number to (volume_of old.image h) (volume_of new.image h)
      unfolding volume_of
      loses-so new sound_new behind honest =
          let given_honest : IsTrue given.honest = gives.writes.went.honest ∙ now-honest honest in
          let whole_given = last-whole w f.number n (record { of = of-given honest; no_link = link-given honest }) in
          let kept = held-same given.image new.image h f.number whole_given sound_new
          (ap (λ (x : Store). x.file f.number) (behind.store given_honest)) in
          loses-blocks f.number n keep to (volume_of old.image h) (volume_of given.image h) (volume_of new.image h) (cuts-there honest)
          (subst (λ (ns : List ℕ). LosesHeaders ns (volume_of given.image h) (volume_of new.image h)) (behind-is honest)
          (behind.loses given_honest)) (blocks-behind honest) kept.0 kept.1
          (λ m out live_m.
          let place = in_use-place given.image h m live_m.in_use in
          (subst (λ (ns : List ℕ). KeepsBlocksBut ns w (table_of new.image h)) (behind-is honest) (behind.blocks given_honest)).header m
          place.0 place.1 out)

      pub cuts-file : (new : Disk) → DropsBehind (home_of c) block given new → Cuts h f to old new
      cuts-file new behind =
          let here : DropsBehind h block given new = subst (λ (k : HomeFields). DropsBehind k block given new) same behind in
          let wrote_all = writes-within cost-behind
          (writes-then (freeing-more h base (store_of given.image h) old given (gives.writes.went.honest ∙ honest-now) frees-given)
          more-writes here.writes) in
          record {
            no_cause = finds.no_cause;
            makes = cut-so new here;
            allots = λ honest. loses-so new (sound-freed h base old new for.sound wrote_all (wrote_all.went.honest ∙ honest)) here honest;
            writes = record {
              transfers = wrote_all.transfers;
              went = went_weaker (Freeing h base old) (Meanwhile (cut_work f to) h old)
                  cut-moment wrote_all.went;
              few = wrote_all.few;
            };
          }
