-- A file that gets a header more: that is written and entered, and then the last one links to it.
use Rattle.std.proofs.Common.{◌==◌, ◌≡◌, ◌+◌, ◌<◌, ◌≤◌, ℕ, true, false, IsTrue, List, [], ◌∷◌, ◌++◌, inr, sym, ap, subst, ◌∙◌, arith}
use Rattle.std.specs.List.{range_with_len}
use Rattle.f11_dev.specs.Disk.{Disk}
use Rattle.f11_dev.specs.Image.{Image}
use Rattle.f11_dev.specs.Went.{Went}
use Rattle.f11_dev.proofs.WentLemmas.{went_more, went_weaker}
use Rattle.f11_home.specs.Home.{HomeFields}
use Rattle.f11_map.specs.HeaderBlock.{segment_number, blocks_named}
use Rattle.f11_index.specs.Headers.{IsLastOf}
use Rattle.f11_index.specs.Table.{Table, table_of, IsLive}
use Rattle.f11_store.specs.Changes.{with_change, with_slots}
use Rattle.f11_store.specs.File.{File, run_pointers}
use Rattle.f11_store.specs.Store.{Store}
use Rattle.f11_store.specs.declared.callers.Uic.{Uic}
use Rattle.f11_store.specs.declared.files.FileId.{FileId}
use Rattle.f11_store.specs.declared.refusals.Refusal.TheVariants.{DeviceFault}
use Rattle.f11_image_store.specs.Allocation.{LinksFileless, NamesMore, AddsZeroSlots}
use Rattle.f11_files.specs.Answers.{Breaks}
use Rattle.f11_store.specs.Pieces.{with_more_free, GrowsAs, MayGrowAs, new_blocks, with_slots_if}
use Rattle.f11_files.specs.Extending.Header.{AppendingRun, AppendsRun, EntersHeader}
use Rattle.f11_image_store.specs.FileLaws.{pointers_in, room_in}
use Rattle.f11_files.specs.Extending.Growing.{WhileTaking, Grew, SameFree}
use Rattle.f11_files.specs.Extending.Link.{Linking, LinksTail, with_header_of, NamesThese}
use Rattle.f11_image_store.specs.StoreOf.{store_of}
use Rattle.f11_files.specs.Structure.{home_of, store_on, IsStructureFor, StaysFor, bitmap_in}
use Rattle.f11_files.specs.Extending.Tail.{HasStore, HoldsLast, MayBeGiven, whose, ownership_of}
use Rattle.f11_files.specs.declared.structure.Structure.{Structure}
use Rattle.f11_files.specs.declared.extend.tail.Tail.{Tail}
use Rattle.f11_image_store.proofs.AllocationLemmas.{adds-linked}
use Rattle.f11_files.proofs.Extending.Growing.{breaks-fault, breaks-stays}
use Rattle.f11_files.proofs.Finding.First.{table-of}
use Rattle.f11_files.proofs.Removing.Freeing.{stays-for}
use Rattle.f11_files.proofs.Extending.NewHeader.{no-room, taken-moment}
use Rattle.f11_store.proofs.PieceLemmas.{with_linked}
use Rattle.f11_bits.specs.Bitmap.{Bitmap}
use Rattle.f11_index.specs.Kept.{room}
use Rattle.f11_files.proofs.GrowingIndex.ZeroSlots.{zero-then}
use Rattle.f11_files.specs.Extending.Slots.{MayCome}
use Rattle.f11_store.proofs.GrowsLemmas.{fewer-may-grow, grows-within, linked-grown}

module _ (s : Structure) (tail : Tail) (lbn count : ℕ) (old : Disk) (for : IsStructureFor s old) (last : HoldsLast s tail old)
    (given : MayBeGiven (home_of s) lbn count old)
    (full : room_in tail.block ≡ 0) (fits : run_pointers count ≤ 102) (reserved : IsTrue (tail.file.number == 1) → count ≤ room s.index)
    (may : IsTrue old.honest → MayGrowAs (with_more_free (store_on s old) count) tail.file.number count (run_pointers count)) where
  abbrev home : HomeFields
  home = home_of s

  abbrev st : Store
  st = store_on s old

  abbrev free : Store
  free = with_more_free st count

  abbrev k : ℕ
  k = tail.file.number

  abbrev P : Image → Type 0
  P = AppendingRun s tail count old

  moment : (image : Image) → WhileTaking home 0 1 st old image → P image
  moment = taken-moment s tail lbn count old for last given full may

  module _ (after : Structure) (id : FileId) (block : List ℕ) (mid : Disk) (enters : EntersHeader s after tail lbn count id block old mid)
      (stays : StaysFor false s after mid) where
    for-mid : IsStructureFor after mid
    for-mid = stays-for stays

    still-honest : IsTrue old.honest → IsTrue mid.honest
    still-honest honest = enters.writes.went.honest ∙ honest

    was-honest : IsTrue mid.honest → IsTrue old.honest
    was-honest honest = sym enters.writes.went.honest ∙ honest

    abbrev more : ℕ
    more = pointers_in block

    abbrev linked_store : Store
    linked_store =
        with_slots_if (k == 1) count
        (with_change (with_slots st (id.number ∷ [])) k (with_linked id.number more (new_blocks (k == 1) count)))

    block-there : IsTrue mid.honest → block ≡ (table_of mid.image (home_of after)).header id.number
    block-there honest = enters.holds.block_is honest ∙ ap (λ (u : Table). u.header id.number) (table-of after mid for-mid honest)

    here : IsTrue old.honest → (table_of mid.image home).header id.number ≡ block
    here honest = sym (block-there (still-honest honest) ∙ ap (λ (h : HomeFields). (table_of mid.image h).header id.number) stays.home)

    -- what the link asks
    pub names-these : NamesThese after id lbn count mid
    names-these honest = ap blocks_named (sym (block-there honest)) ∙ enters.extension.names

    pub may-come : MayCome after k count mid
    may-come = record {
      reserved = λ is. let same = enters.left in let few = reserved is in omega (arith, few, same);
      limit = λ honest is.
          let before = was-honest honest in
          let store = ap (store_of mid.image) stays.home ∙ enters.store before in
          let slots = ap (λ (x : Store). x.slots) store in
          let limit = ap (λ (x : Store). x.limit) store in
          let within = (may before).within is in
          omega (arith, slots, limit, within);
    }

    more-is : IsTrue old.honest
        → with_header_of (table_of mid.image home) id.number (new_blocks (k == 1) count) ≡ with_linked id.number more
        (new_blocks (k == 1) count)
    more-is honest =
        let pointers = ap pointers_in (here honest) in
        let left = ap room_in (here honest) ∙ enters.extension.room in
        λ i. λ f. record f {
          held = f.held ++ id.number ∷ [];
          pointers = f.pointers + pointers i;
          room = left i;
          blocks = f.blocks ++ new_blocks (k == 1) count;
        }

    has-store : (image : Image) → Linking after tail id count mid image → IsTrue old.honest → HasStore home linked_store image
    has-store image links honest =
        let there : HasStore home
        (with_slots_if (k == 1) count
        (with_change (store_of mid.image home) k (with_header_of (table_of mid.image home) id.number (new_blocks (k == 1) count))))
        image =
        subst (λ (h : HomeFields).
        HasStore h (with_slots_if (k == 1) count
        (with_change (store_of mid.image h) k (with_header_of (table_of mid.image h) id.number (new_blocks (k == 1) count)))) image)
        stays.home (links (still-honest honest)) in
        subst (λ (x : Store). HasStore home x image)
        (ap (λ (x : Store). with_slots_if (k == 1) count
        (with_change x k (with_header_of (table_of mid.image home) id.number (new_blocks (k == 1) count)))) (enters.store honest)
        ∙ ap (λ (g : File → File). with_slots_if (k == 1) count (with_change (with_slots st (id.number ∷ [])) k g)) (more-is honest))
        there

    -- the file has grown then
    grown : (image : Image) → Linking after tail id count mid image → IsTrue old.honest
        → (e : GrowsAs free k count (run_pointers count) (store_of image home)) × (e.grows.added ≡ 1)
    grown image links honest =
        let few = enters.extension.few in
        let linked = linked-grown st k count more id.number
        (fewer-may-grow free k count count (run_pointers count) more (may honest) (omega arith) few) enters.extension.some
        (omega (arith, few, fits))
        (no-room s tail lbn count old for last given full may honest) (enters.slot honest) in
        let within = grows-within free linked_store k count more (run_pointers count) few linked.0 in
        subst (λ (x : Store). (e : GrowsAs free k count (run_pointers count) x) × (e.grows.added ≡ 1))
        (sym (has-store image links honest).store) (within.0, within.1 ∙ linked.1)

    linked-moment : (image : Image) → Linking after tail id count mid image → P image
    linked-moment image links honest = record { sound = (has-store image links honest).sound; stage = inr (grown image links honest).0 }

    both-went : (new : Disk) (faults : ℕ) → Went (Linking after tail id count mid) mid new 1 faults
        → Went P old new (enters.writes.transfers + 1) faults
    both-went new faults went =
        went_more P (went_weaker (WhileTaking home 0 1 st old) P moment enters.writes.went)
        (went_weaker (Linking after tail id count mid) P linked-moment went)

    -- the link couldn't be written
    pub fails-link : (new : Disk) → Went (Linking after tail id count mid) mid new 1 1 → Breaks P 4 DeviceFault old new
    fails-link new went =
        breaks-fault (record {
          transfers = enters.writes.transfers + 1;
          went = both-went new 1 went;
          few = λ honest. let few =
              enters.writes.few honest in omega (arith, few);
        })

    pub failed-link-stays : (t : Structure) (new : Disk) → home_of t ≡ home_of after → Went (Linking after tail id count mid) mid new 1 1
        → StaysFor true s t new
    failed-link-stays t new same went = breaks-stays (λ image is honest. (is honest).sound) (same ∙ stays.home) for (fails-link new went)

    -- it was
    module _ (t : Structure) (new : Disk) (links : LinksTail after t tail id count mid new) (kept : StaysFor false after t new) where
      adds-header : Grew P home free k count (run_pointers count) 1 old new
      adds-header = record {
        grows = λ honest. (grown new.image links.store honest).0;
        transfers = enters.writes.transfers + 1;
        went = both-went new 0 links.went;
        few = λ honest. let few = enters.writes.few honest in let one = (grown new.image links.store honest).1 in omega (arith, few, one);
      }

      holds-added : segment_number tail.block < 255 → (file : FileId) (owner : Uic) (protection : ℕ)
          → (file, owner, protection) ≡ whose tail
          → HoldsLast t (record { file = file; owner = owner; protection = protection; number = id.number; block = block }) new
      holds-added early file owner protection same = record {
        header = record {
          in_use = links.in_use id.number enters.holds.in_use;
          valid = enters.holds.valid;
          block_is = λ honest.
              let before = sym links.went.honest ∙ honest in
              block-there before ∙ sym (links.header_stays before)
              ∙ ap (λ (h : HomeFields). (table_of new.image h).header id.number) (sym kept.home)
              ∙ ap (λ (u : Table). u.header id.number) (sym (table-of t new (stays-for kept) honest));
        };
        no_link = enters.extension.no_link;
        few = omega (arith, enters.extension.segment, early);
        is_last = λ honest.
            subst (λ (h : HomeFields). IsLastOf (table_of new.image h) file.number id.number) (sym kept.home)
            (subst (λ (f : ℕ). IsLastOf (table_of new.image (home_of after)) f id.number)
            (sym (ap (λ (w : FileId × Uic × ℕ). w.0.number) same)) (links.is_last (sym links.went.honest ∙ honest)));
      }

      -- and the slots that came are zeros
      zero-slots : IsTrue old.honest → AddsZeroSlots (table_of old.image home) (table_of new.image home)
      zero-slots honest =
          zero-then (table_of old.image home) (table_of mid.image home) (table_of new.image home) (enters.slots honest)
          (subst (λ (h : HomeFields). AddsZeroSlots (table_of mid.image h) (table_of new.image h)) stays.home
          (links.slots (still-honest honest)))

      -- the file has the run
      names-run : IsTrue old.honest
          → NamesMore k (ownership_of tail) (range_with_len lbn count) (table_of old.image home) (table_of new.image home)
      names-run honest =
          let there : LinksFileless k id.number (table_of mid.image home) (table_of new.image home) =
          subst (λ (h : HomeFields). LinksFileless k id.number (table_of mid.image h) (table_of new.image h)) stays.home
          (links.links (still-honest honest)) in
          let live : IsLive (table_of mid.image home) id.number = (enters.follows honest).live in
          subst (λ (l : List ℕ). NamesMore k (ownership_of tail) l (table_of old.image home) (table_of new.image home))
          (ap blocks_named (here honest) ∙ enters.extension.names)
          (adds-linked k id.number (ownership_of tail) (table_of old.image home) (table_of mid.image home) (table_of new.image home) live
          (enters.adds honest) there)

      pub appends-linked : segment_number tail.block < 255 → (file : FileId) (owner : Uic) (protection : ℕ)
          → (file, owner, protection) ≡ whose tail
          → AppendsRun s t tail (record { file = file; owner = owner; protection = protection; number = id.number; block = block }) lbn
          count 1 old new
      appends-linked early file owner protection same = record {
        file = same;
        last = holds-added early file owner protection same;
        bitmap = links.bitmap ∙ enters.bitmap;
        left = let one = enters.left in let two = links.left in omega (arith, one, two);
        free = λ honest. subst (λ (h : HomeFields). SameFree h mid.image new.image) stays.home (links.free (still-honest honest))
            ∙ enters.free honest;
        names = names-run;
        slots = zero-slots;
        grew = adds-header;
      }

      pub linked-stays : StaysFor false s t new
      linked-stays = record { home = kept.home ∙ stays.home; lies = kept.lies; sound = kept.sound; keeps = kept.keeps }

    -- the run is in the volume still
    pub within-then : lbn + count ≤ (bitmap_in s).size → lbn + count ≤ (bitmap_in after).size
    within-then inside = let same = ap (λ (b : Bitmap). b.size) enters.bitmap in omega (arith, inside, same)
