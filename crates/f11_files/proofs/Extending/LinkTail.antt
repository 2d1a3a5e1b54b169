-- A file's last header that links on.
use Rattle.std.proofs.Common.{Bool, ◌++◌, ◌==◌, [], ◌≡◌, ◌⊎◌, ◌+◌, ◌-◌, ◌/◌, ◌<◌, ◌≤◌, ℕ, true, false, IsTrue, List, length, min, get_or}
use Rattle.std.proofs.Common.{sym, ap, subst, ◌∙◌, arith, inl, inr, map, refl}
use Rattle.std.specs.List.{slice_get}
use Rattle.std.proofs.Math.ListN.{set}
use Rattle.std.proofs.lemmas.List.{get_or-drop, append-nil}
use Rattle.f11_dev.specs.Disk.{Disk, with_transfer, with_block_at}
use Rattle.f11_dev.specs.Image.{Image}
use Rattle.f11_dev.specs.Went.{Went}
use Rattle.f11_dev.proofs.WentLemmas.{went_write, went_failed_write}
use Rattle.f11_header.specs.Fields.{file_sequence, map_area}
use Rattle.f11_header.specs.Header.{IsHeader}
use Rattle.f11_header.specs.MapFields.{most_words}
use Rattle.f11_home.specs.Home.{HomeFields}
use Rattle.f11_map.specs.InHand.{SetsLink}
use Rattle.f11_map.specs.MapArea.{blocks_in}
use Rattle.f11_index.specs.Growth.{with_header, IsGoodFor}
use Rattle.f11_map.specs.HeaderBlock.{segment_number, link_of, blocks_named}
use Rattle.f11_index.specs.Headers.{IsLastOf}
use Rattle.f11_index.specs.IndexFile.{Index, header_lbn, is_in_use}
use Rattle.f11_index.specs.Table.{Table, table_of, IsLive, IsNext}
use Rattle.f11_index.proofs.ChainLemmas.{live_of-header}
use Rattle.f11_store.specs.Changes.{with_change, with_more_slots}
use Rattle.f11_store.specs.declared.files.FileId.{FileId}
use Rattle.f11_volume.specs.Volume.{Volume, volume_of}
use Rattle.f11_writes.specs.Volumes.{MayName, MayBecome, links_anew}
use Rattle.f11_writes.proofs.HeaderLemmas.{file-rewrite-keeps}
use Rattle.f11_writes.proofs.NameLemmas.{own-names}
use Rattle.f11_image_store.specs.Allocation.{LinksFileless, AddsZeroSlots}
use Rattle.f11_image_store.specs.FileLaws.{SaysAlike, HasPointersMore, LinksOnTo, with_header_more, HasSlotsMore, with_header_linked}
use Rattle.f11_dev.proofs.LookedLemmas.{looked_none}
use Rattle.f11_writes.specs.Order.{IsOrderlyWrite, WritesInOrder}
use Rattle.f11_writes.proofs.OrderLemmas.{rewritten-orderly}
use Rattle.f11_files.proofs.Confining.InOrder.{header-failed-order, header-order, own-named}
use Rattle.f11_files.specs.Extending.Growing.{SameFree}
use Rattle.f11_files.specs.Extending.Link.{MayFollow, Linking, LinksTail, NamesThese, with_header_of, with_run_linked}
use Rattle.f11_files.specs.Structure.{index_in, home_of, store_on, IsStructureFor, StaysFor, bitmap_in}
use Rattle.f11_files.specs.Extending.Tail.{HoldsLast, HasStore}
use Rattle.f11_files.specs.declared.structure.Structure.{Structure}
use Rattle.f11_files.specs.declared.extend.tail.Tail.{Tail}
use Rattle.f11_image_store.proofs.AllocationLemmas.{links-fileless}
use Rattle.f11_image_store.proofs.FileLemmas.{file-linked, last-linked, m-stays, of-now, HasWritten}
use Rattle.f11_files.proofs.Finding.First.{table-of}
use Rattle.f11_image_store.proofs.InstanceLemmas.{file-stored}
use Rattle.f11_files.proofs.Extending.NameRun.{valid-again, sequence-again, alike-again, held-zeros}
use Rattle.f11_files.specs.Extending.Slots.{GetsBlocks, MayCome, index_behind}
use Rattle.f11_files.specs.Extending.Zeros.{HoldsZeros}
use Rattle.f11_index.specs.declared.index_file.IndexFile.{IndexFile}
use Rattle.f11_store.specs.Store.{Store}
use Rattle.f11_files.proofs.Extending.Written.{WroteAs, are-none, are-slots, for-stays, has-written, image-is, in_use-behind, behind-for}
use Rattle.f11_volume.specs.Contents.{block_or_zeros}
use Rattle.f11_image_store.proofs.GrowthLemmas.{index-linked}
use Rattle.f11_index.specs.Kept.{index_kept, room}
use Rattle.f11_writes.proofs.GrowLemmas.{links-keep}
use Rattle.f11_store.specs.Pieces.{new_blocks, with_slots_if}
use Rattle.f11_store.specs.File.{File, zero_blocks}
use Rattle.f11_files.proofs.GrowingIndex.SlotGrowth.{slots-more, slots-zero}
use Rattle.f11_image_store.specs.StoreOf.{store_of}
use Rattle.f11_files.proofs.GrowingIndex.ZeroSlots.{zero-grown, zero-header}

-- a header that has another link
module _ (was block : List ℕ) (id : FileId) (sets : SetsLink was block id) where
  pub segment-linked : segment_number block ≡ segment_number was
  unfolding segment_number
  segment-linked = sets.link.segment_stays

  pub link-set : link_of block ≡ record { number = id.number; sequence = id.sequence; volume = 0 }
  unfolding link_of
  link-set = sets.link.link_is

  pub blocks-linked : blocks_named block ≡ blocks_named was
  unfolding blocks_named
  blocks-linked = ap blocks_in sets.pointers

  most : most_words (map_area block) ≡ most_words (map_area was)
  most = sym (get_or-drop 6 (map_area block) 3 0) ∙ ap (λ (l : List ℕ). get_or l 3 0) sets.link.rest ∙ get_or-drop 6 (map_area was) 3 0

  pub pointers-linked : HasPointersMore 0 was block
  pointers-linked = record {
    pointers = let same = ap (λ (runs : List (ℕ × ℕ)). length runs) sets.pointers in omega (arith, same);
    places_are = ap (λ (m : ℕ). min m ((length (map_area block) - 10) / 2) / 2) most
        ∙ ap (λ (l : ℕ). min (most_words (map_area was)) ((l - 10) / 2) / 2) sets.link.size;
  }

module _ (s : Structure) (tail : Tail) (block : List ℕ) (id : FileId) (old : Disk) (for : IsStructureFor s old)
    (last : HoldsLast s tail old) (early : segment_number tail.block < 255)
    (follows : IsTrue old.honest → MayFollow (table_of old.image (home_of s)) tail id) (sets : SetsLink tail.block block id) where
  abbrev home : HomeFields
  home = home_of s

  abbrev f : ℕ
  f = tail.file.number

  abbrev n : ℕ
  n = tail.number

  abbrev t : Table
  t = table_of old.image home

  abbrev next : Image
  next = with_header old.image home n block

  valid : IsHeader block n
  valid = valid-again n tail.block block last.header.valid sets.header

  number-set : (link_of block).number ≡ id.number
  number-set = ap (λ (l : FileId). l.number) (link-set tail.block block id sets)

  sequence-set : (link_of block).sequence ≡ id.sequence
  sequence-set = ap (λ (l : FileId). l.sequence) (link-set tail.block block id sets)

  module _ (honest : IsTrue old.honest) where
    abbrev may : MayFollow t tail id
    may = follows honest

    was-is : tail.block ≡ t.header n
    was-is = last.header.block_is honest ∙ ap (λ (u : Table). u.header n) (table-of s old for honest)

    good : IsGoodFor t n block
    good = record {
      valid = valid;
      sequence = sequence-again n tail.block block last.header.valid sets.header ∙ ap file_sequence was-is;
      segment = segment-linked tail.block block id sets ∙ ap segment_number was-is;
    }

    blocks-are : blocks_named block ≡ blocks_named (t.header n)
    blocks-are = blocks-linked tail.block block id sets ∙ ap blocks_named was-is

    segment-next : segment_number (t.header id.number) ≡ segment_number block + 1
    segment-next = may.segment ∙ ap (λ (k : ℕ). k + 1) (sym (segment-linked tail.block block id sets))

    pub becomes : MayBecome (volume_of old.image home) n block
    unfolding volume_of
    becomes = record {
      valid = valid;
      good = λ _. good;
      names = subst (MayName (volume_of old.image home) n) (sym blocks-are)
          (own-names (volume_of old.image home) n (for.sound honest).sound (live_of-header (last.is_last honest).of));
      link = links_anew record {
        not_last = let same = segment-linked tail.block block id sets in omega (arith, same, early);
        here = ap (λ (l : FileId). l.volume) (link-set tail.block block id sets);
        to = subst (IsLive t) (sym number-set) may.live;
        sequence = sequence-set ∙ sym may.sequence ∙ ap (λ (k : ℕ). file_sequence (t.header k)) (sym number-set);
        segment = ap (λ (k : ℕ). segment_number (t.header k)) number-set ∙ segment-next;
        no_link = ap (λ (k : ℕ). (link_of (t.header k)).number) number-set ∙ may.no_link;
        no_other = λ m of goes. may.no_other m of (subst (IsNext t m) number-set goes);
      };
    }

    pub links : LinksOnTo t f n id.number block
    links = record {
      stands = record {
        of = (last.is_last honest).of;
        few = let same = ap segment_number was-is in omega (arith, same, last.few);
        good = good;
        alike = subst (λ (b : List ℕ). SaysAlike b block) was-is (alike-again n tail.block block last.header.valid sets.header);
      };
      last = (last.is_last honest).no_link;
      early = let same = ap segment_number was-is in omega (arith, same, early);
      number = number-set;
      other = may.other;
      to = may.live;
      sequence = sequence-set ∙ sym may.sequence;
      next_segment = may.segment ∙ ap (λ (b : List ℕ). segment_number b + 1) was-is;
      no_link = may.no_link;
      pointers = subst (λ (b : List ℕ). HasPointersMore 0 b block) was-is (pointers-linked tail.block block id sets);
      blocks = blocks-are;
    }

  module _ (gets : GetsBlocks tail.file.number) (lbn count : ℕ) (named : NamesThese s id lbn count old)
      (within : lbn + count ≤ (bitmap_in s).size)
      (zeros : IsTrue old.honest → HoldsZeros old.image lbn count) (come : MayCome s tail.file.number count old) where
    abbrev then : Store
    then = with_run_linked s f id count old

    on-device : lbn + count ≤ length old.image
    on-device = let whole = for.lies.volume in omega (arith, within, whole)

    module _ (honest : IsTrue old.honest) where
      live : IsLive t n
      live = live_of-header (last.is_last honest).of

      last-one : f ≡ 1 → IsLastOf t 1 n
      last-one one = subst (λ (j : ℕ). IsLastOf t j n) one (last.is_last honest)

      links-one : f ≡ 1 → LinksOnTo t 1 n id.number block
      links-one one = subst (λ (j : ℕ). LinksOnTo t j n id.number block) one (links honest)

      wrote : (kind : GetsBlocks f) → WroteAs kind n block lbn count home old.image next
      wrote (inl one) =
          let one-links = links-one one in
          links-keep old.image home n id.number block lbn count (for.sound honest)
          (record {
            last = last-one one;
            few = one-links.early;
            good = one-links.stands.good;
            blocks = one-links.blocks;
            number = one-links.number;
            sequence = one-links.sequence;
            to = one-links.to;
            next_segment = one-links.next_segment;
            no_link = one-links.no_link;
            next_blocks = named honest;
          })
          on-device (becomes honest)
      wrote (inr late) = file-rewrite-keeps old.image home (for.sound honest) n block f late (last.is_last honest).of (becomes honest)

      written : HasWritten n block home old.image next
      written = has-written gets n block lbn count home old.image next live (wrote gets)

      -- the write is in order
      orderly : IsOrderlyWrite home old.image next
      orderly =
          rewritten-orderly old.image home (for.sound honest) n block written.slot written.in_use written.header live valid
          (λ i l at. inl (own-named t n live i l (ap (λ (ls : List ℕ). slice_get ls i) (sym (blocks-are honest)) ∙ at)))

      -- as slots
      index-slots : (one : f ≡ 1) → HasSlotsMore count t (table_of next home)
      index-slots one =
          slots-more old.image home n block lbn count (for.sound honest) (last-one one).of (wrote (inl one)) on-device (zeros honest)
          (come.limit honest (are-slots one))

      zero-slots : (kind : GetsBlocks f) → AddsZeroSlots t (table_of next home)
      zero-slots (inl one) =
          zero-grown old.image next home n block lbn count (wrote (inl one)) live.in_use (index-slots one).slots
          (slots-zero old.image home n block lbn count (for.sound honest) (last-one one).of (wrote (inl one)) on-device (zeros honest)
          (come.limit honest (are-slots one)))
      zero-slots (inr late) = zero-header old.image next home n block (wrote (inr late)) live.in_use

      -- what the file has more
      none-more : with_header_linked t id.number ≡ with_header_of t id.number []
      none-more = λ i. λ g. record (with_header_linked t id.number g) { blocks = sym (append-nil g.blocks) i }

      zeros-more : with_header_more old.image t id.number ≡ with_header_of t id.number (zero_blocks count)
      zeros-more =
          let hold = ap (map (block_or_zeros old.image)) (named honest) ∙ held-zeros old.image lbn count (zeros honest) in
          λ i. λ g. record (with_header_linked t id.number g) { blocks = g.blocks ++ hold i }

      store : (kind : GetsBlocks f) → store_of next home ≡ then
      store (inl one) =
          subst (λ (j : ℕ). store_of next home ≡ with_run_linked s j id count old) (sym one)
          (index-linked old.image next home n id.number block lbn count (wrote (inl one)) (index-slots one) (links-one one)
          ∙ ap (λ (change : File → File). with_more_slots (with_change (store_on s old) 1 change) count) none-more)
      store (inr late) =
          file-stored old.image next home n block (wrote (inr late)) (good honest).sequence f (with_header_more old.image t id.number) late
          (last.is_last honest).of
          (of-now old.image next home f n block written (links honest).stands)
          (file-linked old.image next home f n id.number block (omega (arith, late)) (wrote (inr late)) (links honest))
          ∙ ap (with_change (store_on s old) f) zeros-more
          ∙ ap (λ (slots : Bool). with_slots_if slots count
          (with_change (store_on s old) f (with_header_of t id.number (new_blocks slots count)))) (sym (are-none late))

      has-store : HasStore home then next
      has-store = record { sound = written.slot.sound; store = store gets }

    -- it is written
    module _ (place : ℕ) (new : Disk) (at : place ≡ header_lbn (index_in s) n) where
      moment : Linking s tail id count old (set old.image place block)
      moment honest =
          subst (HasStore home then) (ap (λ (x : Index). set old.image (header_lbn x n) block) (sym (for.keeps honest).index_is)
          ∙ ap (λ (l : ℕ). set old.image l block) (sym at))
          (has-store honest)

      pub linked-order : new ≡ with_transfer true (with_block_at place block old) → WritesInOrder old new
      linked-order = header-order s n place block old old (looked_none old) for at orderly new

      pub unlinked-order : (new ≡ with_transfer false old) ⊎ (new ≡ with_transfer false (with_block_at place block old))
          → WritesInOrder old new
      unlinked-order = header-failed-order s n place block old old (looked_none old) for at orderly new

      pub fails-link : (new ≡ with_transfer false old) ⊎ (new ≡ with_transfer false (with_block_at place block old))
          → Went (Linking s tail id count old) old new 1 1
      fails-link is = went_failed_write (Linking s tail id count old) old new place block is moment

      module _ (after : IndexFile) (behind : index_kept after ≡ index_behind (tail.file.number == 1) (index_in s) lbn count)
          (left : room s.index ≤ room after + count)
          (is : new ≡ with_transfer true (with_block_at place block old)) where
        abbrev e : Structure
        e = record s { index = after }

        image : IsTrue old.honest → new.image ≡ next
        image = image-is s after n block lbn count old new for within place at is

        pub links-stays : StaysFor false s e new
        links-stays =
            for-stays refl (behind-for s after n block lbn count old new for within place at is gets behind (λ honest. wrote honest gets))

        pub links-tail : LinksTail s e tail id count old new
        links-tail = record {
          is_last = λ honest.
              subst (λ (i : Image). IsLastOf (table_of i home) f id.number) (sym (image honest))
              (last-linked old.image next home f n id.number block (written honest) (links honest));
          header_stays = λ honest.
              ap (λ (i : Image). (table_of i home).header id.number) (image honest)
              ∙ m-stays old.image next home f n id.number block (written honest) (links honest);
          in_use = λ m used. subst (λ (x : Index). is_in_use x m ≡ true) (sym behind)
              (in_use-behind (f == 1) (index_in s) lbn count m s refl used);
          bitmap = refl;
          left = left;
          links = λ honest.
              subst (λ (i : Image). LinksFileless f id.number t (table_of i home)) (sym (image honest))
              (links-fileless old.image next home f n id.number block (written honest) (links honest));
          slots = λ honest. subst (λ (i : Image). AddsZeroSlots t (table_of i home)) (sym (image honest)) (zero-slots honest gets);
          store = λ honest. subst (HasStore home then) (sym (image honest)) (has-store honest);
          free = λ honest. subst (SameFree home old.image) (sym (image honest)) (ap (λ (v : Volume). v.free) (written honest).slot.volume);
          went = went_write (Linking s tail id count old) old new place block is moment;
        }
