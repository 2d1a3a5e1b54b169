-- Blocks of zeros that a file's last header names.
use Rattle.std.proofs.Common.{◌≡◌, ◌⊎◌, ◌+◌, ◌≤◌, ◌==◌, ℕ, zero, suc, Bool, true, false, IsTrue, List, inl, inr, ◌∷◌, ◌++◌, length}
use Rattle.std.proofs.Common.{option_map, refl, sym, ap, subst, ◌∙◌, arith}
use Rattle.std.specs.List.{range_with_len, slice_get}
use Rattle.std.proofs.Math.ListN.{set}
use Rattle.f11_dev.specs.Disk.{Disk, with_transfer, with_block_at}
use Rattle.f11_dev.specs.Image.{Image}
use Rattle.f11_dev.specs.Went.{Went}
use Rattle.f11_dev.proofs.WentLemmas.{went_write, went_failed_write}
use Rattle.f11_header.specs.Fields.{HeaderFields, header_fields, file_sequence, map_area}
use Rattle.f11_header.specs.Header.{IsHeader, holds_header}
use Rattle.f11_header.proofs.HeaderFacts.{header_in-held}
use Rattle.f11_home.specs.Home.{HomeFields}
use Rattle.f11_map.specs.InHand.{RewritesMap}
use Rattle.f11_map.proofs.MapLemmas.{length-runs_of-le}
use Rattle.f11_map.proofs.PointerLemmas.{places-written}
use Rattle.f11_index.specs.Growth.{with_header, IsGoodFor}
use Rattle.f11_index.specs.Kept.{index_kept, room}
use Rattle.f11_index.specs.declared.index_file.IndexFile.{IndexFile}
use Rattle.f11_map.specs.HeaderBlock.{segment_number, link_of, blocks_named}
use Rattle.f11_index.specs.Headers.{IsLastOf}
use Rattle.f11_index.specs.IndexFile.{Index, header_lbn, is_in_use}
use Rattle.f11_index.specs.Table.{Table, table_of, IsLive}
use Rattle.f11_index.proofs.ChainLemmas.{live_of-header}
use Rattle.f11_store.specs.Changes.{with_change}
use Rattle.f11_store.specs.File.{zero_blocks}
use Rattle.f11_store.specs.Store.{Store}
use Rattle.f11_volume.specs.Volume.{Volume, volume_of}
use Rattle.f11_writes.specs.Volumes.{MayName, MayBecome, links_to_none}
use Rattle.f11_writes.proofs.GrowLemmas.{names-keep}
use Rattle.f11_writes.proofs.HeaderLemmas.{file-rewrite-keeps}
use Rattle.f11_writes.proofs.NameLemmas.{more-names}
use Rattle.f11_image_store.specs.Allocation.{AddsZeroSlots, NamesMore}
use Rattle.f11_image_store.specs.FileLaws.{SaysAlike, HasPointersMore, HasSlotsMore, NamesMoreOf, held_from, room_in}
use Rattle.f11_store.specs.Pieces.{new_blocks, with_blocks_named, with_more_blocks, with_slots_if}
use Rattle.f11_dev.proofs.LookedLemmas.{looked_none}
use Rattle.f11_volume.proofs.MemberLemmas.{at-place, contained, in-either, in-range}
use Rattle.f11_writes.specs.Order.{IsOrderlyWrite, WritesInOrder}
use Rattle.f11_writes.proofs.OrderLemmas.{rewritten-orderly}
use Rattle.f11_files.proofs.Confining.InOrder.{header-failed-order, header-order, own-named, zeros-held}
use Rattle.f11_files.specs.Extending.Growing.{SameFree}
use Rattle.f11_files.specs.Extending.Slots.{GetsBlocks, MayCome, index_behind}
use Rattle.f11_files.specs.Structure.{index_in, bitmap_in, home_of, store_on, IsStructureFor, StaysFor}
use Rattle.f11_files.specs.Extending.Tail.{HoldsLast, MayBeGiven, HasStore, Naming, NamesAll, NamesInHand, NamesRun, FailsToName}
use Rattle.f11_files.specs.Extending.Tail.{ownership_of}
use Rattle.f11_image_store.specs.StoreOf.{store_of}
use Rattle.f11_files.specs.Extending.Zeros.{HoldsZeros}
use Rattle.f11_files.specs.declared.structure.Structure.{Structure}
use Rattle.f11_files.specs.declared.extend.tail.Tail.{Tail}
use Rattle.f11_image_store.proofs.AllocationLemmas.{names-more}
use Rattle.f11_image_store.proofs.FieldLemmas.{held-from}
use Rattle.f11_image_store.proofs.FileLemmas.{HasWritten, of-now}
use Rattle.f11_image_store.proofs.GrowthLemmas.{index-more}
use Rattle.f11_image_store.proofs.StepLemmas.{file-grows}
use Rattle.f11_files.proofs.Finding.First.{table-of}
use Rattle.f11_files.proofs.GrowingIndex.SlotGrowth.{slots-more, slots-zero}
use Rattle.f11_files.proofs.GrowingIndex.ZeroSlots.{zero-grown, zero-header}
use Rattle.f11_files.proofs.Extending.Written.{WroteAs, are-none, are-slots, for-stays, has-written, image-is, in_use-behind, behind-for}

-- blocks that hold zeros
pub held-zeros : (image : Image) (lbn count : ℕ) → HoldsZeros image lbn count → held_from image lbn count ≡ zero_blocks count
unfolding zero_blocks
held-zeros image lbn zero holds = refl
held-zeros image lbn (suc count) holds =
    let rest = held-zeros image (lbn + 1) count (record { each = λ k low high. holds.each k (omega (arith, low)) (omega (arith, high)) }) in
    let here = holds.each lbn (omega arith) (omega arith) in
    λ i. here i ∷ rest i

-- what is said where a map area was rewritten
pub held-again : (was block : List ℕ) → IsTrue (holds_header was) → RewritesMap was block
    → IsTrue (holds_header block) × (header_fields block ≡ record (header_fields was) { map = map_area block })
held-again was block holds rewrites =
    held-from block (record (header_fields was) { map = map_area block })
    (rewrites.fields ∙ ap (option_map (λ (h : HeaderFields). record h { map = map_area block })) (header_in-held was holds))

-- a header whose map area was rewritten
module _ (n : ℕ) (was block : List ℕ) (valid : IsHeader was n) (rewrites : RewritesMap was block) where
  held : IsTrue (holds_header block) × (header_fields block ≡ record (header_fields was) { map = map_area block })
  held = held-again was block valid.holds rewrites

  pub valid-again : IsHeader block n
  valid-again = record { number = ap (λ (h : HeaderFields). h.number) held.1 ∙ valid.number; holds = held.0; sum = rewrites.seals.sum }

  pub sequence-again : file_sequence block ≡ file_sequence was
  sequence-again = ap (λ (h : HeaderFields). h.sequence) held.1

  pub alike-again : SaysAlike was block
  alike-again = record {
    owner_is = ap (λ (h : HeaderFields). h.owner) held.1;
    protection_is = ap (λ (h : HeaderFields). h.protection) held.1;
    characteristics_are = ap (λ (h : HeaderFields). h.characteristics) held.1;
    ident_is = ap (λ (h : HeaderFields). h.ident) held.1;
    ident_room_is = rewrites.ident;
    attributes_are = ap (λ (h : HeaderFields). h.attributes) held.1;
  }

-- a header that names more blocks
module _ (was block : List ℕ) (more lbn count : ℕ) (appends : NamesInHand was block more lbn count) where
  pub segment-more : segment_number block ≡ segment_number was
  unfolding segment_number
  segment-more = appends.rest.segment_stays

  pub link-more : link_of block ≡ link_of was
  unfolding link_of
  link-more = appends.rest.link_stays

  pub blocks-more : blocks_named block ≡ blocks_named was ++ range_with_len lbn count
  unfolding blocks_named
  blocks-more = appends.blocks

  pub pointers-more : HasPointersMore more was block
  pointers-more = record {
    pointers = appends.pointers;
    places_are = places-written (map_area was) (map_area block) appends.rest;
  }

  pub pointers-fit : more ≤ room_in was
  pointers-fit =
      let has = pointers-more in
      let within = length-runs_of-le (map_area block) appends.rest.valid in
      omega (arith, has.pointers, has.places_are, within)

-- it is a file's last, in hand
module _ (s : Structure) (tail : Tail) (block : List ℕ) (lbn count : ℕ) (old : Disk) (for : IsStructureFor s old)
    (last : HoldsLast s tail old)
    (given : MayBeGiven (home_of s) lbn count old) (all : NamesAll tail.block block lbn count) where
  abbrev home : HomeFields
  home = home_of s

  abbrev f : ℕ
  f = tail.file.number

  abbrev n : ℕ
  n = tail.number

  abbrev more : ℕ
  more = all.more

  abbrev appends : NamesInHand tail.block block more lbn count
  appends = all.names

  abbrev t : Table
  t = table_of old.image home

  abbrev next : Image
  next = with_header old.image home n block

  valid : IsHeader block n
  valid = valid-again n tail.block block last.header.valid appends.header

  module _ (honest : IsTrue old.honest) where
    was-is : tail.block ≡ t.header n
    was-is = last.header.block_is honest ∙ ap (λ (u : Table). u.header n) (table-of s old for honest)

    good : IsGoodFor t n block
    good = record {
      valid = valid;
      sequence = sequence-again n tail.block block last.header.valid appends.header ∙ ap file_sequence was-is;
      segment = segment-more tail.block block more lbn count appends ∙ ap segment_number was-is;
    }

    no-link : (link_of block).number ≡ 0
    no-link = ap (λ l. l.number) (link-more tail.block block more lbn count appends) ∙ last.no_link

    blocks-are : blocks_named block ≡ blocks_named (t.header n) ++ range_with_len lbn count
    blocks-are =
        blocks-more tail.block block more lbn count appends ∙ ap (λ (b : List ℕ). blocks_named b ++ range_with_len lbn count) was-is

    pub becomes : MayBecome (volume_of old.image home) n block
    unfolding volume_of
    becomes = record {
      valid = valid;
      good = λ _. good;
      names = subst (MayName (volume_of old.image home) n) (sym blocks-are)
          (more-names (volume_of old.image home) n lbn count (for.sound honest).sound (live_of-header (last.is_last honest).of)
          (given.unreferenced honest));
      link = links_to_none no-link;
    }

    pub names : NamesMoreOf t f n block more lbn count
    names = record {
      stands = record {
        of = (last.is_last honest).of;
        few = let same = ap segment_number was-is in omega (arith, same, last.few);
        good = good;
        alike = subst (λ (b : List ℕ). SaysAlike b block) was-is (alike-again n tail.block block last.header.valid appends.header);
      };
      last = (last.is_last honest).no_link;
      no_link = no-link;
      pointers = subst (λ (b : List ℕ). HasPointersMore more b block) was-is (pointers-more tail.block block more lbn count appends);
      blocks = blocks-are;
    }

  module _ (gets : GetsBlocks tail.file.number) (within : lbn + count ≤ (bitmap_in s).size) (come : MayCome s tail.file.number count old)
    where
      abbrev then : Store
      then = with_blocks_named f more count (store_on s old)

      on-device : lbn + count ≤ length old.image
      on-device = let whole = for.lies.volume in omega (arith, within, whole)

      module _ (honest : IsTrue old.honest) where
        live : IsLive t n
        live = live_of-header (last.is_last honest).of

        wrote : (kind : GetsBlocks f) → WroteAs kind n block lbn count home old.image next
        wrote (inl one) =
            let few = (names honest).stands.few in
            let may : NamesMoreOf t 1 n block more lbn count = subst (λ (j : ℕ). NamesMoreOf t j n block more lbn count) one
            (names honest) in
            names-keep old.image home n block lbn count (for.sound honest)
            (record {
              last = subst (λ (j : ℕ). IsLastOf t j n) one (last.is_last honest);
              few = few;
              good = may.stands.good;
              no_link = may.no_link;
              blocks = may.blocks;
            }) on-device (becomes honest)
        wrote (inr late) = file-rewrite-keeps old.image home (for.sound honest) n block f late (last.is_last honest).of (becomes honest)

        written : HasWritten n block home old.image next
        written = has-written gets n block lbn count home old.image next live (wrote gets)

        -- the write is in order
        orderly : IsOrderlyWrite home old.image next
        orderly =
            rewritten-orderly old.image home (for.sound honest) n block written.slot written.in_use written.header live valid
            (λ i l at. elim (in-either (blocks_named (t.header n)) (range_with_len lbn count) l
            (contained _ i l (ap (λ (ls : List ℕ). slice_get ls i) (sym (blocks-are honest)) ∙ at))) [
              | inl own ↦ inl (own-named t n live own.0 l (at-place (blocks_named (t.header n)) l own))
              | inr more ↦
                  let row = in-range lbn count l more in
                  inr (zeros-held old.image home lbn count (for.sound honest) (given.unreferenced honest) (given.zeros honest) l row.0
                  row.1)
            ])

        -- as slots
        index-slots : (one : f ≡ 1) → HasSlotsMore count t (table_of next home)
        index-slots one =
            slots-more old.image home n block lbn count (for.sound honest) (subst (λ (j : ℕ). IsLastOf t j n) one (last.is_last honest)).of
            (wrote (inl one)) on-device
            (given.zeros honest) (come.limit honest (are-slots one))

        zero-slots : (kind : GetsBlocks f) → AddsZeroSlots t (table_of next home)
        zero-slots (inl one) =
            zero-grown old.image next home n block lbn count (wrote (inl one)) live.in_use (index-slots one).slots
            (slots-zero old.image home n block lbn count (for.sound honest) (subst (λ (j : ℕ). IsLastOf t j n) one (last.is_last honest)).of
            (wrote (inl one)) on-device (given.zeros honest) (come.limit honest (are-slots one)))
        zero-slots (inr late) = zero-header old.image next home n block (wrote (inr late)) live.in_use

        store : (kind : GetsBlocks f) → store_of next home ≡ then
        store (inl one) =
            subst (λ (j : ℕ). store_of next home ≡ with_blocks_named j more count (store_on s old)) (sym one)
            (index-more old.image next home n block more lbn count (wrote (inl one)) (index-slots one)
            (subst (λ (j : ℕ). NamesMoreOf t j n block more lbn count) one (names honest)))
        store (inr late) =
            file-grows old.image next home f n block more lbn count late (wrote (inr late)) (names honest)
            ∙ ap (λ (bs : List (List ℕ)). with_change (store_on s old) f (with_more_blocks more bs))
            (held-zeros old.image lbn count (given.zeros honest))
            ∙ ap (λ (slots : Bool). with_slots_if slots count
            (with_change (store_on s old) f (with_more_blocks more (new_blocks slots count)))) (sym (are-none late))

        has-store : HasStore home then next
        has-store = record { sound = written.slot.sound; store = store gets }

        last-named : IsLastOf (table_of next home) f n
        last-named = record {
          of = of-now old.image next home f n block written (names honest).stands;
          no_link = ap (λ (b : List ℕ). (link_of b).number) written.header ∙ no-link honest;
        }

      -- it is written
      module _ (place : ℕ) (new : Disk) (at : place ≡ header_lbn (index_in s) n) where
        moment : Naming s tail more count old (set old.image place block)
        moment honest =
            subst (HasStore home then) (ap (λ (x : Index). set old.image (header_lbn x n) block) (sym (for.keeps honest).index_is)
            ∙ ap (λ (l : ℕ). set old.image l block) (sym at))
            (has-store honest)

        pub named-order : new ≡ with_transfer true (with_block_at place block old) → WritesInOrder old new
        named-order = header-order s n place block old old (looked_none old) for at orderly new

        pub unnamed-order : (new ≡ with_transfer false old) ⊎ (new ≡ with_transfer false (with_block_at place block old))
            → WritesInOrder old new
        unnamed-order = header-failed-order s n place block old old (looked_none old) for at orderly new

        pub fails-name : (new ≡ with_transfer false old) ⊎ (new ≡ with_transfer false (with_block_at place block old))
            → FailsToName s tail lbn count old new
        fails-name is =
            record {
              more = more;
              few = all.few;
              fits = pointers-fit tail.block block more lbn count appends;
              went = went_failed_write (Naming s tail more count old) old new place block is moment;
            }

        module _ (after : IndexFile) (behind : index_kept after ≡ index_behind (tail.file.number == 1) (index_in s) lbn count)
            (left : room s.index ≤ room after + count)
            (is : new ≡ with_transfer true (with_block_at place block old)) where
          abbrev e : Structure
          e = record s { index = after }

          went : Went (Naming s tail more count old) old new 1 0
          went = went_write (Naming s tail more count old) old new place block is moment

          image : IsTrue old.honest → new.image ≡ next
          image = image-is s after n block lbn count old new for within place at is

          was-honest : IsTrue new.honest → IsTrue old.honest
          was-honest honest = sym went.honest ∙ honest

          for-new : IsStructureFor e new
          for-new = behind-for s after n block lbn count old new for within place at is gets behind (λ honest. wrote honest gets)

          pub names-stays : StaysFor false s e new
          names-stays = for-stays refl for-new

          pub names-run : NamesRun s e tail (record tail { block = block }) lbn count old new
          names-run = record {
            file_is = refl;
            more = more;
            few = all.few;
            fits = pointers-fit tail.block block more lbn count appends;
            holds = record {
              header = record {
                in_use = subst (λ (x : Index). is_in_use x n ≡ true) (sym behind)
                    (in_use-behind (f == 1) (index_in s) lbn count n s refl last.header.in_use);
                valid = valid;
                block_is = λ honest.
                    let before = was-honest honest in
                    sym (written before).header ∙ ap (λ (i : Image). (table_of i home).header n) (sym (image before))
                    ∙ ap (λ (u : Table). u.header n) (sym (table-of e new for-new honest));
              };
              no_link = ap (λ l. l.number) (link-more tail.block block more lbn count appends) ∙ last.no_link;
              few = let same = segment-more tail.block block more lbn count appends in omega (arith, same, last.few);
              is_last = λ honest. let before = was-honest honest in
                  subst (λ (i : Image). IsLastOf (table_of i home) f n) (sym (image before)) (last-named before);
            };
            bitmap = refl;
            left = left;
            names = λ honest.
                subst (λ (i : Image). NamesMore f (ownership_of tail) (range_with_len lbn count) t (table_of i home)) (sym (image honest))
                (names-more old.image next home f n block more lbn count (written honest) (names honest) (ownership_of tail));
            slots = λ honest. subst (λ (i : Image). AddsZeroSlots t (table_of i home)) (sym (image honest)) (zero-slots honest gets);
            store = λ honest. subst (HasStore home then) (sym (image honest)) (has-store honest);
            free = λ honest. subst (SameFree home old.image) (sym (image honest))
                (ap (λ (v : Volume). v.free) (written honest).slot.volume);
            went = went;
          }
