-- A header that a file gets behind its last one: its slot is read, it is written, and then the slot's bit.
use Rattle.std.proofs.Common.{◌≡◌, ◌≢◌, ◌⊎◌, ◌+◌, ◌≤◌, ◌<◌, ℕ, Bool, true, false, cond, IsTrue, List, [], ◌∷◌, length, Some, inl, inr, refl}
use Rattle.std.proofs.Common.{sym, ap, subst, ◌∙◌, ◌||◌, arith, eqb}
use Rattle.std.specs.List.{slice_get}
use Rattle.std.proofs.Math.ListN.{set}
use Rattle.std.proofs.lemmas.Bool.{both_ways, cases_eq, eq-eqb, ne_eqb}
use Rattle.std.proofs.lemmas.List.{get_or-set_other}
use Rattle.f11_bytes.specs.Block.{zero_block}
use Rattle.f11_dev.specs.Disk.{Disk, with_transfer, with_block_at}
use Rattle.f11_dev.specs.Image.{Image, image_block}
use Rattle.f11_dev.specs.Went.{Went}
use Rattle.f11_dev.proofs.LookedLemmas.{looked_read, looked_failed_read}
use Rattle.f11_dev.proofs.WentLemmas.{went_looked, went_write, went_failed_write, went_more, went_weaker}
use Rattle.f11_header.specs.Fields.{file_sequence}
use Rattle.f11_home.specs.Home.{HomeFields}
use Rattle.f11_chain.specs.Calls.{HoldsHeader}
use Rattle.f11_chain.proofs.StepLemmas.{table-in_use}
use Rattle.f11_index.specs.Calls.{SetsBit, HasBitWritten, WritesBit, FailsToWriteBit, bitmap_place, bitmap_block, with_bitmap_block}
use Rattle.f11_map.specs.HeaderBlock.{segment_number, link_of, blocks_named}
use Rattle.f11_index.specs.IndexFile.{Index, index_of, index_file_blocks, is_in_use, header_lbn, slots, free_slots_in as free_in_index}
use Rattle.f11_index.specs.Kept.{index_kept, room}
use Rattle.f11_index.specs.Slots.{IsLeastFree}
use Rattle.f11_index.specs.Table.{Table, table_of}
use Rattle.f11_index.specs.declared.index_file.IndexFile.{IndexFile}
use Rattle.f11_index.proofs.BitLemmas.{SetsBit-others}
use Rattle.f11_index.proofs.LawLemmas.{header_at, at as block-at}
use Rattle.f11_store.specs.Changes.{is_in, next_sequence, with_slots}
use Rattle.f11_store.specs.Store.{Store, free_slots, free_headers}
use Rattle.f11_store.specs.declared.files.FileId.{FileId}
use Rattle.f11_store.specs.declared.refusals.Refusal.TheVariants.{DeviceFault, Damaged}
use Rattle.f11_store.proofs.Growth.{headers_taken, stays_unused}
use Rattle.f11_volume.specs.Sound.{HasSoundVolume}
use Rattle.f11_volume.specs.Volume.{Volume, volume_of, IsNamed}
use Rattle.f11_volume.proofs.FileLemmas.{index-apart}
use Rattle.f11_writes.specs.Kept.{WritesHeader}
use Rattle.f11_writes.specs.NameLaws.{AreUnreferenced}
use Rattle.f11_writes.proofs.HeaderLemmas.{unused-keeps}
use Rattle.f11_writes.proofs.NameLemmas.{unentered-unreferenced}
use Rattle.f11_writes.proofs.OwnerLemmas.{in-index-file, named-of}
use Rattle.f11_writes.specs.Order.{WritesInOrder}
use Rattle.f11_files.proofs.Confining.InOrder.{entered-order, unwritten-order, written-order, zeros-at}
use Rattle.f11_files.specs.Answers.{Breaks, WritesAtMost}
use Rattle.f11_files.specs.Extending.Header.{IsExtension, EntersHeader}
use Rattle.f11_image_store.specs.ExtensionLaws.{IsNewExtension, EntersExtension}
use Rattle.f11_files.specs.Extending.Growing.{IsTaking, WhileTaking}
use Rattle.f11_files.specs.Extending.Link.{MayFollow}
use Rattle.f11_store.specs.Pieces.{TakesSome}
use Rattle.f11_image_store.specs.SlotLaws.{with_last, with_use}
use Rattle.f11_image_store.specs.StoreOf.{store_of}
use Rattle.f11_files.specs.Structure.{index_in, home_of, store_on, FitsOn, IsStructureOf, IsStructureFor, StaysFor}
use Rattle.f11_files.specs.Extending.Tail.{HoldsLast, MayBeGiven, ownership_of}
use Rattle.f11_files.specs.Extending.Zeros.{HoldsZeros}
use Rattle.f11_files.specs.declared.structure.Structure.{Structure}
use Rattle.f11_files.specs.declared.extend.tail.Tail.{Tail}
use Rattle.f11_image_store.proofs.AllocationLemmas.{adds-fileless}
use Rattle.f11_files.proofs.GrowingIndex.ZeroSlots.{zero-entered}
use Rattle.f11_files.proofs.Changing.Alter.{keeps-header}
use Rattle.f11_files.proofs.AnswerLemmas.{reads-looked}
use Rattle.f11_files.proofs.Creating.Create.{lies-bit}
use Rattle.f11_image_store.proofs.ExtensionLemmas.{enters-extension}
use Rattle.f11_files.proofs.Finding.First.{table-of}
use Rattle.f11_files.proofs.Creating.FreeSlot.{IsReadAt, read-at}
use Rattle.f11_files.proofs.Removing.Freeing.{writes-none, stays-for}
use Rattle.f11_files.proofs.Extending.Growing.{breaks-fault}
use Rattle.f11_image_store.proofs.InstanceLemmas.{unused-given}
use Rattle.f11_image_store.proofs.NewFileLemmas.{free-stored, least-stored, slot-taken}
use Rattle.f11_files.proofs.WriteLemmas.{keeps-storage, writes-behind, writes-within}
use Rattle.f11_image_store.specs.Allocation.{SaysOnly}

-- a slot that wasn't in use and was given its next sequence number
given-last : (s : Store) (n sequence m : ℕ) → s.in_use n ≡ false → sequence ≡ next_sequence (s.last n) → (m ≡ n) ⊎ (m ≢ n)
    → (cond (eqb m n) sequence (s.last m) ≡ s.last m)
    ⊎ ((s.in_use m ≡ false) × (cond (eqb m n) sequence (s.last m) ≡ next_sequence (s.last m)))
given-last s n sequence m unused next (inl same) =
    inr (
      ap s.in_use same ∙ unused,
      ap (λ (b : Bool). cond b sequence (s.last m)) (eq-eqb m n same) ∙ next
          ∙ ap (λ (k : ℕ). next_sequence (s.last k)) (sym same),
    )
given-last s n sequence m unused next (inr other) = inl (ap (λ (b : Bool). cond b sequence (s.last m)) (ne_eqb m n other))

takes-number : (s : Store) (n sequence : ℕ) → s.in_use n ≡ false → sequence ≡ next_sequence (s.last n)
    → TakesSome 0 1 s (with_last s n sequence)
unfolding free_slots
takes-number s n sequence unused next = record {
  files = λ m. refl;
  free = omega arith;
  unused = λ m free. free;
  slots_free = let same : free_headers (with_last s n sequence) ≡ free_headers s = refl in omega (arith, same);
  last = λ m. given-last s n sequence m unused next (cases_eq m n);
  no_header = λ none. absurd cc;
  slots = refl;
  limits = record { bitmap_blocks = refl; index_bitmap_blocks = refl; limit = refl };
}

-- and came into use
takes-slot : (s : Store) (n : ℕ) → s.in_use n ≡ false → TakesSome 0 1 s (with_slots s (n ∷ []))
takes-slot s n unused = record {
  files = λ m. refl;
  free = omega arith;
  unused = λ m free. before (is_in (n ∷ []) m) (s.in_use m) free;
  slots_free = headers_taken s (with_slots s (n ∷ [])) (n ∷ []) (λ m out free. stays_unused (is_in (n ∷ []) m) (s.in_use m) out free)
      (omega arith);
  last = λ m.
      subst (λ (t : Store). (t.last m ≡ s.last m) ⊎ ((s.in_use m ≡ false) × (t.last m ≡ next_sequence (s.last m))))
      (slot-taken s n (next_sequence (s.last n)) refl)
      (given-last s n (next_sequence (s.last n)) m unused refl (cases_eq m n));
  no_header = λ none. absurd cc;
  slots = refl;
  limits = record { bitmap_blocks = refl; index_bitmap_blocks = refl; limit = refl };
}
  where
    before : (a b : Bool) → (a || b) ≡ false → b ≡ false
    before false b is = is
    before true b is = absurd cc

-- blocks that no header names are none of the index file's, and stay where one of those is written
zeros-kept : (image : Image) (home : HomeFields) (place at lbn count : ℕ) (block : List ℕ) → HasSoundVolume image home
    → slice_get (index_file_blocks image home) place ≡ Some at
    → AreUnreferenced (volume_of image home) lbn count → HoldsZeros image lbn count → HoldsZeros (set image at block) lbn count
unfolding volume_of
zeros-kept image home place at lbn count block is there unreferenced zeros =
    let named : IsNamed (table_of image home) at = named-of (table_of image home) 1 at (in-index-file image home is place at there) in
    record {
      each = λ k low high.
          get_or-set_other image at k block zero_block
          (λ same. unreferenced.unnamed k low high (subst (IsNamed (table_of image home)) (sym same) named)) ∙ zeros.each k low high;
    }

module _ (s : Structure) (tail : Tail) (lbn count : ℕ) (old : Disk) (for : IsStructureFor s old) (last : HoldsLast s tail old)
    (given : MayBeGiven (home_of s) lbn count old) where
  abbrev st : Store
  st = store_on s old

  abbrev home : HomeFields
  home = home_of s

  abbrev P : Image → Type 0
  P = WhileTaking home 0 1 st old

  -- no slot is free, though one should be
  pub none-free : (IsTrue old.honest → 0 < free_headers st) → free_in_index (index_in s) ≡ [] → Breaks P 3 Damaged old old
  none-free free none = record {
    fatal = refl;
    undamaged = λ honest _.
        let count : free_headers st ≡ 0 =
        ap (λ (l : List ℕ). length l) (free-stored old.image home ∙ ap free_in_index (sym (for.keeps honest).index_is) ∙ none) in
        let some = free honest in
        omega (arith, count, some);
    writes = writes-none P 3 old;
  }

  pub fails-read : (new : Disk) → new ≡ with_transfer false old → Breaks P 3 DeviceFault old new
  fails-read new is = breaks-fault (record { transfers = 1; went = went_looked P (looked_failed_read old new is); few = λ _. omega arith })

  module _ (n : ℕ) (mid : Disk) (place : ℕ) (was : List ℕ) (sequence : ℕ) (least : IsLeastFree (index_in s) n)
      (at : place ≡ header_lbn (index_in s) n) (counts : mid ≡ with_transfer true old)
      (gives : IsTrue old.honest → slice_get old.image place ≡ Some was) (next : sequence ≡ next_sequence (file_sequence was)) where
    abbrev id : FileId
    id = record { number = n; sequence = sequence; volume = 0 }

    some : 0 < n
    some = omega (arith, least.low)

    slot : IsTrue old.honest → IsReadAt s n place sequence old mid
    slot = read-at s n place was sequence old mid for least at counts gives next

    module _ (block : List ℕ) (new : IsExtension tail id lbn count block) where
      abbrev first : Image
      first = set mid.image place block

      abbrev second : Index → Image
      second after = with_bitmap_block first after n

      says-only : SaysOnly (ownership_of tail) block
      says-only = record {
        ownership_is = λ i. (new.owner_is i, new.protection_is i);
        no_characteristics = new.no_characteristics;
        no_attributes = new.no_attributes;
        no_ident = new.no_ident;
      }

      is-new : IsTrue old.honest → IsNewExtension (index_of old.image home) n lbn count block
      is-new honest = record {
        some = some;
        slot = (slot honest).least.high;
        unused = (slot honest).least.unused;
        valid = new.valid;
        later = omega (arith, new.segment);
        no_link = new.no_link;
        names = new.names;
      }

      -- what both writes make
      entered : (after : Index) → IsTrue old.honest → SetsBit true n (index_in s) after
          → EntersExtension n block after home old.image first (second after)
      entered after honest bit =
          subst (λ (i : Image). EntersExtension n block after home old.image i (with_bitmap_block i after n))
          (sym ((slot honest).written block))
          (enters-extension old.image home n lbn count block after (for.sound honest) (is-new honest) (given.unreferenced honest)
          (subst (λ (x : Index). SetsBit true n x after) (for.keeps honest).index_is bit))

      one : IsTrue old.honest → WritesHeader n block home old.image first
      one honest =
          subst (WritesHeader n block home old.image) (sym ((slot honest).written block))
          (unused-keeps old.image home (for.sound honest) n block some (slot honest).least.high (slot honest).least.unused)

      store-first : IsTrue old.honest → store_of first home ≡ with_last st n sequence
      store-first honest =
          unused-given old.image first home n block (one honest) some (slot honest).within (slot honest).unused
          ∙ ap (with_last st n) new.sequence

      first-moment : P first
      first-moment honest = record {
        sound = (one honest).slot.sound;
        takes = subst (TakesSome 0 1 st) (sym (store-first honest)) (takes-number st n sequence (slot honest).free (slot honest).given);
      }

      store-second : (after : Index) → IsTrue old.honest → SetsBit true n (index_in s) after
          → store_of (second after) home ≡ with_slots st (n ∷ [])
      store-second after honest bit =
          (entered after honest bit).store ∙ ap (λ (q : ℕ). with_use (with_last st n q) n true) new.sequence
          ∙ slot-taken st n sequence (slot honest).given

      second-moment : (image : Image) → HasBitWritten true n (index_in s) first image → P image
      second-moment image has honest =
          subst (IsTaking home 0 1 st) (sym has.image_is) (record {
            sound = (entered has.written honest has.bit).bit.slot.sound;
            takes = subst (TakesSome 0 1 st) (sym (store-second has.written honest has.bit)) (takes-slot st n (slot honest).free);
          })

      -- the blocks that it names hold zeros
      zeros-first : IsTrue old.honest → HoldsZeros first lbn count
      zeros-first honest =
          let sound = for.sound honest in
          let there = header_at old.image home sound.framed.indexed.file n some (slot honest).least.high in
          subst (λ (i : Image). HoldsZeros i lbn count) (sym ((slot honest).written block))
          (zeros-kept old.image home _ (header_lbn (index_of old.image home) n) lbn count block sound there (given.unreferenced honest)
          (given.zeros honest))

      zeros-second : (after : Index) → IsTrue old.honest → SetsBit true n (index_in s) after → HoldsZeros (second after) lbn count
      zeros-second after honest bit =
          let sound = (one honest).slot.sound in
          let same = (one honest).index_file.index in
          let few = subst (λ (x : Index). n ≤ slots x) (sym same) (slot honest).least.high in
          let sets = subst (λ (x : Index). SetsBit true n x after) ((for.keeps honest).index_is ∙ sym same) bit in
          let there = block-at first home sound.framed.indexed.file true n after (index-apart first home sound) some few sets in
          let unused = ap (λ (f : ℕ → Bool). f n) (one honest).in_use ∙ (slot honest).unused in
          let unreferenced = unentered-unreferenced old.image first home n lbn count (one honest).slot (given.unreferenced honest) unused in
          zeros-kept first home _ (after.bitmap_lbn + bitmap_place n) lbn count (bitmap_block after n) sound there unreferenced
          (zeros-first honest)

      -- and were used
      unreferenced-first : IsTrue old.honest → AreUnreferenced (volume_of first home) lbn count
      unreferenced-first honest =
          unentered-unreferenced old.image first home n lbn count (one honest).slot (given.unreferenced honest)
          (ap (λ (f : ℕ → Bool). f n) (one honest).in_use ∙ (slot honest).unused)

      names-zeros : IsTrue old.honest → (i l : ℕ) → slice_get (blocks_named block) i ≡ Some l
          → ((volume_of first home).free l ≡ false) × (image_block first l ≡ zero_block)
      names-zeros honest i l is =
          zeros-at first home lbn count i l (one honest).slot.sound (unreferenced-first honest) (zeros-first honest)
          (ap (λ (ls : List ℕ). slice_get ls i) (sym new.names) ∙ is)

      -- the writes are in order
      pub header-unwritten : (wrote : Disk)
          → (wrote ≡ with_transfer false mid) ⊎ (wrote ≡ with_transfer false (with_block_at place block mid))
          → WritesInOrder mid wrote
      header-unwritten =
          unwritten-order s n place sequence block old mid for some (looked_read old mid counts) slot new.valid one
          (λ after honest bit. (entered after honest bit).bit) names-zeros

      pub header-written : (wrote : Disk) → wrote ≡ with_transfer true (with_block_at place block mid) → WritesInOrder mid wrote
      header-written =
          written-order s n place sequence block old mid for some (looked_read old mid counts) slot new.valid one
          (λ after honest bit. (entered after honest bit).bit) names-zeros

      pub bit-entered : (wrote : Disk) → wrote ≡ with_transfer true (with_block_at place block mid) → (done : Disk) {faults : ℕ}
          → Went (HasBitWritten true n (index_in s) wrote.image) wrote done 1 faults → WritesInOrder wrote done
      bit-entered wrote landed done went =
          entered-order s n place sequence block old mid for some (looked_read old mid counts) slot new.valid one
          (λ after honest bit. (entered after honest bit).bit) names-zeros wrote landed done least.high went

      module _ (wrote : Disk) where
        -- the header couldn't be written
        pub fails-first : (wrote ≡ with_transfer false mid) ⊎ (wrote ≡ with_transfer false (with_block_at place block mid))
            → Breaks P 3 DeviceFault old wrote
        fails-first is =
            breaks-fault (writes-within (omega arith)
            (writes-behind (reads-looked (looked_read old mid counts)) (went_failed_write P mid wrote place block is first-moment)))

        module _ (landed : wrote ≡ with_transfer true (with_block_at place block mid)) where
          image-one : wrote.image ≡ first
          image-one = ap (λ (d : Disk). d.image) landed

          behind : (done : Disk) (faults : ℕ) → Went (HasBitWritten true n (index_in s) wrote.image) wrote done 1 faults
              → WritesAtMost P 3 old done faults
          behind done faults went =
              writes-behind (reads-looked (looked_read old mid counts))
              (went_more P (went_write P mid wrote place block landed first-moment)
              (went_weaker _ P (λ image has.
              second-moment image (subst (λ (i : Image). HasBitWritten true n (index_in s) i image) image-one has)) went))

          -- nor could its bit
          pub fails-bit : (done : Disk) → FailsToWriteBit true n (index_in s) wrote done → Breaks P 3 DeviceFault old done
          fails-bit done fails = breaks-fault (behind done 1 fails)

          module _ (after : IndexFile) (done : Disk) (bit : WritesBit true n (index_in s) (index_kept after) wrote done) where
            abbrev t : Structure
            t = record s { index = after }

            image-two : done.image ≡ second (index_kept after)
            image-two = bit.image ∙ ap (λ (i : Image). with_bitmap_block i (index_kept after) n) image-one

            writes : WritesAtMost P 3 old done 0
            writes = behind done 0 bit.went

            made : IsTrue old.honest → EntersExtension n block (index_kept after) home old.image first done.image
            made honest =
                subst (EntersExtension n block (index_kept after) home old.image first) (sym image-two)
                (entered (index_kept after) honest bit.bit)

            was-honest : IsTrue done.honest → IsTrue old.honest
            was-honest honest = sym writes.went.honest ∙ honest

            keeps : IsTrue old.honest → IsStructureOf t done.image
            keeps honest =
                let here = made honest in
                let kept = keeps-header s n block old.image first (one honest) (for.keeps honest) in
                record {
                  index_is = sym here.bit.index_file.index_is;
                  bitmap_is = kept.bitmap_is ∙ sym here.bit.slot.bitmap;
                  storage = keeps-storage s first done.image here.bit.slot.bitmap_blocks kept;
                }

            pub entered-stays : StaysFor false s t done
            entered-stays = record {
              home = refl;
              lies = λ _. subst (FitsOn t) (sym writes.went.size) (lies-bit s t true n (length old.image) refl bit.bit for.lies);
              sound = λ honest. (made (was-honest honest)).bit.slot.sound;
              keeps = λ _ honest. keeps (was-honest honest);
            }

            for-now : IsStructureFor t done
            for-now = stays-for entered-stays

            -- the new one is none that the file has
            other : n ≢ tail.number
            other same = both_ways _ least.unused (ap (is_in_use (index_in s)) same ∙ last.header.in_use)

            holds-new : HoldsHeader (index_in t) n block done
            holds-new = record {
              in_use = bit.in_use;
              valid = new.valid;
              block_is = λ honest. sym (made (was-honest honest)).block_is
                  ∙ ap (λ (u : Table). u.header n) (sym (table-of t done for-now honest));
            }

            tail-in-use : IsTrue old.honest → (table_of old.image home).in_use tail.number ≡ true
            tail-in-use honest =
                ap (λ (u : Table). u.in_use tail.number) (sym (table-of s old for honest)) ∙ table-in_use (index_in s) old tail.number
                ∙ last.header.in_use

            -- the file's last header is as it was
            tail-same : (honest : IsTrue old.honest)
                → (table_of done.image home).header tail.number ≡ (table_of old.image home).header tail.number
            tail-same honest = (made honest).others tail.number (tail-in-use honest)

            holds-tail : HoldsLast t tail done
            holds-tail = record {
              header = record {
                in_use = SetsBit-others (index_in s) (index_kept after) true n tail.number bit.bit (λ same. other (sym same))
                    ∙ last.header.in_use;
                valid = last.header.valid;
                block_is = λ honest.
                    let before = was-honest honest in
                    last.header.block_is before ∙ ap (λ (u : Table). u.header tail.number) (table-of s old for before)
                    ∙ sym (tail-same before)
                    ∙ ap (λ (u : Table). u.header tail.number) (sym (table-of t done for-now honest));
              };
              no_link = last.no_link;
              few = last.few;
              is_last = λ honest.
                  let before = was-honest honest in
                  record {
                    of = (made before).files tail.file.number tail.number (last.is_last before).of;
                    no_link = ap (λ (b : List ℕ). (link_of b).number) (tail-same before) ∙ (last.is_last before).no_link;
                  };
            }

            follows : IsTrue old.honest → MayFollow (table_of done.image home) tail id
            follows honest =
                let here = made honest in
                record {
                  live = here.live;
                  other = other;
                  sequence = ap file_sequence here.block_is ∙ new.sequence;
                  segment = ap segment_number here.block_is ∙ new.segment;
                  no_link = ap (λ (b : List ℕ). (link_of b).number) here.block_is ∙ new.no_link;
                  no_other = here.unlinked;
                }

            pub enters-header : room after ≡ room s.index → EntersHeader s t tail lbn count id block old done
            enters-header left = record {
              left = left;
              extension = new;
              holds = holds-new;
              follows = follows;
              last = holds-tail;
              zeros = λ honest. subst (λ (i : Image). HoldsZeros i lbn count) (sym image-two)
                  (zeros-second (index_kept after) honest bit.bit);
              bitmap = refl;
              free = λ honest. ap (λ (v : Volume). v.free) (made honest).bit.slot.volume
                  ∙ ap (λ (v : Volume). v.free) (made honest).header.slot.volume;
              adds = λ honest.
                  adds-fileless tail.file.number tail.number n (ownership_of tail) block (index_kept after) home old.image first done.image
                  (last.is_last honest)
                  (slot honest).unused says-only (made honest);
              slots =
                  λ honest. zero-entered n block (index_kept after) home old.image first done.image (made honest).header (made honest).bit
                  (made honest).live.in_use;
              slot = λ honest. sym (least-stored old.image home n (slot honest).least);
              store = λ honest. ap (λ (i : Image). store_of i home) image-two ∙ store-second (index_kept after) honest bit.bit;
              writes = writes;
            }
