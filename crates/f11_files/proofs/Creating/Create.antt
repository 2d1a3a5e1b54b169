-- A new file: its slot is read, its header is written, and then its bit.
use Rattle.std.proofs.Common.{◌≡◌, ◌≢◌, ◌⊎◌, ◌<◌, ℕ, Bool, true, false, cond, IsTrue, List, [], length, Some, None, inl, inr, refl, sym, ap}
use Rattle.std.proofs.Common.{subst, ◌∙◌, arith, eqb}
use Rattle.std.specs.List.{All, slice_get}
use Rattle.std.proofs.lemmas.List.{length-set}
use Rattle.std.proofs.Math.ListN.{set}
use Rattle.std.proofs.lemmas.Bool.{cases_eq, eq-eqb, ne_eqb}
use Rattle.std.proofs.lemmas.Option.{slice_get_within, none-some}
use Rattle.f11_bits.specs.Bitmap.{Bitmap, LiesWithin as BitmapLiesWithin}
use Rattle.f11_bits.specs.Storage.{bitmap_of, Keeps}
use Rattle.f11_bits.specs.declared.storage.Storage.{Storage}
use Rattle.f11_dev.specs.Disk.{Disk, with_transfer, with_block_at}
use Rattle.f11_dev.specs.Image.{Image, image_block}
use Rattle.f11_dev.specs.Went.{Went}
use Rattle.f11_dev.proofs.LookedLemmas.{looked_read}
use Rattle.f11_dev.proofs.WentLemmas.{went_write, went_failed_write, went_more, went_weaker}
use Rattle.f11_header.specs.Fields.{file_sequence}
use Rattle.f11_home.specs.Home.{HomeFields}
use Rattle.f11_index.specs.Calls.{SetsBit, HasBitWritten, WritesBit, FailsToWriteBit, bitmap_place, bitmap_block, with_bitmap_block}
use Rattle.f11_index.specs.IndexFile.{Index, index_of, header_lbn, free_slots_in as free_in_index}
use Rattle.f11_index.specs.Slots.{IsLeastFree}
use Rattle.f11_index.specs.Table.{table_of}
use Rattle.f11_index.proofs.BitLemmas.{SetsBit-in_use}
use Rattle.f11_store.specs.Causes.{first_of}
use Rattle.f11_store.specs.Changes.{next_sequence}
use Rattle.f11_store.specs.Lags.{Work, LagsBy, new_file_work}
use Rattle.f11_store.specs.Store.{Store, free_slots, free_headers}
use Rattle.f11_store.specs.declared.callers.Uic.{Uic}
use Rattle.f11_store.specs.declared.files.FileId.{FileId}
use Rattle.f11_store.specs.declared.refusals.Refusal.TheVariants.{NoHeader, DeviceFault}
use Rattle.f11_store.proofs.Frees.{same_limits}
use Rattle.f11_store.proofs.LagLaws.{taken_lags, created_lags}
use Rattle.f11_volume.specs.Sound.{HasSoundVolume}
use Rattle.f11_volume.specs.Space.{storage_bitmap}
use Rattle.f11_volume.specs.Volume.{volume_of}
use Rattle.f11_image_store.specs.Allocation.{AddsZeroSlots, KeepsBlocks}
use Rattle.f11_bytes.specs.Block.{zero_block}
use Rattle.f11_map.specs.HeaderBlock.{blocks_named}
use Rattle.f11_image_store.proofs.NewFileLemmas.{names-none, valid, free-stored, least-stored, writes-first, enters-file, entered-keeps}
use Rattle.f11_writes.specs.Order.{WritesInOrder}
use Rattle.f11_files.proofs.Confining.InOrder.{entered-order, unwritten-order, written-order}
use Rattle.f11_files.specs.Answers.{Meanwhile, IsUnderWay, KeepsUnused}
use Rattle.f11_files.specs.Create.{EntersFile, FailsToEnter}
use Rattle.f11_image_store.specs.NewFileLaws.{IsNewFirst, WritesNewFirst, EntersNewFile}
use Rattle.f11_files.specs.Operations.{slot_causes}
use Rattle.f11_image_store.specs.SlotLaws.{with_last}
use Rattle.f11_image_store.specs.StoreOf.{store_of}
use Rattle.f11_files.specs.Structure.{index_in, bitmap_in, home_of, store_on, FitsOn, IsStructureOf, IsStructureFor, StaysFor}
use Rattle.f11_files.specs.declared.structure.Structure.{Structure}
use Rattle.f11_files.proofs.Changing.Alter.{keeps-header}
use Rattle.f11_files.proofs.AnswerLemmas.{right-fault, reads-looked}
use Rattle.f11_files.proofs.Creating.FreeSlot.{IsReadAt, read-at}
use Rattle.f11_files.proofs.GrowingIndex.ZeroSlots.{with-unused, zero-entered}
use Rattle.f11_files.proofs.WriteLemmas.{keeps-storage, breaks-off, failed-stays, sound-went, writes-behind, writes-within}

-- a slot that was given its next sequence number
numbered : (s : Store) (owner : Uic) (protection : ℕ) (ident attr : List ℕ) (n sequence : ℕ) → sequence ≡ next_sequence (s.last n)
    → LagsBy (new_file_work s owner protection ident attr) (with_last s n sequence) s
unfolding free_slots
numbered s owner protection ident attr n sequence next = taken_lags (new_file_work s owner protection ident attr) s (with_last s n sequence)
    (λ m. refl) (record {
      others = λ m out. refl;
      free = omega arith;
      slots_free = let same : free_headers (with_last s n sequence) ≡ free_headers s = refl in omega (arith, same);
      last = λ m. last m (cases_eq m n);
      no_header = λ none. absurd cc;
      slots = refl;
      same = same_limits refl refl refl;
    })
  where
    last : (m : ℕ) → (m ≡ n) ⊎ (m ≢ n)
        → (cond (eqb m n) sequence (s.last m) ≡ s.last m) ⊎ (cond (eqb m n) sequence (s.last m) ≡ next_sequence (s.last m))
    last m (inl same) =
        inr (ap (λ (b : Bool). cond b sequence (s.last m)) (eq-eqb m n same) ∙ next ∙ ap (λ (k : ℕ). next_sequence (s.last k)) (sym same))
    last m (inr other) = inl (ap (λ (b : Bool). cond b sequence (s.last m)) (ne_eqb m n other))

-- where a bit was set, what is kept lies where it lay
pub lies-bit : (s t : Structure) (value : Bool) (n blocks : ℕ) → bitmap_in t ≡ bitmap_in s → SetsBit value n (index_in s) (index_in t)
    → FitsOn s blocks → FitsOn t blocks
lies-bit s t value n blocks bitmap bit lies =
    let same = bit.one_block in
    let count = ap (λ (x : Index). length x.bitmap) same ∙ length-set (index_in s).bitmap (bitmap_place n) (bitmap_block (index_in t) n) in
    record {
      index = record {
        bitmap = let here = lies.index.bitmap in let at = ap (λ (x : Index). x.bitmap_lbn) same in omega (arith, here, at, count);
        headers = subst (All (λ lbn. lbn < blocks)) (sym (ap (λ (x : Index). x.headers) same)) lies.index.headers;
      };
      bitmap = subst (λ (b : Bitmap). BitmapLiesWithin b blocks) (sym bitmap) lies.bitmap;
      volume = let here = lies.volume in let at = ap (λ (b : Bitmap). b.size) bitmap in omega (arith, here, at);
    }

-- no slot is free
pub none-free : (s : Structure) (disk : Disk) → IsStructureFor s disk → IsTrue disk.honest → free_in_index (index_in s) ≡ []
    → first_of (slot_causes (store_on s disk)) ≡ Some NoHeader
none-free s disk for honest none =
    let count : free_headers (store_on s disk) ≡ 0 =
    ap (λ (l : List ℕ). length l) (free-stored disk.image (home_of s) ∙ ap free_in_index (sym (for.keeps honest).index_is) ∙ none) in
    ap (λ (b : Bool). cond b (Some NoHeader) None) (eq-eqb (free_headers (store_on s disk)) 0 count)

module _ (s : Structure) (owner : Uic) (protection : ℕ) (ident attr : List ℕ) (n : ℕ) (old mid : Disk) (lbn : ℕ) (was : List ℕ)
    (sequence : ℕ) (for : IsStructureFor s old) (least : IsLeastFree (index_in s) n)
    (at : lbn ≡ header_lbn (index_in s) n) (counts : mid ≡ with_transfer true old)
    (gives : IsTrue old.honest → slice_get old.image lbn ≡ Some was)
    (next : sequence ≡ next_sequence (file_sequence was)) where
  abbrev st : Store
  st = store_on s old

  abbrev home : HomeFields
  home = home_of s

  abbrev work : Work
  work = new_file_work st owner protection ident attr

  abbrev P : Image → Type 0
  P = Meanwhile work home old

  abbrev id : FileId
  id = record { number = n; sequence = sequence; volume = 0 }

  slot : IsTrue old.honest → IsReadAt s n lbn sequence old mid
  slot = read-at s n lbn was sequence old mid for least at counts gives next

  -- a header is free
  some-free : IsTrue old.honest → first_of (slot_causes st) ≡ None
  some-free honest =
      let stored = ap (λ (l : List ℕ). length l) (free-stored old.image home) in
      let within : 0 < length (free_in_index (index_of old.image home)) = slice_get_within _ _ n (slot honest).least.first in
      ap (λ (b : Bool). cond b (Some NoHeader) None) (ne_eqb (free_headers st) 0 (λ none. omega (arith, stored, within, none)))

  module _ (empty block : List ℕ) (new : IsNewFirst id owner protection ident attr empty block) where
    abbrev first : Image
    first = set mid.image lbn block

    wrote : IsTrue old.honest → WritesNewFirst id block home old.image first
    wrote honest =
        subst (WritesNewFirst id block home old.image) (sym ((slot honest).written block))
        (writes-first id owner protection ident attr empty block new old.image home (for.sound honest) (slot honest).least.high
        (slot honest).least.unused)

    pub first-moment : P first
    first-moment honest = record {
      sound = (wrote honest).header.slot.sound;
      lags = subst (λ (t : Store). LagsBy work t st) (sym (wrote honest).store)
          (numbered st owner protection ident attr n id.sequence (slot honest).given);
    }

    -- and then its bit
    entered : (after : Index) → IsTrue old.honest → SetsBit true n (index_in s) after
        → EntersNewFile n after owner protection ident attr home old.image first (with_bitmap_block first after n)
    entered after honest bit =
        let at-home : SetsBit true n (index_of old.image home) after = subst (λ (x : Index). SetsBit true n x after)
        (for.keeps honest).index_is bit in
        subst (λ (i : Image). EntersNewFile n after owner protection ident attr home old.image i (with_bitmap_block i after n))
        (sym ((slot honest).written block))
        (enters-file id owner protection ident attr empty block new old.image home (for.sound honest) (slot honest).least.high
        (slot honest).least.unused after at-home (slot honest).least (slot honest).next)

    -- and each header names what it named
    kept : (after : Index) → IsTrue old.honest → SetsBit true n (index_in s) after
        → KeepsBlocks (volume_of old.image home) (volume_of (with_bitmap_block first after n) home)
    kept after honest bit =
        let at-home : SetsBit true n (index_of old.image home) after = subst (λ (x : Index). SetsBit true n x after)
        (for.keeps honest).index_is bit in
        subst (λ (i : Image). KeepsBlocks (volume_of old.image home) (volume_of (with_bitmap_block i after n) home))
        (sym ((slot honest).written block))
        (entered-keeps id owner protection ident attr empty block new old.image home (for.sound honest)
        (slot honest).least.high (slot honest).least.unused after at-home)

    -- no other slot changed
    slots-kept : (after : Index) → IsTrue old.honest → SetsBit true n (index_in s) after
        → AddsZeroSlots (table_of old.image home) (table_of (with_bitmap_block first after n) home)
    slots-kept after honest bit =
        let at-home : SetsBit true n (index_of old.image home) after = subst (λ (x : Index). SetsBit true n x after)
        (for.keeps honest).index_is bit in
        let made = (entered after honest bit).bit in
        zero-entered n block after home old.image first (with_bitmap_block first after n) (wrote honest).header made
        ((λ i. (made.index_file.table i).in_use n)
        ∙ SetsBit-in_use true n (index_of old.image home) after (omega (arith, least.low)) (slot honest).least.high at-home)

    pub second-moment : (image : Image) → HasBitWritten true n (index_in s) first image → P image
    second-moment image has honest =
        let here = entered has.written honest has.bit in
        subst (IsUnderWay work home old.image) (sym has.image_is) record {
          sound = here.bit.slot.sound;
          lags = subst (λ (t : Store). LagsBy work t st) (sym here.store) (created_lags st owner protection ident attr);
        }

    -- the writes are in order
    names-zeros : IsTrue old.honest → (i l : ℕ) → slice_get (blocks_named block) i ≡ Some l
        → ((volume_of first home).free l ≡ false) × (image_block first l ≡ zero_block)
    names-zeros honest i l is =
        absurd (none-some l (ap (λ (ls : List ℕ). slice_get ls i) (sym (names-none id owner protection ident attr empty block new)) ∙ is))

    pub header-unwritten : (wrote : Disk) → (wrote ≡ with_transfer false mid) ⊎ (wrote ≡ with_transfer false (with_block_at lbn block mid))
        → WritesInOrder mid wrote
    header-unwritten =
        unwritten-order s n lbn sequence block old mid for (omega (arith, least.low)) (looked_read old mid counts) slot
        (valid id owner protection ident attr empty block new) (λ honest. (wrote honest).header)
        (λ after honest bit. (entered after honest bit).bit) names-zeros

    pub header-written : (wrote : Disk) → wrote ≡ with_transfer true (with_block_at lbn block mid) → WritesInOrder mid wrote
    header-written =
        written-order s n lbn sequence block old mid for (omega (arith, least.low)) (looked_read old mid counts) slot
        (valid id owner protection ident attr empty block new) (λ honest. (wrote honest).header)
        (λ after honest bit. (entered after honest bit).bit) names-zeros

    pub bit-entered : (written : Disk) → written ≡ with_transfer true (with_block_at lbn block mid) → (done : Disk) {faults : ℕ}
        → Went (HasBitWritten true n (index_in s) written.image) written done 1 faults → WritesInOrder written done
    bit-entered written landed done went =
        entered-order s n lbn sequence block old mid for (omega (arith, least.low)) (looked_read old mid counts) slot
        (valid id owner protection ident attr empty block new) (λ honest. (wrote honest).header)
        (λ after honest bit. (entered after honest bit).bit) names-zeros written landed done least.high went

    module _ (one : Disk) where
      -- the header couldn't be written
      pub fails-first : (one ≡ with_transfer false mid) ⊎ (one ≡ with_transfer false (with_block_at lbn block mid))
          → FailsToEnter home owner protection ident attr DeviceFault old one
      fails-first is =
          breaks-off some-free refl (right-fault _ _)
          (writes-within (omega arith)
          (writes-behind (reads-looked (looked_read old mid counts)) (went_failed_write P mid one lbn block is first-moment)))

      pub fails-first-stays : (t : Structure) → home_of t ≡ home
          → (one ≡ with_transfer false mid) ⊎ (one ≡ with_transfer false (with_block_at lbn block mid)) → StaysFor true s t one
      fails-first-stays t same is = failed-stays s t _ old one for same (fails-first is).writes.went

      module _ (landed : one ≡ with_transfer true (with_block_at lbn block mid)) where
        image-one : one.image ≡ first
        image-one = ap (λ (d : Disk). d.image) landed

        behind : (new : Disk) (faults : ℕ) → Went (HasBitWritten true n (index_in s) one.image) one new 1 faults → Went P mid new 2 faults
        behind new faults went =
            went_more P (went_write P mid one lbn block landed first-moment)
            (went_weaker _ P (λ image has.
            second-moment image (subst (λ (i : Image). HasBitWritten true n (index_in s) i image) image-one has)) went)

        -- nor could its bit
        pub fails-bit : (new : Disk) → FailsToWriteBit true n (index_in s) one new
            → FailsToEnter home owner protection ident attr DeviceFault old new
        fails-bit new fails =
            breaks-off some-free refl (right-fault _ _) (writes-behind (reads-looked (looked_read old mid counts)) (behind new 1 fails))

        pub fails-bit-stays : (t : Structure) (new : Disk) → home_of t ≡ home → FailsToWriteBit true n (index_in s) one new
            → StaysFor true s t new
        fails-bit-stays t new same fails = failed-stays s t _ old new for same (fails-bit new fails).writes.went

        image-two : (after : Index) (new : Disk) → WritesBit true n (index_in s) after one new → new.image ≡ with_bitmap_block first after n
        image-two after new wrote_bit = wrote_bit.image ∙ ap (λ (i : Image). with_bitmap_block i after n) image-one

        -- the file is there
        pub creates : (after : Index) (new : Disk) → WritesBit true n (index_in s) after one new
            → EntersFile home owner protection ident attr id old new
        creates after new wrote_bit = record {
          does = record {
            no_cause = some-free;
            makes = λ honest. ap (λ (i : Image). store_of i home) (image-two after new wrote_bit)
                ∙ (entered after honest wrote_bit.bit).store;
            allots = λ honest.
                subst (λ (i : Image). KeepsUnused KeepsBlocks (volume_of old.image home) (volume_of i home))
                (sym (image-two after new wrote_bit))
                (with-unused KeepsBlocks home old.image (with_bitmap_block first after n) (kept after honest wrote_bit.bit)
                (slots-kept after honest wrote_bit.bit));
            writes = writes-behind (reads-looked (looked_read old mid counts)) (behind new 0 wrote_bit.went);
          };
          id = λ honest.
              let number = least-stored old.image home n (slot honest).least in
              λ i. record {
                number = sym number i;
                sequence = ((slot honest).given ∙ ap (λ (k : ℕ). next_sequence (st.last k)) (sym number))
                    i;
                volume = 0;
              };
        }

        pub created-stays : (t : Structure) (new : Disk) → home_of t ≡ home → t.storage ≡ s.storage
            → WritesBit true n (index_in s) (index_in t) one new → StaysFor false s t new
        created-stays t new same kept wrote_bit =
            let writes = (creates (index_in t) new wrote_bit).does.writes in
            record {
              home = same;
              lies = λ _. subst (FitsOn t) (sym writes.went.size)
                  (lies-bit s t true n (length old.image) (ap bitmap_of kept) wrote_bit.bit for.lies);
              sound = λ honest. subst (HasSoundVolume new.image) (sym same) (sound-went work home old new for.sound writes.went honest);
              keeps = λ _ honest. keeps (sym writes.went.honest ∙ honest);
            }
          where
            keeps : IsTrue old.honest → IsStructureOf t new.image
            keeps honest =
                let made = entered (index_in t) honest wrote_bit.bit in
                let here : new.image ≡ with_bitmap_block first (index_in t) n = image-two (index_in t) new wrote_bit in
                subst (IsStructureOf t) (sym here) record {
                  index_is = sym made.bit.index_file.index_is ∙ ap (index_of (with_bitmap_block first (index_in t) n)) (sym same);
                  bitmap_is = ap bitmap_of kept ∙ (for.keeps honest).bitmap_is ∙ sym (wrote honest).header.slot.bitmap
                      ∙ sym made.bit.slot.bitmap ∙ ap (storage_bitmap (with_bitmap_block first (index_in t) n)) (sym same);
                  storage = subst (λ (k : Storage). Keeps k (with_bitmap_block first (index_in t) n)) (sym kept)
                      (keeps-storage s first (with_bitmap_block first (index_in t) n) made.bit.slot.bitmap_blocks
                      (keeps-header s n block old.image first (wrote honest).header (for.keeps honest)));
                }
