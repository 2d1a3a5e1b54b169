-- A header that is killed, and whose slot leaves use.
use Rattle.std.proofs.Common.{◌≡◌, ◌⊎◌, ◌<◌, ◌≤◌, ℕ, Bool, true, false, IsTrue, List, None, length, refl, sym, ap, subst, ◌∙◌, arith}
use Rattle.f11_volume.specs.Sound.{HasSoundVolume}
use Rattle.std.proofs.Math.ListN.{set}
use Rattle.f11_dev.specs.Disk.{Disk, with_transfer, with_block_at}
use Rattle.f11_dev.specs.Image.{Image}
use Rattle.f11_dev.specs.Went.{Went}
use Rattle.f11_dev.proofs.WentLemmas.{went_write, went_failed_write, went_more, went_weaker}
use Rattle.f11_header.specs.Fields.{file_number, file_sequence}
use Rattle.f11_header.specs.Header.{IsDead}
use Rattle.f11_header.specs.Writing.{dead_header}
use Rattle.f11_home.specs.Home.{HomeFields}
use Rattle.f11_index.specs.Calls.{SetsBit, HasBitWritten, WritesBit, FailsToWriteBit, with_bitmap_block}
use Rattle.f11_index.specs.Growth.{with_header}
use Rattle.f11_map.specs.HeaderBlock.{blocks_named}
use Rattle.f11_index.specs.IndexFile.{Index, index_of, slots, header_lbn}
use Rattle.f11_index.specs.Table.{Table, table_of, last_sequence, IsLive, IsFile, first, next}
use Rattle.f11_index.specs.Kept.{index_kept}
use Rattle.f11_index.specs.declared.index_file.IndexFile.{IndexFile}
use Rattle.f11_index.proofs.BitLemmas.{SetsBit-in_use}
use Rattle.f11_index.proofs.InUseLemmas.{in_use-some, in_use-slot}
use Rattle.f11_chain.specs.Calls.{HoldsHeader, table}
use Rattle.f11_chain.proofs.AlongLemmas.{HoldsHeader-live}
use Rattle.f11_store.specs.Changes.{with_file}
use Rattle.f11_store.specs.Refusal.{refusal_number}
use Rattle.f11_store.specs.Store.{Store}
use Rattle.f11_store.specs.declared.refusals.Refusal.TheVariants.{DeviceFault}
use Rattle.f11_volume.specs.Volume.{Volume, volume_of}
use Rattle.f11_writes.specs.Kept.{WritesHeader, WritesSlotBit}
use Rattle.f11_writes.specs.OtherSlots.{KeepsOtherSlots}
use Rattle.f11_writes.proofs.BitLemmas.{clear-keeps}
use Rattle.f11_writes.proofs.HeaderLemmas.{kill-keeps}
use Rattle.f11_writes.proofs.NameLemmas.{own-names, lost-unnamed}
use Rattle.f11_dev.proofs.LookedLemmas.{looked_none}
use Rattle.f11_writes.specs.Order.{IsOrderlyWrite, WritesInOrder}
use Rattle.f11_writes.proofs.InOrderLemmas.{order-bit}
use Rattle.f11_writes.proofs.OrderLemmas.{bit-clear-orderly, kill-orderly}
use Rattle.f11_files.proofs.Confining.InOrder.{header-failed-order, header-order}
use Rattle.f11_files.specs.Removing.Drops.{BreaksOff, AreAllUnreferenced, MayDrop, FreesSlot}
use Rattle.f11_image_store.specs.Freeing.{FreesMore, IsFreeing, Freeing}
use Rattle.f11_files.specs.Extending.Growing.{SameFree}
use Rattle.f11_image_store.specs.SlotLaws.{with_use, IsFileless, KeepsOtherBlocks}
use Rattle.f11_image_store.specs.StoreOf.{is_first, store_of}
use Rattle.f11_files.specs.Structure.{index_in, home_of, store_on, FitsOn, IsStructureOf, IsStructureFor, StaysFor}
use Rattle.f11_files.specs.declared.structure.Structure.{Structure}
use Rattle.f11_files.proofs.Creating.Create.{lies-bit}
use Rattle.f11_files.proofs.Changing.Alter.{keeps-header}
use Rattle.f11_files.proofs.WriteLemmas.{keeps-storage}
use Rattle.f11_files.proofs.Finding.First.{table-of}
use Rattle.f11_files.proofs.Removing.Freeing.{sound-freed}
use Rattle.f11_image_store.proofs.FreeingLemmas.{dead-sequence, frees-none, frees-slot}
use Rattle.f11_image_store.proofs.InstanceLemmas.{with_file-same, unlive-fileless, blocks-but, headers-stay, fileless-written, fileless-set}
use Rattle.f11_image_store.proofs.InstanceLemmas.{file-killed}
use Rattle.f11_files.proofs.Finding.Named.{file-stored}
use Rattle.f11_image_store.proofs.StoreLemmas.{first-is-tested, file-at}

-- one that no header of a file links to is a file's first, or of no file
unlinked-fileless : (t : Table) (n : ℕ) → MayDrop t n → ¬ IsFile t n → IsFileless t n
unlinked-fileless t n may none f (first file) = none file
unlinked-fileless t n may none f (next {n = m} of goes) = may.unlinked m (record { file = f; of = of }) goes

module _ (s : Structure) (n lbn : ℕ) (block dead : List ℕ) (old : Disk) (for : IsStructureFor s old)
    (holds : HoldsHeader (index_in s) n block old)
    (may : IsTrue old.honest → MayDrop (table_of old.image (home_of s)) n) (is_dead : dead ≡ dead_header block) (killed_is : IsDead dead)
    (at : lbn ≡ header_lbn (index_in s) n) where
  abbrev home : HomeFields
  home = home_of s

  abbrev t : Table
  t = table_of old.image home

  -- the store without the file, if there is one
  abbrev gone : Store
  gone = with_file (store_on s old) n None

  abbrev killed : Image
  killed = set old.image lbn dead

  abbrev P : Image → Type 0
  P = Freeing home gone old

  pub some : 0 < n
  some = in_use-some (index_in s) n holds.in_use

  pub few : n ≤ slots (index_in s)
  few = in_use-slot (index_in s) n holds.in_use

  module _ (honest : IsTrue old.honest) where
    same : table (index_in s) old ≡ t
    same = table-of s old for honest

    header-is : block ≡ t.header n
    header-is = holds.block_is honest ∙ ap (λ (u : Table). u.header n) same

    live : IsLive t n
    live = subst (λ (u : Table). IsLive u n) same (HoldsHeader-live (index_in s) n block old holds honest)

    is-killed : killed ≡ with_header old.image home n dead
    is-killed = ap (λ (l : ℕ). set old.image l dead) (at ∙ ap (λ (x : Index). header_lbn x n) (for.keeps honest).index_is)

    one : WritesHeader n dead home old.image killed
    one =
        let slot : n ≤ slots (index_of old.image home) = let count = ap slots (for.keeps honest).index_is in omega (arith, few, count) in
        subst (WritesHeader n dead home old.image) (sym is-killed)
        (kill-keeps old.image home (for.sound honest) n dead (may honest).late slot killed_is (may honest).unlinked)

    -- the write is in order
    kill-is-orderly : IsOrderlyWrite home old.image (with_header old.image home n dead)
    kill-is-orderly =
        let slot : n ≤ slots (index_of old.image home) = let count = ap slots (for.keeps honest).index_is in omega (arith, few, count) in
        kill-orderly old.image home (for.sound honest) n dead (may honest).late slot killed_is (may honest).unlinked

    abbrev u : Table
    u = table_of killed home

    dead-now : file_number (u.header n) ≡ 0
    dead-now = ap file_number one.index_file.header ∙ killed_is

    not-live : ¬ IsLive u n
    not-live now = let number = now.valid.number in omega (arith, dead-now, number, some)

    sequence : file_sequence dead ≡ last_sequence t n
    sequence = ap file_sequence is_dead ∙ dead-sequence block ∙ ap file_sequence header-is

    store-killed : store_of killed home ≡ gone
    store-killed = go (is_first t n) refl
      where
        go : (b : Bool) → is_first t n ≡ b → store_of killed home ≡ gone
        go true is = file-killed old.image killed home n dead one sequence ((first-is-tested t n).0 is) killed_is
        go false is =
            let none : ¬ IsFile t n = λ file. let no : true ≡ false = sym ((first-is-tested t n).1 file) ∙ is in cc in
            fileless-written old.image killed home n dead one sequence (unlinked-fileless t n (may honest) none)
            (unlive-fileless u n not-live)
            ∙ sym (with_file-same (store_on s old) n None
            (file-stored old.image home n ∙ file-at old.image t n None (λ file. absurd (none file)) (λ _. refl)))

    -- the bit was cleared
    module _ (after : Index) (bit : SetsBit false n (index_in s) after) where
      abbrev cleared : Image
      cleared = with_bitmap_block killed after n

      two : WritesSlotBit n after home killed cleared
      two =
          clear-keeps killed home n after one.slot.sound
          (record { in_use = ap (λ (f : ℕ → Bool). f n) one.in_use ∙ live.in_use; dead = dead-now })
          (subst (λ (x : Index). SetsBit false n x after) ((for.keeps honest).index_is ∙ sym one.index_file.index) bit)

      clear-is-orderly : IsOrderlyWrite home killed cleared
      clear-is-orderly =
          bit-clear-orderly killed home one.slot.sound n after
          (record { in_use = ap (λ (f : ℕ → Bool). f n) one.in_use ∙ live.in_use; dead = dead-now })
          (subst (λ (x : Index). SetsBit false n x after) ((for.keeps honest).index_is ∙ sym one.index_file.index) bit)

      unused-now : (table_of cleared home).in_use n ≡ false
      unused-now = ap (λ (v : Table). v.in_use n) two.index_file.table ∙ SetsBit-in_use false n (index_in s) after some few bit

      store-cleared : store_of cleared home ≡ with_use gone n false
      store-cleared =
          fileless-set killed cleared home n after two (unlive-fileless u n not-live)
          (unlive-fileless (table_of cleared home) n (λ now. let used = sym unused-now ∙ now.in_use in cc))
          ∙ ap (λ (x : Store). with_use x n ((table_of cleared home).in_use n)) store-killed ∙ ap (with_use gone n) unused-now

      others-now : KeepsOtherSlots n t (table_of cleared home)
      others-now = record {
        in_use = λ m away. two.slot.others.in_use m away ∙ one.slot.others.in_use m away;
        header = λ m away used. two.slot.others.header m away (one.slot.others.in_use m away ∙ used) ∙ one.slot.others.header m away used;
      }

      dead-still : (table_of cleared home).header n ≡ dead_header block
      dead-still = ap (λ (v : Table). v.header n) two.index_file.table ∙ one.index_file.header ∙ is_dead

      blocks-now : KeepsOtherBlocks n t (table_of cleared home)
      blocks-now =
          let write = blocks-but old.image killed home n dead one in
          let bit_write = headers-stay killed cleared home n after two in
          record {
            slots = bit_write.slots ∙ write.slots;
            header = λ m above within away.
                let count = write.slots in
                bit_write.header m above (omega (arith, count, within)) away ∙ write.header m above within away;
          }

      size-now : (volume_of cleared home).size ≡ (volume_of old.image home).size
      size-now = ap (λ (v : Volume). v.size) two.slot.volume ∙ ap (λ (v : Volume). v.size) one.slot.volume

      free-now : SameFree home old.image cleared
      free-now = ap (λ (v : Volume). v.free) two.slot.volume ∙ ap (λ (v : Volume). v.free) one.slot.volume

      unreferenced-now : AreAllUnreferenced (volume_of cleared home) (blocks_named block)
      unfolding volume_of
      unreferenced-now =
          let v : Volume = volume_of old.image home in
          let own = own-names v n (for.sound honest).sound live in
          let volume = two.slot.volume ∙ ap (λ (w : Volume). record w { table = table_of cleared home }) one.slot.volume in
          subst (AreAllUnreferenced (volume_of cleared home)) (ap blocks_named (sym header-is)) (record {
            inside = λ i k has. let within = own.inside i k has in let size = ap (λ (w : Volume). w.size) volume in
                omega (arith, within, size);
            used = λ i k has. ap (λ (w : Volume). w.free k) volume ∙ own.used i k has;
            unnamed =
                λ i k has. lost-unnamed v (volume_of cleared home) n i k (for.sound honest).sound others-now
                (record { live = live; names = has })
                (λ j cell. let used = sym unused-now ∙ cell.live.in_use in cc);
            apart = own.apart;
          })

  -- the images that stand meanwhile
  killed-moment : P killed
  killed-moment honest =
      record { sound = (one honest).slot.sound; frees = subst (FreesMore gone) (sym (store-killed honest)) (frees-none gone) }

  bit-moment : (now : Disk) → now.honest ≡ old.honest → now.image ≡ killed → (image : Image)
      → HasBitWritten false n (index_in s) now.image image → P image
  bit-moment now honest_is is image wrote honest =
      let image_is : image ≡ with_bitmap_block killed wrote.written n = wrote.image_is
      ∙ ap (λ (i : Image). with_bitmap_block i wrote.written n) is in
      subst (λ (i : Image). IsFreeing home gone i) (sym image_is) (record {
        sound = (two honest wrote.written wrote.bit).slot.sound;
        frees = subst (FreesMore gone) (sym (store-cleared honest wrote.written wrote.bit)) (frees-slot gone n);
      })

  -- the writes are in order
  pub unkilled-order : (new : Disk) → (new ≡ with_transfer false old) ⊎ (new ≡ with_transfer false (with_block_at lbn dead old))
      → WritesInOrder old new
  unkilled-order = header-failed-order s n lbn dead old old (looked_none old) for at kill-is-orderly

  pub killed-order : (now : Disk) → now ≡ with_transfer true (with_block_at lbn dead old) → WritesInOrder old now
  killed-order = header-order s n lbn dead old old (looked_none old) for at kill-is-orderly

  -- the header couldn't be written
  pub fails-killed : (new : Disk) → (new ≡ with_transfer false old) ⊎ (new ≡ with_transfer false (with_block_at lbn dead old))
      → BreaksOff home gone 2 DeviceFault old new
  fails-killed new is = record {
    fatal = refl;
    undamaged = λ _ same. let no : 19 ≡ 20 = ap refusal_number same in omega (arith, no);
    writes = record { transfers = 1; went = went_failed_write P old new lbn dead is killed-moment; few = λ _. omega arith };
  }

  -- it was
  module _ (now : Disk) (wrote : now ≡ with_transfer true (with_block_at lbn dead old)) (new : Disk) where
    image-now : now.image ≡ killed
    image-now = ap (λ (d : Disk). d.image) wrote

    honest-now : now.honest ≡ old.honest
    honest-now = ap (λ (d : Disk). d.honest) wrote

    pub cleared-order : {faults : ℕ} → Went (HasBitWritten false n (index_in s) now.image) now new 1 faults → WritesInOrder now new
    cleared-order =
        order-bit false n (index_in s) now new home
        (λ sure. subst (λ (i : Image). HasSoundVolume i home) (sym image-now) (one (sym honest-now ∙ sure)).slot.sound)
        (λ sure. subst (λ (i : Image). index_in s ≡ index_of i home) (sym image-now) (index-killed (sym honest-now ∙ sure))) some few
        (λ sure after. subst (λ (i : Image). SetsBit false n (index_of i home) after
        → WritesSlotBit n after home i (with_bitmap_block i after n) × IsOrderlyWrite home i (with_bitmap_block i after n)) (sym image-now)
        (λ bit.
        let honest = sym honest-now ∙ sure in
        let here = subst (λ (x : Index). SetsBit false n x after) (sym (index-killed honest)) bit in
        (two honest after here, clear-is-orderly honest after here)))
      where
        index-killed : IsTrue old.honest → index_in s ≡ index_of killed home
        index-killed honest = (for.keeps honest).index_is ∙ sym (one honest).index_file.index

    first-write : Went P old now 1 0
    first-write = went_write P old now lbn dead wrote killed-moment

    -- and the bit couldn't be
    pub fails-bit : FailsToWriteBit false n (index_in s) now new → BreaksOff home gone 2 DeviceFault old new
    fails-bit fails = record {
      fatal = refl;
      undamaged = λ _ same. let no : 19 ≡ 20 = ap refusal_number same in omega (arith, no);
      writes = record {
        transfers = 2;
        went = went_more P first-write
            (went_weaker (HasBitWritten false n (index_in s) now.image) P (bit-moment now honest-now image-now) fails);
        few = λ _. omega arith;
      };
    }

    -- it was, too
    module _ (after : IndexFile) (cleared_is : WritesBit false n (index_in s) (index_kept after) now new) where
      image-new : new.image ≡ with_bitmap_block killed (index_kept after) n
      image-new = cleared_is.image ∙ ap (λ (i : Image). with_bitmap_block i (index_kept after) n) image-now

      pub frees_slot : FreesSlot home n block old new
      frees_slot = record {
        others = λ honest. subst (λ (i : Image). KeepsOtherSlots n t (table_of i home)) (sym image-new)
            (others-now honest (index_kept after) cleared_is.bit);
        unused = λ honest. ap (λ (i : Image). (table_of i home).in_use n) image-new ∙ unused-now honest (index_kept after) cleared_is.bit;
        dead = λ honest. ap (λ (i : Image). (table_of i home).header n) image-new ∙ dead-still honest (index_kept after) cleared_is.bit;
        blocks = λ honest. subst (λ (i : Image). KeepsOtherBlocks n t (table_of i home)) (sym image-new)
            (blocks-now honest (index_kept after) cleared_is.bit);
        size = λ honest. ap (λ (i : Image). (volume_of i home).size) image-new ∙ size-now honest (index_kept after) cleared_is.bit;
        free = λ honest. ap (λ (i : Image). (volume_of i home).free) image-new ∙ free-now honest (index_kept after) cleared_is.bit;
        unreferenced = λ honest. subst (λ (i : Image). AreAllUnreferenced (volume_of i home) (blocks_named block)) (sym image-new)
            (unreferenced-now honest (index_kept after) cleared_is.bit);
        store = λ honest. ap (λ (i : Image). store_of i home) image-new ∙ store-cleared honest (index_kept after) cleared_is.bit;
        writes = record {
          transfers = 2;
          went = went_more P first-write
              (went_weaker (HasBitWritten false n (index_in s) now.image) P (bit-moment now honest-now image-now) cleared_is.went);
          few = λ _. omega arith;
        };
      }

      kept-now : IsTrue old.honest → IsStructureOf (record s { index = after }) (with_bitmap_block killed (index_kept after) n)
      kept-now honest =
          let keeps = keeps-header s n dead old.image killed (one honest) (for.keeps honest) in
          let wrote_bit = two honest (index_kept after) cleared_is.bit in
          record {
            index_is = sym wrote_bit.index_file.index_is;
            bitmap_is = keeps.bitmap_is ∙ sym wrote_bit.slot.bitmap;
            storage = keeps-storage s killed (with_bitmap_block killed (index_kept after) n) wrote_bit.slot.bitmap_blocks keeps;
          }

      pub freed-stays : StaysFor false s (record s { index = after }) new
      freed-stays = record {
        home = refl;
        lies = λ _. subst (FitsOn (record s { index = after })) (sym frees_slot.writes.went.size)
            (lies-bit s (record s { index = after }) false n (length old.image) refl cleared_is.bit for.lies);
        sound = sound-freed home gone old new for.sound frees_slot.writes;
        keeps = λ _ honest. subst (IsStructureOf (record s { index = after })) (sym image-new)
            (kept-now (sym frees_slot.writes.went.honest ∙ honest));
      }
