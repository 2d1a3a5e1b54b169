-- Idle slots that leave use one after another.
use Rattle.std.proofs.Common.{◌≡◌, ◌+◌, ◌*◌, ◌≤◌, ℕ, true, false, IsTrue, [], List, length, inl, inr, refl, sym, ap, subst, ◌∙◌, arith}
use Rattle.std.proofs.lemmas.Bool.{both_ways, cases_eq}
use Rattle.std.proofs.lemmas.List.{length-set}
use Rattle.f11_bits.specs.Bitmap.{KeepsBitmap}
use Rattle.f11_dev.specs.Disk.{Disk}
use Rattle.f11_dev.specs.Image.{Image}
use Rattle.f11_dev.specs.Went.{Went}
use Rattle.f11_dev.proofs.LookedLemmas.{looked_none}
use Rattle.f11_dev.proofs.WentLemmas.{went_looked, went_more, went_weaker}
use Rattle.f11_header.specs.Header.{IsDead}
use Rattle.f11_home.specs.Home.{HomeFields}
use Rattle.f11_chain.proofs.StepLemmas.{table-in_use}
use Rattle.f11_index.specs.Calls.{SetsBit, HasBitWritten, WritesBit, FailsToWriteBit, bitmap_place, bitmap_block, with_bitmap_block}
use Rattle.f11_index.specs.IndexFile.{Index, index_of, slots, is_in_use}
use Rattle.f11_index.specs.Table.{Table, table_in, table_of, IsDeadSlot}
use Rattle.f11_index.proofs.BitLemmas.{SetsBit-in_use}
use Rattle.f11_index.proofs.LawLemmas.{at as block-at}
use Rattle.f11_image_store.proofs.ConfinesLemmas.{spares-other}
use Rattle.f11_image_store.proofs.FreeingLemmas.{dead-freed, bit-wrote}
use Rattle.f11_vfy.specs.Reclaiming.Moments.{any_header, IsReclaiming, KeepsPlaces, Moment}
use Rattle.f11_vfy.specs.Reclaiming.Slots.{CountsUpTo, HasNoOrphan, IsIdle, ClearsUpTo, as_it_was, none, such, other}
use Rattle.f11_vfy.specs.Reclaiming.Steps.{IsSwept, SamePlaces, HasClearedUpTo, ClearsIdle, FailsToClear}
use Rattle.f11_vfy.specs.Surveying.Bits.{has}
use Rattle.f11_vfy.specs.declared.findings.reading.Reading.{Reading}
use Rattle.f11_vfy.proofs.Reclaiming.Files.{cleared-keeps, orphan-was, next-used, cleared-other, cleared-more}
use Rattle.f11_vfy.proofs.Reclaiming.Places.{places-none, places-then, reclaiming-then}
use Rattle.f11_vfy.proofs.Reclaiming.Storage.{storage-then, storage-write, past-kept}
use Rattle.f11_volume.specs.Space.{storage_bitmap}
use Rattle.f11_volume.specs.Volume.{volume_of}
use Rattle.f11_volume.proofs.FileLemmas.{index-apart}
use Rattle.f11_image_store.specs.writes.Kept.{WritesSlotBit}
use Rattle.f11_image_store.proofs.writes.SlotLemmas.{IsPlacedAt}

bit-places : (n : ℕ) (index after : Index) → SetsBit false n index after → SamePlaces index after
bit-places n index after bit = record {
  headers = ap (λ (x : Index). x.headers) bit.one_block;
  bitmap_lbn = ap (λ (x : Index). x.bitmap_lbn) bit.one_block;
  blocks = ap (λ (x : Index). length x.bitmap) bit.one_block ∙ length-set index.bitmap (bitmap_place n) (bitmap_block after n);
}

-- none so far
pub idle-none : (index : Index) (r : Reading) (disk : Disk) → ClearsIdle index r 0 index disk disk
idle-none index r disk = record {
  same = record { headers = refl; bitmap_lbn = refl; blocks = refl };
  clears = λ honest home swept. record {
    storage = λ i within. refl;
    places = places-none home disk.image swept.sound;
    index_is = swept.index_is;
    table = record {
      slots = refl;
      header = refl;
      cleared = λ m some within idle. absurd (omega (arith, within, some));
      others = λ m some but. refl;
    };
  };
  count = 0;
  counts = λ honest home swept. none;
  went = went_looked (Moment (IsSwept index r) disk) (looked_none disk);
}

module _ (index : Index) (r : Reading) (k : ℕ) (mid : Index) (old now : Disk) (so_far : ClearsIdle index r k mid old now) where
  module _ (honest : IsTrue old.honest) (home : HomeFields) (swept : IsSwept index r home old.image) where
    abbrev t : Table
    t = table_of old.image home

    abbrev u : Table
    u = table_of now.image home

    so : HasClearedUpTo k mid home old.image now.image
    so = so_far.clears honest home swept

    -- the next slot is in use as the index file says
    used-is : t.in_use (k + 1) ≡ is_in_use mid (k + 1)
    used-is =
        sym (next-used k t u so.table) ∙ ap (λ (x : Index). (table_in now.image x).in_use (k + 1)) (sym so.index_is)
        ∙ table-in_use mid now (k + 1)

  -- the next slot isn't idle
  pub idle-other : ((home : HomeFields) → (honest : IsTrue old.honest) → IsSwept index r home old.image
      → ¬ IsIdle (table_of old.image home) (k + 1)) → ClearsIdle index r (k + 1) mid old now
  idle-other none_here = record {
    same = so_far.same;
    clears = λ honest home swept.
        let here = so honest home swept in
        record {
          places = here.places;
          index_is = here.index_is;
          storage = here.storage;
          table = cleared-other k (t honest home swept) (u honest home swept) here.table (none_here home honest swept);
        };
    count = so_far.count;
    counts = λ honest home swept. other k so_far.count (so_far.counts honest home swept) (none_here home honest swept);
    went = so_far.went;
  }

  pub idle-unused : is_in_use mid (k + 1) ≡ false → ClearsIdle index r (k + 1) mid old now
  idle-unused unused = idle-other (λ home honest swept idle. both_ways _ (used-is honest home swept ∙ unused) idle.in_use)

  pub idle-of_file : has r.chains.in_file (k + 1) ≡ true → ClearsIdle index r (k + 1) mid old now
  idle-of_file within = idle-other (λ home honest swept idle. idle.of_none ((swept.tells (k + 1)).0 within))

  -- or it is
  module _ (used : is_in_use mid (k + 1) ≡ true) (out : has r.chains.in_file (k + 1) ≡ false) (low : k + 1 ≤ slots index)
      (fits : slots mid ≤ 4096 * length mid.bitmap) where
    few : k + 1 ≤ slots mid
    few = let count = ap (λ (xs : List ℕ). length xs) so_far.same.headers in omega (arith, low, count)

    module _ (honest : IsTrue old.honest) (home : HomeFields) (swept : IsSwept index r home old.image) where
      here : HasClearedUpTo k mid home old.image now.image
      here = so honest home swept

      idle : IsIdle (t honest home swept) (k + 1)
      idle = record { in_use = used-is honest home swept ∙ used; of_none = λ within. both_ways _ out ((swept.tells (k + 1)).1 within) }

      now-used : (u honest home swept).in_use (k + 1) ≡ true
      now-used = next-used k (t honest home swept) (u honest home swept) here.table ∙ idle.in_use

      dead : IsDeadSlot (u honest home swept) (k + 1)
      unfolding volume_of
      dead = elim (here.places.reclaiming.freeing.sound.sound.headers (k + 1) now-used) [
        | inl is ↦ record { in_use = now-used; dead = is }
        | inr valid ↦
            let was = (cleared-keeps k (t honest home swept) (u honest home swept) here.table).was (k + 1)
            (record { in_use = now-used; valid = valid }) in
            absurd (swept.no_orphan (k + 1) (record { live = was.0; of_none = idle.of_none }))
      ]

      module _ (after : Index) (bit : SetsBit false (k + 1) mid after) where
        bit-of : SetsBit false (k + 1) (index_of now.image home) after
        bit-of = subst (λ (x : Index). SetsBit false (k + 1) x after) here.index_is bit

        abbrev cleared : Image
        cleared = with_bitmap_block now.image after (k + 1)

        writes : WritesSlotBit (k + 1) after home now.image cleared
        writes = bit-wrote now.image home (k + 1) here.places.reclaiming.freeing.sound after dead bit-of

        same : SamePlaces (index_of now.image home) after
        same = bit-places (k + 1) (index_of now.image home) after bit-of

        -- the block of its bit is one of the index file
        placed : IsPlacedAt now.image home (after.bitmap_lbn + bitmap_place (k + 1))
        placed =
            let sound = here.places.reclaiming.freeing.sound in
            let count = ap slots here.index_is in
            record {
              place = 2 + bitmap_place (k + 1);
              at = block-at now.image home sound.framed.indexed.file false (k + 1) after (index-apart now.image home sound) (omega arith)
                  (omega (arith, few, count)) bit-of;
              not_home = λ at. omega (arith, at);
            }

        storage : KeepsBitmap (storage_bitmap now.image home) now.image cleared
        storage =
            storage-write now.image home (after.bitmap_lbn + bitmap_place (k + 1)) (bitmap_block after (k + 1))
            here.places.reclaiming.freeing.sound placed

        table : ClearsUpTo (k + 1) (t honest home swept) (table_of cleared home)
        table =
            let is = writes.index_file.table in
            cleared-more k (t honest home swept) (u honest home swept) here.table (table_of cleared home) (ap (λ (v : Table). v.slots) is)
            (ap (λ (v : Table). v.header) is)
            (ap (λ (v : Table). v.in_use (k + 1)) is ∙ SetsBit-in_use false (k + 1) mid after (omega arith) few bit)
            (λ m apart. writes.slot.others.in_use m apart) idle

        no-orphan : HasNoOrphan (table_of cleared home)
        no-orphan n orphan =
            swept.no_orphan n
            (orphan-was (t honest home swept) (table_of cleared home)
            (cleared-keeps (k + 1) (t honest home swept) (table_of cleared home) table) n orphan)

        reclaiming : IsReclaiming home now.image cleared
        reclaiming = record {
          freeing = dead-freed now.image home (k + 1) here.places.reclaiming.freeing.sound after dead bit-of;
          spares =
              spares-other any_header (index_of now.image home) (storage_bitmap now.image home) [] now.image
              (after.bitmap_lbn + bitmap_place (k + 1)) (bitmap_block after (k + 1))
              (λ l no out_of is.
              let size = ap (λ (x : Index). length x.bitmap) here.index_is in
              no.index_bitmap (bitmap_place (k + 1)) (omega (arith, few, fits, size))
              (let lbn = same.bitmap_lbn in omega (arith, lbn, is)));
          headers = λ m some within. as_it_was (ap (λ (v : Table). v.header m) writes.index_file.table);
          left = λ m before gone. elim (cases_eq m (k + 1)) [
            | inl it ↦ subst IsDead (ap (λ (v : Table). v.header (k + 1)) (sym writes.index_file.table)
                ∙ ap (table_of cleared home).header (sym it)) dead.dead
            | inr apart ↦ absurd (both_ways _ gone (writes.slot.others.in_use m apart ∙ before))
          ];
          past = past-kept (storage_bitmap now.image home) now.image cleared storage;
          order = record { kills_first = inr no-orphan; clears_first = inl storage };
        }

        places : KeepsPlaces home now.image cleared
        places = record {
          reclaiming = reclaiming;
          alike = record {
            headers = ap (λ (x : Index). x.headers) writes.index_file.index_is ∙ same.headers;
            bitmap_lbn = ap (λ (x : Index). x.bitmap_lbn) writes.index_file.index_is ∙ same.bitmap_lbn;
            bitmap_blocks = ap (λ (x : Index). length x.bitmap) writes.index_file.index_is ∙ same.blocks;
            places = ap (λ b. b.places) writes.slot.bitmap;
          };
          bitmap = writes.slot.bitmap;
        }

        stands : IsReclaiming home old.image cleared
        stands = reclaiming-then home old.image now.image cleared here.places reclaiming

        more : HasClearedUpTo (k + 1) after home old.image cleared
        more = record {
          places = places-then home old.image now.image cleared here.places places;
          index_is = sym writes.index_file.index_is;
          storage = storage-then old.image now.image cleared home here.places.bitmap here.storage storage;
          table = table;
        }

    count-more : (honest : IsTrue old.honest) (home : HomeFields) (swept : IsSwept index r home old.image)
        → CountsUpTo (IsIdle (table_of old.image home)) (k + 1) (so_far.count + 1)
    count-more honest home swept = such k so_far.count (so_far.counts honest home swept) (idle honest home swept)

    abbrev P : Image → Type 0
    P = Moment (IsSwept index r) old

    went-on : (new : Disk) (faults : ℕ) → Went (HasBitWritten false (k + 1) mid now.image) now new 1 faults
        → Went P old new (so_far.count + 1) faults
    went-on new faults went =
        went_more P so_far.went
        (went_weaker (HasBitWritten false (k + 1) mid now.image) P
        (λ image has honest home swept. subst (IsReclaiming home old.image) (sym has.image_is)
        (stands honest home swept has.written has.bit)) went)

    pub idle-more : (after : Index) (new : Disk) → WritesBit false (k + 1) mid after now new → ClearsIdle index r (k + 1) after old new
    idle-more after new did = record {
      same =
          let last = bit-places (k + 1) mid after did.bit in
          record {
            headers = last.headers ∙ so_far.same.headers;
            bitmap_lbn = last.bitmap_lbn ∙ so_far.same.bitmap_lbn;
            blocks = last.blocks ∙ so_far.same.blocks;
          };
      clears = λ honest home swept. subst (HasClearedUpTo (k + 1) after home old.image) (sym did.image)
          (more honest home swept after did.bit);
      count = so_far.count + 1;
      counts = count-more;
      went = went-on new 0 did.went;
    }

    pub idle-fail : (new : Disk) → FailsToWriteBit false (k + 1) mid now new → FailsToClear index r (slots index) old new
    idle-fail new fails = record {
      upto = k + 1;
      within = low;
      count = so_far.count + 1;
      counts = count-more;
      went = went-on new 1 fails;
    }
