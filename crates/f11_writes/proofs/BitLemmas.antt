-- A slot's bit was written.
use Rattle.std.proofs.Common.{◌≡◌, ◌≢◌, ◌⊎◌, ℕ, ◌+◌, ◌<◌, ◌≤◌, Bool, true, false, List, refl, sym, ap, subst, ◌∙◌, arith}
use Rattle.std.specs.List.{slice_get}
use Rattle.std.proofs.lemmas.List.{length-set}
use Rattle.f11_dev.specs.Image.{Image}
use Rattle.f11_volume.specs.header.Header.{IsHeader, IsDead}
use Rattle.f11_volume.specs.home.Home.{HomeFields}
use Rattle.f11_volume.specs.header.Fields.{file_sequence}
use Rattle.f11_index.specs.Calls.{SetsBit, bitmap_place, bitmap_block, with_bitmap_block}
use Rattle.f11_index.specs.ChangeLaws.{StaysHeader}
use Rattle.f11_volume.specs.map.HeaderBlock.{segment_number, link_of}
use Rattle.f11_index.specs.IndexFile.{Index, index_of, slots, is_in_use, HasNonePast}
use Rattle.f11_index.specs.Laws.{KeepsButBit}
use Rattle.f11_index.specs.Sound.{IsIndexFile}
use Rattle.f11_index.specs.Table.{Table, table_in, table_of, IsLive, IsDeadSlot, IsHeaderOf}
use Rattle.f11_index.proofs.BitLemmas.{SetsBit-in_use, SetsBit-others}
use Rattle.f11_index.proofs.ChainLemmas.{live_of-header}
use Rattle.f11_index.proofs.HeadersLemmas.{live-some}
use Rattle.f11_index.proofs.LawLemmas.{bit_write, at as block-at}
use Rattle.f11_index.proofs.StayLemmas.{stays}
use Rattle.f11_index.proofs.WalkLemmas.{in_use-within}
use Rattle.f11_volume.specs.Faults.{IsOwnFile}
use Rattle.f11_volume.specs.Sound.{IsSoundVolume, HasSoundVolume}
use Rattle.f11_volume.specs.Volume.{Volume, volume_of}
use Rattle.f11_volume.proofs.FileLemmas.{index-apart}
use Rattle.f11_writes.specs.Kept.{WritesSlotBit}
use Rattle.f11_writes.specs.OtherSlots.{KeepsOtherSlots}
use Rattle.f11_writes.specs.Volumes.{Shrinks, MayBecome}
use Rattle.f11_writes.proofs.SetLemmas.{set-sound}
use Rattle.f11_writes.proofs.ShrinkLemmas.{shrunk-sound}
use Rattle.f11_writes.proofs.OtherSlotLemmas.{own-first}
use Rattle.f11_writes.proofs.SlotLemmas.{SparesOwn, IsPlacedAt, slot-keeps}

-- the bit of a slot that had no live header
module _ (image : Image) (home : HomeFields) (is : HasSoundVolume image home) (value : Bool) (n : ℕ) (after : Index) (some : 0 < n)
    (few : n ≤ slots (index_of image home))
    (bit : SetsBit value n (index_of image home) after) (no_header : ¬ IsLive (table_of image home) n) where
  abbrev t : Table
  t = table_of image home

  abbrev lbn : ℕ
  lbn = after.bitmap_lbn + bitmap_place n

  abbrev block : List ℕ
  block = bitmap_block after n

  abbrev new : Image
  new = with_bitmap_block image after n

  abbrev u : Table
  u = table_of new home

  abbrev good : IsIndexFile image home
  good = is.framed.indexed.file

  keeps : KeepsButBit home after image new
  keeps = bit_write image home good value n after (index-apart image home is) some few bit

  in-use-other : (m : ℕ) → m ≢ n → u.in_use m ≡ t.in_use m
  unfolding table_in
  in-use-other m away = (λ i. (keeps.table i).in_use m) ∙ SetsBit-others (index_of image home) after value n m bit away

  in-use-here : u.in_use n ≡ value
  in-use-here = (λ i. (keeps.table i).in_use n) ∙ SetsBit-in_use value n (index_of image home) after some few bit

  header-same : (m : ℕ) → u.header m ≡ t.header m
  header-same m = λ i. (keeps.table i).header m

  live-other : (m : ℕ) → IsLive t m → m ≢ n
  live-other m live here = no_header (subst (IsLive t) here live)

  others : KeepsOtherSlots n t u
  others = record { in_use = in-use-other; header = λ m away used. header-same m }

  live-is : (m : ℕ) → IsLive t m → IsLive u m
  live-is m live = record {
    in_use = in-use-other m (live-other m live) ∙ live.in_use;
    valid = subst (λ (b : List ℕ). IsHeader b m) (sym (header-same m)) live.valid;
  }

  one-stays : (m : ℕ) → IsHeaderOf t 1 m → StaysHeader t u m
  one-stays m of =
      let live = live-is m (live_of-header of) in
      record {
        good = record {
          in_use = live.in_use;
          valid = live.valid;
          sequence = ap file_sequence (header-same m);
          segment = ap segment_number (header-same m);
        };
        link = ap link_of (header-same m);
      }

  indexed : IsIndexFile new home
  indexed = stays image new home good (length-set image lbn block) keeps.file one-stays

  past : HasNonePast (index_of new home)
  past = subst HasNonePast (sym keeps.index_is) (λ m is_past.
      let same : slots after ≡ slots (index_of image home) = ap slots bit.one_block in
      let behind : slots (index_of image home) < m = subst (λ (k : ℕ). k < m) same is_past.past in
      is.framed.none_past m (record {
        past = behind;
        bit = sym (bit.others m (omega (arith, behind)) (λ here. omega (arith, here, behind, few))) ∙ is_past.bit;
      }))

  four : IsOwnFile u 4
  four = let own = is.framed.own_files 4 (omega arith) (omega arith) in own-first t u n 4 others (live-other 4 own.file.live) own

  placed : IsPlacedAt image home lbn
  placed = record {
    place = 2 + bitmap_place n;
    at = block-at image home good value n after (index-apart image home is) some few bit;
    not_home = λ same. omega (arith, same);
  }

  spares : SparesOwn n t u
  spares = record {
    others = others;
    two = λ of. no_header (live_of-header of);
    three = λ of. no_header (live_of-header of);
    four = four;
  }

  abbrev with-table : Volume
  with-table = record (volume_of image home) { table = u }

  writes : IsSoundVolume with-table → WritesSlotBit n after home image new
  writes sound = record {
    slot = slot-keeps image home is lbn block placed n spares indexed past
        (ap (λ (xs : List ℕ). slice_get xs placed.place) keeps.file ∙ placed.at) sound;
    index_file = keeps;
  }

  set : value ≡ true → MayBecome (volume_of image home) n (t.header n) → WritesSlotBit n after home image new
  unfolding volume_of
  set on may = writes (set-sound (volume_of image home) with-table n (t.header n) is.sound may (record {
    size = refl;
    free = λ l. refl;
    in_use = in-use-here ∙ on;
    header = header-same n;
    others = others;
  }))

  clear : value ≡ false → WritesSlotBit n after home image new
  unfolding volume_of
  clear off =
      let away : (m : ℕ) → u.in_use m ≡ true → m ≢ n = λ m used here. let no_use = sym (in-use-here ∙ off)
      ∙ subst (λ (k : ℕ). u.in_use k ≡ true) here used in cc in
      let was : (m : ℕ) → u.in_use m ≡ true → t.in_use m ≡ true = λ m used. sym (in-use-other m (away m used)) ∙ used in
      let shrinks : Shrinks (volume_of image home) with-table = record {
        size = refl;
        headers = λ m used. subst (λ (b : List ℕ). IsDead b ⊎ IsHeader b m) (sym (header-same m)) (is.sound.headers m (was m used));
        live = λ m live. record { in_use = was m live.in_use; valid = subst (λ (b : List ℕ). IsHeader b m) (header-same m) live.valid };
        same = λ m live. header-same m;
        next = λ k m in_file live goes. live-is m goes.to;
        taken = λ m at_place l cell free. free;
      } in
      writes (shrunk-sound (volume_of image home) with-table shrinks is.sound)

pub set-keeps : (image : Image) (home : HomeFields) (n : ℕ) (after : Index) → HasSoundVolume image home → 0 < n
    → n ≤ slots (index_of image home) → is_in_use (index_of image home) n ≡ false
    → MayBecome (volume_of image home) n ((table_of image home).header n) → SetsBit true n (index_of image home) after
    → WritesSlotBit n after home image (with_bitmap_block image after n)
unfolding table_in
set-keeps image home n after is some few unused may bit =
    set image home is true n after some few bit (λ live. let used = sym unused ∙ live.in_use in cc) refl may

pub clear-keeps : (image : Image) (home : HomeFields) (n : ℕ) (after : Index) → HasSoundVolume image home
    → IsDeadSlot (table_of image home) n → SetsBit false n (index_of image home) after
    → WritesSlotBit n after home image (with_bitmap_block image after n)
clear-keeps image home n after is dead bit =
    let slot = in_use-within image home n dead.in_use in
    clear image home is false n after slot.0 slot.1 bit (λ live. let number = sym live.valid.number ∙ dead.dead in
    omega (arith, number, live-some live)) refl
