-- Each kind of write of one block is in order.
use Rattle.std.proofs.Common.{◌≡◌, ◌≢◌, ◌⊎◌, ℕ, ◌+◌, ◌-◌, ◌<◌, ◌≤◌, Bool, true, false, List, length, Some, sym, ap, subst, ◌∙◌, inl, inr}
use Rattle.std.proofs.Common.{arith, set}
use Rattle.std.specs.List.{slice_get}
use Rattle.std.proofs.lemmas.Bool.{cases_eq, false≢true}
use Rattle.f11_bits.specs.Bitmap.{is_free, KeepsOthers}
use Rattle.f11_bits.proofs.BitmapLemmas.{slice_get-set_other}
use Rattle.f11_bytes.specs.Block.{zero_block}
use Rattle.f11_dev.specs.Image.{Image, image_block}
use Rattle.f11_volume.specs.header.Fields.{file_number}
use Rattle.f11_volume.specs.header.Header.{IsHeader, IsDead}
use Rattle.f11_volume.specs.home.Home.{HomeFields}
use Rattle.f11_index.specs.Calls.{SetsBit, with_bitmap_block}
use Rattle.f11_index.specs.Growth.{MayNameMore, MayLinkOn, with_header}
use Rattle.f11_index.specs.Headers.{IsInFile}
use Rattle.f11_index.specs.IndexFile.{Index, index_of, index_file_blocks, slots, header_lbn, is_in_use}
use Rattle.f11_index.specs.Table.{Table, table_in, table_of, IsFile, IsLive, IsDeadSlot, IsNext, IsHeaderOf}
use Rattle.f11_index.proofs.BitLemmas.{SetsBit-in_use, SetsBit-others}
use Rattle.f11_index.proofs.ChainLemmas.{live_of-header}
use Rattle.f11_index.proofs.HeadersLemmas.{live-some}
use Rattle.f11_index.proofs.LawLemmas.{header_at, at as block-at}
use Rattle.f11_index.proofs.WalkLemmas.{in_use-within}
use Rattle.f11_volume.specs.map.HeaderBlock.{blocks_named}
use Rattle.f11_volume.specs.chain.FileHeaders.{file_blocks}
use Rattle.f11_volume.specs.Sound.{HasSoundVolume}
use Rattle.f11_volume.specs.Space.{storage_bitmap}
use Rattle.f11_volume.specs.Volume.{volume_of, IsCell, IsNamed}
use Rattle.f11_volume.proofs.FileLemmas.{index-apart, place-at}
use Rattle.f11_writes.specs.Fixed.{IsFixed, KeepsFixed}
use Rattle.f11_writes.specs.HeaderLaws.{SparesOwnFiles}
use Rattle.f11_writes.specs.Kept.{KeepsButSlot, WritesGrowth, WritesSlotBit}
use Rattle.f11_writes.specs.Order.{IsOrderlyWrite}
use Rattle.f11_writes.specs.OrderLaws.{NamesZeros}
use Rattle.f11_writes.specs.Volumes.{MayBecome}
use Rattle.f11_writes.proofs.BitLemmas.{set-keeps, clear-keeps}
use Rattle.f11_writes.proofs.BitmapLemmas.{bitmap-keeps}
use Rattle.f11_writes.proofs.FixedLemmas.{as-file-one, fixed-stays, one, two, unfixed, unnamed-unfixed}
use Rattle.f11_writes.proofs.GrowLemmas.{names-keep, links-keep}
use Rattle.f11_writes.proofs.HeaderLemmas.{unused-keeps, kill-keeps, rewrite-keeps, file-rewrite-keeps}
use Rattle.f11_writes.proofs.NameLemmas.{cell-was}
use Rattle.f11_writes.proofs.OtherLemmas.{file-keeps, unnamed-keeps}
use Rattle.f11_writes.proofs.OwnerLemmas.{in-bitmap-file, in-file, in-index-file, named-of}

module _ (old : Image) (home : HomeFields) (is : HasSoundVolume old home) where
  abbrev t : Table
  t = table_of old home

  abbrev free : ℕ → Bool
  free = (volume_of old home).free

  -- a block that is named is used
  used-named : (lbn : ℕ) → IsNamed t lbn → free lbn ≡ false
  unfolding volume_of
  used-named lbn named = is.sound.taken named.header named.place lbn named.cell

  -- a write of a used block
  spares-used : (l : ℕ) (block : List ℕ) → free l ≡ false → (lbn : ℕ) → free lbn ≡ true
      → slice_get (set old l block) lbn ≡ slice_get old lbn
  spares-used l block used lbn here =
      slice_get-set_other old l lbn block (λ same. false≢true (sym used ∙ ap free same ∙ here))

  -- of one that isn't fixed
  spares-fixed : (l : ℕ) (block : List ℕ) → ((lbn : ℕ) → IsFixed old home lbn → l ≢ lbn) → KeepsFixed home old (set old l block)
  spares-fixed l block away lbn fixed = slice_get-set_other old l lbn block (away lbn fixed)

  -- so of one of the index file behind its first two
  index-fixed : (i l : ℕ) (block : List ℕ) → 2 ≤ i → slice_get (index_file_blocks old home) i ≡ Some l
      → KeepsFixed home old (set old l block)
  index-fixed i l block late at =
      spares-fixed l block
      (unfixed old home is 1 i l (one old home is) (as-file-one old home is i l at) (λ _. late) (λ same. omega (arith, same))
      (λ same. omega (arith, same)))

  -- a block of the index file is one
  index-used : (i lbn : ℕ) → slice_get (index_file_blocks old home) i ≡ Some lbn → free lbn ≡ false
  index-used i lbn at = used-named lbn (named-of t 1 lbn (in-index-file old home is i lbn at))

  module _ (new : Image) where
    abbrev u : Table
    u = table_of new home

    -- the headers are as they were
    same-orderly : HasSoundVolume new home → u ≡ t → (volume_of new home).size ≡ (volume_of old home).size → KeepsFixed home old new
        → ((lbn : ℕ) → free lbn ≡ true → slice_get new lbn ≡ slice_get old lbn)
        → ((lbn : ℕ) → free lbn ≡ false → (volume_of new home).free lbn ≡ true → ¬ IsNamed t lbn) → IsOrderlyWrite home old new
    same-orderly sound same size keeps spares freed = record {
      sound = sound;
      spares = spares;
      fixed = λ lbn fixed. (
        keeps lbn fixed,
        fixed-stays old new home size (ap (λ (x : Table). file_blocks x 2) same) (ap (λ (x : Table). file_blocks x 3) same) lbn fixed,
      );
      comes = λ n unused used. absurd (false≢true (sym unused ∙ sym (λ i. (same i).in_use n) ∙ used));
      leaves = λ n used unused. absurd (false≢true (sym unused ∙ (λ i. (same i).in_use n) ∙ used));
      lost = λ n m live gone. absurd (gone (subst (λ (x : Table). IsLive x n) (sym same) live));
      named = λ lbn named none. absurd (none (subst (λ (x : Table). IsNamed x lbn) same named));
      freed = freed;
    }

    -- those of all slots but n are
    module _ (n : ℕ) (slot : KeepsButSlot n home old new)
        (keeps : KeepsFixed home old new) (spares : (lbn : ℕ) → free lbn ≡ true → slice_get new lbn ≡ slice_get old lbn) where
      same-free : (lbn : ℕ) → (volume_of new home).free lbn ≡ free lbn
      unfolding volume_of
      same-free lbn = λ i. (slot.volume i).free lbn

      live-stays : (m : ℕ) → m ≢ n → IsLive t m → IsLive u m
      live-stays m away live = record {
        in_use = slot.others.in_use m away ∙ live.in_use;
        valid = subst (λ (b : List ℕ). IsHeader b m) (sym (slot.others.header m away live.in_use)) live.valid;
      }

      slot-orderly : (t.in_use n ≡ false → u.in_use n ≡ true → IsHeader (t.header n) n)
          → (t.in_use n ≡ true → u.in_use n ≡ false → IsDead (t.header n))
          → (IsLive t n → ¬ IsLive u n → (m : ℕ) → IsInFile t m → ¬ IsNext t m n)
          → ((i lbn : ℕ) → IsCell u n i lbn → ¬ IsNamed t lbn → (free lbn ≡ false) × (image_block old lbn ≡ zero_block))
          → IsOrderlyWrite home old new
      slot-orderly comes leaves lost names = record {
        sound = slot.sound;
        spares = spares;
        fixed = λ lbn fixed. (
          keeps lbn fixed,
          fixed-stays old new home (λ i. (slot.volume i).size) (slot.own_blocks 2 (omega arith) (omega arith))
              (slot.own_blocks 3 (omega arith) (omega arith)) lbn fixed,
        );
        comes = λ m unused used. elim (cases_eq m n) [
          | inl here ↦ subst (λ (k : ℕ). t.in_use k ≡ false → u.in_use k ≡ true → IsHeader (t.header k) k) (sym here) comes unused used
          | inr away ↦ absurd (false≢true (sym unused ∙ sym (slot.others.in_use m away) ∙ used))
        ];
        leaves = λ m used unused. elim (cases_eq m n) [
          | inl here ↦ subst (λ (k : ℕ). t.in_use k ≡ true → u.in_use k ≡ false → IsDead (t.header k)) (sym here) leaves used unused
          | inr away ↦ absurd (false≢true (sym unused ∙ slot.others.in_use m away ∙ used))
        ];
        lost = λ m k live gone in_file. elim (cases_eq m n) [
          | inl here ↦ λ goes. lost (subst (IsLive t) here live) (λ still. gone (subst (IsLive u) (sym here) still)) k in_file
              (subst (IsNext t k) here goes)
          | inr away ↦ absurd (gone (live-stays m away live))
        ];
        named = λ lbn named none. elim (cases_eq named.header n) [
          | inl here ↦ names named.place lbn (subst (λ (m : ℕ). IsCell u m named.place lbn) here named.cell) none
          | inr away ↦ absurd (none (record {
            header = named.header;
            place = named.place;
            cell = cell-was t u n named.header named.place lbn slot.others away named.cell;
          }))
        ];
        freed = λ lbn used unused. absurd (false≢true (sym used ∙ sym (same-free lbn) ∙ unused));
      }

  -- a used block of the volume that no header names
  pub lost-orderly : (lbn : ℕ) (block : List ℕ) → lbn < (volume_of old home).size → free lbn ≡ false → ¬ IsNamed t lbn
      → IsOrderlyWrite home old (set old lbn block)
  lost-orderly lbn block inside used none =
      let kept = (unnamed-keeps old home is lbn block none).keeps in
      same-orderly (set old lbn block) kept.sound kept.index_file.table (λ i. (kept.volume i).size)
      (spares-fixed lbn block (unnamed-unfixed old home is lbn inside none)) (spares-used lbn block used)
      (λ l was now. absurd (false≢true (sym was ∙ sym (λ i. (kept.volume i).free l) ∙ now)))

  -- one of a file
  pub file-orderly : (f vbn lbn : ℕ) (block : List ℕ) → IsFile t f → 4 ≤ f → slice_get (file_blocks t f) (vbn - 1) ≡ Some lbn
      → IsOrderlyWrite home old (set old lbn block)
  file-orderly f vbn lbn block file late at =
      let kept = (file-keeps old home is lbn block f vbn file late at).keeps in
      same-orderly (set old lbn block) kept.sound kept.index_file.table (λ i. (kept.volume i).size)
      (spares-fixed lbn block (unfixed old home is f (vbn - 1) lbn file at (λ same. omega (arith, same, late))
      (λ same. omega (arith, same, late)) (λ same. omega (arith, same, late))))
      (spares-used lbn block (used-named lbn (named-of t f lbn (in-file old home is f (vbn - 1) lbn file at))))
      (λ l was now. absurd (false≢true (sym was ∙ sym (λ i. (kept.volume i).free l) ∙ now)))

  -- blocks of the storage bitmap
  pub bitmap-orderly : (new : Image) → KeepsOthers (storage_bitmap old home) old new
      → ((lbn : ℕ) → is_free new (storage_bitmap old home) lbn ≡ true
      → (is_free old (storage_bitmap old home) lbn ≡ true) ⊎ (¬ IsNamed t lbn)) → IsOrderlyWrite home old new
  unfolding volume_of
  bitmap-orderly new others only =
      let kept = bitmap-keeps old new home is others only in
      same-orderly new kept.sound kept.index_file.table (λ i. (kept.volume i).size)
      (λ lbn fixed. others.others lbn (λ i within.
      unfixed old home is 2 (1 + i) _ (two old home is) (place-at old home i within) (λ same. omega (arith, same)) (λ _. omega arith)
      (λ same. omega (arith, same)) lbn fixed))
      (λ lbn here. others.others lbn (λ i within same.
      false≢true (sym (used-named lbn
      (named-of t 2 lbn (in-bitmap-file old home is (1 + i) lbn (place-at old home i within ∙ ap Some same))))
      ∙ here)))
      (λ lbn was now. elim (only lbn (sym (λ i. (kept.volume i).free lbn) ∙ now)) [
        | inl before ↦ absurd (false≢true (sym was ∙ before))
        | inr none ↦ none
      ])

  -- a header, and the blocks that it names
  module _ (n : ℕ) (block : List ℕ) where
    abbrev written : Image
    written = with_header old home n block

    header-spares : 0 < n → n ≤ slots (index_of old home) → (lbn : ℕ) → free lbn ≡ true → slice_get written lbn ≡ slice_get old lbn
    header-spares some few =
        spares-used (header_lbn (index_of old home) n) block (index-used _ _ (header_at old home is.framed.indexed.file n some few))

    header-fixed : 0 < n → n ≤ slots (index_of old home) → KeepsFixed home old written
    header-fixed some few = index-fixed _ _ block (omega arith) (header_at old home is.framed.indexed.file n some few)

    pub unused-orderly : 0 < n → n ≤ slots (index_of old home) → is_in_use (index_of old home) n ≡ false → IsOrderlyWrite home old written
    unfolding table_in
    unused-orderly some few unused =
        let kept = unused-keeps old home is n block some few unused in
        let still : (table_of written home).in_use n ≡ false = (λ i. kept.in_use i n) ∙ unused in
        slot-orderly written n kept.slot (header-fixed some few) (header-spares some few)
        (λ _ used. absurd (false≢true (sym still ∙ used)))
        (λ used _. absurd (false≢true (sym unused ∙ used))) (λ live. absurd (false≢true (sym unused ∙ live.in_use)))
        (λ i lbn cell. absurd (false≢true (sym still ∙ cell.live.in_use)))

    pub kill-orderly : 5 ≤ n → n ≤ slots (index_of old home) → IsDead block → ((m : ℕ) → IsInFile t m → ¬ IsNext t m n)
        → IsOrderlyWrite home old written
    kill-orderly late few dead unlinked =
        let some : 0 < n = omega (arith, late) in
        let kept = kill-keeps old home is n block late few dead unlinked in
        let same : (table_of written home).in_use n ≡ t.in_use n = λ i. kept.in_use i n in
        slot-orderly written n kept.slot (header-fixed some few) (header-spares some few)
        (λ unused used. absurd (false≢true (sym unused ∙ sym same ∙ used)))
        (λ used unused. absurd (false≢true (sym unused ∙ same ∙ used))) (λ _ _. unlinked)
        (λ i lbn cell. absurd (let zero_is = sym cell.live.valid.number ∙ ap file_number kept.index_file.header ∙ dead in
        omega (arith, zero_is, some)))

    -- a live header, over which a valid one is written
    pub rewritten-orderly : KeepsButSlot n home old written → (table_of written home).in_use n ≡ t.in_use n
        → (table_of written home).header n ≡ block → IsLive t n → IsHeader block n
        → ((i lbn : ℕ) → slice_get (blocks_named block) i ≡ Some lbn
        → IsNamed t lbn ⊎ (free lbn ≡ false) × (image_block old lbn ≡ zero_block))
        → IsOrderlyWrite home old written
    rewritten-orderly slot same header live valid names =
        let place = in_use-within old home n live.in_use in
        slot-orderly written n slot (header-fixed place.0 place.1) (header-spares place.0 place.1)
        (λ unused used. absurd (false≢true (sym unused ∙ live.in_use)))
        (λ used unused. absurd (false≢true (sym unused ∙ same ∙ used)))
        (λ _ gone. absurd (gone (record {
          in_use = same ∙ live.in_use;
          valid = subst (λ (b : List ℕ). IsHeader b n) (sym header) valid;
        })))
        (λ i lbn cell none. elim (names i lbn (ap (λ (b : List ℕ). slice_get (blocks_named b) i) (sym header) ∙ cell.names))
        [ inl named ↦ absurd (none named) | inr holds ↦ holds ])

    -- a live header that may become this
    set-orderly : KeepsButSlot n home old written → (table_of written home).in_use n ≡ t.in_use n
        → (table_of written home).header n ≡ block → IsLive t n → MayBecome (volume_of old home) n block → NamesZeros old home block
        → IsOrderlyWrite home old written
    set-orderly slot same header live may zeros =
        rewritten-orderly slot same header live may.valid
        (λ i lbn at. elim (zeros i lbn at) [ inl named ↦ inl named | inr holds ↦ inr (may.names.used i lbn at, holds) ])

    pub rewrite-orderly : IsLive t n → MayBecome (volume_of old home) n block → SparesOwnFiles t n block → NamesZeros old home block
        → IsOrderlyWrite home old written
    rewrite-orderly live may spares =
        let kept = rewrite-keeps old home is n block live may spares in
        set-orderly kept.slot (λ i. kept.in_use i n) kept.index_file.header live may

    pub file-rewrite-orderly : (f : ℕ) → 4 ≤ f → IsHeaderOf t f n → MayBecome (volume_of old home) n block → NamesZeros old home block
        → IsOrderlyWrite home old written
    file-rewrite-orderly f late of may =
        let kept = file-rewrite-keeps old home is n block f late of may in
        set-orderly kept.slot (λ i. kept.in_use i n) kept.index_file.header (live_of-header of) may

    growth-orderly : (lbn count : ℕ) → WritesGrowth n block lbn count home old written → IsHeaderOf t 1 n
        → MayBecome (volume_of old home) n block → NamesZeros old home block → IsOrderlyWrite home old written
    growth-orderly lbn count kept of =
        let live = live_of-header of in
        set-orderly kept.slot (kept.index_file.in_use n (in_use-within old home n live.in_use).1) kept.index_file.header live

    pub names-orderly : (lbn count : ℕ) → MayNameMore t n block lbn count → lbn + count ≤ length old
        → MayBecome (volume_of old home) n block → NamesZeros old home block → IsOrderlyWrite home old written
    names-orderly lbn count more within may =
        growth-orderly lbn count (names-keep old home n block lbn count is more within may) more.last.of may

    pub links-orderly : (m lbn count : ℕ) → MayLinkOn t n m block lbn count → lbn + count ≤ length old
        → MayBecome (volume_of old home) n block → IsOrderlyWrite home old written
    links-orderly m lbn count on within may =
        let live = live_of-header on.last.of in
        growth-orderly lbn count (links-keep old home n m block lbn count is on within may) on.last.of may
        (λ i l at. inl (record {
          header = n;
          place = i;
          cell = record { live = live; names = ap (λ (ls : List ℕ). slice_get ls i) (sym on.blocks) ∙ at };
        }))

  -- a slot's bit
  module _ (n : ℕ) (after : Index) where
    abbrev changed : Image
    changed = with_bitmap_block old after n

    bit-spares : (value : Bool) → 0 < n → n ≤ slots (index_of old home) → SetsBit value n (index_of old home) after → (lbn : ℕ)
        → free lbn ≡ true → slice_get changed lbn ≡ slice_get old lbn
    bit-spares value some few bit =
        spares-used _ _ (index-used _ _ (block-at old home is.framed.indexed.file value n after (index-apart old home is) some few bit))

    bit-fixed : (value : Bool) → 0 < n → n ≤ slots (index_of old home) → SetsBit value n (index_of old home) after
        → KeepsFixed home old changed
    bit-fixed value some few bit =
        index-fixed _ _ _ (omega arith) (block-at old home is.framed.indexed.file value n after (index-apart old home is) some few bit)

    -- it was set, and the header names zeros
    pub entered-orderly : WritesSlotBit n after home old changed → 0 < n → n ≤ slots (index_of old home)
        → is_in_use (index_of old home) n ≡ false → IsHeader (t.header n) n
        → ((i lbn : ℕ) → slice_get (blocks_named (t.header n)) i ≡ Some lbn
        → IsNamed t lbn ⊎ (free lbn ≡ false) × (image_block old lbn ≡ zero_block))
        → SetsBit true n (index_of old home) after → IsOrderlyWrite home old changed
    unfolding table_in
    entered-orderly kept some few unused valid names bit =
        slot-orderly changed n kept.slot (bit-fixed true some few bit) (bit-spares true some few bit) (λ _ _. valid)
        (λ used _. absurd (false≢true (sym unused ∙ used)))
        (λ live. absurd (false≢true (sym unused ∙ live.in_use)))
        (λ i lbn cell none. elim (names i lbn
        (ap (λ (b : List ℕ). slice_get (blocks_named b) i) (sym (λ j. (kept.index_file.table j).header n)) ∙ cell.names))
        [ inl named ↦ absurd (none named) | inr holds ↦ holds ])

    pub bit-set-orderly : 0 < n → n ≤ slots (index_of old home) → is_in_use (index_of old home) n ≡ false
        → MayBecome (volume_of old home) n (t.header n) → NamesZeros old home (t.header n) → SetsBit true n (index_of old home) after
        → IsOrderlyWrite home old changed
    bit-set-orderly some few unused may zeros bit =
        entered-orderly (set-keeps old home n after is some few unused may bit) some few unused may.valid
        (λ i lbn at. elim (zeros i lbn at) [ inl named ↦ inl named | inr holds ↦ inr (may.names.used i lbn at, holds) ]) bit

    pub bit-clear-orderly : IsDeadSlot t n → SetsBit false n (index_of old home) after → IsOrderlyWrite home old changed
    unfolding table_in
    bit-clear-orderly dead bit =
        let place = in_use-within old home n dead.in_use in
        let kept = clear-keeps old home n after is dead bit in
        let off : (table_of changed home).in_use n ≡ false =
        (λ i. (kept.index_file.table i).in_use n) ∙ SetsBit-in_use false n (index_of old home) after place.0 place.1 bit in
        slot-orderly changed n kept.slot (bit-fixed false place.0 place.1 bit) (bit-spares false place.0 place.1 bit)
        (λ unused _. absurd (false≢true (sym unused ∙ dead.in_use)))
        (λ _ _. dead.dead)
        (λ live. absurd (let zero_is = sym live.valid.number ∙ dead.dead in omega (arith, zero_is, live-some live)))
        (λ i lbn cell. absurd (false≢true (sym off ∙ cell.live.in_use)))

-- the bit of a slot was written, and may be written so again
module _ (old : Image) (home : HomeFields) (is : HasSoundVolume old home) (value : Bool) (n : ℕ) (one other : Index) (some : 0 < n)
    (few : n ≤ slots (index_of old home)) (bit : SetsBit value n (index_of old home) one)
    (again : SetsBit value n (index_of old home) other) (kept : WritesSlotBit n one home old (with_bitmap_block old one n))
    (still : WritesSlotBit n other home old (with_bitmap_block old other n)) where
  abbrev first : Image
  first = with_bitmap_block old one n

  abbrev second : Image
  second = with_bitmap_block old other n

  same-use : (m : ℕ) → is_in_use other m ≡ is_in_use one m
  same-use m = elim (cases_eq m n) [
    | inl here ↦ ap (is_in_use other) here ∙ SetsBit-in_use value n (index_of old home) other some few again
        ∙ sym (SetsBit-in_use value n (index_of old home) one some few bit) ∙ ap (is_in_use one) (sym here)
    | inr away ↦ SetsBit-others (index_of old home) other value n m again away
        ∙ sym (SetsBit-others (index_of old home) one value n m bit away)
  ]

  same-table : table_of second home ≡ table_of first home
  same-table = still.index_file.table ∙ (λ i. record (table_of old home) { in_use = λ m. same-use m i }) ∙ sym kept.index_file.table

  free-first : (lbn : ℕ) → (volume_of first home).free lbn ≡ (volume_of old home).free lbn
  free-first lbn = λ i. (kept.slot.volume i).free lbn

  free-second : (lbn : ℕ) → (volume_of second home).free lbn ≡ (volume_of old home).free lbn
  free-second lbn = λ i. (still.slot.volume i).free lbn

  -- a fixed block was one
  fixed-first : (lbn : ℕ) → IsFixed first home lbn → IsFixed old home lbn
  fixed-first =
      fixed-stays first old home (sym (λ i. (kept.slot.volume i).size)) (sym (kept.slot.own_blocks 2 (omega arith) (omega arith)))
      (sym (kept.slot.own_blocks 3 (omega arith) (omega arith)))

  same-size : (volume_of second home).size ≡ (volume_of first home).size
  same-size = (λ i. (still.slot.volume i).size) ∙ sym (λ i. (kept.slot.volume i).size)

  pub bit-again-orderly : IsOrderlyWrite home first second
  bit-again-orderly =
      same-orderly first home kept.slot.sound second still.slot.sound same-table same-size
      (λ lbn here.
      bit-fixed old home is n other value some few again lbn (fixed-first lbn here)
      ∙ sym (bit-fixed old home is n one value some few bit lbn (fixed-first lbn here)))
      (λ lbn here.
      bit-spares old home is n other value some few again lbn (sym (free-first lbn) ∙ here)
      ∙ sym (bit-spares old home is n one value some few bit lbn (sym (free-first lbn) ∙ here)))
      (λ lbn was now. absurd (false≢true (sym was ∙ free-first lbn ∙ sym (free-second lbn) ∙ now)))
