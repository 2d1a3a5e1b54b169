-- A file's headers stand still while the index file grows.
use Rattle.std.proofs.Common.{◌≡◌, ◌≢◌, ◌+◌, ◌-◌, ◌<◌, ◌≤◌, ◌||◌, ◌++◌, ℕ, zero, suc, Bool, true, false, not, nat_lt, IsTrue, List, []}
use Rattle.std.proofs.Common.{Some}
use Rattle.std.proofs.Common.{length, take, inl, inr, refl, sym, ap, subst, ◌∙◌, arith}
use Rattle.std.specs.List.{slice_get, range_with_len}
use Rattle.std.proofs.lemmas.Bool.{cases_Bool, false≢true}
use Rattle.std.proofs.lemmas.List.{append-nil, length-map}
use Rattle.std.proofs.lemmas.List.FromFn.{length-range_with_len}
use Rattle.std.proofs.lemmas.Option.{same_Some, slice_get-get_or}
use Rattle.f11_chain.specs.Calls.{table}
use Rattle.f11_chain.specs.FileHeaders.{file_blocks}
use Rattle.f11_chain.specs.declared.blocks.FileEnd.{FileEnd}
use Rattle.f11_chain.proofs.FileOneLemmas.{file-one}
use Rattle.f11_chain.proofs.StepLemmas.{table-in_use}
use Rattle.f11_dev.specs.Disk.{Disk}
use Rattle.f11_dev.specs.Image.{Image, IsImage, image_block}
use Rattle.f11_dev.proofs.ImageLemmas.{image_block-read}
use Rattle.f11_home.specs.Home.{HomeFields}
use Rattle.f11_index.specs.Headers.{headers_of, IsLastOf}
use Rattle.f11_index.specs.IndexFile.{Index, index_file_blocks, index_of, header_lbn, slots, slot_bit, is_in_use}
use Rattle.f11_index.specs.Table.{Table, table_in, table_of, IsFile, IsHeaderOf, IsLive, first}
use Rattle.f11_index.proofs.BitLemmas.{is_in_use-within}
use Rattle.f11_index.proofs.ChainLemmas.{file_of-header, live_of-header}
use Rattle.f11_index.proofs.HeadersLemmas.{chained-apart, listed-are, live-some}
use Rattle.f11_index.proofs.InUseLemmas.{header-within, in_use-slot}
use Rattle.f11_index.proofs.PlaceLemmas.{slice_get-append_front, slice_get-header}
use Rattle.f11_store.specs.Changes.{is_in}
use Rattle.f11_store.specs.File.{need}
use Rattle.f11_store.specs.Pieces.{file_numbered}
use Rattle.f11_store.specs.declared.files.FileId.{FileId}
use Rattle.f11_volume.specs.FileLaws.{AreSoundFiles}
use Rattle.f11_volume.specs.Sound.{HasSoundVolume}
use Rattle.f11_volume.specs.Space.{storage_bitmap}
use Rattle.f11_volume.specs.Volume.{Volume, volume_of}
use Rattle.f11_volume.proofs.FileLemmas.{image-files, place-at}
use Rattle.f11_volume.proofs.MemberLemmas.{contained}
use Rattle.f11_writes.proofs.OwnerLemmas.{in-index-file, named-of}
use Rattle.f11_image_store.specs.Allocation.{free_list}
use Rattle.f11_image_store.specs.Confines.{either, new_header, no_header, IsNoPart, Spares}
use Rattle.f11_image_store.specs.FileLaws.{room_in}
use Rattle.f11_image_store.specs.StoreOf.{store_of}
use Rattle.f11_files.specs.Extending.Again.{AreInUse, IsEndOf}
use Rattle.f11_files.specs.Extending.Room.{FindsFileEnd, HoldsEnd}
use Rattle.f11_files.specs.Extending.Runs.{headers_for}
use Rattle.f11_files.specs.GrowingIndex.Headroom.{AllotsSlots, ConfinesSlots, ReadiesHeaders, WritesSlots}
use Rattle.f11_files.specs.Structure.{home_of, index_in, IsStructureFor, StaysFor}
use Rattle.f11_files.specs.declared.structure.Structure.{Structure}
use Rattle.f11_files.proofs.Confining.Confines.{confines-last, fewer-part}
use Rattle.f11_files.proofs.Extending.Room.{ends-then}
use Rattle.f11_files.proofs.Extending.Whole.{end-again}
use Rattle.f11_files.proofs.Finding.First.{table-of}
use Rattle.f11_files.proofs.Finding.Named.{numbered-holds}
use Rattle.f11_files.proofs.Opening.Kept.{looked-for}
use Rattle.f11_files.proofs.Removing.Freeing.{stays-for}
use Rattle.f11_files.proofs.Lost.Stay.{not-listed}
use Rattle.f11_files.proofs.Removing.Loss.{in-at}

module _ (image : Image) (home : HomeFields) (sound : HasSoundVolume image home) where
  abbrev t : Table
  t = table_of image home

  abbrev index : Index
  index = index_of image home

  files : AreSoundFiles t (length image)
  files = image-files image home sound

  one : IsFile t 1
  one = sound.framed.indexed.file.whole.file

  -- header n stands there in the index file
  abbrev place : ℕ → ℕ
  place n = 2 + home.index_blocks + (n - 1)

  pub header-at : (n : ℕ) → 0 < n → n ≤ slots index → slice_get (index_file_blocks image home) (place n) ≡ Some (header_lbn index n)
  unfolding index_of header_lbn
  header-at n some slot =
      slice_get-header (index_file_blocks image home) (2 + home.index_blocks) _ (n - 1) (header_lbn index n) 0 (omega (arith, some, slot))
      refl

  as-file-one : (i lbn : ℕ) → slice_get (index_file_blocks image home) i ≡ Some lbn → slice_get (file_blocks t 1) i ≡ Some lbn
  as-file-one i lbn at = ap (λ (xs : List ℕ). slice_get xs i) (file-one image home sound.framed.indexed.file) ∙ at

  -- the blocks of the index file are apart
  apart : (i j lbn : ℕ) → slice_get (index_file_blocks image home) i ≡ Some lbn → slice_get (index_file_blocks image home) j ≡ Some lbn
      → i ≡ j
  apart i j lbn here there = (files.one_owner 1 1 i j lbn one one (as-file-one i lbn here) (as-file-one j lbn there)).1

  module _ (f n : ℕ) (of : IsHeaderOf t f n) (other : f ≢ 1) where
    live : IsLive t n
    live = live_of-header of

    used : is_in_use index n ≡ true
    unfolding table_in
    used = live.in_use

    some : 0 < n
    some = live-some live

    slot : n ≤ slots index
    slot = in_use-slot index n used

    abbrev lbn : ℕ
    lbn = header_lbn index n

    -- no other header stands there, nor a block of a bitmap
    of-another : (m : ℕ) → either (is_in (file_numbered (store_of image home) 1).held) (new_header index) m ≡ true → m ≢ n
    of-another m may same = elim (cases_Bool (is_in (file_numbered (store_of image home) 1).held m)) [
      | inl is ↦
          let at = in-at (headers_of t 1) m (subst (λ (hs : List ℕ). is_in hs m ≡ true) (numbered-holds image home 1 sound one) is) in
          let its = listed-are t 1 m (files.each 1 one).whole (contained (headers_of t 1) at.0 m at.1) in
          other (chained-apart files.chained of (subst (IsHeaderOf t 1) same its))
      | inr out ↦
          let unused : not (slot_bit index m) ≡ true = ap (λ (b : Bool). b || not (slot_bit index m)) (sym out) ∙ may in
          false≢true (ap not (sym (subst (λ (k : ℕ). slot_bit index k ≡ true) (sym same)
          (sym (is_in_use-within index n some slot) ∙ used))) ∙ unused)
    ]

    no-part : IsNoPart (either (is_in (file_numbered (store_of image home) 1).held) (new_header index)) index (storage_bitmap image home)
        lbn
    unfolding index_of
    no-part = record {
      header = λ m may low high at.
          let same = apart (place m) (place n) lbn (header-at m low high ∙ ap Some at) (header-at n some slot) in
          of-another m may (omega (arith, same, low, some));
      index_bitmap = λ k within at.
          let few : k < home.index_blocks =
          omega (
            arith,
            within,
            length-map (range_with_len home.index_lbn home.index_blocks) (image_block image),
            length-range_with_len home.index_lbn home.index_blocks,
          ) in
          let same = apart (2 + k) (place n) lbn
          (sound.framed.indexed.file.placed.bitmap_and_headers k (omega (arith, few)) ∙ ap Some at) (header-at n some slot) in
          omega (arith, same, few);
      storage = λ i within at.
          let same = (files.one_owner 1 2 (place n) (1 + i) lbn one sound.framed.bitmap.sound.whole.file
          (as-file-one (place n) lbn (header-at n some slot)) (place-at image home i within ∙ ap Some at)).0 in
          omega (arith, same);
    }

    -- its block isn't free
    not-free : is_in (free_list (volume_of image home)) lbn ≡ false
    unfolding volume_of
    not-free =
        let named = named-of t 1 lbn (in-index-file image home sound (place n) lbn (header-at n some slot)) in
        not-listed (volume_of image home) lbn (sound.sound.taken named.header named.place lbn named.cell)

    -- so it is left
    pub header-spared : (new : Image)
        → Spares (either (is_in (file_numbered (store_of image home) 1).held) (new_header index)) index (storage_bitmap image home)
        (free_list (volume_of image home)) image new
        → slice_get new lbn ≡ slice_get image lbn
    header-spared new spares = spares lbn no-part not-free

-- a header is where it was, and its block is what it was
module _ (old new : Image) (home : HomeFields) (sound : HasSoundVolume old home) (sound' : HasSoundVolume new home) (more : List ℕ)
    (grown : file_blocks (table_of new home) 1 ≡ file_blocks (table_of old home) 1 ++ more) where
  grown-index : index_file_blocks new home ≡ index_file_blocks old home ++ more
  grown-index =
      sym (file-one new home sound'.framed.indexed.file) ∙ grown
      ∙ ap (λ (xs : List ℕ). xs ++ more) (file-one old home sound.framed.indexed.file)

  place-still : (n : ℕ) → 0 < n → n ≤ slots (index_of old home) → n ≤ slots (index_of new home)
      → header_lbn (index_of new home) n ≡ header_lbn (index_of old home) n
  place-still n some was is =
      let at = header-at old home sound n some was in
      same_Some _ _ (sym (header-at new home sound' n some is) ∙ ap (λ (xs : List ℕ). slice_get xs (place old home sound n)) grown-index
      ∙ slice_get-append_front (index_file_blocks old home) more _ _ at)

  pub header-still : (f n : ℕ) → IsHeaderOf (table_of old home) f n → f ≢ 1 → IsLive (table_of new home) n
      → header_lbn (index_of old home) n < length old
      → Spares (either (is_in (file_numbered (store_of old home) 1).held) (new_header (index_of old home))) (index_of old home)
      (storage_bitmap old home) (free_list (volume_of old home)) old new
      → (table_of new home).header n ≡ (table_of old home).header n
  unfolding table_in
  header-still f n of other live within spares =
      let was = live_of-header of in
      let lbn : ℕ = header_lbn (index_of old home) n in
      ap (image_block new)
      (place-still n (live-some was) (in_use-slot (index_of old home) n was.in_use) (in_use-slot (index_of new home) n live.in_use))
      ∙ image_block-read new lbn _ (header-spared old home sound f n of other new spares ∙ slice_get-get_or old lbn [] within)

-- what the index file gets stands behind its own
slots-grow : (k : ℕ) (v w : Volume) → AllotsSlots k v w → (more : List ℕ) × (file_blocks w.table 1 ≡ file_blocks v.table 1 ++ more)
slots-grow zero v w same = ([], ap (λ (x : Volume). file_blocks x.table 1) same ∙ sym (append-nil (file_blocks v.table 1)))
slots-grow (suc n) v w gains = (take (suc n) (free_list v), gains.blocks.names.blocks)

-- and nothing else is changed than where it gets some
slots-spare : (k : ℕ) (home : HomeFields) (old new : Disk) → ConfinesSlots k home old new → IsTrue old.honest
    → Spares (either (is_in (file_numbered (store_of old.image home) 1).held) (new_header (index_of old.image home)))
    (index_of old.image home) (storage_bitmap old.image home) (free_list (volume_of old.image home)) old.image new.image
slots-spare zero home old new confined honest = λ lbn none out.
    confines-last no_header (index_of old.image home) (storage_bitmap old.image home) [] (confined honest) lbn
    (fewer-part _ no_header (index_of old.image home) (storage_bitmap old.image home) (λ n is. absurd (false≢true is)) lbn none) refl
slots-spare (suc n) home old new confined honest =
    confines-last _ (index_of old.image home) (storage_bitmap old.image home) _ (confined honest)

-- a file whose headers are in hand
module _ (s : Structure) (f : FileId) (n : ℕ) (end : FileEnd) (was last : List ℕ) (old read : Disk) (for : IsStructureFor s old)
    (own : 4 ≤ f.number) (finds : FindsFileEnd s f end was last old read) (room : ℕ) (room_is : room ≡ room_in last)
    (fits : nat_lt 256 (end.headers + need room n) ≡ false) (ready : Disk)
    (readies : ReadiesHeaders (home_of s) (headers_for (home_of s) f n old) n read ready) where
  abbrev home : HomeFields
  home = home_of s

  for-read : IsStructureFor s read
  for-read = looked-for s old read _ _ for finds.ends.looked.looked

  module _ (t : Structure) (image : IsImage ready.image) (stays : StaysFor false s t ready) where
    ends-now : IsTrue ready.honest → IsEndOf ready.image home f end
    ends-now = end-again s f n end was last old read for own finds room room_is fits ready readies image

    -- both headers are live
    first-live : IsTrue ready.honest → IsLive (table_of ready.image home) f.number
    first-live honest = (file_of-header (ends-now honest).last.of).live

    last-live : IsTrue ready.honest → IsLive (table_of ready.image home) end.number
    last-live honest = live_of-header (ends-now honest).last.of

    table-now : IsTrue ready.honest → table (index_in t) ready ≡ table_of ready.image home
    table-now honest = table-of t ready (stays-for stays) honest ∙ ap (table_of ready.image) stays.home

    in-use-now : (m : ℕ) → IsTrue ready.honest → IsLive (table_of ready.image home) m → is_in_use (index_in t) m ≡ true
    in-use-now m honest live =
        sym (table-in_use (index_in t) ready m) ∙ ap (λ (x : Table). x.in_use m) (table-now honest) ∙ live.in_use

    pub never-still : ¬ AreInUse (index_in t) f end → ¬ IsTrue ready.honest
    never-still not honest = not (record {
      first = in-use-now f.number honest (first-live honest);
      last = in-use-now end.number honest (last-live honest);
    })

    -- a header of the file is what it was
    module _ (slots : WritesSlots (need room n) home read ready) where
      as-was : (m : ℕ) → IsTrue ready.honest → IsHeaderOf (table_of read.image home) f.number m → IsLive (table_of ready.image home) m
          → (table (index_in t) ready).header m ≡ (table (index_in s) read).header m
      unfolding volume_of
      as-was m honest of live =
          let sure : IsTrue read.honest = sym readies.does.writes.went.honest ∙ honest in
          let grown = slots-grow _ (volume_of read.image home) (volume_of ready.image home) (readies.does.allots sure) in
          let was-live = live_of-header of in
          ap (λ (x : Table). x.header m) (table-now honest)
          ∙ header-still read.image ready.image home (for-read.sound sure) (readies.sound sure) grown.0 grown.1 f.number m of
          (λ same. omega (arith, same, own)) live
          (subst (λ (x : Index). header_lbn x m < length read.image) (for-read.keeps sure).index_is
          (header-within (index_in s) m (length read.image) for-read.lies.index (live-some was-live)
          (in_use-slot (index_in s) m (sym (table-in_use (index_in s) read m)
          ∙ ap (λ (x : Table). x.in_use m) (table-of s read for-read sure) ∙ was-live.in_use))))
          (slots-spare _ home read ready (slots sure) sure)
          ∙ ap (λ (x : Table). x.header m) (sym (table-of s read for-read sure))

      pub ends-still : AreInUse (index_in t) f end → HoldsEnd t f end was last ready
      ends-still used =
          let ends = ends-then s f end was last old read finds in
          record {
            holds = record {
              header = record {
                in_use = used.first;
                valid = ends.holds.header.valid;
                block_is = λ honest.
                    let sure : IsTrue read.honest = sym readies.does.writes.went.honest ∙ honest in
                    ends.holds.header.block_is sure
                    ∙ sym (as-was f.number honest (first (file_of-header (of-read sure))) (first-live honest));
              };
              is_first = ends.holds.is_first;
            };
            header = record {
              in_use = used.last;
              valid = ends.header.valid;
              block_is = λ honest.
                  let sure : IsTrue read.honest = sym readies.does.writes.went.honest ∙ honest in
                  ends.header.block_is sure ∙ sym (as-was end.number honest (of-read sure) (last-live honest));
            };
            no_link = ends.no_link;
            segment = ends.segment;
            few = ends.few;
            is_last = λ honest. subst (λ (x : Table). IsLastOf x f.number end.number) (sym (table-now honest)) (ends-now honest).last;
          }
        where
          of-read : IsTrue read.honest → IsHeaderOf (table_of read.image home) f.number end.number
          of-read sure =
              subst (λ (x : Table). IsHeaderOf x f.number end.number) (table-of s read for-read sure)
              ((ends-then s f end was last old read finds).is_last sure).of
