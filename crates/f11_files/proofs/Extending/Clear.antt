-- A file's contiguous mark that is cleared.
use Rattle.std.proofs.Common.{◌≡◌, ◌↔◌, ◌⊎◌, ◌≤◌, inl, inr, ℕ, Bool, true, false, IsTrue, List, Some, option_map, refl, sym, ap, subst, ◌∙◌}
use Rattle.std.proofs.Common.{arith}
use Rattle.std.proofs.Math.ListN.{set}
use Rattle.std.proofs.lemmas.Bool.{cases_eq}
use Rattle.f11_dev.specs.Disk.{Disk, with_transfer, with_block_at}
use Rattle.f11_dev.specs.Image.{Image}
use Rattle.f11_dev.specs.Went.{Went}
use Rattle.f11_dev.proofs.LookedLemmas.{looked_none}
use Rattle.f11_dev.proofs.WentLemmas.{went_looked, went_write, went_failed_write, went_within}
use Rattle.f11_header.specs.Fields.{characteristics, file_sequence}
use Rattle.f11_header.specs.Header.{IsHeader}
use Rattle.f11_home.specs.Home.{HomeFields}
use Rattle.f11_index.specs.ChangeLaws.{StaysHeader}
use Rattle.f11_index.specs.Growth.{with_header}
use Rattle.f11_map.specs.HeaderBlock.{segment_number, link_of}
use Rattle.f11_index.specs.Headers.{IsLastOf}
use Rattle.f11_index.specs.IndexFile.{Index, header_lbn}
use Rattle.f11_index.specs.Table.{Table, table_of, IsFile, IsHeaderOf, IsWholeFile}
use Rattle.f11_index.proofs.ChainLemmas.{live_of-header}
use Rattle.f11_index.proofs.HeadersLemmas.{last-whole}
use Rattle.f11_index.proofs.StayLemmas.{whole-stays}
use Rattle.f11_store.specs.Changes.{with_change}
use Rattle.f11_store.specs.File.{File, without_contiguous, no_file}
use Rattle.f11_store.specs.Lags.{with_no_mark}
use Rattle.f11_store.specs.Store.{Store}
use Rattle.f11_store.specs.declared.files.Attr.{Attr}
use Rattle.f11_store.specs.declared.files.FileId.{FileId}
use Rattle.f11_volume.specs.Sound.{HasSoundVolume}
use Rattle.f11_writes.specs.Kept.{file_in}
use Rattle.f11_writes.specs.OtherSlots.{KeepsOtherSlots}
use Rattle.f11_volume.specs.Volume.{volume_of}
use Rattle.f11_volume.proofs.FileLemmas.{image-files}
use Rattle.f11_image_store.specs.Allocation.{ownership_in, AddsZeroSlots, GainsBlocks}
use Rattle.f11_writes.specs.Order.{IsOrderlyWrite, WritesInOrder}
use Rattle.f11_files.proofs.Confining.InOrder.{field-orderly, header-failed-order, header-order}
use Rattle.f11_files.specs.Extending.Mark.{Clearing, ClearsMark}
use Rattle.f11_image_store.specs.FieldLaws.{SaysBut, ChangesFile}
use Rattle.f11_files.specs.Finding.First.{HoldsFile, IsFirstHeaderOf}
use Rattle.f11_image_store.specs.StoreOf.{as_seen}
use Rattle.f11_files.specs.Structure.{index_in, home_of, store_on, FitsOn, IsStructureOf, IsStructureFor}
use Rattle.f11_files.specs.Extending.Tail.{HasStore}
use Rattle.f11_files.specs.declared.structure.Structure.{Structure}
use Rattle.f11_image_store.proofs.AllocationLemmas.{gains-nothing}
use Rattle.f11_files.proofs.GrowingIndex.ZeroSlots.{zero-same, zero-header}
use Rattle.f11_files.proofs.Changing.Alter.{keeps-header}
use Rattle.f11_image_store.proofs.FieldLemmas.{changes-file, changes-index, field-gains, segment-same, link-same}
use Rattle.f11_files.proofs.Finding.First.{table-of}
use Rattle.f11_image_store.proofs.InstanceLemmas.{with_file-same}
use Rattle.f11_files.proofs.Finding.Named.{file-stored, is-file, held-named, attr-is, block-is}
use Rattle.f11_image_store.proofs.StoreLemmas.{file-at}

-- a change that leaves the file leaves the store
unchanged : (st : Store) (k : ℕ) (g : File) (change : File → File) → st.file k ≡ Some g → change g ≡ g → with_change st k change ≡ st
unchanged st k g change is same = with_file-same st k (option_map change (st.file k)) (is ∙ sym (ap (option_map change) is ∙ ap Some same))

-- a file whose first header has the link that it had has the headers that it had
module _ (t u : Table) (f : ℕ) (others : KeepsOtherSlots f t u) (stays : StaysHeader t u f) where
  each-stays : (m : ℕ) → IsHeaderOf t f m → StaysHeader t u m
  each-stays m of = elim (cases_eq m f) [
    | inl same ↦ subst (StaysHeader t u) (sym same) stays
    | inr other ↦
        let live = live_of-header of in
        let is = others.header m other live.in_use in
        record {
          good = record {
            in_use = others.in_use m other ∙ live.in_use;
            valid = subst (λ (b : List ℕ). IsHeader b m) (sym is) live.valid;
            sequence = ap file_sequence is;
            segment = ap segment_number is;
          };
          link = ap link_of is;
        }
  ]

  pub headers-stay : IsWholeFile t f → (m : ℕ) → IsHeaderOf u f m ↔ IsHeaderOf t f m
  headers-stay whole = (whole-stays t u f whole each-stays).1

  last-stays : (n : ℕ) → IsLastOf t f n → IsLastOf u f n
  last-stays n last = record {
    of = (headers-stay (last-whole t f n last) n).1 last.of;
    no_link = ap (λ (l : FileId). l.number) (each-stays n last.of).link ∙ last.no_link;
  }

-- the first header of the index file is written, or that of a file from 4 on
changes-own : (image : Image) (home : HomeFields) (f : ℕ) (block : List ℕ) (change : File → File) → HasSoundVolume image home
    → (f ≡ 1) ⊎ (4 ≤ f) → IsFile (table_of image home) f
    → SaysBut change ((table_of image home).header f) block → ChangesFile f block change home image (with_header image home f block)
changes-own image home f block change is (inl one) file says =
    subst (λ (k : ℕ). ChangesFile k block change home image (with_header image home k block)) (sym one)
    (changes-index image home block change is (subst (λ (k : ℕ). SaysBut change ((table_of image home).header k) block) one says))
changes-own image home f block change is (inr late) file says = changes-file image home f block change is late file says

-- a file's first header in hand
module _ (s : Structure) (f : FileId) (was : List ℕ) (old : Disk) (for : IsStructureFor s old) (holds : HoldsFile (index_in s) f was old)
  where
    abbrev home : HomeFields
    home = home_of s

    abbrev t : Table
    t = table_of old.image home

    abbrev seen : File
    seen = as_seen f.number (file_in home f.number old.image)

    file-here : IsTrue old.honest → IsFile (table_of old.image home) f.number
    file-here honest = subst (λ (t : Table). IsFile t f.number) (table-of s old for honest) (is-file s f was old for holds honest).file

    pub stored : IsTrue old.honest → (store_on s old).file f.number ≡ Some seen
    stored honest =
        file-stored old.image home f.number
        ∙ file-at old.image (table_of old.image home) f.number (Some seen) (λ _. refl) (λ none. absurd (none (file-here honest)))

    -- it had no mark
    module _ (none : without_contiguous (characteristics was) ≡ characteristics was) where
      unmarked : IsTrue old.honest → with_no_mark seen ≡ seen
      unmarked honest =
          let said : characteristics was ≡ seen.characteristics =
          ap (λ (a : Attr). a.characteristics) (attr-is s f was old for holds honest)
          ∙ ap (λ (g : File). g.characteristics) (held-named s f was old for holds honest) in
          let same : without_contiguous seen.characteristics ≡ seen.characteristics = ap without_contiguous (sym said) ∙ none ∙ said in
          λ i. record seen { characteristics = same i }

      store-kept : Clearing s f old old.image
      store-kept honest =
          record {
            sound = for.sound honest;
            store = sym (unchanged (store_on s old) f.number seen with_no_mark (stored honest) (unmarked honest));
          }

      none-gained : IsTrue old.honest → GainsBlocks f.number 0 (volume_of old.image home) (volume_of old.image home)
      unfolding volume_of
      none-gained honest = gains-nothing f.number (ownership_in (t.header f.number)) (volume_of old.image home) (file-here honest)

      pub clears-none : ClearsMark s f was was old old
      clears-none = record {
        holds = holds;
        link = refl;
        slots = λ honest. record { in_use = λ m other. refl; header = λ m other used. refl };
        last = λ honest n last. last;
        is_for = for;
        gains = none-gained;
        zeros = λ honest. zero-same t;
        store = store-kept;
        went = went_within (Clearing s f old) (went_looked (Clearing s f old) (looked_none old)) (omega arith);
      }

    -- it had one, and the block is written without
    module _ (own : (f.number ≡ 1) ⊎ (4 ≤ f.number)) (block : List ℕ) (says : SaysBut with_no_mark was block) (place : ℕ) (new : Disk)
        (at : place ≡ header_lbn (index_in s) f.number) where
      abbrev next : Image
      next = with_header old.image home f.number block

      abbrev P : Image → Type 0
      P = Clearing s f old

      changes : IsTrue old.honest → ChangesFile f.number block with_no_mark home old.image next
      changes honest =
          changes-own old.image home f.number block with_no_mark (for.sound honest) own (file-here honest)
          (subst (λ (b : List ℕ). SaysBut with_no_mark b block) (block-is s f was old for holds honest) says)

      store-next : IsTrue old.honest → HasStore home (with_change (store_on s old) f.number with_no_mark) next
      store-next honest = record { sound = (changes honest).header.slot.sound; store = (changes honest).store }

      written-is : IsTrue old.honest → set old.image place block ≡ next
      written-is honest = ap (λ (l : ℕ). set old.image l block) (at ∙ ap (λ (x : Index). header_lbn x f.number) (for.keeps honest).index_is)

      moment : P (set old.image place block)
      moment honest =
          subst (HasStore home (with_change (store_on s old) f.number with_no_mark)) (sym (written-is honest)) (store-next honest)

      -- the write is in order
      orderly : IsTrue old.honest → IsOrderlyWrite home old.image next
      orderly honest =
          field-orderly old.image home f.number block with_no_mark (for.sound honest) (file-here honest)
          (subst (λ (b : List ℕ). SaysBut with_no_mark b block) (block-is s f was old for holds honest) says) (changes honest).header

      pub clear-order : new ≡ with_transfer true (with_block_at place block old) → WritesInOrder old new
      clear-order = header-order s f.number place block old old (looked_none old) for at orderly new

      pub unclear-order : (new ≡ with_transfer false old) ⊎ (new ≡ with_transfer false (with_block_at place block old))
          → WritesInOrder old new
      unclear-order = header-failed-order s f.number place block old old (looked_none old) for at orderly new

      pub fails-clear : (new ≡ with_transfer false old) ⊎ (new ≡ with_transfer false (with_block_at place block old))
          → Went (Clearing s f old) old new 1 1
      fails-clear is = went_failed_write P old new place block is moment

      module _ (is : new ≡ with_transfer true (with_block_at place block old)) where
        went : Went P old new 1 0
        went = went_write P old new place block is moment

        image : IsTrue old.honest → new.image ≡ next
        image honest = ap (λ (d : Disk). d.image) is ∙ written-is honest

        was-honest : IsTrue new.honest → IsTrue old.honest
        was-honest honest = sym went.honest ∙ honest

        for-new : IsStructureFor s new
        for-new = record {
          lies = subst (λ (k : ℕ). FitsOn s k) (sym went.size) for.lies;
          sound = λ honest. let before = was-honest honest in
              subst (λ (i : Image). HasSoundVolume i home) (sym (image before)) (store-next before).sound;
          keeps = λ honest. let before = was-honest honest in
              subst (IsStructureOf s) (sym (image before))
              (keeps-header s f.number block old.image next (changes before).header (for.keeps before));
        }

        first-now : IsFirstHeaderOf f block
        first-now = record {
          valid = record { number = says.number ∙ holds.is_first.valid.number; holds = says.holds; sum = says.sum };
          first = segment-same with_no_mark was block says ∙ holds.is_first.first;
          sequence = says.sequence ∙ holds.is_first.sequence;
        }

        slots-stay : (honest : IsTrue old.honest) → KeepsOtherSlots f.number t (table_of new.image home)
        slots-stay honest =
            subst (λ (i : Image). KeepsOtherSlots f.number t (table_of i home)) (sym (image honest)) (changes honest).header.slot.others

        header-now : IsTrue old.honest → (table_of new.image home).header f.number ≡ block
        header-now honest = ap (λ (i : Image). (table_of i home).header f.number) (image honest) ∙ (changes honest).header.index_file.header

        header-was : IsTrue old.honest → was ≡ t.header f.number
        header-was honest = block-is s f was old for holds honest

        first-stays : (honest : IsTrue old.honest) → StaysHeader t (table_of new.image home) f.number
        first-stays honest = record {
          good = record {
            in_use =
                ap (λ (i : Image). (table_of i home).in_use f.number) (image honest)
                ∙ ap (λ (g : ℕ → Bool). g f.number) (changes honest).header.in_use ∙ (file-here honest).live.in_use;
            valid = subst (λ (b : List ℕ). IsHeader b f.number) (sym (header-now honest)) first-now.valid;
            sequence = ap file_sequence (header-now honest) ∙ says.sequence ∙ ap file_sequence (header-was honest);
            segment = ap segment_number (header-now honest) ∙ segment-same with_no_mark was block says
                ∙ ap segment_number (header-was honest);
          };
          link = ap link_of (header-now honest) ∙ link-same with_no_mark was block says ∙ ap link_of (header-was honest);
        }

        -- the file has the blocks that it had
        gains-now : IsTrue old.honest → GainsBlocks f.number 0 (volume_of old.image home) (volume_of new.image home)
        unfolding volume_of
        gains-now honest =
            let whole = ((image-files old.image home (for.sound honest)).each f.number (file-here honest)).whole in
            let says_now = subst (λ (b : List ℕ). SaysBut with_no_mark b block) (header-was honest) says in
            let headers = subst (λ (i : Image). (m : ℕ) → IsHeaderOf (table_of i home) f.number m ↔ IsHeaderOf t f.number m) (image honest)
            (headers-stay t (table_of new.image home) f.number (slots-stay honest) (first-stays honest) whole) in
            subst (λ (i : Image). GainsBlocks f.number 0 (volume_of old.image home) (volume_of i home)) (sym (image honest))
            (field-gains old.image home f.number block with_no_mark (for.sound honest) (file-here honest) says_now (changes honest).header
            (ownership_in (t.header f.number)) headers (ap (λ (g : File). (g.owner, g.protection)) (says_now.file no_file)))

        pub clears-mark : ClearsMark s f was block old new
        clears-mark = record {
          holds = record {
            header = record {
              in_use = holds.header.in_use;
              valid = first-now.valid;
              block_is = λ honest.
                  let before = was-honest honest in
                  sym (changes before).header.index_file.header ∙ ap (λ (i : Image). (table_of i home).header f.number) (sym (image before))
                  ∙ ap (λ (t : Table). t.header f.number) (sym (table-of s new for-new honest));
            };
            is_first = first-now;
          };
          link = link-same with_no_mark was block says;
          slots = slots-stay;
          last = λ honest n last. last-stays t (table_of new.image home) f.number (slots-stay honest) (first-stays honest) n last;
          is_for = for-new;
          gains = gains-now;
          zeros = λ honest.
              subst (λ (i : Image). AddsZeroSlots t (table_of i home)) (sym (image honest))
              (zero-header old.image next home f.number block (changes honest).header (file-here honest).live.in_use);
          store = λ honest. subst (HasStore home (with_change (store_on s old) f.number with_no_mark)) (sym (image honest))
              (store-next honest);
          went = went;
        }
